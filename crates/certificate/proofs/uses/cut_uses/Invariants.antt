use Rattle.std.proofs.Common.{◌≡◌, map, take}
use Rattle.certificate_texts.specs.Certificates.{as_use}
use Rattle.certificate.proofs.uses.cut_uses.Given as goal

abbrev pub invariant-loop-u : goal.invariant-loop-u
invariant-loop-u l = map as_use (take l.u-index l.written) ≡ l.uses
