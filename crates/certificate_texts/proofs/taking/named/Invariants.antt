use Rattle.std.proofs.Common.{◌≡◌, drop}
use Rattle.certificate_texts.specs.Taking.{named}
use Rattle.certificate_texts.proofs.Taken.{behind}
use Rattle.certificate_texts.proofs.taking.named.Given as goal

abbrev pub invariant-loop-u : goal.invariant-loop-u
invariant-loop-u l = behind l.uses (named (drop l.u-index l.written)) ≡ named l.written
