use Rattle.std.proofs.Common.{◌≡◌, take}
use Rattle.proof_semantics.specs.Proofs.{ids_of}
use Rattle.cert_tools.proofs.shortening.ids_of.Given as goal

abbrev pub invariant-loop-hint : goal.invariant-loop-hint
invariant-loop-hint l = l.ids ≡ ids_of (take l.hint-index l.hints)
