use Rattle.std.proofs.Common.{◌≡◌, take}
use Rattle.std.specs.List.{filter}
use Rattle.aig_semantics.specs.Literals.{variable_in}
use Rattle.slice.proofs.sections.latches_in.Given as goal

abbrev pub invariant-loop-latch : goal.invariant-loop-latch
invariant-loop-latch l = l.kept ≡ filter (λ latch. variable_in l.cone latch.var) (take l.latch-index l.latches)
