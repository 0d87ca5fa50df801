use Rattle.std.proofs.Common.{◌≡◌, ◌+◌, map, take}
use Rattle.ic3_questions.proofs.stepping_places.place_behind.Given as goal

abbrev pub invariant-loop-latch : goal.invariant-loop-latch
invariant-loop-latch l = l.place ≡ map (λ latch. l.start + latch.var) (take l.latch-index l.latch-items)
