use Rattle.std.proofs.Common.{◌≡◌, ◌++◌, ◌-◌, length, take}
use Rattle.ic3_frames.specs.Frames.{own_lemmas}
use Rattle.ic3_loops.proofs.closing.push_own.Given as goal

abbrev pub invariant-places : goal.invariant-places
invariant-places l = l.clauses ≡ l.initial.clauses ++ take l.place (own_lemmas l.frames l.level)

abbrev pub decreases-places : goal.decreases-places
decreases-places l = length (own_lemmas l.frames l.level) - l.place
