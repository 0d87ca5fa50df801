use Rattle.std.proofs.Common.{◌≡◌, ◌++◌, drop}
use Rattle.ic3_closing.specs.Keeping.{kept_uses}
use Rattle.ic3_closing.proofs.keeping.kept_uses.Given as goal

abbrev pub invariant-loop-i : goal.invariant-loop-i
invariant-loop-i l = l.kept ++ kept_uses l.marks l.sides l.i (drop l.i l.uses) ≡ kept_uses l.marks l.sides 0 l.uses
