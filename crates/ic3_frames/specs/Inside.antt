-- What `Frames` keeps (scaffolding): a set of lemmas for each level, and as many counts.
use Rattle.std.specs.Prelude.{◌≡◌, List, length}
use Rattle.proof_semantics.specs.declared.literals.Lit.{Lit}
use Rattle.ic3_frames.specs.declared.frames.Frames.TheInside.{Inside}
use Rattle.ic3_frames.specs.Kept.{keys_of, StandOnce}

abbrev pub levels_of : Inside → List (List (List Lit))
levels_of s = keys_of s.levels.items

pub record IsKept (s : Inside) : Type 0 where
  pub once : StandOnce (levels_of s)
  pub counts : length s.counts.items ≡ length s.levels.items
