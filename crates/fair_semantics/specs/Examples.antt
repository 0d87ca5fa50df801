-- Scaffolding: entries and skeletons of circuits of one latch, for the worked rows.
use Rattle.std.specs.Prelude.{ℕ, Bool, true, false, List, [], ◌∷◌}
use Rattle.aig_semantics.specs.declared.parts.Reset.TheVariants.{Zero}
use Rattle.aig_semantics.specs.Circuits.{Circuit}
use Rattle.aig_semantics.specs.Examples.{one_latch}
use Rattle.proof_semantics.specs.declared.literals.Lit.{Lit}
use Rattle.fair_semantics.specs.declared.entries.Kind.{Kind}
use Rattle.fair_semantics.specs.declared.entries.Kind.TheVariants.{Wall}
use Rattle.fair_semantics.specs.declared.entries.Side.{Side}
use Rattle.fair_semantics.specs.declared.entries.Side.TheVariants as sides
use Rattle.fair_semantics.specs.declared.entries.Use.{Use}
use Rattle.fair_semantics.specs.declared.skeletons.Skeleton.{Skeleton}
use Rattle.fair_semantics.specs.Entries.{Entry}

-- the latch begins with 0 and is 1 from then on; the property is that it is 0
abbrev pub rises : Circuit
rises = record (one_latch 1 Zero) { justice = (3 ∷ []) ∷ [] }

-- the one clause that the latch has this value
abbrev pub latch_is : Bool → List (List Lit)
latch_is value = (record { var = 0; positive = value } ∷ []) ∷ []

abbrev pub use_of : ℕ → Side → Use
use_of n side = record { entry = n; side = side }

-- the states in which the latch has this value, as an entry of either kind
abbrev pub latch_entry : Kind → Bool → List Use → Entry
latch_entry kind value uses = record { kind = kind; clauses = latch_is value; uses = uses }

-- the wall of the states in which the latch is 1
abbrev pub risen : Entry
risen = latch_entry Wall true []

-- the wall of the states outside it in which the latch is 0
abbrev pub not_risen : Entry
not_risen = latch_entry Wall false (use_of 0 sides.Out ∷ [])

-- one position of a latch with this value, and its successor
abbrev pub one_situation : Bool → Bool → Skeleton
one_situation now next = record {
  situations = record { position = record { latches = now ∷ []; inputs = [] }; successor = next ∷ [] } ∷ [];
}
