-- The state of a trail, by the variables that it met and the trail over their numbers.
use Rattle.std.specs.Prelude.{◌≡◌, ℕ, List, length}
use Rattle.proof_semantics.specs.declared.literals.Lit.{Lit}
use Rattle.packed_literals.specs.Naming.{AreApart}
use Rattle.cdcl_trail.specs.Trails.{literals_of}
use Rattle.cdcl_trail.specs.Watched.{TrailState}
use Rattle.cdcl_trail.specs.Renaming.{named_steps, named_state, StepsAreBelow, ClausesAreBelow}
use Rattle.cdcl_trail.specs.declared.trail.Trail.TheInside.{Inside}

abbrev pub state_of : Inside → TrailState
state_of t = named_state t.names t.tracks

-- No variable comes twice, steps and clauses are over numbers of variables, and the literals are kept under their variables
-- too.
pub record Named (names : List ℕ) (t : TrailState) (lits : List Lit) : Type 0 where
  pub apart : AreApart names
  pub steps : StepsAreBelow (length names) t.steps
  pub taken : ClausesAreBelow (length names) t.taken
  pub shown : lits ≡ literals_of (named_steps names t.steps)

abbrev pub IsNamed : Inside → Type 0
IsNamed t = Named t.names t.tracks t.shown.items
