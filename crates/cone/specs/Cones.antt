-- The cone of a property (cone of influence; Clarke, Grumberg, Peled, Model Checking, 1999): the variables that a fair lasso
-- of it depends on.
use Rattle.std.specs.Prelude.{◌≡◌, ℕ, ◌+◌, Bool, List, ◌++◌, length, IsTrue}
use Rattle.std.specs.List.{All}
use Rattle.aig_semantics.specs.Literals.{variable_of, variable_in}
use Rattle.aig_semantics.specs.Circuits.{Circuit, fair_literals}

-- the literals that a fair lasso of property j is judged by: those of the property, fairness, constraints
abbrev pub judged_literals : Circuit → ℕ → List ℕ
judged_literals c j = fair_literals c j ++ c.constraints

-- A set of variables: it has those of the judged literals, with each gate those of its right sides, and with each latch that
-- of its next literal.
pub record IsClosed (c : Circuit) (j : ℕ) (set : ℕ → Bool) : Type 0 where
  pub judged : All (λ literal. IsTrue (set (variable_of literal))) (judged_literals c j)
  pub gates : All (λ gate. IsTrue (set gate.var) → IsTrue (set (variable_of gate.rhs0)) × IsTrue (set (variable_of gate.rhs1))) c.gates
  pub latches : All (λ latch. IsTrue (set latch.var) → IsTrue (set (variable_of latch.next))) c.latches

-- the least such set: each other one has all of its variables
pub record IsCone (c : Circuit) (j : ℕ) (cone : ℕ → Bool) : Type 0 where
  pub closed : IsClosed c j cone
  pub least : (set : ℕ → Bool) → IsClosed c j set → (v : ℕ) → IsTrue (cone v) → IsTrue (set v)

-- the cone as a mark for each variable from 0 to the greatest
pub record AreMarksOf (c : Circuit) (j : ℕ) (marks : List Bool) : Type 0 where
  pub size : length marks ≡ c.max + 1
  pub cone : IsCone c j (variable_in marks)
