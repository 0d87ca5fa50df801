-- Cubes that lose their literals one after another, as in IC3 (Bradley, Manna, Checking safety by inductive
-- generalization of counterexamples to induction, 2007; Bradley, SAT-based model checking without unrolling, 2011).
use Rattle.std.specs.Prelude.{◌≡◌, true, not, List, filter}
use Rattle.proof_semantics.specs.declared.literals.Lit.{Lit}
use Rattle.proof_semantics.specs.Clauses.{lit_eq, has_literal, is_part}

-- the literals of the cube that are not this one
abbrev pub all_but : Lit → List Lit → List Lit
all_but a cube = filter (λ b. not (lit_eq a b)) cube

-- Between the answer and the cube that was given lies one that passes the test, and fails it without this literal.
pub record IsNeeded (passes : List Lit → Type 0) (cube answer : List Lit) (a : Lit) : Type 0 where
  pub between : List Lit
  pub holds : is_part answer between ≡ true
  pub within : is_part between cube ≡ true
  pub passed : passes between
  pub failed : passes (all_but a between) → ⊥

-- of these literals each that the answer has is needed so
abbrev pub EachIsNeeded : (List Lit → Type 0) → List Lit → List Lit → List Lit → Type 0
EachIsNeeded passes cube order answer = (a : Lit) → has_literal order a ≡ true → has_literal answer a ≡ true → IsNeeded passes cube answer a
