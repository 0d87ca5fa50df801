-- Scaffolding of inner functions. What a search ends with, before an answer is made of it.
use Rattle.std.specs.Prelude.{◌≡◌, true, List, map}
use Rattle.proof_semantics.specs.Clauses.{negation, has_literal}
use Rattle.proof_semantics.specs.Proofs.{Refutes}
use Rattle.proof_semantics.specs.declared.literals.Lit.{Lit}
use Rattle.cdcl_trail.specs.Trails.{Step}
use Rattle.cdcl_trail.specs.Propagation.{is_true}
use Rattle.cdcl_learn.specs.declared.learning.Learned.{Learned}
use Rattle.cdcl.specs.Searching.{is_satisfied, IsHinted, NegatesOnly}
use Rattle.cdcl.specs.declared.asking.Asked.{Asked}
use Rattle.cdcl.specs.declared.asking.Asked.TheVariants as asked
use Rattle.cdcl.specs.declared.asking.Refuted.{Refuted}
use Rattle.cdcl.specs.declared.asking.Refuted.TheVariants as refuted
use Rattle.cdcl.specs.declared.finding.Found.{Found}
use Rattle.cdcl.specs.declared.finding.Found.TheVariants.{Satisfied, Refused}

-- Under the trail each clause has a true literal, and each assumption is true.
pub record Satisfies (clauses : List (List Lit)) (assumptions : List Lit) (steps : List Step) : Type 0 where
  pub clauses_true : is_satisfied clauses steps ≡ true
  pub assumed : (a : Lit) → has_literal assumptions a ≡ true → is_true steps a ≡ true

-- The clause is of negated assumptions, and follows from the clauses by its hints.
pub record Refuses (clauses : List (List Lit)) (assumptions : List Lit) (traced : Learned) : Type 0 where
  pub among : NegatesOnly assumptions traced.clause
  pub hinted : IsHinted clauses traced

abbrev pub IsSearchResult : List (List Lit) → List Lit → List Step → Found → Type 0
IsSearchResult clauses assumptions steps Satisfied = Satisfies clauses assumptions steps
IsSearchResult clauses assumptions steps (Refused traced) = Refuses clauses assumptions traced

-- The answer is that there is a model, or has the negations of the clause's literals.
abbrev pub IsAskedFrom : Found → Asked → Type 0
IsAskedFrom Satisfied asked.Sat = Unit {0}
IsAskedFrom Satisfied (asked.Unsat core) = ⊥
IsAskedFrom (Refused traced) asked.Sat = ⊥
IsAskedFrom (Refused traced) (asked.Unsat core) = core.items ≡ map negation traced.clause

-- where the search refused, by its clause
abbrev pub MayRefuse : List (List Lit) → List Lit → Found → Type 0
MayRefuse clauses assumptions Satisfied = Unit {0}
MayRefuse clauses assumptions (Refused traced) = Refuses clauses assumptions traced

-- The answer is that there is a model, or a proof that refutes the clauses.
abbrev pub IsRefutedFrom : List (List Lit) → Found → Refuted → Type 0
IsRefutedFrom clauses Satisfied refuted.Sat = Unit {0}
IsRefutedFrom clauses Satisfied (refuted.Unsat lines) = ⊥
IsRefutedFrom clauses (Refused traced) refuted.Sat = ⊥
IsRefutedFrom clauses (Refused traced) (refuted.Unsat lines) = Refutes clauses lines
