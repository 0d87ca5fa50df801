-- What shows that a part of a closed set is closed, and misses the goal (scaffolding).
use Rattle.std.specs.Prelude.{◌≡◌, ℕ, ◌<◌, true, List, [], length, slice_index_or}
use Rattle.std.specs.List.{list_all}
use Rattle.aig_semantics.specs.Circuits.{Circuit}
use Rattle.proof_semantics.specs.declared.literals.Lit.{Lit}
use Rattle.fair_semantics.specs.declared.entries.Use.{Use}
use Rattle.fair_semantics.specs.States.{meets_clauses}
use Rattle.fair_semantics.specs.Entries.{Entry, entry_at, used_entries}
use Rattle.cdcl.specs.Solving.{HasNoModel}
use Rattle.cnf_unroll.specs.Obligations.{shared_clauses, broken_literals}
use Rattle.entry.specs.Faults.{are_known}
use Rattle.ic3_semantics.specs.declared.questions.Goal.{Goal}
use Rattle.ic3_semantics.specs.Searching.{Question, Misses}

-- the clauses that the obligations of an entry with these clauses and uses share
abbrev pub shared_by : Circuit → List Entry → List (List Lit) → List Use → List (List Lit)
shared_by c view clauses uses = shared_clauses c (used_entries view uses) uses clauses

-- no step that the uses allow leads from the set to a state that breaks one of the first n clauses
abbrev pub NoneBreaks : Circuit → List Entry → List (List Lit) → List Use → ℕ → Type 0
NoneBreaks c view clauses uses n =
    (i : ℕ) → i < n → HasNoModel (shared_by c view clauses uses) (broken_literals c (slice_index_or clauses i []))

-- The walls of which used entries name sides are used, no allowed step breaks a clause, and the clauses exclude the goal.
pub record Stands (q : Question) (goal : Goal) (clauses : List (List Lit)) (uses : List Use) : Type 0 where
  pub named : list_all (λ u. are_known uses (entry_at q.view u.entry).uses) uses ≡ true
  pub unbroken : NoneBreaks q.circuit q.view clauses uses (length clauses)
  pub misses : Misses q goal (meets_clauses clauses)
