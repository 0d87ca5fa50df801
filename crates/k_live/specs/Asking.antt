-- What is asked of the monitor, and what is found (scaffolding).
use Rattle.std.specs.Prelude.{◌≡◌, ◌↔◌, ℕ, ◌-◌, ◌≤◌, true, false, List, [], ◌∷◌, ◌++◌, length, slice_index_or}
use Rattle.std.specs.List.{All, list_any}
use Rattle.aig_semantics.specs.declared.parts.Reset.TheVariants.{Zero}
use Rattle.aig_semantics.specs.declared.traces.Position.{Position}
use Rattle.aig_semantics.specs.Circuits.{Circuit}
use Rattle.proof_semantics.specs.declared.literals.Lit.{Lit}
use Rattle.proof_semantics.specs.Clauses.{has_literal}
use Rattle.cnf_unroll.specs.Laws.{AreOver}
use Rattle.entry.specs.Proved.{holds_initial}
use Rattle.fair_semantics.specs.declared.entries.Kind.TheVariants.{Reach}
use Rattle.fair_semantics.specs.declared.entries.Side.TheVariants.{Any}
use Rattle.fair_semantics.specs.declared.entries.Use.{Use}
use Rattle.fair_semantics.specs.Entries.{Entry}
use Rattle.fair_semantics.specs.States.{initial_cube}
use Rattle.fair_semantics.specs.Validity.{set_behind, IsValid}
use Rattle.ic3_semantics.specs.declared.questions.Reached.{Reached as Found}
use Rattle.ic3_semantics.specs.declared.questions.Reached.TheVariants.{Path, Closed}
use Rattle.ic3_semantics.specs.declared.questions.Start.TheVariants.{Initial}
use Rattle.ic3_semantics.specs.Searching.{Question, MeetsLiteral, IsPathToLiteral}
use Rattle.round_monitor.specs.Counting.{HasFullRun, HasRunOfRounds, WatchesRounds}
use Rattle.round_monitor.specs.Ends.{IsMonitorable}
use Rattle.round_monitor.specs.Monitor.{monitor_circuit}
use Rattle.round_answers.specs.declared.rounds.KnownRounds.{KnownRounds}
use Rattle.round_answers.specs.declared.rounds.KnownRounds.TheVariants.{Fewer, Reached}
use Rattle.certificate.specs.Refuted.{state_clauses}
use Rattle.round_answers.specs.Answers.{last_latch}
use Rattle.round_answers.specs.Writing.{AreFull}

-- t is the monitor of property j for k rounds
pub record IsMonitorOf (c : Circuit) (j k : ℕ) (t : Circuit) : Type 0 where
  pub some : 1 ≤ k
  pub able : IsMonitorable c j k
  pub model : t ≡ monitor_circuit c j k
  pub watches : WatchesRounds c j k t
  pub exact : HasFullRun t ↔ HasRunOfRounds c j k

-- ---- the question

-- the next literal of the last latch
abbrev pub next_of_last : Circuit → ℕ
next_of_last t = (slice_index_or t.latches (length t.latches - 1) (record { var = 0; next = 0; reset = Zero })).next

-- what is asked of the monitor: from the initial states, behind no entry
abbrev pub question : Circuit → Question
question t = record { circuit = t; view = []; start = Initial }

-- some positions lead to one that makes the last latch true
abbrev pub LeadsThere : Circuit → List Position → Type 0
LeadsThere t positions = IsPathToLiteral (question t) (next_of_last t) [] positions

abbrev pub closed_set : List (List Lit) → List Use → Entry
closed_set clauses uses = record { kind = Reach; clauses = clauses; uses = uses }

-- a valid entry from which no position makes the last latch true; and no positions lead there
pub record IsClosedSet (t : Circuit) (clauses : List (List Lit)) (uses : List Use) : Type 0 where
  pub over : AreOver (length t.latches) clauses
  pub valid : IsValid t [] (closed_set clauses uses)
  pub base : All (λ clause. list_any (has_literal clause) (initial_cube t) ≡ true) clauses
  pub misses : (p : Position) → MeetsLiteral (question t) (next_of_last t) [] p → set_behind [] (closed_set clauses uses) p.latches ≡ false
  pub none : (positions : List Position) → LeadsThere t positions → ⊥

-- what the search answers
abbrev pub AnswersSearch : Circuit → Found → Type 0
AnswersSearch t (Path positions) = LeadsThere t positions
AnswersSearch t (Closed clauses uses) = IsClosedSet t clauses uses

-- ---- what is claimed of a closed set

-- the last latch is false
abbrev pub last_false : Circuit → List Lit
last_false t = record { var = length t.latches - 1; positive = false } ∷ []

-- the reach entry of these clauses that uses no other
abbrev pub reach_entry : List (List Lit) → Entry
reach_entry clauses = closed_set clauses []

-- These clauses, of which the last says that the last latch is false, are a valid reach entry of t behind none.
pub record IsClaim (t : Circuit) (clauses : List (List Lit)) : Type 0 where
  pub over : AreOver (length t.latches) clauses
  pub valid : IsValid t [] (reach_entry clauses)
  pub base : All (holds_initial t) clauses
  pub front : List (List Lit)
  pub last : clauses ≡ front ++ last_false t ∷ []

-- the use of the first entry of a list
abbrev pub first_use : Use
first_use = record { entry = 0; side = Any }

-- what the refutation over an entry of these clauses refutes: the last latch is true in none of its states
abbrev pub refuted_clauses : Circuit → List (List Lit) → List (List Lit)
refuted_clauses t clauses = state_clauses t (last_latch t) (record { number = 0; entry = reach_entry clauses } ∷ [])

-- a set of the monitor's states that shows it
abbrev pub IsShownBySet : Circuit → KnownRounds → Type 0
IsShownBySet t (Fewer entries refutation) = AreFull t entries refutation
IsShownBySet t (Reached run) = ⊥
