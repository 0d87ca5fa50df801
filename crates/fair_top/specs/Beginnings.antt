-- Scaffolding of inner functions: what a search is asked, and how a run of `solve` ends that comes to none.
use Rattle.std.specs.Prelude.{◌≡◌, ◌⊎◌, ℕ, List, Option, Result, Ok, Err}
use Rattle.std.specs.Arc.{arc_value}
use Rattle.aig_semantics.specs.Circuits.{Circuit}
use Rattle.entry.specs.CheckedEntries.{CheckedEntry}
use Rattle.sheet_answers.specs.declared.ends.JudgeEnd.{JudgeEnd}
use Rattle.fair_workers.specs.Runs.{AreServed}
use Rattle.given_entries.specs.Beginning.{OfClaimed, BeginsWith, HasNoList, shared_list}
use Rattle.command_lines.specs.declared.commands.solving.SolveRequest.{SolveRequest}
use Rattle.fair_top.specs.declared.beginnings.Beginning.{Beginning}
use Rattle.plain_commands.specs.declared.status.Status.{Status}
use Rattle.plain_commands.specs.declared.status.Status.TheVariants as statuses
use Rattle.plain_commands.specs.ModelTexts.{OfModel}
use Rattle.plain_commands.specs.ModelGiven.{OfSomeText, SaysBadModel}
use Rattle.plain_commands.specs.Check.{status_of_end}
use Rattle.fair_top.specs.Solve.{asked_in, HasProperty, LacksProperty, OfAnswer, SaysNoProperty, RefusesAnswer, DecidesSolve, HasAsked}
use Rattle.fair_top.specs.Solved.{MayBegin}
use Rattle.plain_commands.specs.Answering.{IsSilent, GivesVerdict}

abbrev pub circuit_in : Beginning → Circuit
circuit_in q = arc_value q.circuit

-- the properties that are asked for
abbrev pub served_in : Beginning → List ℕ
served_in q = q.served.items

abbrev pub given_in : Beginning → List CheckedEntry
given_in q = shared_list q.given.items

-- Of a circuit: it has what is asked for, and the list is that of the answer that may be claimed.
pub record IsAskedOf (c : Circuit) (answer : Option (Option (List ℕ))) (request : SolveRequest) (q : Beginning) : Type 0 where
  pub circuit : circuit_in q ≡ c
  pub property : HasProperty c request
  pub served : served_in q ≡ asked_in request.all c request.property
  pub serves : AreServed c (served_in q)
  pub list : OfClaimed answer (λ claimed. BeginsWith c claimed (given_in q))
  pub begins : MayBegin c (given_in q)

-- the circuit has no such property, or has what is asked for, and the answer gives no entries, or the run is silent
abbrev pub EndsUnasked : Circuit → Option (Option (List ℕ)) → SolveRequest → Status → Type 0
EndsUnasked c answer request status =
    ((status ≡ statuses.NoProperty request.property) × LacksProperty c request)
    ⊎ (HasProperty c request
    × (IsSilent status
    ⊎ ((end : JudgeEnd) × (status ≡ status_of_end end) × OfClaimed answer (λ claimed. HasNoList c claimed end))))

-- a beginning, or the status with which a run ends that has none
abbrev pub beginning_of_end : Result Beginning JudgeEnd → Result Beginning Status
beginning_of_end (Ok q) = Ok q
beginning_of_end (Err end) = Err (status_of_end end)

-- there is no search, and the status is this, or that of a silent run
abbrev pub IsEndedWith : Status → Result Beginning Status → Type 0
IsEndedWith verdict (Ok q) = ⊥
IsEndedWith verdict (Err status) = (status ≡ verdict) ⊎ IsSilent status

-- Of the texts that the shelf tells: MODEL is a model's that has what is asked for, the list is that of ANSWER, and nothing else is
-- decided.
pub record IsBeginning (model : Option (List ℕ)) (answer : Option (Option (List ℕ))) (request : SolveRequest) (q : Beginning) : Type 0 where
  pub asked : OfSomeText model (λ bytes. OfAnswer OfSomeText answer (λ claimed. OfModel bytes (λ c.
      (circuit_in q ≡ c) × BeginsWith c claimed (given_in q))))
  pub property : HasProperty (circuit_in q) request
  pub served : served_in q ≡ asked_in request.all (circuit_in q) request.property
  pub serves : AreServed (circuit_in q) (served_in q)
  pub begins : MayBegin (circuit_in q) (given_in q)
  pub undecided : (verdict : Status) → DecidesSolve model answer request verdict → ⊥

-- MODEL is bad, or has no such property, or ANSWER gives no entries
abbrev pub SaysBefore : Option (List ℕ) → Option (Option (List ℕ)) → SolveRequest → Status → Type 0
SaysBefore model answer request status =
    SaysBadModel OfSomeText model status
    ⊎ (SaysNoProperty OfSomeText model request status ⊎ RefusesAnswer OfSomeText model answer request status)

-- A run may end so that comes to no search.
pub record EndsBefore (model : Option (List ℕ)) (answer : Option (Option (List ℕ))) (request : SolveRequest) (status : Status) : Type 0 where
  pub says : SaysBefore model answer request status ⊎ IsSilent status
  pub exactly : (verdict : Status) → DecidesSolve model answer request verdict → GivesVerdict verdict status
  pub asked : HasAsked model answer request → IsSilent status
