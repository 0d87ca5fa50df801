-- Scaffolding of inner functions. What a worker does with the board, as it is known over the entries that it has seen.
use Rattle.std.specs.Prelude.{◌≡◌, ℕ, List}
use Rattle.aig_semantics.specs.Circuits.{Circuit}
use Rattle.aig_semantics.specs.Stimuli.{IsFairLassoOf}
use Rattle.fair_semantics.specs.Entries.{Entry, used_entries, AreClosed}
use Rattle.entry.specs.declared.origins.Work.{Work}
use Rattle.entry.specs.Proved.{IsGoodRefutation}
use Rattle.entry.specs.CheckedEntries.{CheckedEntry}
use Rattle.skeleton.specs.Finding.{IsAllowed}
use Rattle.wall_store.specs.declared.outcomes.Outcome.{Outcome}
use Rattle.wall_store.specs.declared.outcomes.Outcome.TheVariants.{Lasso, Holds}
use Rattle.wall_store.specs.Boards.{FromWorker}
use Rattle.fair_round.specs.declared.deciding.Deed.{Deed}
use Rattle.fair_round.specs.declared.deciding.Deed.TheVariants as deeds

-- a worker's work of this turn, whose skeleton these entries allow
pub record IsWorkOf (c : Circuit) (view : List Entry) (j w t : ℕ) (work : Work) : Type 0 where
  pub author : work.author ≡ w
  pub turn : work.turn ≡ t
  pub allowed : IsAllowed c j view work.skeleton

-- an entry of the worker that was checked behind these
pub record IsPosting (c : Circuit) (view : List Entry) (j w t : ℕ) (e : CheckedEntry) : Type 0 where
  pub circuit : e.circuit ≡ c
  pub closed : AreClosed view e.entry.uses
  pub used : e.used ≡ used_entries view e.entry.uses
  pub work : FromWorker e.origin (IsWorkOf c view j w t)

-- an outcome that is true over these entries
abbrev pub IsTrueBehind : Circuit → List Entry → ℕ → Outcome → Type 0
IsTrueBehind c view j (Lasso lasso) = IsFairLassoOf c j lasso
IsTrueBehind c view j (Holds r) = IsGoodRefutation c view j r.uses r.proof

abbrev pub IsDeed : Circuit → List Entry → ℕ → ℕ → ℕ → Deed → Type 0
IsDeed c view j w t (deeds.Post e) = IsPosting c view j w t e
IsDeed c view j w t (deeds.Finish o) = IsTrueBehind c view j o
