-- What a search of the monitor answers, and what is told of it.
use Rattle.std.proofs.Common.{◌≡◌, ℕ, ◌<◌, ◌≤◌, List, [], ◌∷◌, ◌++◌, Bool, false, map, length, sym, subst, Result, Ok, Err, IfOk, IfErr}
use Rattle.std.specs.List.{All}
use Rattle.aig_semantics.specs.declared.traces.Position.{Position}
use Rattle.aig_semantics.specs.Circuits.{Circuit}
use Rattle.aig_semantics.specs.Runs.{IsInitialRun}
use Rattle.proof_semantics.specs.declared.literals.Lit.{Lit}
use Rattle.fair_semantics.specs.declared.entries.Use.{Use}
use Rattle.fair_semantics.specs.Laws.{HoldsInitialStates}
use Rattle.fair_semantics.specs.Rounds.{HasRounds}
use Rattle.ic3_semantics.specs.declared.questions.Goal.{Goal}
use Rattle.ic3_semantics.specs.declared.questions.Goal.TheVariants as goals
use Rattle.ic3_semantics.specs.declared.questions.Reached.{Reached as Found}
use Rattle.ic3_semantics.specs.declared.questions.Reached.TheVariants.{Path, Closed}
use Rattle.ic3_semantics.specs.declared.questions.ReachEnd.{ReachEnd}
use Rattle.ic3_semantics.specs.Searching.{MeetsLiteral, IsPathToLiteral, IsReached}
use Rattle.fair_semantics.specs.Validity.{set_behind}
use Rattle.round_monitor.specs.Counting.{HasRunOfRounds, own_position}
use Rattle.edge.specs.Units.{Spendings}
use Rattle.round_answers.specs.declared.rounds.KnownRounds.{KnownRounds}
use Rattle.round_answers.specs.declared.rounds.KnownRounds.TheVariants.{Fewer, Reached}
use Rattle.round_answers.specs.Writing.{AreFull, IsSo}
use Rattle.k_live.specs.declared.ends.RoundsEnd.{RoundsEnd}
use Rattle.k_live.specs.declared.ends.RoundsEnd.TheVariants.{TooLarge, Memory}
use Rattle.k_live.specs.Deciding.{Settles, EndsSearch}
use Rattle.k_live.specs.Asking.{next_of_last, question, last_false, closed_set, IsMonitorOf, LeadsThere, IsClosedSet, AnswersSearch, IsClaim, IsShownBySet}
use Rattle.k_live.proofs.Paths.{some-latch, last-zero, path-latches, path-decides, none-decides}
use Rattle.k_live.proofs.Claiming.{keeps}

-- the goal is a position that makes the last latch true
abbrev pub AsksThat : Circuit → Goal → Type 0
AsksThat t (goals.State to) = ⊥
AsksThat t (goals.Literal literal avoid) = (literal ≡ next_of_last t) × (avoid.now ≡ [])

answered : (t : Circuit) (goal : Goal) (found : Found) → AsksThat t goal → IsReached (question t) goal found → AnswersSearch t found
answered t (goals.State to) found asks h = absurd asks
answered t (goals.Literal literal avoid) (Path positions) asks h =
    subst (λ l. IsPathToLiteral (question t) l [] positions) asks.0 (subst (λ cubes. IsPathToLiteral (question t) literal cubes positions) asks.1 h)
answered t (goals.Literal literal avoid) (Closed clauses uses) asks h =
    let set : List Bool → Bool = set_behind [] (closed_set clauses uses) in
    record {
      over = h.0.over;
      valid = h.0.valid;
      base = h.0.base;
      misses =
          subst (λ l. (p : Position) → MeetsLiteral (question t) l [] p → set p.latches ≡ false) asks.0
          (subst (λ cubes. (p : Position) → MeetsLiteral (question t) literal cubes p → set p.latches ≡ false) asks.1 h.0.misses);
      none =
          subst (λ l. (positions : List Position) → IsPathToLiteral (question t) l [] positions → ⊥) asks.0
          (subst (λ cubes. (positions : List Position) → IsPathToLiteral (question t) literal cubes positions → ⊥) asks.1 h.1);
    }

pub answered-if : (t : Circuit) (goal : Goal) (result : Result Found ReachEnd) → IfOk result (IsReached (question t) goal) → AsksThat t goal → IfOk result (AnswersSearch t)
answered-if t goal (Ok found) h asks = answered t goal found asks h
answered-if t goal (Err end) h asks = tt

-- ---- what is told

pub some-of : (c : Circuit) (j k : ℕ) (t : Circuit) → IsMonitorOf c j k t → 0 < length t.latches
some-of c j k t m = some-latch c j k t m.some m.model

pub latches-told : (c : Circuit) (j k : ℕ) (t : Circuit) (positions : List Position) → IsMonitorOf c j k t → LeadsThere t positions
    → All (λ p. length c.latches ≤ length p.latches) positions
latches-told c j k t positions m path = path-latches c j k t positions m.some m.model path

-- a way there is a run with the rounds
pub run-told : (c : Circuit) (j k : ℕ) (t : Circuit) (positions : List Position) → IsMonitorOf c j k t → LeadsThere t positions
    → IsInitialRun c (map (own_position c) positions) × HasRounds c j k (map (own_position c) positions)
run-told c j k t positions m path = path-decides c j k t positions m.some m.model m.watches path

pub run-so : (c : Circuit) (j k : ℕ) (t : Circuit) (positions : List Position) (result : Result KnownRounds RoundsEnd)
    → IsMonitorOf c j k t → LeadsThere t positions → IfOk result (λ r. r ≡ Reached (map (own_position c) positions)) → IfOk result (IsSo c j k)
run-so c j k t positions (Ok r) m path is = subst (IsSo c j k) (sym is) (run-told c j k t positions m path)
run-so c j k t positions (Err end) m path is = tt

pub run-decided : (c : Circuit) (j k : ℕ) (t : Circuit) (positions : List Position) (result : Result KnownRounds RoundsEnd)
    → IsMonitorOf c j k t → LeadsThere t positions → IfOk result (λ r. r ≡ Reached (map (own_position c) positions)) → IfOk result (Settles c j k)
run-decided c j k t positions (Ok r) m path is = subst (Settles c j k) (sym is) (run-told c j k t positions m path)
run-decided c j k t positions (Err end) m path is = tt

-- a closed set is a claim, and no run has them
pub claim-told : (c : Circuit) (j k : ℕ) (t : Circuit) (clauses : List (List Lit)) (uses : List Use) → HoldsInitialStates → IsMonitorOf c j k t
    → IsClosedSet t clauses uses → IsClaim t (clauses ++ last_false t ∷ [])
claim-told c j k t clauses uses law m h =
    keeps t (some-latch c j k t m.some m.model) (last-zero c j k t m.some m.model) law clauses uses h

shown-so : (c : Circuit) (j k : ℕ) (t : Circuit) (r : KnownRounds) → IsMonitorOf c j k t → IsShownBySet t r → IsSo c j k r
shown-so c j k t (Fewer entries refutation) m shown = subst (λ x. AreFull x entries refutation) m.model shown
shown-so c j k t (Reached run) m shown = absurd shown

shown-decides : (c : Circuit) (j k : ℕ) (t : Circuit) (r : KnownRounds) → (HasRunOfRounds c j k → ⊥) → IsShownBySet t r → Settles c j k r
shown-decides c j k t (Fewer entries refutation) none shown = none
shown-decides c j k t (Reached run) none shown = absurd shown

pub set-so : (c : Circuit) (j k : ℕ) (t : Circuit) (result : Result KnownRounds RoundsEnd) → IsMonitorOf c j k t → IfOk result (IsShownBySet t) → IfOk result (IsSo c j k)
set-so c j k t (Ok r) m shown = shown-so c j k t r m shown
set-so c j k t (Err end) m shown = tt

pub set-decided : (c : Circuit) (j k : ℕ) (t : Circuit) (clauses : List (List Lit)) (uses : List Use) (result : Result KnownRounds RoundsEnd)
    → IsMonitorOf c j k t → IsClosedSet t clauses uses → IfOk result (IsShownBySet t) → IfOk result (Settles c j k)
set-decided c j k t clauses uses (Ok r) m h shown = shown-decides c j k t r (none-decides c j k t m.some m.model m.exact h.none) shown
set-decided c j k t clauses uses (Err end) m h shown = tt

-- ---- why nothing is told

pub memory-told : (meter : Spendings) (result : Result KnownRounds RoundsEnd) → IfErr result (λ end. end ≡ Memory) → IfErr result (EndsSearch meter)
memory-told meter (Ok r) h = tt
memory-told meter (Err end) h = subst (EndsSearch meter) (sym h) tt

-- a search does not tell that there is no monitor
pub never-large : (meter : Spendings) (result : Result KnownRounds RoundsEnd) (n : ℕ) → IfErr result (EndsSearch meter) → result ≡ Err (TooLarge n) → ⊥
never-large meter result n h e = subst (λ r. IfErr r (EndsSearch meter)) e h
