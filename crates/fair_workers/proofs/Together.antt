-- Workers that take turns over one board.
use Rattle.std.proofs.Common.{◌≡◌, ◌≢◌, ℕ, zero, suc, ◌+◌, ◌-◌, ◌*◌, ◌<◌, ◌≤◌, min, true, false, List, [], ◌∷◌, ◌++◌, ◌⊎◌, inl, inr, None, Some, map, length, get_or, set, take, drop, refl, sym, ap, ◌∙◌, subst, arith}
use Rattle.std.specs.Prelude.{Option, Contains, ◌==◌, is_some, IfSome}
use Rattle.std.specs.List.{All, sum_by}
use Rattle.std.proofs.Math.Seq.{map-set_same}
use Rattle.std.proofs.lemmas.Bool.{false≢true, cases_lt, eq-eqb, ne_eqb}
use Rattle.std.proofs.lemmas.List.{get_or-map, get_or_append_left, get_or-set_same, get_or-set_other, get_or-replicate, length-set, length-map, length-append, append-nil, append_assoc, map-append, map-set, take_all, take-append-le, drop_all, drop-append-le}
use Rattle.std.proofs.Math.Seq.{get_or-append_seam}
use Rattle.std.proofs.lemmas.List.Sums.{sum_by-cons}
use Rattle.std.proofs.lemmas.List.Elements.{All-nil, All-push, All-set, All-map, All-head, All-tail, All-append, All-weaker}
use Rattle.aig_semantics.specs.Circuits.{Circuit}
use Rattle.edge.specs.Units.{Spendings}
use Rattle.entry.specs.declared.origins.Origin.{Origin}
use Rattle.entry.specs.declared.origins.Origin.TheVariants.{Given, Worker as FoundBy}
use Rattle.entry.specs.CheckedEntries.{CheckedEntry}
use Rattle.skeleton.specs.Finding.{Asking, IsAllowed}
use Rattle.wall_store.specs.Boards.{BoardState, IsBoard, FromWorker, is_by, found_by, turn_of, AscendBy, Ascend, plain, properties_of, outcome_of, most_entries, first_board}
use Rattle.wall_store.specs.Events.{seen_by, list_of, IsSettled}
use Rattle.wall_store.proofs.Ascending.{ascend_empty, ascend_later, ascend_push, found_own, found_others}
use Rattle.lasso_bmc.specs.declared.deepening.Deepening.{Deepening}
use Rattle.lasso_bmc.specs.Searching.{HasNoneWithin}
use Rattle.fair_workers.specs.declared.lasso_search.LassoSearch.{LassoSearch}
use Rattle.search_reports.specs.declared.limits.Limits.{Limits}
use Rattle.fair_workers.specs.declared.working.Phase.{Phase}
use Rattle.fair_workers.specs.declared.working.Phase.TheVariants as phases
use Rattle.fair_workers.specs.declared.working.Worker.{Worker}
use Rattle.fair_workers.specs.declared.board_workers.BoardWorker.{BoardWorker}
use Rattle.shared_lists.specs.declared.lending.LentBoard.{LentBoard}
use Rattle.fair_workers.specs.Runs.{Task, AreLimits, AreServed, ServesOne, IsByRoundWorker, IsFoundWithin, IsBoardOf, IsWithLimits, IsInBudget, IsFull, last_turns, most_depth, most_turns, round_workers}
use Rattle.shared_lists.specs.Knowing.{Known, AreSettled}
use Rattle.fair_workers.specs.Working.{is_ahead, is_running, left, left_in, left_to, left_at_first, searches_left_in, searches_left_to, search_steps, steps_through, room_of, ahead_of, AreRoundsOf, IsStuck, IsIn, IsWorker, Turns, KeepsLimits, first_left, is_deep, Begins, BeginsAs, HasSolver, IsDeepIn, IsNumbered, IsOfKind, StaysOfKind}
use Rattle.shared_lists.specs.Lending.{known_at, known_of, IsOfTurn, GoesOnBy, StaysLent}
use Rattle.fair_workers.specs.BoardWorkers.{left_by, left_of, searches_left_by, turns_on, steps_on, KeepsWithin, runs_at, turns_at, IsFresh, IsBoardWorker, TakesTurn, Follows, AreWorkers, ServeTask, HaveEnded}
use Rattle.fair_workers.specs.Ends.{Tells, IsDone, AreDone, IsEndNumbered, IsEndOfKind, done_in, end_as}
use Rattle.fair_workers.specs.declared.ending.WorkerEnd.{WorkerEnd}
use Rattle.fair_workers.proofs.Causes.{steps-least}
use Rattle.fair_workers.proofs.Ahead.{Stay, ahead-on, ahead-within, count-most, left-on, searches-on}
use Rattle.fair_workers.proofs.WorkerKinds.{same-kind, kind-stays, numbered-on, ends-kind, ends-numbered}
use Rattle.fair_workers.proofs.Turned.{turn-of-kind, rounds-same, served-on, past-on, stuck-on, first-kind-on}
use Rattle.shared_lists.proofs.LentBoards.{is-not-none, some-is, some-not-none, seen-size, seen-within}
use Rattle.fair_round.proofs.Counting.{steps-kept, steps-over, steps-last}
use Rattle.std.proofs.Math.Nat.{mul-le-mul_right}

-- ---- the beginning

-- of a board whose entries are all given no worker found one
own-fresh : (b : BoardState) (w turns : ℕ) → length b.entries ≡ b.given → Ascend w (drop b.given b.entries) turns
own-fresh b w turns fresh =
    ascend_empty w (drop b.given b.entries) turns (ap (found_by w) (drop_all b.given b.entries (omega (arith, fresh))))

authors-fresh : (limits : Limits) (b : BoardState) → length b.entries ≡ b.given → All (IsByRoundWorker limits) (drop b.given b.entries)
authors-fresh limits b fresh =
    subst (All (IsByRoundWorker limits)) (sym (drop_all b.given b.entries (omega (arith, fresh)))) (All-nil (IsByRoundWorker limits))

pub workers-push : (limits : Limits) (b : BoardState) (workers : List BoardWorker) (w : BoardWorker) → AreWorkers limits b workers
    → w.number ≡ length workers → IsBoardWorker b w → IsNumbered limits w.number w.worker.lasso_search → IsWithLimits limits w.worker.meter → KeepsWithin limits b w
    → length b.entries ≡ b.given → AreWorkers limits b (workers ++ w ∷ [])
workers-push limits b workers w are number is kind within sparing fresh =
    let numbers : List ℕ = map (λ (v : BoardWorker). v.number) workers in
    let size : length numbers ≡ length workers = length-map workers (λ (v : BoardWorker). v.number) in
    let split : map (λ (v : BoardWorker). v.number) (workers ++ w ∷ []) ≡ numbers ++ w.number ∷ [] = map-append (λ (v : BoardWorker). v.number) workers (w ∷ []) in
    record {
      numbers = λ k below.
          ap (λ xs. get_or xs k 0) split
          ∙ elim (cases_lt k (length workers)) [
            | inl earlier ↦ get_or_append_left numbers (w.number ∷ []) 0 k (omega (arith, size)) ∙ are.numbers k earlier
            | inr late ↦
                let at : k ≡ length numbers = omega (arith, size, below, length-append workers (w ∷ [])) in
                ap (λ m. get_or (numbers ++ w.number ∷ []) m 0) at ∙ get_or-append_seam numbers w.number [] 0 ∙ number ∙ sym size ∙ sym at
          ];
      each = All-push (IsBoardWorker b) workers w are.each is;
      kinds = All-push (λ v. IsNumbered limits v.number v.worker.lasso_search) workers w are.kinds kind;
      within = All-push (λ v. IsWithLimits limits v.worker.meter) workers w are.within within;
      steps = All-push (KeepsWithin limits b) workers w are.steps sparing;
      own = λ v. own-fresh b v (turns_at (workers ++ w ∷ []) v) fresh;
      authors = authors-fresh limits b fresh;
    }

-- at first a worker has begun nothing
first-steps : (s n k r : ℕ) → s ≡ 0 → n * r ≤ k * r → s + n * r ≤ k * r
first-steps s n k r none few = omega (arith, none, few)

first-searches : (limit seen more ahead properties : ℕ) → limit ≤ seen + more → ahead ≤ properties → (limit - seen) + ahead ≤ more + properties
first-searches limit seen more ahead properties grows few = omega (arith, grows, few)

-- a lasso worker has no search of rounds
few-searches : (k : Known) (w : Worker) (more : ℕ) (o : Option LassoSearch) → k.limit ≤ length k.list + more → BeginsAs k.properties w.property w.phase o
    → searches_left_to k w ≤ more + length k.properties
few-searches k w more None grows phase =
    subst (λ p. searches_left_in k w.property p ≤ more + length k.properties) (sym phase)
    (first-searches k.limit (length k.list) more (ahead_of k w.property phases.Asks) (length k.properties) grows
    (count-most (is_ahead k.settled w.property phases.Asks) k.properties))
few-searches k w more (Some s) grows begins =
    subst (λ p. searches_left_in k w.property p ≤ more + length k.properties) (sym begins.0) (omega arith)

pub first-within : (k : Known) (w : Worker) (more : ℕ) → k.limit ≤ length k.list + more → BeginsAs k.properties w.property w.phase w.lasso_search → w.meter.steps ≡ 0
    → steps_through w (searches_left_to k w) (search_steps k.circuit k.properties) ≤ (more + length k.properties) * search_steps k.circuit k.properties
first-within k w more grows begins none =
    first-steps w.meter.steps (searches_left_to k w) (more + length k.properties) (search_steps k.circuit k.properties) none
    (mul-le-mul_right (search_steps k.circuit k.properties) (few-searches k w more w.lasso_search grows begins))

first-turns : (turns limit seen given ahead properties last : ℕ) → turns ≡ 0 → given ≤ seen → ahead ≤ properties
    → turns + (((limit - seen) + ahead) * 3 + last + 3) ≤ ((limit - given) + properties) * 3 + last + 3
first-turns turns limit seen given ahead properties last none whole few = omega (arith, none, whole, few)

first-deep : (turns depth : ℕ) → turns ≡ 0 → turns + (depth * 2 + 3) ≤ depth * 2 + 3
first-deep turns depth none = omega (arith, none)

-- in the phase in which a worker of its kind begins
first-in-phase : (j : ℕ) (k : Known) (m : Spendings) (p : Phase) (o : Option LassoSearch) → BeginsAs k.properties j p o → IsIn j k m p
first-in-phase j k m p None phase = subst (λ q. IsIn j k m q) (sym phase) tt
first-in-phase j k m p (Some s) begins = subst (λ q. IsIn j k m q) (sym begins.0) tt

-- no lasso is without positions
none-at-first : (c : Circuit) (j : ℕ) → HasNoneWithin c j 0
none-at-first c j run from is few = absurd (let inside = is.inside in omega (arith, inside, few))

first-of-kind : (limits : Limits) (n j : ℕ) (k : Known) (m : Spendings) (p : Phase) (o : Option LassoSearch) → limits.depth ≤ most_depth → IsNumbered limits n o
    → length k.list ≡ k.given → BeginsAs k.properties j p o → IsOfKind j k m p o
first-of-kind limits n j k m p None short number list phase = ap is_deep phase
first-of-kind limits n j k m p (Some s) short number list begins = (
  record {
    only = begins.3;
    list = list;
    search = record {
      short = (let same = number.1 in omega (arith, same, short));
      within = (let none = begins.1 in omega (arith, none));
      none = subst (λ (done : ℕ). HasNoneWithin k.circuit j done) (sym begins.1) (none-at-first k.circuit j);
    };
  },
  subst (λ q. IsDeepIn k.circuit j m s q) (sym begins.0) (record {
    solver = subst (λ (d : Option Deepening). HasSolver k.circuit j s.done d) (sym begins.2) begins.1;
    most = (let none = begins.1 in omega (arith, none));
    least = omega arith;
  }),
)

first-turns-of : (k : Known) (w : Worker) (o : Option LassoSearch) → BeginsAs k.properties w.property w.phase o → k.turns ≡ 0 → k.given ≤ length k.list
    → k.turns + left_to k w ≤ first_left k o
first-turns-of k w None phase turns whole =
    subst (λ p. k.turns + left_in k w.property p ≤ left_at_first k) (sym phase)
    (first-turns k.turns k.limit (length k.list) k.given (ahead_of k w.property phases.Asks) (length k.properties) (last_turns k.properties) turns whole
    (count-most (is_ahead k.settled w.property phases.Asks) k.properties))
first-turns-of k w (Some s) begins turns whole =
    subst (λ p. k.turns + left_in k w.property p ≤ s.depth * 2 + 3) (sym begins.0) (first-deep k.turns s.depth turns)

whole-list : (m n : ℕ) → m ≡ n → n ≤ m
whole-list m n same = omega (arith, same)

pub first-worker : (limits : Limits) (n : ℕ) (k : Known) (w : Worker) → limits.depth ≤ most_depth → AreServed k.circuit k.properties → Begins limits k.properties n w
    → k.limit ≤ most_entries → k.turns ≡ 0 → length k.list ≡ k.given → IsWorker k w
first-worker limits n k w deep served begins short turns whole = record {
  served = served;
  rounds = subst (λ (r : Option Asking). IfSome r (AreRoundsOf k.circuit w.property (plain k.list))) (sym begins.rounds) tt;
  phase = first-in-phase w.property k w.meter w.phase w.lasso_search begins.begins;
  short = short;
  kind = first-of-kind limits n w.property k w.meter w.phase w.lasso_search deep begins.kind whole begins.begins;
  turns = first-turns-of k w w.lasso_search begins.begins turns (whole-list (length k.list) k.given whole);
}

seen-all : (b : BoardState) (n : ℕ) → IsBoard b → n < b.workers → seen_by b n ≡ length b.entries → length (list_of b n) ≡ length b.entries
seen-all b n is below whole = seen-size b n is below ∙ whole

pub worker-first : (limits : Limits) (b : BoardState) (m : BoardWorker) → IsBoard b → m.number < b.workers → limits.depth ≤ most_depth
    → AreServed b.circuit (properties_of b.served) → Begins limits (properties_of b.served) m.number m.worker → m.turns ≡ 0
    → m.seen ≡ seen_by b m.number → seen_by b m.number ≡ length b.entries → length b.entries ≡ b.given → IsBoardWorker b m
worker-first limits b m is below deep served begins turns seen whole fresh = record {
  number = below;
  seen = seen;
  worker = first-worker limits m.number (known_at b m.number m.turns) m.worker deep served begins is.limit turns
      (seen-all b m.number is below whole ∙ fresh);
}

-- at the beginning the whole list has been seen, and the list may grow by so many entries
pub sparing-first : (limits : Limits) (b : BoardState) (m : BoardWorker) → IsBoard b → m.number < b.workers → b.limit ≤ length b.entries + limits.skeletons
    → seen_by b m.number ≡ length b.entries → Begins limits (properties_of b.served) m.number m.worker → m.worker.meter.steps ≡ 0 → KeepsWithin limits b m
sparing-first limits b m is below grows whole begins none =
    first-within (known_at b m.number m.turns) m.worker limits.skeletons (omega (arith, grows, seen-all b m.number is below whole)) begins.begins none

-- ---- whose turn it is

pub runs-here : (workers : List BoardWorker) (k : ℕ) (w : BoardWorker) → k < length workers → is_running (get_or workers k w).worker.phase ≡ runs_at workers k
runs-here workers k w below = ap is_running (sym (get_or-map (λ (v : BoardWorker). v.worker.phase) workers k w phases.Closed below))

-- ---- a turn

same-or-not : (i k : ℕ) → (i ≡ k) ⊎ (i ≢ k)
same-or-not i k =
    elim (cases_lt i k) [
      | inl less ↦ inr (λ e. omega arith)
      | inr most ↦ elim (cases_lt k i) [ inl more ↦ inr (λ e. omega arith) | inr least ↦ inl (omega arith) ]
    ]

pub within-on : (limits : Limits) (old new : Spendings) → KeepsLimits old new → IsWithLimits limits old → IsWithLimits limits new
within-on limits old new kept h = record { conflicts = kept.conflicts ∙ h.conflicts; steps = kept.steps ∙ h.steps }

number-at : (limits : Limits) (b : BoardState) (workers : List BoardWorker) (k : ℕ) (d : BoardWorker) → AreWorkers limits b workers → k < length workers
    → (get_or workers k d).number ≡ k
number-at limits b workers k d are below = sym (get_or-map (λ (v : BoardWorker). v.number) workers k d 0 below) ∙ are.numbers k below

-- what another one's turn leaves of a worker
phase-stays : (j : ℕ) (k l : Known) (meter : Spendings) (p : Phase) → l.circuit ≡ k.circuit → l.properties ≡ k.properties → l.limit ≡ k.limit → l.list ≡ k.list
    → Stay k.settled l.settled → IsIn j k meter p → IsIn j l meter p
phase-stays j k l meter phases.Asks circuit properties limit list stay h = tt
phase-stays j k l meter phases.Looks circuit properties limit list stay h = subst (λ (js : List ℕ). Contains js j) (sym properties) h
phase-stays j k l meter phases.Searches circuit properties limit list stay h = subst (λ (js : List ℕ). Contains js j) (sym properties) h
phase-stays j k l meter (phases.AsksLast from) circuit properties limit list stay h = past-on from k l circuit properties limit list stay h
phase-stays j k l meter phases.LooksLast circuit properties limit list stay h = record {
  served = subst (λ (js : List ℕ). Contains js j) (sym properties) h.served;
  past = past-on j k l circuit properties limit list stay h.past;
}
phase-stays j k l meter phases.SearchesLast circuit properties limit list stay h = record {
  served = subst (λ (js : List ℕ). Contains js j) (sym properties) h.served;
  past = past-on j k l circuit properties limit list stay h.past;
}
phase-stays j k l meter (phases.AsksDeeper after) circuit properties limit list stay h = tt
phase-stays j k l meter (phases.Deepens after) circuit properties limit list stay h = tt
phase-stays j k l meter phases.Closed circuit properties limit list stay h = λ i inside. stay i (h i (subst (λ (js : List ℕ). Contains js i) properties inside))
phase-stays j k l meter phases.Full circuit properties limit list stay h = stuck-on k l circuit properties limit list stay h
phase-stays j k l meter phases.Spent circuit properties limit list stay h = h
phase-stays j k l meter phases.Deep circuit properties limit list stay h = tt
phase-stays j k l meter phases.Refused circuit properties limit list stay h = tt

room-same : (k l : Known) → l.limit ≡ k.limit → l.list ≡ k.list → room_of l ≤ room_of k
room-same k l limit list = omega (arith, limit, ap length list)

left-stays : (k l : Known) (w : Worker) → l.properties ≡ k.properties → l.limit ≡ k.limit → l.list ≡ k.list → Stay k.settled l.settled → left_to l w ≤ left_to k w
left-stays k l w properties limit list stay =
    left-on (room_of k) (room_of l) (ahead_of k w.property w.phase) (ahead_of l w.property w.phase) (last_turns k.properties) (last_turns l.properties) w.phase
    (room-same k l limit list)
    (ahead-within k l w.property w.property w.phase w.phase properties (ahead-on k.settled l.settled w.property w.phase stay))
    (ap last_turns properties)

searches-stay : (k l : Known) (w : Worker) → l.properties ≡ k.properties → l.limit ≡ k.limit → l.list ≡ k.list → Stay k.settled l.settled
    → searches_left_to l w ≤ searches_left_to k w
searches-stay k l w properties limit list stay =
    searches-on (room_of k) (room_of l) (ahead_of k w.property w.phase) (ahead_of l w.property w.phase) w.phase (room-same k l limit list)
    (ahead-within k l w.property w.property w.phase w.phase properties (ahead-on k.settled l.settled w.property w.phase stay))

turns-stay : (t u a b m n : ℕ) → u ≡ t → b ≤ a → t + a ≤ m → m ≤ n → u + b ≤ n
turns-stay t u a b m n turns less within most = omega (arith, turns, less, within, most)

worker-stays : (k l : Known) (w : Worker) → l.circuit ≡ k.circuit → l.properties ≡ k.properties → l.turns ≡ k.turns → l.given ≡ k.given
    → l.limit ≡ k.limit → l.list ≡ k.list → Stay k.settled l.settled → IsWorker k w → IsWorker l w
worker-stays k l w circuit properties turns given limit list stay is = record {
  served = served-on k l circuit properties is.served;
  rounds = rounds-same w.rounds w.property k l circuit list is.rounds;
  phase = phase-stays w.property k l w.meter w.phase circuit properties limit list stay is.phase;
  short = subst (λ (n : ℕ). n ≤ most_entries) (sym limit) is.short;
  kind = kind-stays w.property k l w.meter w.phase w.lasso_search circuit properties given list is.kind;
  turns = turns-stay k.turns l.turns (left_to k w) (left_to l w) (first_left k w.lasso_search) (first_left l w.lasso_search) turns
      (left-stays k l w properties limit list stay) is.turns
      (first-kind-on k l w.lasso_search w.lasso_search limit given properties (same-kind w.lasso_search));
}

settled-stay : (b c : BoardState) (n turn : ℕ) → GoesOnBy n turn b c → Stay (λ j. is_some (outcome_of b.served j)) (λ j. is_some (outcome_of c.served j))
settled-stay b c n turn on = λ j has. some-is (outcome_of c.served j) (on.outcomes j (is-not-none (outcome_of b.served j) has))

list-stays : (n turn : ℕ) (b c : BoardState) (m : ℕ) → IsBoard b → m ≢ n → m < b.workers → GoesOnBy n turn b c → list_of c m ≡ list_of b m
list-stays n turn b c m board other below on =
    ap (λ (i : ℕ). take i c.entries) (on.others m other) ∙ ap (take (seen_by b m)) on.entries.1
    ∙ take-append-le (seen_by b m) b.entries on.entries.0 (seen-within b m board below)

other-stays : (n turn : ℕ) (b c : BoardState) (m : BoardWorker) → IsBoard b → m.number ≢ n → GoesOnBy n turn b c → IsBoardWorker b m → IsBoardWorker c m
other-stays n turn b c m board other on is = record {
  number = omega (arith, is.number, on.workers);
  seen = is.seen ∙ sym (on.others m.number other);
  worker = worker-stays (known_at b m.number m.turns) (known_at c m.number m.turns) m.worker on.circuit on.properties refl on.given on.limit
      (list-stays n turn b c m.number board other is.number on) (settled-stay b c n turn on) is.worker;
}

-- no more is left to it
other-left : (n turn : ℕ) (b c : BoardState) (m : BoardWorker) → IsBoard b → m.number ≢ n → GoesOnBy n turn b c → IsBoardWorker b m → left_by c m ≤ left_by b m
other-left n turn b c m board other on is =
    left-stays (known_at b m.number m.turns) (known_at c m.number m.turns) m.worker on.properties on.limit
    (list-stays n turn b c m.number board other is.number on) (settled-stay b c n turn on)

other-searches : (n turn : ℕ) (b c : BoardState) (m : BoardWorker) → IsBoard b → m.number ≢ n → GoesOnBy n turn b c → IsBoardWorker b m
    → searches_left_by c m ≤ searches_left_by b m
other-searches n turn b c m board other on is =
    searches-stay (known_at b m.number m.turns) (known_at c m.number m.turns) m.worker on.properties on.limit
    (list-stays n turn b c m.number board other is.number on) (settled-stay b c n turn on)

steps-same : (b c : BoardState) (n turn : ℕ) → GoesOnBy n turn b c → steps_on c ≡ steps_on b
steps-same b c n turn on =
    ap (λ (d : Circuit). search_steps d (properties_of c.served)) on.circuit ∙ ap (λ (js : List ℕ). search_steps b.circuit js) on.properties

-- the bound on steps, in the words of the board before
keeps-by : (limits : Limits) (b c : BoardState) (m : BoardWorker) → steps_on c ≡ steps_on b → properties_of c.served ≡ properties_of b.served
    → steps_through m.worker (searches_left_by c m) (steps_on b) ≤ (limits.skeletons + length (properties_of b.served)) * steps_on b → KeepsWithin limits c m
keeps-by limits b c m steps properties h =
    subst (λ (r : ℕ). steps_through m.worker (searches_left_by c m) r ≤ (limits.skeletons + length (properties_of c.served)) * r) (sym steps)
    (subst (λ (js : List ℕ). steps_through m.worker (searches_left_by c m) (steps_on b) ≤ (limits.skeletons + length js) * steps_on b) (sym properties) h)

fewer-through : (s n m r most : ℕ) → n * r ≤ m * r → s + m * r ≤ most → s + n * r ≤ most
fewer-through s n m r most fewer h = omega (arith, fewer, h)

other-within : (limits : Limits) (n turn : ℕ) (b c : BoardState) (m : BoardWorker) → IsBoard b → m.number ≢ n → GoesOnBy n turn b c → IsBoardWorker b m
    → KeepsWithin limits b m → KeepsWithin limits c m
other-within limits n turn b c m board other on is h =
    keeps-by limits b c m (steps-same b c n turn on) on.properties
    (fewer-through m.worker.meter.steps (searches_left_by c m) (searches_left_by b m) (steps_on b) ((limits.skeletons + length (properties_of b.served)) * steps_on b)
    (mul-le-mul_right (steps_on b) (other-searches n turn b c m board other on is)) h)

-- ---- the entries of each worker

by-own : (k turn : ℕ) (origin : Origin) → FromWorker origin (λ work. (work.author ≡ k) × (work.turn ≡ turn))
    → (is_by k origin ≡ true) × (turn_of origin ≡ turn)
by-own k turn Given found = absurd found
by-own k turn (FoundBy work) found = (eq-eqb work.author k found.0, found.1)

unlike : (n i k : ℕ) → n ≡ k → i ≢ k → (n == i) ≡ false
unlike n i k same other = ne_eqb n i (λ e. other (sym e ∙ same))

by-other : (i k turn : ℕ) (origin : Origin) → i ≢ k → FromWorker origin (λ work. (work.author ≡ k) × (work.turn ≡ turn)) → is_by i origin ≡ false
by-other i k turn Given other found = absurd found
by-other i k turn (FoundBy work) other found = unlike work.author i k found.0 other

-- the entries of a worker with those of a turn of its own,
own-mine : (k turn turns : ℕ) (found more : List CheckedEntry) → All (IsOfTurn k turn) more → length more + turn ≤ turns → turns ≤ turn + 1
    → Ascend k found turn → Ascend k (found ++ more) turns
own-mine k turn turns found [] each paid one a =
    ascend_later k found (found ++ []) turn turns (ap (found_by k) (append-nil found)) (omega (arith, paid)) a
own-mine k turn turns found (e ∷ []) each paid one a =
    let next : turn + 1 ≡ turns = omega (arith, paid, one) in
    let mine = by-own k turn e.origin (each 0 e (omega arith)) in
    subst (Ascend k (found ++ e ∷ [])) next (ascend_push k found (found ++ e ∷ []) e turn (found_own k found e mine.0) mine.1 a)
own-mine k turn turns found (e ∷ f ∷ more) each paid one a = absurd (omega (arith, paid, one))

-- and with those of another one's turn
own-other : (i k turn turns : ℕ) (found more : List CheckedEntry) → i ≢ k → All (IsOfTurn k turn) more → Ascend i found turns
    → Ascend i (found ++ more) turns
own-other i k turn turns found more other each a =
    ascend_later i found (found ++ more) turns turns
    (found_others i found more (λ m d below. by-other i k turn (get_or more m d).origin other (each m d below))) (omega arith) a

turns-here : (workers : List BoardWorker) (k : ℕ) (w : BoardWorker) → k < length workers → w ≡ get_or workers k w → turns_at workers k ≡ w.turns
turns-here workers k w below at = get_or-map (λ (m : BoardWorker). m.turns) workers k w 0 below ∙ ap (λ (m : BoardWorker). m.turns) (sym at)

turns-set : (workers : List BoardWorker) (k : ℕ) (v : BoardWorker) → k < length workers → turns_at (set workers k v) k ≡ v.turns
turns-set workers k v below =
    ap (λ (ts : List ℕ). get_or ts k 0) (map-set (λ (m : BoardWorker). m.turns) workers k v)
    ∙ get_or-set_same (map (λ (m : BoardWorker). m.turns) workers) k v.turns 0 (omega (arith, below, length-map workers (λ (m : BoardWorker). m.turns)))

turns-else : (workers : List BoardWorker) (k i : ℕ) (v : BoardWorker) → i ≢ k → turns_at (set workers k v) i ≡ turns_at workers i
turns-else workers k i v other =
    ap (λ (ts : List ℕ). get_or ts i 0) (map-set (λ (m : BoardWorker). m.turns) workers k v)
    ∙ get_or-set_other (map (λ (m : BoardWorker). m.turns) workers) k i v.turns 0 other

found-on : (n turn : ℕ) (b c : BoardState) → b.given ≤ length b.entries → (on : GoesOnBy n turn b c)
    → drop c.given c.entries ≡ drop b.given b.entries ++ on.entries.0
found-on n turn b c within on =
    ap (λ (m : ℕ). drop m c.entries) on.given ∙ ap (drop b.given) on.entries.1 ∙ drop-append-le b.given b.entries on.entries.0 within

own-turned : (b c : BoardState) (workers : List BoardWorker) (k : ℕ) (w v : BoardWorker) → IsBoard b → k < length workers → w ≡ get_or workers k w → w.number ≡ k
    → TakesTurn b w c v → ((i : ℕ) → Ascend i (drop b.given b.entries) (turns_at workers i))
    → (i : ℕ) → Ascend i (drop c.given c.entries) (turns_at (set workers k v) i)
own-turned b c workers k w v board below at number turn own i =
    let on : GoesOnBy w.number w.turns b c = turn.board in
    let found : List CheckedEntry = drop b.given b.entries in
    let more : List CheckedEntry = on.entries.0 in
    let split : drop c.given c.entries ≡ found ++ more = found-on w.number w.turns b c board.given on in
    let each : All (IsOfTurn k w.turns) more = subst (λ (n : ℕ). All (IsOfTurn n w.turns) more) number on.entries.2 in
    let paid : length more + w.turns ≤ v.turns = omega (arith, turn.paid, ap length on.entries.1, length-append b.entries more) in
    elim (same-or-not i k) [
      | inl same ↦
          let before : Ascend k found w.turns = subst (Ascend k found) (turns-here workers k w below at) (own k) in
          let mine : Ascend k (found ++ more) v.turns = own-mine k w.turns v.turns found more each paid turn.one before in
          subst (λ (m : ℕ). Ascend m (drop c.given c.entries) (turns_at (set workers k v) m)) (sym same)
          (subst (λ (es : List CheckedEntry). Ascend k es (turns_at (set workers k v) k)) (sym split)
          (subst (Ascend k (found ++ more)) (sym (turns-set workers k v below)) mine))
      | inr other ↦
          subst (λ (es : List CheckedEntry). Ascend i es (turns_at (set workers k v) i)) (sym split)
          (subst (Ascend i (found ++ more)) (sym (turns-else workers k i v other)) (own-other i k w.turns (turns_at workers i) found more other each (own i)))
    ]

-- each worker but the one whose turn it was
each-other : (P : BoardWorker → Type 0) (limits : Limits) (b : BoardState) (workers : List BoardWorker) (k : ℕ) (w v : BoardWorker)
    → AreWorkers limits b workers → k < length workers → w.number ≡ k → P v
    → ((i : ℕ) (d : BoardWorker) → i < length workers → (get_or workers i d).number ≢ w.number → P (get_or workers i d)) → All P (set workers k v)
each-other P limits b workers k w v are below mine here others = λ i d inside.
    elim (same-or-not i k) [
      | inl same ↦ subst P (sym (ap (λ m. get_or (set workers k v) m d) same ∙ get_or-set_same workers k v d below)) here
      | inr other ↦
          let there : i < length workers = omega (arith, inside, length-set workers k v) in
          subst P (sym (get_or-set_other workers k i v d other))
          (others i d there (λ e. other (sym (number-at limits b workers i d are there) ∙ e ∙ mine)))
    ]

-- a lasso worker has seen the given entries alone
seen-by-kind : (j : ℕ) (k : Known) (m : Spendings) (p : Phase) (o : Option LassoSearch) (s : LassoSearch) → o ≡ Some s → IsOfKind j k m p o → length k.list ≡ k.given
seen-by-kind j k m p None s same is = absurd (some-not-none s (sym same))
seen-by-kind j k m p (Some t) s same is = is.0.list

has-by-kind : (o q : Option LassoSearch) (s : LassoSearch) → o ≡ Some s → StaysOfKind o q → (t : LassoSearch) × (q ≡ Some t)
has-by-kind None q s same stays = absurd (some-not-none s (sym same))
has-by-kind (Some t) None s same stays = absurd stays
has-by-kind (Some t) (Some u) s same stays = (u, refl)

no-more : (xs : List CheckedEntry) (m n : ℕ) → m ≡ n + length xs → m ≤ n → xs ≡ []
no-more [] m n grown few = refl
no-more (x ∷ xs) m n grown few = absurd (omega (arith, grown, few))

-- what a lasso worker leaves of the list
quiet-turn : (b c : BoardState) (m n : BoardWorker) (s : LassoSearch) → IsBoard b → IsBoard c → IsBoardWorker b m → (turn : TakesTurn b m c n)
    → m.worker.lasso_search ≡ Some s → turn.board.entries.0 ≡ []
quiet-turn b c m n s before after is turn has =
    let on : GoesOnBy m.number m.turns b c = turn.board in
    let later = has-by-kind m.worker.lasso_search n.worker.lasso_search s has turn.kind in
    let was : length (list_of b m.number) ≡ b.given =
    seen-by-kind m.worker.property (known_at b m.number m.turns) m.worker.meter m.worker.phase m.worker.lasso_search s has is.worker.kind
    in
    let now : length (list_of c n.number) ≡ c.given =
    seen-by-kind n.worker.property (known_at c n.number n.turns) n.worker.meter n.worker.phase n.worker.lasso_search later.0 later.1 turn.worker.worker.kind
    in
    let seen : seen_by c m.number ≤ seen_by b m.number =
    subst (λ (i : ℕ). seen_by c i ≤ seen_by b m.number) turn.number
    (omega (arith, was, now, on.given, seen-size b m.number before is.number, seen-size c n.number after turn.worker.number))
    in
    no-more on.entries.0 (length c.entries) (length b.entries) (ap length on.entries.1 ∙ length-append b.entries on.entries.0) (on.quiet seen)

-- who found what a turn adds
turn-authors : (limits : Limits) (b c : BoardState) (w v : BoardWorker) (o : Option LassoSearch) → w.worker.lasso_search ≡ o → IsBoard b → IsBoard c
    → IsBoardWorker b w → IsNumbered limits w.number o → (turn : TakesTurn b w c v) → All (IsByRoundWorker limits) turn.board.entries.0
turn-authors limits b c w v None has before after is number turn =
    All-weaker (IsOfTurn w.number w.turns) (IsByRoundWorker limits) (λ e found. author-of w.number w.turns (round_workers limits) e.origin number found)
    turn.board.entries.0 turn.board.entries.2
  where
    author-of : (n turn most : ℕ) (origin : Origin) → n < most → FromWorker origin (λ work. (work.author ≡ n) × (work.turn ≡ turn))
        → FromWorker origin (λ work. work.author < most)
    author-of n turn most Given below found = found
    author-of n turn most (FoundBy work) below found = omega (arith, below, found.0)
turn-authors limits b c w v (Some s) has before after is number turn =
    subst (All (IsByRoundWorker limits)) (sym (quiet-turn b c w v s before after is turn has)) (All-nil (IsByRoundWorker limits))

authors-turned : (limits : Limits) (b c : BoardState) (w v : BoardWorker) → IsBoard b → IsBoard c → IsBoardWorker b w
    → IsNumbered limits w.number w.worker.lasso_search → TakesTurn b w c v → All (IsByRoundWorker limits) (drop b.given b.entries)
    → All (IsByRoundWorker limits) (drop c.given c.entries)
authors-turned limits b c w v before after is number turn authors =
    subst (All (IsByRoundWorker limits)) (sym (found-on w.number w.turns b c before.given turn.board))
    (All-append (IsByRoundWorker limits) (drop b.given b.entries) turn.board.entries.0 authors
    (turn-authors limits b c w v w.worker.lasso_search refl before after is number turn))

pub workers-turn : (limits : Limits) (b c : BoardState) (workers : List BoardWorker) (k : ℕ) (w v : BoardWorker) → IsBoard b → IsBoard c
    → AreWorkers limits b workers → k < length workers → w ≡ get_or workers k w → TakesTurn b w c v → AreWorkers limits c (set workers k v)
workers-turn limits b c workers k w v board after are below at turn =
    let mine : w.number ≡ k = ap (λ (u : BoardWorker). u.number) at ∙ number-at limits b workers k w are below in
    let numbers_same : map (λ (u : BoardWorker). u.number) (set workers k v) ≡ map (λ (u : BoardWorker). u.number) workers =
    map-set_same (λ (u : BoardWorker). u.number) workers k v w (turn.number ∙ ap (λ (u : BoardWorker). u.number) at)
    in
    record {
      numbers = λ i inside. ap (λ xs. get_or xs i 0) numbers_same ∙ are.numbers i (omega (arith, inside, length-set workers k v));
      each = each-other (IsBoardWorker c) limits b workers k w v are below mine turn.worker
          (λ i d there other. other-stays w.number w.turns b c (get_or workers i d) board other turn.board (are.each i d there));
      kinds = All-set (λ u. IsNumbered limits u.number u.worker.lasso_search) workers k v
          (subst (λ (n : ℕ). IsNumbered limits n v.worker.lasso_search) (sym turn.number)
          (numbered-on limits w.number w.worker.lasso_search v.worker.lasso_search turn.kind
          (subst (λ (u : BoardWorker). IsNumbered limits u.number u.worker.lasso_search) (sym at) (are.kinds k w below)))) are.kinds;
      within = All-set (λ u. IsWithLimits limits u.worker.meter) workers k v
          (within-on limits w.worker.meter v.worker.meter turn.limits
          (subst (λ (u : BoardWorker). IsWithLimits limits u.worker.meter) (sym at) (are.within k w below))) are.within;
      steps =
          let most : ℕ = (limits.skeletons + length (properties_of b.served)) * steps_on b in
          let before : KeepsWithin limits b w = subst (KeepsWithin limits b) (sym at) (are.steps k w below) in
          let here : KeepsWithin limits c v =
          keeps-by limits b c v (steps-same b c w.number w.turns turn.board) turn.board.properties
          (steps-kept v.worker.meter.steps w.worker.meter.steps (searches_left_by c v) (searches_left_by b w) (steps_on b) most turn.steps before)
          in
          each-other (KeepsWithin limits c) limits b workers k w v are below mine here
          (λ i d there other. other-within limits w.number w.turns b c (get_or workers i d) board other turn.board (are.each i d there) (are.steps i d there));
      own = own-turned b c workers k w v board below at mine turn are.own;
      authors = authors-turned limits b c w v board after (subst (IsBoardWorker b) (sym at) (are.each k w below))
          (subst (λ (u : BoardWorker). IsNumbered limits u.number u.worker.lasso_search) (sym at) (are.kinds k w below)) turn are.authors;
    }

-- a turn of a worker to which the board is lent
pub board-turn : (b : BoardState) (m : BoardWorker) (t : LentBoard) (v : Worker) → IsBoard b → IsBoardWorker b m
    → StaysLent (record { board = b; number = m.number; seen = m.seen; turns = m.turns }) t
    → Turns 0 (known_at b m.number m.turns) m.worker (known_of t) v
    → TakesTurn b m t.board (record { number = m.number; seen = t.seen; turns = t.turns; worker = v })
board-turn b m t v board is stays turn = record {
  worker = record {
    number = subst (λ (n : ℕ). n < t.board.workers) stays.number stays.lent.number;
    seen = subst (λ (n : ℕ). t.seen ≡ seen_by t.board n) stays.number stays.lent.seen;
    worker = subst (λ (n : ℕ). IsWorker (known_at t.board n t.turns) v) stays.number turn.worker;
  };
  board = stays.board;
  number = refl;
  one = stays.one;
  paid = stays.paid;
  kind = turn.kind;
  limits = turn.limits;
  less = subst (λ (n : ℕ). left_to (known_at t.board n t.turns) v < left_by b m) stays.number turn.less;
  steps = subst (λ (n : ℕ). steps_through v (searches_left_to (known_at t.board n t.turns) v) (steps_on b) ≤ steps_through m.worker (searches_left_by b m) (steps_on b))
      stays.number
      (steps-over v.meter.steps (searches_left_to (known_of t) v) (steps_on b) (steps_through m.worker (searches_left_by b m) (steps_on b)) turn.steps);
}

-- of one worker less is left, of the others no more
sums-on : (f g : BoardWorker → ℕ) (workers : List BoardWorker) → All (λ m. g m ≤ f m) workers → sum_by g workers ≤ sum_by f workers
sums-on f g [] each = omega arith
sums-on f g (m ∷ workers) each =
    let here : g m ≤ f m = All-head (λ (u : BoardWorker). g u ≤ f u) m workers each in
    let rest : sum_by g workers ≤ sum_by f workers = sums-on f g workers (All-tail (λ (u : BoardWorker). g u ≤ f u) m workers each) in
    omega (arith, here, rest, sum_by-cons g m workers, sum_by-cons f m workers)

later-less : (f g : BoardWorker → ℕ) (x y : BoardWorker) (workers later : List BoardWorker) → g y ≤ f x → sum_by g later < sum_by f workers
    → sum_by g (y ∷ later) < sum_by f (x ∷ workers)
later-less f g x y workers later here rest = omega (arith, here, rest, sum_by-cons g y later, sum_by-cons f x workers)

first-less : (f g : BoardWorker → ℕ) (x y : BoardWorker) (workers : List BoardWorker) → g y < f x → sum_by g workers ≤ sum_by f workers
    → sum_by g (y ∷ workers) < sum_by f (x ∷ workers)
first-less f g x y workers here rest = omega (arith, here, rest, sum_by-cons g y workers, sum_by-cons f x workers)

sums-less : (f g : BoardWorker → ℕ) (workers : List BoardWorker) (k : ℕ) (w v : BoardWorker) → k < length workers → w ≡ get_or workers k w → g v < f w
    → ((i : ℕ) (d : BoardWorker) → i < length workers → i ≢ k → g (get_or workers i d) ≤ f (get_or workers i d))
    → sum_by g (set workers k v) < sum_by f workers
sums-less f g [] k w v below at less others = absurd (omega arith)
sums-less f g (x ∷ workers) zero w v below at less others =
    let rest : sum_by g workers ≤ sum_by f workers = sums-on f g workers (λ i d inside. others (suc i) d (omega arith) (λ e. omega arith)) in
    let here : g v < f x = subst (λ (u : BoardWorker). g v < f u) at less in
    first-less f g x v workers here rest
sums-less f g (x ∷ workers) (suc k) w v below at less others =
    later-less f g x x workers (set workers k v) (others 0 x (omega arith) (λ e. omega arith))
    (sums-less f g workers k w v (omega arith) at less (λ i d inside other. others (suc i) d (omega arith) (λ e. other (omega (arith, e)))))

pub less-turn : (limits : Limits) (b c : BoardState) (workers : List BoardWorker) (k : ℕ) (w v : BoardWorker) → IsBoard b → AreWorkers limits b workers
    → k < length workers → w ≡ get_or workers k w → TakesTurn b w c v → left_of c (set workers k v) < left_of b workers
less-turn limits b c workers k w v board are below at turn =
    let mine : w.number ≡ k = ap (λ (u : BoardWorker). u.number) at ∙ number-at limits b workers k w are below in
    sums-less (left_by b) (left_by c) workers k w v below at turn.less
    (λ i d there other. other-left w.number w.turns b c (get_or workers i d) board
    (λ e. other (sym (number-at limits b workers i d are there) ∙ e ∙ mine)) turn.board (are.each i d there))

within-of : (n turn most : ℕ) (origin : Origin) → turn < most → FromWorker origin (λ work. (work.author ≡ n) × (work.turn ≡ turn))
    → FromWorker origin (λ work. work.turn < most)
within-of n turn most Given below found = found
within-of n turn most (FoundBy work) below found = omega (arith, below, found.1)

within-more : (most more : ℕ) (origin : Origin) → most ≤ more → FromWorker origin (λ work. work.turn < most) → FromWorker origin (λ work. work.turn < more)
within-more most more Given less found = found
within-more most more (FoundBy work) less found = omega (arith, less, found)

pub follows-turn : (b c : BoardState) (m n : BoardWorker) → IsBoard b → IsBoard c → IsBoardWorker b m → is_running m.worker.phase ≡ true → TakesTurn b m c n
    → Follows b c
follows-turn b c m n before after is running turn =
    let most : ℕ = turns_on b in
    let on : GoesOnBy m.number m.turns b c = turn.board in
    let found : All (IsFoundWithin most) on.entries.0 =
    elim (turn-of-kind (known_at b m.number m.turns) m.worker m.worker.lasso_search refl is.worker running) [
      | inl below ↦
          All-weaker (IsOfTurn m.number m.turns) (IsFoundWithin most) (λ e found. within-of m.number m.turns most e.origin below found) on.entries.0 on.entries.2
      | inr search ↦
          subst (All (IsFoundWithin most)) (sym (quiet-turn b c m n search.0 before after is turn search.1)) (All-nil (IsFoundWithin most))
    ]
    in
    record {
      board = after;
      circuit = on.circuit;
      properties = on.properties;
      workers = on.workers;
      limit = on.limit;
      given = on.given;
      entries = (on.entries.0, on.entries.1, found);
    }

pub most-least : (limit first given more properties last : ℕ) → limit ≡ min (given + more) most_entries → first ≡ given
    → ((limit - first) + properties) * 3 + last + 3 ≤ 3 * (more + 1 + properties) + last
most-least limit first given more properties last short same = few limit first more properties last (room limit first given more short same)
  where
    room : (limit first given more : ℕ) → limit ≡ min (given + more) most_entries → first ≡ given → limit - first ≤ more
    room limit first given more short same = grind (arith)

    few : (limit first more properties last : ℕ) → limit - first ≤ more → ((limit - first) + properties) * 3 + last + 3 ≤ 3 * (more + 1 + properties) + last
    few limit first more properties last less = omega (arith, less)

-- the turns that a worker has over a board, in the words of its task
turns-least : (task : Task) (b : BoardState) → IsBoardOf task b → turns_on b ≤ most_turns task
turns-least task b is =
    subst (λ (js : List ℕ). turns_on b ≤ 3 * (task.limits.skeletons + 1 + length js) + last_turns js) is.properties
    (most-least b.limit b.given (length task.given) task.limits.skeletons (length (properties_of b.served)) (last_turns (properties_of b.served)) is.limit is.given)

board-of-on : (task : Task) (b c : BoardState) → IsBoardOf task b → Follows b c → ((w : ℕ) → AscendBy w (drop c.given c.entries))
    → All (IsByRoundWorker task.limits) (drop c.given c.entries) → IsBoardOf task c
board-of-on task b c is on own authors = record {
  board = on.board;
  circuit = on.circuit ∙ is.circuit;
  properties = on.properties ∙ is.properties;
  workers = on.workers ∙ is.workers;
  limit = on.limit ∙ is.limit;
  given = on.given ∙ is.given;
  entries = (
    is.entries.0 ++ on.entries.0,
    on.entries.1 ∙ ap (λ xs. xs ++ on.entries.0) is.entries.1 ∙ append_assoc task.given is.entries.0 on.entries.0,
    All-append (IsFoundWithin (most_turns task)) is.entries.0 on.entries.0 is.entries.2
        (All-weaker (IsFoundWithin (turns_on b)) (IsFoundWithin (most_turns task))
        (λ e found. within-more (turns_on b) (most_turns task) e.origin (turns-least task b is) found) on.entries.0 on.entries.2),
  );
  own = λ w. subst (λ (n : ℕ). AscendBy w (drop n c.entries)) (on.given ∙ is.given) (own w);
  authors = subst (λ (n : ℕ). All (IsByRoundWorker task.limits) (drop n c.entries)) (on.given ∙ is.given) authors;
}

pub workers-on : (task : Task) (b c : BoardState) (workers later : List BoardWorker) → ServeTask task b workers → Follows b c
    → AreWorkers task.limits c later → length later ≡ length workers → ServeTask task c later
workers-on task b c workers later is on are size = record {
  board = board-of-on task b c is.board on (λ w. (are.own w).0) are.authors;
  count = size ∙ is.count;
  workers = are;
}

-- ---- the end

-- a worker that has seen as many entries as there may be has seen all
seen-whole : (b : BoardState) (n : ℕ) → IsBoard b → n < b.workers → length (list_of b n) ≡ b.limit → list_of b n ≡ b.entries
seen-whole b n is below full =
    take_all (seen_by b n) b.entries (omega (arith, seen-size b n is below, full, is.within))

full-on : (b : BoardState) (n turns : ℕ) → IsBoard b → n < b.workers → IsStuck (known_at b n turns) → IsFull b
full-on b n turns is below h =
    let whole : list_of b n ≡ b.entries = seen-whole b n is below h.full in
    record {
      full = ap length (sym whole) ∙ h.full;
      allows = λ j is_open.
          (let left = h.allows j is_open.0 (ap is_some is_open.1) in
          (left.0, subst (λ (xs : List CheckedEntry). IsAllowed b.circuit j (plain xs) left.0) whole left.1));
    }

settled-on : (b : BoardState) (n turns : ℕ) → AreSettled (known_at b n turns) → IsSettled b.served
settled-on b n turns h = λ j is_open. is-not-none (outcome_of b.served j) (h j is_open.0) is_open.1

-- what a worker that has ended tells of its board
told : (j : ℕ) (b : BoardState) (n turns : ℕ) (meter : Spendings) (p : Phase) → IsBoard b → n < b.workers → is_running p ≡ false
    → IsIn j (known_at b n turns) meter p → Tells b meter p
told j b n turns meter phases.Asks is below ended h = absurd (false≢true (sym ended))
told j b n turns meter phases.Looks is below ended h = absurd (false≢true (sym ended))
told j b n turns meter phases.Searches is below ended h = absurd (false≢true (sym ended))
told j b n turns meter (phases.AsksLast from) is below ended h = absurd (false≢true (sym ended))
told j b n turns meter phases.LooksLast is below ended h = absurd (false≢true (sym ended))
told j b n turns meter phases.SearchesLast is below ended h = absurd (false≢true (sym ended))
told j b n turns meter (phases.AsksDeeper after) is below ended h = absurd (false≢true (sym ended))
told j b n turns meter (phases.Deepens after) is below ended h = absurd (false≢true (sym ended))
told j b n turns meter phases.Closed is below ended h = settled-on b n turns h
told j b n turns meter phases.Full is below ended h = full-on b n turns is below h
told j b n turns meter phases.Spent is below ended h = h
told j b n turns meter phases.Deep is below ended h = tt
told j b n turns meter phases.Refused is below ended h = tt

abbrev end_of : BoardWorker → WorkerEnd
end_of m = end_as m.worker

-- in the words of the task
pub kind-told : (task : Task) (c : Circuit) (properties : List ℕ) (spent : Spendings) (p : Phase) (done : Option ℕ) → c ≡ task.circuit → properties ≡ task.properties
    → IsEndOfKind task.limits c properties spent p done → IsEndOfKind task.limits task.circuit task.properties spent p done
kind-told task c properties spent p done circuit same is =
    subst (λ (js : List ℕ). IsEndOfKind task.limits task.circuit js spent p done) same
    (subst (λ (d : Circuit). IsEndOfKind task.limits d properties spent p done) circuit is)

done-with : (task : Task) (b : BoardState) (workers : List BoardWorker) (k : ℕ) (d : BoardWorker) → ServeTask task b workers
    → HaveEnded workers → k < length workers → IsInBudget (get_or workers k d).worker.meter → IsDone task b (end_of (get_or workers k d))
done-with task b workers k d is over below within =
    let m : BoardWorker = get_or workers k d in
    let mine : IsBoardWorker b m = is.workers.each k d below in
    record {
      spent = record {
        limits = is.workers.within k d below;
        within = within;
        most = steps-least task b.circuit (properties_of b.served) m.worker.meter.steps is.board.circuit is.board.properties
            (steps-last m.worker.meter.steps (searches_left_by b m) (steps_on b) ((task.limits.skeletons + length (properties_of b.served)) * steps_on b)
            (is.workers.steps k d below));
      };
      tells = told m.worker.property b m.number m.turns m.worker.meter m.worker.phase is.board.board mine.number (runs-here workers k d below ∙ over k below)
          mine.worker.phase;
      kind = kind-told task b.circuit (properties_of b.served) m.worker.meter m.worker.phase (done_in m.worker.lasso_search) is.board.circuit is.board.properties
          (ends-kind task.limits m.number m.worker.property (known_at b m.number m.turns) m.worker.meter m.worker.phase m.worker.lasso_search
          (runs-here workers k d below ∙ over k below) (is.workers.kinds k d below) mine.worker.kind);
    }

-- the ends of workers are in the order of their numbers
ends-in-order : (task : Task) (b : BoardState) (workers : List BoardWorker) → AreWorkers task.limits b workers
    → (k : ℕ) (d : WorkerEnd) → k < length (map end_of workers) → IsEndNumbered task.limits k (get_or (map end_of workers) k d).done
ends-in-order task b workers are k d below =
    let inside : k < length workers = omega (arith, below, length-map workers end_of) in
    let none : BoardWorker = first-one workers k inside in
    let m : BoardWorker = get_or workers k none in
    subst (λ (e : WorkerEnd). IsEndNumbered task.limits k e.done) (sym (get_or-map end_of workers k none d inside))
    (subst (λ (n : ℕ). IsEndNumbered task.limits n (done_in m.worker.lasso_search)) (number-at task.limits b workers k none are inside)
    (ends-numbered task.limits m.number m.worker.lasso_search (are.kinds k none inside)))
  where
    first-one : (workers : List BoardWorker) (k : ℕ) → k < length workers → BoardWorker
    first-one [] k below = absurd (omega arith)
    first-one (w ∷ workers) k below = w

-- workers that have all ended are done with their board
pub done-all : (task : Task) (b : BoardState) (workers : List BoardWorker) (ends : List WorkerEnd) → ServeTask task b workers
    → HaveEnded workers → ends ≡ map (λ m. end_as m.worker) workers → All (λ e. IsInBudget e.spent) ends
    → AreDone task b ends
done-all task b workers ends is over same within =
    let all : All (λ (e : WorkerEnd). IsInBudget e.spent) (map end_of workers) = subst (All (λ (e : WorkerEnd). IsInBudget e.spent)) same within in
    let budget : (k : ℕ) (d : BoardWorker) → k < length workers → IsInBudget (get_or workers k d).worker.meter = λ k d below.
    subst (λ (e : WorkerEnd). IsInBudget e.spent) (get_or-map end_of workers k d (end_of d) below) (all k (end_of d) (omega (arith, below, length-map workers end_of)))
    in
    record {
      board = is.board;
      count = ap length same ∙ length-map workers end_of ∙ is.count;
      each = subst (All (IsDone task b)) (sym same)
          (All-map (IsDone task b) end_of workers (λ k d below. done-with task b workers k d is over below (budget k d below)));
      numbered = subst (λ (es : List WorkerEnd). (k : ℕ) (d : WorkerEnd) → k < length es → IsEndNumbered task.limits k (get_or es k d).done) (sym same)
          (ends-in-order task b workers is.workers);
    }

-- ---- the first board

pub first-seen : (b : BoardState) (c : Circuit) (properties : List ℕ) (workers more : ℕ) (given : List CheckedEntry)
    → b ≡ first_board c properties workers more given → (n : ℕ) → n < b.workers → seen_by b n ≡ length b.entries
first-seen b c properties workers more given e =
    subst (λ (d : BoardState). (n : ℕ) → n < d.workers → seen_by d n ≡ length d.entries) (sym e)
    (λ n below. get_or-replicate workers n (length given) 0 below)

served-of : (js : List ℕ) → properties_of (map (λ j. record { property = j; outcome = None }) js) ≡ js
served-of [] = refl
served-of (j ∷ js) = ap (λ (is : List ℕ). j ∷ is) (served-of js)

pub first-of : (b : BoardState) (task : Task) → b ≡ first_board task.circuit task.properties task.limits.workers task.limits.skeletons task.given → IsBoard b
    → IsBoardOf task b
first-of b task e is = record {
  board = is;
  circuit = ap (λ (d : BoardState). d.circuit) e;
  properties = ap (λ (d : BoardState). properties_of d.served) e ∙ served-of task.properties;
  workers = ap (λ (d : BoardState). d.workers) e;
  limit = ap (λ (d : BoardState). d.limit) e;
  given = ap (λ (d : BoardState). d.given) e;
  entries = ([], ap (λ (d : BoardState). d.entries) e ∙ sym (append-nil task.given), All-nil (IsFoundWithin (most_turns task)));
  own = λ w. (ascend_empty w (drop (length task.given) b.entries) 0
      (ap (λ (d : BoardState). found_by w (drop (length task.given) d.entries)) e ∙ ap (found_by w) (drop_all (length task.given) task.given (omega arith)))).0;
  authors = subst (All (IsByRoundWorker task.limits))
      (sym (ap (λ (d : BoardState). drop (length task.given) d.entries) e ∙ drop_all (length task.given) task.given (omega arith)))
      (All-nil (IsByRoundWorker task.limits));
}

pub first-fresh : (b : BoardState) (c : Circuit) (properties : List ℕ) (workers more : ℕ) (given : List CheckedEntry)
    → b ≡ first_board c properties workers more given → length b.entries ≡ b.given
first-fresh b c properties workers more given e = subst (λ (d : BoardState). length d.entries ≡ d.given) (sym e) refl

pub first-grows : (b : BoardState) (c : Circuit) (properties : List ℕ) (workers more : ℕ) (given : List CheckedEntry)
    → b ≡ first_board c properties workers more given → b.limit ≤ length b.entries + more
first-grows b c properties workers more given e =
    subst (λ (d : BoardState). d.limit ≤ length d.entries + more) (sym e) (least-left (length given + more) most_entries)
  where
    least-left : (m n : ℕ) → min m n ≤ m
    least-left m n = grind (arith)

-- over it workers may begin
pub fresh-of : (b : BoardState) (task : Task) → b ≡ first_board task.circuit task.properties task.limits.workers task.limits.skeletons task.given
    → AreServed task.circuit task.properties → AreLimits task.limits → ServesOne task.limits task.properties → IsFresh task b
fresh-of b task e served limits one = record {
  limits = limits;
  one = one;
  properties = ap (λ (d : BoardState). properties_of d.served) e ∙ served-of task.properties;
  served = subst (λ (d : BoardState). AreServed d.circuit (properties_of d.served)) (sym e)
      (subst (λ (js : List ℕ). AreServed task.circuit js) (sym (served-of task.properties)) served);
  workers = sym (ap (λ (d : BoardState). d.workers) e);
  seen = first-seen b task.circuit task.properties task.limits.workers task.limits.skeletons task.given e;
  fresh = first-fresh b task.circuit task.properties task.limits.workers task.limits.skeletons task.given e;
  grows = first-grows b task.circuit task.properties task.limits.workers task.limits.skeletons task.given e;
}

-- the workers with which a task begins
pub serve-first : (b : BoardState) (task : Task) (workers : List BoardWorker)
    → b ≡ first_board task.circuit task.properties task.limits.workers task.limits.skeletons task.given → IsBoard b
    → length workers ≡ task.limits.workers → AreWorkers task.limits b workers → ServeTask task b workers
serve-first b task workers e is count are = record { board = first-of b task e is; count = count; workers = are }
