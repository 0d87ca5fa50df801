-- What a worker's calls come to, by what it knows.
use Rattle.std.proofs.Common.{◌≡◌, ℕ, max, min, ◌+◌, ◌-◌, ◌*◌, ◌^◌, ◌<◌, ◌≤◌, Bool, true, false, cond, ◌⊎◌, inl, inr, List, [], ◌∷◌, ◌++◌, length, get_or, refl, sym, ap, ◌∙◌, subst, arith}
use Rattle.std.specs.Prelude.{◌==◌, nat_lt, Option, Some, None, Result, Ok, Err, Contains, IfSome, IfOk}
use Rattle.std.specs.List.{Any, AllPairs}
use Rattle.std.proofs.lemmas.Bool.{both_ways, cases_lt, eqb-true, eqb-false, ltb-true, ltb-false}
use Rattle.std.proofs.lemmas.List.{length-append, map-append, append_assoc, append-nil}
use Rattle.std.proofs.Math.Nat.{mul-le-mul_right}
use Rattle.aig_semantics.specs.Circuits.{Circuit, fair_literals}
use Rattle.edge.specs.Units.{Spendings}
use Rattle.fair_semantics.specs.Entries.{Entry, used_entries, AreClosed}
use Rattle.fair_semantics.specs.Skeletons.{IsSkeleton}
use Rattle.entry.specs.CheckedEntries.{CheckedEntry, GoesOnFrom}
use Rattle.skeleton.specs.Finding.{Asking, IsAllowed}
use Rattle.entry.specs.declared.origins.Origin.{Origin}
use Rattle.entry.specs.declared.origins.Origin.TheVariants.{Given, Worker as FoundBy}
use Rattle.wall_store.specs.declared.outcomes.Outcome.{Outcome}
use Rattle.wall_store.specs.declared.outcomes.Outcome.TheVariants as outcomes
use Rattle.wall_store.specs.declared.outcomes.Posted.{Posted}
use Rattle.wall_store.specs.declared.outcomes.Posted.TheVariants as posts
use Rattle.wall_store.specs.Boards.{FromWorker, IsTrueOf, most_entries, plain}
use Rattle.fair_round.specs.Spending.{Asks, path_steps}
use Rattle.fair_round.specs.Deeds.{IsTrueBehind, IsWorkOf}
use Rattle.fair_workers.specs.Runs.{AreServed, last_turns, most_situations}
use Rattle.shared_lists.specs.Knowing.{Known, AreSettled, Keeps, KeepsList, SeesMore, IsNext, HasAsked, HasPosted, HasFinished, IsOwn}
use Rattle.fair_workers.specs.declared.working.Phase.{Phase}
use Rattle.fair_workers.specs.declared.working.Phase.TheVariants as phases
use Rattle.fair_workers.specs.declared.working.Worker.{Worker}
use Rattle.fair_workers.specs.Working.{left, left_in, left_to, left_at_first, searches_in, searches_left_in, searches_left_to, search_steps, steps_through, room_of, ahead_of, is_running, phase_after, phase_finished, phase_passed, serving, asked, asked_last, AreRoundsOf, IsAtLimit, IsAllowing, IsStuck, IsPast, ServesLast, IsIn, IsOfKind, IsWorker, StaysOfKind, Turns, Thinks, first_left, is_deep, is_round}
use Rattle.fair_workers.specs.declared.lasso_search.LassoSearch.{LassoSearch}
use Rattle.fair_workers.proofs.WorkerKinds.{same-kind, round-kind, round-runs}
use Rattle.fair_workers.proofs.Ahead.{Stay, was-open, only-in, none-above, are-two, last-of-two, some-in, ahead-on, looks-ahead, asks-ahead, full-ahead, last-looks-ahead, passed-ahead, passed-out, finished-ahead, finished-out, settled-out, serves-searches, serves-last, ahead-within, ahead-less, searches-some, looks-some, running-left, ended-left, ended-searches, turn-searches, situations-within}
use Rattle.fair_round.proofs.Counting.{steps-fewer, steps-behind}

-- ---- outcomes that are handed in

pub true-of : (c : Circuit) (entries : List CheckedEntry) (j : ℕ) (o : Outcome) → IsTrueBehind c (plain entries) j o → IsTrueOf c entries j o
true-of c entries j (outcomes.Lasso lasso) h = h
true-of c entries j (outcomes.Holds r) h = h

-- ---- lists that go on

pub goes-on-more : (seen : List Entry) (entries more : List CheckedEntry) → GoesOnFrom seen (plain entries) → GoesOnFrom seen (plain (entries ++ more))
goes-on-more seen entries more h =
    (h.0 ++ plain more, map-append (λ (e : CheckedEntry). e.entry) entries more ∙ ap (λ xs. xs ++ plain more) h.1 ∙ append_assoc seen h.0 (plain more))

goes-on-in : (seen : List Entry) (k l : Known) → SeesMore k l → GoesOnFrom seen (plain k.list) → GoesOnFrom seen (plain l.list)
goes-on-in seen k l sees h =
    subst (λ (xs : List CheckedEntry). GoesOnFrom seen (plain xs)) (sym sees.list.1) (goes-on-more seen k.list sees.list.0 h)

rounds-in : (r : Option Asking) (j : ℕ) (k l : Known) → SeesMore k l → IfSome r (AreRoundsOf k.circuit j (plain k.list))
    → IfSome r (AreRoundsOf l.circuit j (plain l.list))
rounds-in None j k l sees h = tt
rounds-in (Some r) j k l sees h = record {
  circuit = h.circuit ∙ sym sees.keeps.circuit;
  property = h.property;
  on = goes-on-in r.seen k l sees h.on;
}

pub rounds-same : (r : Option Asking) (j : ℕ) (k l : Known) → l.circuit ≡ k.circuit → l.list ≡ k.list → IfSome r (AreRoundsOf k.circuit j (plain k.list))
    → IfSome r (AreRoundsOf l.circuit j (plain l.list))
rounds-same r j k l circuit list h =
    subst (λ (xs : List CheckedEntry). IfSome r (AreRoundsOf l.circuit j (plain xs))) (sym list)
    (subst (λ (c : Circuit). IfSome r (AreRoundsOf c j (plain k.list))) (sym circuit) h)

-- rounds that were just made have seen nothing
pub made-rounds : {E : Type 0} (r : Result Asking E) (c : Circuit) (j : ℕ) (xs : List Entry)
    → IfOk r (λ made. made ≡ record { circuit = c; property = j; seen = [] }) → IfOk r (AreRoundsOf c j xs)
made-rounds (Ok r) c j xs made = record {
  circuit = ap (λ (a : Asking). a.circuit) made;
  property = ap (λ (a : Asking). a.property) made;
  on = (xs, sym (ap (λ (a : Asking). a.seen ++ xs) made));
}
made-rounds (Err e) c j xs made = tt

-- rounds that are kept of a property are of that
pub rounds-served : (r : Option Asking) (c : Circuit) (i j : ℕ) (seen : List Entry) (b : Bool) → (i == j) ≡ b → IfSome r (AreRoundsOf c i seen)
    → IfSome (cond b r None) (AreRoundsOf c j seen)
rounds-served r c i j seen true same h = subst (λ (m : ℕ). IfSome r (AreRoundsOf c m seen)) (eqb-true i j same) h
rounds-served r c i j seen false same h = tt

pub served-on : (k l : Known) → l.circuit ≡ k.circuit → l.properties ≡ k.properties → AreServed k.circuit k.properties → AreServed l.circuit l.properties
served-on k l circuit properties h =
    subst (λ (c : Circuit). AreServed c l.properties) (sym circuit) (subst (λ (js : List ℕ). AreServed k.circuit js) (sym properties) h)

no-shorter : (k l : Known) → SeesMore k l → length k.list ≤ length l.list
no-shorter k l sees = omega (arith, ap length sees.list.1, length-append k.list sees.list.0)

none-more : (xs : List CheckedEntry) → length xs ≡ 0 → xs ≡ []
none-more [] e = refl
none-more (x ∷ xs) e = absurd (omega (arith, e))

full-same : (k l : Known) → SeesMore k l → IsAtLimit k → l.list ≡ k.list
full-same k l sees full =
    let none : length sees.list.0 ≡ 0 =
    omega (arith, ap length sees.list.1, length-append k.list sees.list.0, sees.within, sees.keeps.limit, full)
    in
    sees.list.1 ∙ ap (λ xs. k.list ++ xs) (none-more sees.list.0 none) ∙ append-nil k.list

-- ---- one property

-- an outcome of the only property settles all
pub settled-only : (j : ℕ) (k : Known) → length k.properties ≡ 1 → Contains k.properties j → k.settled j ≡ true → AreSettled k
settled-only j k one inside has i there = subst (λ (m : ℕ). k.settled m ≡ true) (sym (only-in k.properties i j one there inside)) has

-- ---- what a full list allows

pub allowing-on : (k l : Known) (i : ℕ) → l.circuit ≡ k.circuit → l.list ≡ k.list → IsAllowing k i → IsAllowing l i
allowing-on k l i circuit list (s, h) = (
  s,
  subst (λ (xs : List CheckedEntry). IsAllowed l.circuit i (plain xs) s) (sym list)
      (subst (λ (c : Circuit). IsAllowed c i (plain k.list) s) (sym circuit) h),
)

inside-back : (k l : Known) (i : ℕ) → l.properties ≡ k.properties → Contains l.properties i → Contains k.properties i
inside-back k l i same inside = subst (λ (js : List ℕ). Contains js i) same inside

inside-on : (k l : Known) (i : ℕ) → l.properties ≡ k.properties → Contains k.properties i → Contains l.properties i
inside-on k l i same inside = subst (λ (js : List ℕ). Contains js i) (sym same) inside

at-limit-on : (k l : Known) → l.limit ≡ k.limit → l.list ≡ k.list → IsAtLimit k → IsAtLimit l
at-limit-on k l limit list full = ap length list ∙ full ∙ sym limit

pub past-on : (n : ℕ) (k l : Known) → l.circuit ≡ k.circuit → l.properties ≡ k.properties → l.limit ≡ k.limit → l.list ≡ k.list → Stay k.settled l.settled
    → IsPast n k → IsPast n l
past-on n k l circuit properties limit list stay h = record {
  full = at-limit-on k l limit list h.full;
  below = λ i inside less unsettled.
      allowing-on k l i circuit list
      (h.below i (inside-back k l i properties inside) less (was-open k.settled l.settled i stay unsettled));
}

pub stuck-on : (k l : Known) → l.circuit ≡ k.circuit → l.properties ≡ k.properties → l.limit ≡ k.limit → l.list ≡ k.list → Stay k.settled l.settled
    → IsStuck k → IsStuck l
stuck-on k l circuit properties limit list stay h = record {
  full = at-limit-on k l limit list h.full;
  allows = λ i inside unsettled.
      allowing-on k l i circuit list (h.allows i (inside-back k l i properties inside) (was-open k.settled l.settled i stay unsettled));
}

-- none below the first number was passed
past-none : (k : Known) → IsAtLimit k → IsPast 0 k
past-none k full = record { full = full; below = λ i inside less unsettled. absurd (omega (arith, less)) }

-- the next open property, with those that were passed over
past-next : (from j : ℕ) (k : Known) → from ≤ j → IsNext k from j → IsPast from k → IsPast j k
past-next from j k low next h = record {
  full = h.full;
  below = λ i inside less unsettled.
      elim (cases_lt i from) [
        | inl before ↦ h.below i inside before unsettled
        | inr behind ↦ absurd (both_ways (k.settled i) unsettled (next.passed i inside behind (inl less)))
      ];
}

-- where the next one is below, all that are open were passed
stuck-next : (from j : ℕ) (k : Known) → j < from → IsNext k from j → IsPast from k → IsStuck k
stuck-next from j k below next h = record {
  full = h.full;
  allows = λ i inside unsettled.
      elim (cases_lt i from) [
        | inl before ↦ h.below i inside before unsettled
        | inr behind ↦ absurd (both_ways (k.settled i) unsettled (next.passed i inside behind (inr below)))
      ];
}

-- behind a property of which a skeleton is left
past-more : (j : ℕ) (k : Known) → IsAllowing k j → IsPast j k → IsPast (j + 1) k
past-more j k left h = record {
  full = h.full;
  below = λ i inside less unsettled.
      elim (cases_lt i j) [
        | inl before ↦ h.below i inside before unsettled
        | inr behind ↦ (let same : i ≡ j = omega (arith, behind, less) in subst (λ (m : ℕ). IsAllowing k m) (sym same) left)
      ];
}

-- behind the last one
stuck-last : (j : ℕ) (k : Known) → AllPairs (λ a b. a < b) k.properties → get_or k.properties (length k.properties - 1) 0 ≤ j → IsAllowing k j → IsPast j k
    → IsStuck k
stuck-last j k ascend last left h = record {
  full = h.full;
  allows = λ i inside unsettled.
      elim (cases_lt i j) [
        | inl before ↦ h.below i inside before unsettled
        | inr behind ↦
            (let most : i ≤ get_or k.properties (length k.properties - 1) 0 = none-above k.properties i ascend inside in
            let same : i ≡ j = omega (arith, behind, most, last) in
            subst (λ (m : ℕ). IsAllowing k m) (sym same) left)
      ];
}

-- ---- turns in general

keeps-self : (k : Known) → Keeps k k
keeps-self k = record { circuit = refl; properties = refl; number = refl; given = refl; limit = refl; turns = omega arith; settled = λ j h. h }

same : (k : Known) → KeepsList k k
same k = record { keeps = keeps-self k; list = refl }

room-kept : (k l : Known) → KeepsList k l → room_of l ≤ room_of k
room-kept k l h = omega (arith, h.keeps.limit, ap length h.list)

room-seen : (k l : Known) → SeesMore k l → room_of l ≤ room_of k
room-seen k l h = omega (arith, h.keeps.limit, no-shorter k l h)

room-grown : (k l : Known) → SeesMore k l → length k.list < length l.list → room_of l + 1 ≤ room_of k
room-grown k l h grown = omega (arith, h.keeps.limit, h.within, grown)

last-kept : (k l : Known) → Keeps k l → last_turns l.properties ≡ last_turns k.properties
last-kept k l h = ap last_turns h.properties

first-kept : (m n g h a b s t : ℕ) → n ≡ m → h ≡ g → b ≡ a → t ≡ s → ((m - g) + a) * 3 + s + 3 ≤ ((n - h) + b) * 3 + t + 3
first-kept m n g h a b s t limit given properties last = omega (arith, limit, given, properties, last)

pub first-on : (k l : Known) → l.limit ≡ k.limit → l.given ≡ k.given → l.properties ≡ k.properties → left_at_first k ≤ left_at_first l
first-on k l limit given properties =
    first-kept k.limit l.limit k.given l.given (length k.properties) (length l.properties) (last_turns k.properties) (last_turns l.properties) limit given
    (ap length properties) (ap last_turns properties)

pub turns-on : (t u a b m n : ℕ) → u ≤ t + 1 → b < a → t + a ≤ m → m ≤ n → u + b ≤ n
turns-on t u a b m n one less within most = omega (arith, one, less, within, most)

pub short-on : (m n : ℕ) → n ≡ m → m ≤ most_entries → n ≤ most_entries
short-on m n limit short = omega (arith, limit, short)

-- a worker has as many turns at first as before
pub first-kind-on : (k l : Known) (o q : Option LassoSearch) → l.limit ≡ k.limit → l.given ≡ k.given → l.properties ≡ k.properties → StaysOfKind o q
    → first_left k o ≤ first_left l q
first-kind-on k l None None limit given properties stays = first-on k l limit given properties
first-kind-on k l None (Some t) limit given properties stays = absurd stays
first-kind-on k l (Some s) None limit given properties stays = absurd stays
first-kind-on k l (Some s) (Some t) limit given properties stays = omega (arith, stays)

-- A turn, by what it leaves: the worker v has spent nothing more.
pub made-turn : (searches : ℕ) (k l : Known) (w v : Worker) → IsWorker k w → StaysOfKind w.lasso_search v.lasso_search → IsOfKind v.property l v.meter v.phase v.lasso_search
    → Keeps k l → v.meter ≡ w.meter → IfSome v.rounds (AreRoundsOf l.circuit v.property (plain l.list)) → IsIn v.property l v.meter v.phase
    → left_to l v < left_to k w → searches_left_to l v + searches ≤ searches_left_to k w → Turns searches k w l v
made-turn searches k l w v is stays kind kept meter rounds here less fewer = record {
  worker = record {
    served = served-on k l kept.circuit kept.properties is.served;
    rounds = rounds;
    phase = here;
    short = short-on k.limit l.limit kept.limit is.short;
    kind = kind;
    turns = turns-on k.turns l.turns (left_to k w) (left_to l v) (first_left k w.lasso_search) (first_left l v.lasso_search) kept.turns less is.turns
        (first-kind-on k l w.lasso_search v.lasso_search kept.limit kept.given kept.properties stays);
  };
  kind = stays;
  limits = record { conflicts = ap (λ (s : Spendings). s.conflict_limit) meter; steps = ap (λ (s : Spendings). s.step_limit) meter };
  less = less;
  steps = steps-fewer v.meter.steps w.meter.steps (searches_left_to l v) (searches_left_to k w) searches (search_steps k.circuit k.properties)
      (omega (arith, ap (λ (s : Spendings). s.steps) meter)) fewer;
}

-- the same of a worker that is in a phase of rounds, and stays so or ends
round-turn : (searches : ℕ) (k l : Known) (w v : Worker) → IsWorker k w → is_round w.phase ≡ true → v.lasso_search ≡ w.lasso_search → is_deep v.phase ≡ false
    → Keeps k l → v.meter ≡ w.meter → IfSome v.rounds (AreRoundsOf l.circuit v.property (plain l.list)) → IsIn v.property l v.meter v.phase
    → left_to l v < left_to k w → searches_left_to l v + searches ≤ searches_left_to k w → Turns searches k w l v
round-turn searches k l w v is round same plain kept meter rounds here less fewer =
    made-turn searches k l w v is (subst (λ (o : Option LassoSearch). StaysOfKind w.lasso_search o) (sym same) (same-kind w.lasso_search))
    (subst (λ (o : Option LassoSearch). IsOfKind v.property l v.meter v.phase o) (sym same)
    (round-kind w.property v.property k l w.meter v.meter w.phase v.phase w.lasso_search is.kind round plain))
    kept meter rounds here less fewer

none-left : (a b : ℕ) → b ≡ 0 → 0 < a → b < a
none-left a b none some = omega (arith, none, some)

none-searched : (a b s : ℕ) → b ≡ 0 → s ≤ a → b + s ≤ a
none-searched a b s none few = omega (arith, none, few)

ended-turn : (k l : Known) (w : Worker) (p : Phase) → IsWorker k w → Keeps k l → IfSome w.rounds (AreRoundsOf l.circuit w.property (plain l.list))
    → is_round w.phase ≡ true → is_running p ≡ false → is_deep p ≡ false → IsIn w.property l w.meter p → Turns (searches_in w.phase) k w l (record w { phase = p })
ended-turn k l w p is kept rounds round ended plain here =
    round-turn (searches_in w.phase) k l w (record w { phase = p }) is round refl plain kept refl rounds here
    (none-left (left_to k w) (left_in l w.property p) (ended-left l w.property p ended)
    (running-left k w.property w.meter w.phase (round-runs w.phase round) is.phase))
    (none-searched (searches_left_to k w) (searches_left_in l w.property p) (searches_in w.phase) (ended-searches l w.property p ended)
    (turn-searches k w.property w.meter w.phase is.phase))

-- a turn in which the worker ends, and the list stays
pub end-turn : (k l : Known) (w : Worker) (p : Phase) → IsWorker k w → KeepsList k l → is_round w.phase ≡ true → is_running p ≡ false
    → is_deep p ≡ false → IsIn w.property l w.meter p → Turns (searches_in w.phase) k w l (record w { phase = p })
end-turn k l w p is kept round ended plain here =
    ended-turn k l w p is kept.keeps (rounds-same w.rounds w.property k l kept.keeps.circuit kept.list is.rounds) round ended plain here

-- where no call is made
pub stop-turn : (k : Known) (w : Worker) (p : Phase) → IsWorker k w → is_round w.phase ≡ true → is_running p ≡ false → is_deep p ≡ false
    → IsIn w.property k w.meter p → Turns (searches_in w.phase) k w k (record w { phase = p })
stop-turn k w p is round ended plain here = end-turn k k w p is (same k) round ended plain here

pub runs-in : (p q : Phase) → p ≡ q → is_running q ≡ true → is_running p ≡ true
runs-in p q e running = ap is_running e ∙ running

pub round-in : (p q : Phase) → p ≡ q → is_round q ≡ true → is_round p ≡ true
round-in p q e round = ap is_round e ∙ round

-- what is known in the phase of a worker
here-in : (k : Known) (w : Worker) (p : Phase) → IsWorker k w → w.phase ≡ p → IsIn w.property k w.meter p
here-in k w p is e = subst (λ q. IsIn w.property k w.meter q) e is.phase

-- ---- the questions

less-asked : (r q a b m n : ℕ) → q ≤ r → b ≤ a → n ≡ m → (q + b) * 3 + n + 2 < (r + a) * 3 + m + 3
less-asked r q a b m n room ahead last = omega (arith, room, ahead, last)

kept-searches : (r q a b : ℕ) → q ≤ r → b ≤ a → q + b + 0 ≤ r + a
kept-searches r q a b room ahead = omega (arith, room, ahead)

asked-next : (k l : Known) (w : Worker) (j : ℕ) → IsWorker k w → w.phase ≡ phases.Asks → KeepsList k l → IsNext l w.property j
    → Turns 0 k w l (serving j phases.Looks w)
asked-next k l w j is phase kept next =
    let e = kept.keeps in
    let v : Worker = serving j phases.Looks w in
    let ahead : ahead_of l j phases.Looks ≤ ahead_of k w.property phases.Asks =
    ahead-within k l w.property j phases.Asks phases.Looks e.properties (looks-ahead k.settled l.settled w.property j e.settled next.unsettled)
    in
    round-turn 0 k l w v is (round-in w.phase phases.Asks phase refl) refl refl e refl
    (rounds-served w.rounds l.circuit w.property j (plain l.list) (w.property == j) refl
    (rounds-same w.rounds w.property k l e.circuit kept.list is.rounds))
    next.served
    (subst (λ p. left_in l j phases.Looks < left_in k w.property p) (sym phase)
    (less-asked (room_of k) (room_of l) (ahead_of k w.property phases.Asks) (ahead_of l j phases.Looks) (last_turns k.properties) (last_turns l.properties)
    (room-kept k l kept) ahead (last-kept k l e)))
    (subst (λ p. searches_left_in l j phases.Looks + 0 ≤ searches_left_in k w.property p) (sym phase)
    (kept-searches (room_of k) (room_of l) (ahead_of k w.property phases.Asks) (ahead_of l j phases.Looks) (room-kept k l kept) ahead))

pub ask-turn : (k l : Known) (w : Worker) (r : Option ℕ) → IsWorker k w → w.phase ≡ phases.Asks → HasAsked k w.property r l → Turns 0 k w l (asked r w)
ask-turn k l w None is phase h =
    subst (λ p. Turns (searches_in p) k w l (record w { phase = phases.Closed })) phase
    (end-turn k l w phases.Closed is h.keeps (round-in w.phase phases.Asks phase refl) refl refl h.tells)
ask-turn k l w (Some j) is phase h = asked-next k l w j is phase h.keeps h.tells

less-asked-last : (a b m n : ℕ) → b ≤ a → n ≡ m → b * 3 + n - 1 < (a * 3 + m - 1) + 1
less-asked-last a b m n ahead last = omega (arith, ahead, last)

asked-last-next : (k l : Known) (w : Worker) (from j : ℕ) → IsWorker k w → w.phase ≡ phases.AsksLast from → KeepsList k l → IsNext l from j → from ≤ j
    → Turns 0 k w l (serving j phases.LooksLast w)
asked-last-next k l w from j is phase kept next low =
    let e = kept.keeps in
    let v : Worker = serving j phases.LooksLast w in
    let past : IsPast from l = past-on from k l e.circuit e.properties e.limit kept.list e.settled (here-in k w (phases.AsksLast from) is phase) in
    let ahead : ahead_of l j phases.LooksLast ≤ ahead_of k w.property (phases.AsksLast from) =
    ahead-within k l w.property j (phases.AsksLast from) phases.LooksLast e.properties
    (last-looks-ahead k.settled l.settled w.property from j e.settled low next.unsettled)
    in
    round-turn 0 k l w v is (round-in w.phase (phases.AsksLast from) phase refl) refl refl e refl
    (rounds-served w.rounds l.circuit w.property j (plain l.list) (w.property == j) refl
    (rounds-same w.rounds w.property k l e.circuit kept.list is.rounds))
    (record { served = next.served; past = past-next from j l low next past })
    (subst (λ p. left_in l j phases.LooksLast < left_in k w.property p) (sym phase)
    (less-asked-last (ahead_of k w.property (phases.AsksLast from)) (ahead_of l j phases.LooksLast) (last_turns k.properties) (last_turns l.properties) ahead
    (last-kept k l e)))
    (subst (λ p. searches_left_in l j phases.LooksLast + 0 ≤ searches_left_in k w.property p) (sym phase) (omega arith))

asked-last-stuck : (k l : Known) (w : Worker) (from j : ℕ) → IsWorker k w → w.phase ≡ phases.AsksLast from → KeepsList k l → IsNext l from j → j < from
    → Turns 0 k w l (record w { phase = phases.Full })
asked-last-stuck k l w from j is phase kept next below =
    let e = kept.keeps in
    let past : IsPast from l = past-on from k l e.circuit e.properties e.limit kept.list e.settled (here-in k w (phases.AsksLast from) is phase) in
    subst (λ p. Turns (searches_in p) k w l (record w { phase = phases.Full })) phase
    (end-turn k l w phases.Full is kept (round-in w.phase (phases.AsksLast from) phase refl) refl refl (stuck-next from j l below next past))

asked-last-by : (k l : Known) (w : Worker) (from j : ℕ) (b : Bool) → nat_lt j from ≡ b → IsWorker k w → w.phase ≡ phases.AsksLast from → KeepsList k l
    → IsNext l from j → Turns 0 k w l (cond b (record w { phase = phases.Full }) (serving j phases.LooksLast w))
asked-last-by k l w from j true test is phase kept next = asked-last-stuck k l w from j is phase kept next (ltb-true j from test)
asked-last-by k l w from j false test is phase kept next = asked-last-next k l w from j is phase kept next (ltb-false j from test)

pub ask-last-turn : (k l : Known) (w : Worker) (from : ℕ) (r : Option ℕ) → IsWorker k w → w.phase ≡ phases.AsksLast from → HasAsked k from r l
    → Turns 0 k w l (asked_last from r w)
ask-last-turn k l w from None is phase h =
    subst (λ p. Turns (searches_in p) k w l (record w { phase = phases.Closed })) phase
    (end-turn k l w phases.Closed is h.keeps (round-in w.phase (phases.AsksLast from) phase refl) refl refl h.tells)
ask-last-turn k l w from (Some j) is phase h = asked-last-by k l w from j (nat_lt j from) refl is phase h.keeps h.tells

-- ---- looks

less-looked : (r q a b m n : ℕ) → q ≤ r → b ≤ a → n ≡ m → (q + b) * 3 + n + 1 < (r + a) * 3 + m + 2
less-looked r q a b m n room ahead last = omega (arith, room, ahead, last)

pub look-turn : (k l : Known) (w : Worker) → IsWorker k w → w.phase ≡ phases.Looks → SeesMore k l → Turns 0 k w l (record w { phase = phases.Searches })
look-turn k l w is phase sees =
    let e = sees.keeps in
    let j : ℕ = w.property in
    let ahead : ahead_of l j phases.Searches ≤ ahead_of k j phases.Looks =
    ahead-within k l j j phases.Looks phases.Searches e.properties (ahead-on k.settled l.settled j phases.Looks e.settled)
    in
    round-turn 0 k l w (record w { phase = phases.Searches }) is (round-in w.phase phases.Looks phase refl) refl refl e refl (rounds-in w.rounds j k l sees is.rounds)
    (inside-on k l j e.properties (here-in k w phases.Looks is phase))
    (subst (λ p. left_in l j phases.Searches < left_in k j p) (sym phase)
    (less-looked (room_of k) (room_of l) (ahead_of k j phases.Looks) (ahead_of l j phases.Searches) (last_turns k.properties) (last_turns l.properties)
    (room-seen k l sees) ahead (last-kept k l e)))
    (subst (λ p. searches_left_in l j phases.Searches + 0 ≤ searches_left_in k j p) (sym phase)
    (kept-searches (room_of k) (room_of l) (ahead_of k j phases.Looks) (ahead_of l j phases.Searches) (room-seen k l sees) ahead))

less-looked-last : (a b m n : ℕ) → 1 ≤ a → b ≤ a → n ≡ m → b * 3 + n - 2 < a * 3 + m - 1
less-looked-last a b m n some ahead last = omega (arith, some, ahead, last)

pub look-last-turn : (k l : Known) (w : Worker) → IsWorker k w → w.phase ≡ phases.LooksLast → SeesMore k l
    → Turns 0 k w l (record w { phase = phases.SearchesLast })
look-last-turn k l w is phase sees =
    let e = sees.keeps in
    let j : ℕ = w.property in
    let was : ServesLast j k = here-in k w phases.LooksLast is phase in
    let list : l.list ≡ k.list = full-same k l sees was.past.full in
    let ahead : ahead_of l j phases.SearchesLast ≤ ahead_of k j phases.LooksLast =
    ahead-within k l j j phases.LooksLast phases.SearchesLast e.properties (ahead-on k.settled l.settled j phases.LooksLast e.settled)
    in
    round-turn 0 k l w (record w { phase = phases.SearchesLast }) is (round-in w.phase phases.LooksLast phase refl) refl refl e refl (rounds-in w.rounds j k l sees is.rounds)
    (record {
      served = inside-on k l j e.properties was.served;
      past = past-on j k l e.circuit e.properties e.limit list e.settled was.past;
    })
    (subst (λ p. left_in l j phases.SearchesLast < left_in k j p) (sym phase)
    (less-looked-last (ahead_of k j phases.LooksLast) (ahead_of l j phases.SearchesLast) (last_turns k.properties) (last_turns l.properties)
    (looks-some k j was.served) ahead (last-kept k l e)))
    (subst (λ p. searches_left_in l j phases.SearchesLast + 0 ≤ searches_left_in k j p) (sym phase) (omega arith))

-- ---- posts

less-grown : (r q a b m n : ℕ) → q + 1 ≤ r → b ≤ a → n ≡ m → (q + b) * 3 + n + 3 < (r + a) * 3 + m + 1
less-grown r q a b m n room ahead last = omega (arith, room, ahead, last)

grown-searches : (r q a b : ℕ) → q + 1 ≤ r → b ≤ a → q + b + 1 ≤ r + a
grown-searches r q a b room ahead = omega (arith, room, ahead)

grown-turn : (k l : Known) (w : Worker) → IsWorker k w → w.phase ≡ phases.Searches → SeesMore k l → length k.list < length l.list
    → Turns 1 k w l (record w { phase = phases.Asks })
grown-turn k l w is phase sees grown =
    let e = sees.keeps in
    let j : ℕ = w.property in
    let ahead : ahead_of l j phases.Asks ≤ ahead_of k j phases.Searches =
    ahead-within k l j j phases.Searches phases.Asks e.properties (asks-ahead k.settled l.settled j j e.settled)
    in
    let room : room_of l + 1 ≤ room_of k = room-grown k l sees grown in
    round-turn 1 k l w (record w { phase = phases.Asks }) is (round-in w.phase phases.Searches phase refl) refl refl e refl (rounds-in w.rounds j k l sees is.rounds) tt
    (subst (λ p. left_in l j phases.Asks < left_in k j p) (sym phase)
    (less-grown (room_of k) (room_of l) (ahead_of k j phases.Searches) (ahead_of l j phases.Asks) (last_turns k.properties) (last_turns l.properties)
    room ahead (last-kept k l e)))
    (subst (λ p. searches_left_in l j phases.Asks + 1 ≤ searches_left_in k j p) (sym phase)
    (grown-searches (room_of k) (room_of l) (ahead_of k j phases.Searches) (ahead_of l j phases.Asks) room ahead))

less-full : (r a b m n : ℕ) → 1 ≤ a → b ≤ a → n ≡ m → (b * 3 + n - 1) + 1 < (r + a) * 3 + m + 1
less-full r a b m n some ahead last = omega (arith, some, ahead, last)

full-searches : (r a : ℕ) → 1 ≤ a → 0 + 1 ≤ r + a
full-searches r a some = omega (arith, some)

full-turn : (k l : Known) (w : Worker) → IsWorker k w → w.phase ≡ phases.Searches → SeesMore k l → IsAtLimit l
    → Turns 1 k w l (record w { phase = phases.AsksLast 0 })
full-turn k l w is phase sees full =
    let e = sees.keeps in
    let j : ℕ = w.property in
    let some : 1 ≤ ahead_of k j phases.Searches = searches-some k j (here-in k w phases.Searches is phase) in
    let ahead : ahead_of l j (phases.AsksLast 0) ≤ ahead_of k j phases.Searches =
    ahead-within k l j j phases.Searches (phases.AsksLast 0) e.properties (full-ahead k.settled l.settled j j e.settled)
    in
    round-turn 1 k l w (record w { phase = phases.AsksLast 0 }) is (round-in w.phase phases.Searches phase refl) refl refl e refl (rounds-in w.rounds j k l sees is.rounds) (past-none l full)
    (subst (λ p. left_in l j (phases.AsksLast 0) < left_in k j p) (sym phase)
    (less-full (room_of k) (ahead_of k j phases.Searches) (ahead_of l j (phases.AsksLast 0)) (last_turns k.properties) (last_turns l.properties) some ahead
    (last-kept k l e)))
    (subst (λ p. searches_left_in l j (phases.AsksLast 0) + 1 ≤ searches_left_in k j p) (sym phase)
    (full-searches (room_of k) (ahead_of k j phases.Searches) some))

post-by : (k l : Known) (w : Worker) (r : Posted) → IsWorker k w → w.phase ≡ phases.Searches → HasPosted k r l
    → Turns 1 k w l (record w { phase = phase_after r })
post-by k l w (posts.Appended n) is phase h = grown-turn k l w is phase h.sees h.tells
post-by k l w (posts.Stale n) is phase h = grown-turn k l w is phase h.sees h.tells
post-by k l w posts.Full is phase h = full-turn k l w is phase h.sees h.tells
post-by k l w posts.Closed is phase h =
    subst (λ p. Turns (searches_in p) k w l (record w { phase = phases.Closed })) phase
    (ended-turn k l w phases.Closed is h.sees.keeps (rounds-in w.rounds w.property k l h.sees is.rounds) (round-in w.phase phases.Searches phase refl) refl refl h.tells)

pub post-turn : (k l : Known) (w : Worker) (r : Posted) → IsWorker k w → w.phase ≡ phases.Searches → HasPosted k r l
    → Turns (searches_in w.phase) k w l (record w { phase = phase_after r })
post-turn k l w r is phase h = subst (λ p. Turns (searches_in p) k w l (record w { phase = phase_after r })) (sym phase) (post-by k l w r is phase h)

-- ---- outcomes that are handed in

less-finished : (r q a b m n : ℕ) → q ≤ r → b + 1 ≤ a → n ≡ m → (q + b) * 3 + n + 3 < (r + a) * 3 + m + 1
less-finished r q a b m n room ahead last = omega (arith, room, ahead, last)

finished-searches : (r q a b : ℕ) → q ≤ r → b + 1 ≤ a → q + b + 1 ≤ r + a
finished-searches r q a b room ahead = omega (arith, room, ahead)

finish-more : (k l : Known) (w : Worker) → IsWorker k w → w.phase ≡ phases.Searches → HasFinished w.property k l
    → Turns 1 k w l (record w { phase = phases.Asks })
finish-more k l w is phase h =
    let e = h.keeps.keeps in
    let j : ℕ = w.property in
    let ahead : ahead_of l j phases.Asks + 1 ≤ ahead_of k j phases.Searches =
    ahead-less k l j j j phases.Searches phases.Asks e.properties (asks-ahead k.settled l.settled j j e.settled) (here-in k w phases.Searches is phase)
    (settled-out l.settled j j h.settled) (serves-searches k.settled j)
    in
    let room : room_of l ≤ room_of k = room-kept k l h.keeps in
    round-turn 1 k l w (record w { phase = phases.Asks }) is (round-in w.phase phases.Searches phase refl) refl refl e refl (rounds-same w.rounds j k l e.circuit h.keeps.list is.rounds) tt
    (subst (λ p. left_in l j phases.Asks < left_in k j p) (sym phase)
    (less-finished (room_of k) (room_of l) (ahead_of k j phases.Searches) (ahead_of l j phases.Asks) (last_turns k.properties) (last_turns l.properties)
    room ahead (last-kept k l e)))
    (subst (λ p. searches_left_in l j phases.Asks + 1 ≤ searches_left_in k j p) (sym phase)
    (finished-searches (room_of k) (room_of l) (ahead_of k j phases.Searches) (ahead_of l j phases.Asks) room ahead))

finish-only : (k l : Known) (w : Worker) → IsWorker k w → is_round w.phase ≡ true → Contains k.properties w.property → length k.properties ≡ 1
    → HasFinished w.property k l → Turns (searches_in w.phase) k w l (record w { phase = phases.Closed })
finish-only k l w is round inside one h =
    end-turn k l w phases.Closed is h.keeps round refl refl
    (settled-only w.property l (ap length h.keeps.keeps.properties ∙ one) (inside-on k l w.property h.keeps.keeps.properties inside) h.settled)

finish-by : (k l : Known) (w : Worker) (b : Bool) → (length k.properties == 1) ≡ b → IsWorker k w → w.phase ≡ phases.Searches → HasFinished w.property k l
    → Turns 1 k w l (record w { phase = cond b phases.Closed phases.Asks })
finish-by k l w true one is phase h =
    subst (λ p. Turns (searches_in p) k w l (record w { phase = phases.Closed })) phase
    (finish-only k l w is (round-in w.phase phases.Searches phase refl) (here-in k w phases.Searches is phase) (eqb-true (length k.properties) 1 one) h)
finish-by k l w false more is phase h = finish-more k l w is phase h

pub finish-turn : (k l : Known) (w : Worker) (properties : List ℕ) → properties ≡ k.properties → IsWorker k w → w.phase ≡ phases.Searches
    → HasFinished w.property k l → Turns (searches_in w.phase) k w l (record w { phase = phase_finished properties phases.Asks })
finish-turn k l w properties same is phase h =
    subst (λ p. Turns (searches_in p) k w l (record w { phase = phase_finished properties phases.Asks })) (sym phase)
    (subst (λ (js : List ℕ). Turns 1 k w l (record w { phase = phase_finished js phases.Asks })) (sym same)
    (finish-by k l w (length k.properties == 1) refl is phase h))

less-finished-last : (a b m n : ℕ) → b + 1 ≤ a → n ≡ m → m ≡ 1 → (b * 3 + n - 1) + 1 < a * 3 + m - 2
less-finished-last a b m n ahead last one = omega (arith, ahead, last, one)

more-than-one : (n : ℕ) → 0 < n → (n == 1) ≡ false → 2 ≤ n
more-than-one n some other =
    elim (cases_lt n 2) [
      | inl less ↦ absurd (eqb-false n 1 other (omega (arith, some, less)))
      | inr most ↦ most
    ]

finish-last-more : (k l : Known) (w : Worker) → 2 ≤ length k.properties → IsWorker k w → w.phase ≡ phases.SearchesLast → HasFinished w.property k l
    → Turns 0 k w l (record w { phase = phases.AsksLast w.property })
finish-last-more k l w two is phase h =
    let e = h.keeps.keeps in
    let j : ℕ = w.property in
    let was : ServesLast j k = here-in k w phases.SearchesLast is phase in
    let ahead : ahead_of l j (phases.AsksLast j) + 1 ≤ ahead_of k j phases.SearchesLast =
    ahead-less k l j j j phases.SearchesLast (phases.AsksLast j) e.properties (finished-ahead k.settled l.settled j j e.settled) was.served
    (finished-out l.settled j j h.settled) (serves-last k.settled j)
    in
    round-turn 0 k l w (record w { phase = phases.AsksLast j }) is (round-in w.phase phases.SearchesLast phase refl) refl refl e refl (rounds-same w.rounds j k l e.circuit h.keeps.list is.rounds)
    (past-on j k l e.circuit e.properties e.limit h.keeps.list e.settled was.past)
    (subst (λ p. left_in l j (phases.AsksLast j) < left_in k j p) (sym phase)
    (less-finished-last (ahead_of k j phases.SearchesLast) (ahead_of l j (phases.AsksLast j)) (last_turns k.properties) (last_turns l.properties) ahead
    (last-kept k l e) (last-of-two k.properties two)))
    (subst (λ p. searches_left_in l j (phases.AsksLast j) + 0 ≤ searches_left_in k j p) (sym phase) (omega arith))

finish-last-by : (k l : Known) (w : Worker) (b : Bool) → (length k.properties == 1) ≡ b → IsWorker k w → w.phase ≡ phases.SearchesLast
    → HasFinished w.property k l → Turns 0 k w l (record w { phase = cond b phases.Closed (phases.AsksLast w.property) })
finish-last-by k l w true one is phase h =
    subst (λ p. Turns (searches_in p) k w l (record w { phase = phases.Closed })) phase
    (finish-only k l w is (round-in w.phase phases.SearchesLast phase refl) (here-in k w phases.SearchesLast is phase).served
    (eqb-true (length k.properties) 1 one) h)
finish-last-by k l w false more is phase h =
    finish-last-more k l w
    (more-than-one (length k.properties) (some-in k.properties w.property (here-in k w phases.SearchesLast is phase).served) more) is phase h

pub finish-last-turn : (k l : Known) (w : Worker) (properties : List ℕ) → properties ≡ k.properties → IsWorker k w → w.phase ≡ phases.SearchesLast
    → HasFinished w.property k l → Turns (searches_in w.phase) k w l (record w { phase = phase_finished properties (phases.AsksLast w.property) })
finish-last-turn k l w properties same is phase h =
    subst (λ p. Turns (searches_in p) k w l (record w { phase = phase_finished properties (phases.AsksLast w.property) })) (sym phase)
    (subst (λ (js : List ℕ). Turns 0 k w l (record w { phase = phase_finished js (phases.AsksLast w.property) })) (sym same)
    (finish-last-by k l w (length k.properties == 1) refl is phase h))

-- ---- a property that is passed over

less-passed : (a b m : ℕ) → b + 1 ≤ a → m ≡ 1 → (b * 3 + m - 1) + 1 < a * 3 + m - 2
less-passed a b m ahead one = omega (arith, ahead, one)

pass-more : (k : Known) (w : Worker) → IsWorker k w → w.phase ≡ phases.SearchesLast → IsAllowing k w.property
    → w.property < get_or k.properties (length k.properties - 1) 0 → Turns 0 k w k (record w { phase = phases.AsksLast (w.property + 1) })
pass-more k w is phase left more =
    let j : ℕ = w.property in
    let was : ServesLast j k = here-in k w phases.SearchesLast is phase in
    let ahead : ahead_of k j (phases.AsksLast (j + 1)) + 1 ≤ ahead_of k j phases.SearchesLast =
    ahead-less k k j j j phases.SearchesLast (phases.AsksLast (j + 1)) refl (passed-ahead k.settled j j) was.served (passed-out k.settled j j)
    (serves-last k.settled j)
    in
    round-turn 0 k k w (record w { phase = phases.AsksLast (j + 1) }) is (round-in w.phase phases.SearchesLast phase refl) refl refl (keeps-self k) refl is.rounds (past-more j k left was.past)
    (subst (λ p. left_in k j (phases.AsksLast (j + 1)) < left_in k j p) (sym phase)
    (less-passed (ahead_of k j phases.SearchesLast) (ahead_of k j (phases.AsksLast (j + 1))) (last_turns k.properties) ahead
    (last-of-two k.properties (are-two k.properties j was.served more))))
    (subst (λ p. searches_left_in k j (phases.AsksLast (j + 1)) + 0 ≤ searches_left_in k j p) (sym phase) (omega arith))

pass-by : (k : Known) (w : Worker) (b : Bool) → nat_lt w.property (get_or k.properties (length k.properties - 1) 0) ≡ b → IsWorker k w
    → w.phase ≡ phases.SearchesLast → IsAllowing k w.property → Turns 0 k w k (record w { phase = cond b (phases.AsksLast (w.property + 1)) phases.Full })
pass-by k w true test is phase left = pass-more k w is phase left (ltb-true w.property (get_or k.properties (length k.properties - 1) 0) test)
pass-by k w false test is phase left =
    subst (λ p. Turns (searches_in p) k w k (record w { phase = phases.Full })) phase
    (stop-turn k w phases.Full is (round-in w.phase phases.SearchesLast phase refl) refl refl
    (stuck-last w.property k is.served.ascend (ltb-false w.property (get_or k.properties (length k.properties - 1) 0) test) left
    (here-in k w phases.SearchesLast is phase).past))

pub pass-turn : (k : Known) (w : Worker) (properties : List ℕ) → properties ≡ k.properties → IsWorker k w → w.phase ≡ phases.SearchesLast
    → IsAllowing k w.property → Turns (searches_in w.phase) k w k (record w { phase = phase_passed properties w.property })
pass-turn k w properties same is phase left =
    subst (λ p. Turns (searches_in p) k w k (record w { phase = phase_passed properties w.property })) (sym phase)
    (subst (λ (js : List ℕ). Turns 0 k w k (record w { phase = phase_passed js w.property })) (sym same)
    (pass-by k w (nat_lt w.property (get_or k.properties (length k.properties - 1) 0)) refl is phase left))

-- there is a last property
pub some-served : (k : Known) (w : Worker) (properties : List ℕ) → properties ≡ k.properties → IsWorker k w → w.phase ≡ phases.SearchesLast
    → 0 < length properties
some-served k w properties same is phase =
    subst (λ (js : List ℕ). 0 < length js) (sym same) (some-in k.properties w.property (here-in k w phases.SearchesLast is phase).served)

-- the property that is served is one of the circuit's
inside-at : (c : Circuit) (properties : List ℕ) (j : ℕ) → AreServed c properties → Contains properties j → j < length c.justice
inside-at c properties j h (k, below, at) = subst (λ (m : ℕ). m < length c.justice) at (h.inside k j below)

pub serves-inside : (k : Known) (w : Worker) → IsWorker k w → w.phase ≡ phases.Searches → w.property < length k.circuit.justice
serves-inside k w is phase = inside-at k.circuit k.properties w.property is.served (here-in k w phases.Searches is phase)

pub serves-last-inside : (k : Known) (w : Worker) → IsWorker k w → w.phase ≡ phases.SearchesLast → w.property < length k.circuit.justice
serves-last-inside k w is phase = inside-at k.circuit k.properties w.property is.served (here-in k w phases.SearchesLast is phase).served

pub serves-one : (k : Known) (w : Worker) → IsWorker k w → w.phase ≡ phases.Searches → Contains k.properties w.property
serves-one k w is phase = here-in k w phases.Searches is phase

pub serves-last-one : (k : Known) (w : Worker) → IsWorker k w → w.phase ≡ phases.SearchesLast → Contains k.properties w.property
serves-last-one k w is phase = (here-in k w phases.SearchesLast is phase).served

-- ---- turns that are taken

few-turns : (turns left most : ℕ) → turns + left ≤ most → 0 < left → turns < most
few-turns turns left most within some = omega (arith, within, some)

-- a turn that is taken is one of those that a worker has
turn-within : (k : Known) (w : Worker) → IsWorker k w → is_running w.phase ≡ true → k.turns < first_left k w.lasso_search
turn-within k w is running = few-turns k.turns (left_to k w) (first_left k w.lasso_search) is.turns (running-left k w.property w.meter w.phase running is.phase)

-- where it is no lasso worker, it is one of those of a worker with rounds
pub turn-of-kind : (k : Known) (w : Worker) (o : Option LassoSearch) → w.lasso_search ≡ o → IsWorker k w → is_running w.phase ≡ true
    → (k.turns < left_at_first k) ⊎ ((s : LassoSearch) × (o ≡ Some s))
turn-of-kind k w None same is running =
    inl (subst (λ (q : Option LassoSearch). k.turns < first_left k q) same (turn-within k w is running))
turn-of-kind k w (Some s) same is running = inr (s, refl)

last-few : (n : ℕ) → min 1 (n - 1) ≤ 1
last-few n = grind (arith)

first-few : (limit given properties last : ℕ) → limit ≤ 65536 → properties ≤ 536870912 → last ≤ 1
    → ((limit - given) + properties) * 3 + last + 3 < 4294967296
first-few limit given properties last short few one = omega (arith, short, few, one)

pub turn-fits : (t n : ℕ) → t < n → n < 4294967296 → t + 1 < 2 ^ 32
turn-fits t n less few = omega (arith, less, few)

deep-few : (depth : ℕ) → depth ≤ 65536 → depth * 2 + 3 < 4294967296
deep-few depth short = omega (arith, short)

first-fits : (k : Known) (j : ℕ) (m : Spendings) (p : Phase) (o : Option LassoSearch) → AreServed k.circuit k.properties → k.limit ≤ most_entries
    → IsOfKind j k m p o → first_left k o < 4294967296
first-fits k j m p None served short kind = first-few k.limit k.given (length k.properties) (last_turns k.properties) short served.few (last-few (length k.properties))
first-fits k j m p (Some s) served short kind = deep-few s.depth kind.0.search.short

-- there is a number for it
pub one-more-turn : (k : Known) (w : Worker) → IsWorker k w → is_running w.phase ≡ true → k.turns + 1 < 2 ^ 32
one-more-turn k w is running =
    turn-fits k.turns (first_left k w.lasso_search) (turn-within k w is running)
    (first-fits k w.property w.meter w.phase w.lasso_search is.served is.short is.kind)

pub one-more-in : (k : Known) (w : Worker) (p : Phase) → IsWorker k w → w.phase ≡ p → is_running p ≡ true → k.turns + 1 < 2 ^ 32
one-more-in k w p is phase running = one-more-turn k w is (runs-in w.phase p phase running)

-- ---- thinking

searches-same : (k : Known) (w v : Worker) → v.property ≡ w.property → v.phase ≡ w.phase → searches_left_to k v ≡ searches_left_to k w
searches-same k w v property phase =
    ap (λ p. searches_left_in k v.property p) phase ∙ ap (λ (m : ℕ). searches_left_in k m w.phase) property

left-same : (k : Known) (w v : Worker) → v.property ≡ w.property → v.phase ≡ w.phase → left_to k v ≡ left_to k w
left-same k w v property phase = ap (λ p. left_in k v.property p) phase ∙ ap (λ (m : ℕ). left_in k m w.phase) property

pub thinks_turn : (searches : ℕ) (k l : Known) (w v u : Worker) → Thinks searches k w v → Turns searches k v l u → Turns 0 k w l u
thinks_turn searches k l w v u t turn = record {
  worker = turn.worker;
  kind = subst (λ (o : Option LassoSearch). StaysOfKind o u.lasso_search) t.lasso_search turn.kind;
  limits = record { conflicts = turn.limits.conflicts ∙ t.limits.conflicts; steps = turn.limits.steps ∙ t.limits.steps };
  less = subst (λ (n : ℕ). left_to l u < n) (left-same k w v t.property t.phase) turn.less;
  steps =
      let cost : ℕ = search_steps k.circuit k.properties in
      let behind : steps_through u (searches_left_to l u + searches) cost ≤ v.meter.steps + searches_left_to k w * cost =
      subst (λ (n : ℕ). steps_through u (searches_left_to l u + searches) cost ≤ v.meter.steps + n * cost) (searches-same k w v t.property t.phase) turn.steps
      in
      steps-behind u.meter.steps v.meter.steps w.meter.steps searches (searches_left_to l u) (searches_left_to k w) cost t.steps behind;
}

-- a search that did not begin
pub counts-none : (n searches : ℕ) (x : Spendings) → Asks n searches x x
counts-none n searches x = record {
  conflict_limit = refl;
  step_limit = refl;
  conflicts = omega arith;
  steps = omega arith;
  bound = more x.steps (searches * path_steps n);
}
  where
    more : (a b : ℕ) → a ≤ a + b
    more a b = omega arith

-- one search, in the phase for it
pub thought : (p : Phase) (s t : ℕ) (c d : Circuit) (j : ℕ) (properties : List ℕ) → p ≡ phases.Searches → d ≡ c → Contains properties j
    → t ≤ s + (max 1 (length (fair_literals d j)) + 1) * path_steps (length d.latches) → t ≤ s + searches_in p * search_steps c properties
thought p s t c d j properties phase circuit inside h =
    subst (λ q. t ≤ s + searches_in q * search_steps c properties) (sym phase)
    (subst (λ (k : Circuit). t ≤ s + 1 * search_steps k properties) circuit
    (one t s ((max 1 (length (fair_literals d j)) + 1) * path_steps (length d.latches)) (search_steps d properties) h
    (mul-le-mul_right (path_steps (length d.latches)) (more (max 1 (length (fair_literals d j))) (most_situations d properties) (situations-within d properties j inside)))))
  where
    one : (t s r q : ℕ) → t ≤ s + r → r ≤ q → t ≤ s + 1 * q
    one t s r q h few = omega (arith, h, few)

    more : (m n : ℕ) → m ≤ n → m + 1 ≤ n + 1
    more m n h = omega (arith, h)

pub unthought : (s t k r : ℕ) → t ≡ s → t ≤ s + k * r
unthought s t k r same = omega (arith, same)

-- ---- posts

any-of : (P : ℕ → Type 0) (js : List ℕ) (j : ℕ) → Contains js j → P j → Any P js
any-of P js j (k, below, at) p = (k, j, below, at, p)

pub may-post : (j : ℕ) (k : Known) (e : CheckedEntry) (origin : Origin) → Contains k.properties j → e.circuit ≡ k.circuit
    → AreClosed (plain k.list) e.entry.uses → e.used ≡ used_entries (plain k.list) e.entry.uses
    → FromWorker origin (IsWorkOf k.circuit (plain k.list) j k.number k.turns) → FromWorker origin (IsOwn k e)
may-post j k e Given inside circuit closed used work = absurd work
may-post j k e (FoundBy found) inside circuit closed used work = record {
  circuit = circuit;
  author = work.author;
  turn = work.turn;
  closed = closed;
  used = used;
  skeleton = any-of (λ i. IsSkeleton k.circuit i found.skeleton) k.properties j inside work.allowed.skeleton;
  allowed = work.allowed.allowed;
}
