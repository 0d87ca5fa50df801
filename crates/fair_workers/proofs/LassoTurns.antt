-- What a lasso worker's turns come to, by what it knows.
use Rattle.std.proofs.Common.{◌≡◌, ℕ, ◌+◌, ◌-◌, ◌*◌, ◌^◌, ◌<◌, ◌≤◌, Bool, true, false, cond, inl, inr, List, [], ◌∷◌, length, refl, sym, ap, ◌∙◌, subst, arith}
use Rattle.std.specs.Prelude.{◌==◌, nat_le, Option, Some, None, Result, Ok, Err, Contains, IfSome, IfOk, OnOk}
use Rattle.std.proofs.lemmas.Bool.{false≢true, eqb-true, eqb-false, leb-true, leb-false}
use Rattle.aig_semantics.specs.declared.traces.Lasso.{Lasso}
use Rattle.aig_semantics.specs.Circuits.{Circuit}
use Rattle.edge.specs.Units.{Spendings}
use Rattle.edge.specs.Ends.{CountsConflicts}
use Rattle.lasso_bmc.specs.declared.deepening.Deepening.{Deepening}
use Rattle.lasso_bmc.specs.declared.ends.Searched.{Searched}
use Rattle.lasso_bmc.specs.Growing.{positions_in, IsGrown}
use Rattle.lasso_bmc.specs.Searching.{HasNoneWithin, IsSearched}
use Rattle.skeleton.specs.Finding.{Asking}
use Rattle.wall_store.specs.Boards.{plain}
use Rattle.fair_workers.specs.declared.lasso_search.LassoSearch.{LassoSearch}
use Rattle.fair_workers.specs.declared.working.Phase.{Phase}
use Rattle.fair_workers.specs.declared.working.Phase.TheVariants as phases
use Rattle.fair_workers.specs.declared.working.Worker.{Worker}
use Rattle.fair_workers.specs.Runs.{AreServed}
use Rattle.shared_lists.specs.Knowing.{Known, KeepsList, HasAsked, HasFinished}
use Rattle.fair_workers.specs.Working.{left_in, left_to, searches_left_in, searches_left_to, search_steps, steps_through, first_left, phase_deeper, phase_told, AreRoundsOf, HasSolver, IsBefore, IsBehind, IsDeepIn, IsIn, IsOfKind, IsSearchOf, IsSought, IsUpTo, IsWorker, Seeks, SeeksOn, StaysOfKind, Turns, UnlessFound}
use Rattle.fair_workers.proofs.Ahead.{first-in}
use Rattle.fair_workers.proofs.WorkerKinds.{same-kind, on-kind, seeks-on}
use Rattle.fair_workers.proofs.Turned.{made-turn, rounds-same, served-on, first-kind-on, turns-on, short-on, settled-only, turn-fits}
use Rattle.fair_round.proofs.Counting.{steps-fewer}

-- ---- the solver

-- a solver that was just made has the clauses of no position
pub made-solver : {E : Type 0} (r : Result Deepening E) (c : Circuit) (j done : ℕ) → done ≡ 0
    → IfOk r (λ d. (c : Circuit) (j : ℕ) → IsGrown c j d) → IfOk r (λ d. positions_in d ≡ 0) → IfOk r (IsUpTo c j done)
made-solver (Ok d) c j done none grown positions = record { grown = grown c j; positions = positions ∙ sym none }
made-solver (Err e) c j done none grown positions = tt

room-more : (positions done depth : ℕ) → positions ≡ done → done < depth → depth ≤ 65536 → positions + 1 < 2 ^ 32
room-more positions done depth same less short = omega (arith, same, less, short)

-- there is a number for one position more
pub room-for : (c : Circuit) (j : ℕ) (s : LassoSearch) (d : Deepening) → IsSearchOf c j s → s.done < s.depth → IsUpTo c j s.done d → positions_in d + 1 < 2 ^ 32
room-for c j s d is less up = room-more (positions_in d) s.done s.depth up.positions less is.short

pub none-for : (c : Circuit) (j : ℕ) (s : LassoSearch) (d : Deepening) → IsSearchOf c j s → IsUpTo c j s.done d → HasNoneWithin c j (positions_in d)
none-for c j s d is up = subst (λ (n : ℕ). HasNoneWithin c j n) (sym up.positions) is.none

-- what is answered, in the words of what was done
pub searched-more : {E : Type 0} (r : Result Searched E) (c : Circuit) (j done : ℕ) (d : Deepening) → IsUpTo c j done d
    → IfOk r (IsSearched c j (positions_in d + 1)) → IfOk r (IsSearched c j (done + 1))
searched-more r c j done d up h = subst (λ (n : ℕ). IfOk r (IsSearched c j (n + 1))) up.positions h

pub up-to-more : {T E : Type 0} (r : Result T E) (c : Circuit) (j done : ℕ) (d e : Deepening) → IsUpTo c j done d → OnOk r (IsGrown c j e)
    → OnOk r (positions_in e ≡ positions_in d + 1) → OnOk r (IsUpTo c j (done + 1) e)
up-to-more (Ok x) c j done d e up grown more = record { grown = grown; positions = more ∙ ap (λ (n : ℕ). n + 1) up.positions }
up-to-more (Err x) c j done d e up grown more = tt

-- behind simulation all positions of the depth are left
pub simulated-behind : (c : Circuit) (j after : ℕ) (s : LassoSearch) → IsBefore c j after s → s.depth - s.done ≤ after → IsBehind c j after s
simulated-behind c j after s is last = record { solver = is.solver; all = all-left s.done after s.depth is.most last }
  where
    all-left : (done after depth : ℕ) → done + after ≤ depth → depth - done ≤ after → done + after ≡ depth
    all-left done after depth most last = omega (arith, most, last)

-- behind a question one less
pub deepened-behind : (c : Circuit) (j after : ℕ) (s t : LassoSearch) → IsBefore c j after s → after < s.depth - s.done → t.depth ≡ s.depth → t.done ≡ s.done + 1
    → HasSolver c j t.done t.solver → IsBehind c j after t
deepened-behind c j after s t is more depth done solver = record {
  solver = solver;
  all = one-less s.done after s.depth t.done t.depth is.most is.least more depth done;
}
  where
    one-less : (done after depth now deep : ℕ) → done + after ≤ depth → depth ≤ done + after + 1 → after < depth - done → deep ≡ depth → now ≡ done + 1
        → now + after ≡ deep
    one-less done after depth now deep most least more same one = omega (arith, most, least, more, same, one)

pub more-left : (done after depth : ℕ) → after < depth - done → done < depth
more-left done after depth more = omega (arith, more)

unless-found : (P : Type 0) (found : Option Lasso) → P → UnlessFound P found
unless-found P None p = p
unless-found P (Some lasso) p = tt

pub found-behind : (c : Circuit) (j after : ℕ) (s : LassoSearch) (b : Bool) (found : Option Lasso) → IsBefore c j after s → b ≡ nat_le (s.depth - s.done) after
    → b ≡ true → UnlessFound (IsBehind c j after s) found
found-behind c j after s b found is test so =
    unless-found (IsBehind c j after s) found (simulated-behind c j after s is (leb-true (s.depth - s.done) after (sym test ∙ so)))

pub first-more : (s : LassoSearch) (after : ℕ) (b : Bool) → b ≡ nat_le (s.depth - s.done) after → b ≡ false → s.done < s.depth
first-more s after b test not_so = more-left s.done after s.depth (leb-false (s.depth - s.done) after (sym test ∙ not_so))

pub deepened-found : {E : Type 0} (r : Result (Option Lasso) E) (c : Circuit) (j after : ℕ) (s t : LassoSearch) (b : Bool) → IsBefore c j after s
    → b ≡ nat_le (s.depth - s.done) after → b ≡ false → t.depth ≡ s.depth → IfOk r (UnlessFound (t.done ≡ s.done + 1))
    → IfOk r (UnlessFound (HasSolver c j t.done t.solver)) → IfOk r (UnlessFound (IsBehind c j after t))
deepened-found (Ok None) c j after s t b is test not_so depth done solver =
    deepened-behind c j after s t is (leb-false (s.depth - s.done) after (sym test ∙ not_so)) depth done solver
deepened-found (Ok (Some lasso)) c j after s t b is test not_so depth done solver = tt
deepened-found (Err e) c j after s t b is test not_so depth done solver = tt

-- ---- the question

from-question : (j : ℕ) (k l : Known) (m : Spendings) (after : ℕ) (p : Phase) (o : Option LassoSearch) → l.circuit ≡ k.circuit → l.properties ≡ k.properties
    → l.given ≡ k.given → l.list ≡ k.list → ((s : LassoSearch) → IsBefore l.circuit j after s → IsDeepIn l.circuit j m s p)
    → IsOfKind j k m (phases.AsksDeeper after) o → IsOfKind j l m p o
from-question j k l m after p None circuit properties given list to is = absurd (false≢true (sym is))
from-question j k l m after p (Some s) circuit properties given list to is =
    (seeks-on j k l s circuit properties given list is.0, to s (subst (λ (c : Circuit). IsBefore c j after s) (sym circuit) is.1))

less-told : (after : ℕ) → after * 2 + 2 < after * 2 + 3
less-told after = omega arith

less-closed : (after : ℕ) → 0 < after * 2 + 3
less-closed after = omega arith

none-searched : (n : ℕ) → 0 + 0 ≤ n
none-searched n = omega arith

pub told-turn : (k l : Known) (w : Worker) (after : ℕ) (r : Option ℕ) → IsWorker k w → w.phase ≡ phases.AsksDeeper after → HasAsked k w.property r l
    → Turns 0 k w l (record w { phase = phase_told after r })
told-turn k l w after None is phase h =
    let e = h.keeps.keeps in
    made-turn 0 k l w (record w { phase = phases.Closed }) is (same-kind w.lasso_search)
    (from-question w.property k l w.meter after phases.Closed w.lasso_search e.circuit e.properties e.given h.keeps.list (λ s before. tt)
    (subst (λ p. IsOfKind w.property k w.meter p w.lasso_search) phase is.kind))
    e refl (rounds-same w.rounds w.property k l e.circuit h.keeps.list is.rounds) h.tells
    (subst (λ p. 0 < left_in k w.property p) (sym phase) (less-closed after)) (none-searched (searches_left_to k w))
told-turn k l w after (Some j) is phase h =
    let e = h.keeps.keeps in
    made-turn 0 k l w (record w { phase = phases.Deepens after }) is (same-kind w.lasso_search)
    (from-question w.property k l w.meter after (phases.Deepens after) w.lasso_search e.circuit e.properties e.given h.keeps.list (λ s before. before)
    (subst (λ p. IsOfKind w.property k w.meter p w.lasso_search) phase is.kind))
    e refl (rounds-same w.rounds w.property k l e.circuit h.keeps.list is.rounds) tt
    (subst (λ p. left_in l w.property (phases.Deepens after) < left_in k w.property p) (sym phase) (less-told after)) (none-searched (searches_left_to k w))

-- ---- the search

-- a worker that searches for lassos is a lasso worker
pub searches-by : (j : ℕ) (k : Known) (m : Spendings) (after : ℕ) (o : Option LassoSearch) → IsOfKind j k m (phases.Deepens after) o
    → (s : LassoSearch) × (o ≡ Some s) × Seeks k j s × IsBefore k.circuit j after s
searches-by j k m after None is = absurd (false≢true (sym is))
searches-by j k m after (Some s) is = (s, refl, is.0, is.1)

pub searches-of : (k : Known) (w : Worker) (after : ℕ) → IsWorker k w → w.phase ≡ phases.Deepens after
    → (s : LassoSearch) × (w.lasso_search ≡ Some s) × Seeks k w.property s × IsBefore k.circuit w.property after s
searches-of k w after is phase = searches-by w.property k w.meter after w.lasso_search (subst (λ p. IsOfKind w.property k w.meter p w.lasso_search) phase is.kind)

-- its property is one of the circuit's
only-inside : (c : Circuit) (properties : List ℕ) (j : ℕ) → AreServed c properties → properties ≡ j ∷ [] → j < length c.justice
only-inside c properties j served only = at-first c j (subst (λ (js : List ℕ). AreServed c js) only served)
  where
    at-first : (c : Circuit) (j : ℕ) → AreServed c (j ∷ []) → j < length c.justice
    at-first c j h = h.inside 0 j (omega arith)

pub searches-inside : (k : Known) (w : Worker) (after : ℕ) → IsWorker k w → w.phase ≡ phases.Deepens after → w.property < length k.circuit.justice
searches-inside k w after is phase = only-inside k.circuit k.properties w.property is.served (searches-of k w after is phase).2.only

pub some-search : (c : Circuit) (j : ℕ) (k : Known) (o : Option LassoSearch) (s : LassoSearch) → c ≡ k.circuit → o ≡ Some s → Seeks k j s → IfSome o (IsSearchOf c j)
some-search c j k o s circuit has is =
    subst (λ (q : Option LassoSearch). IfSome q (IsSearchOf c j)) (sym has) (subst (λ (d : Circuit). IsSearchOf d j s) (sym circuit) is.search)

pub some-before : (c : Circuit) (j after : ℕ) (k : Known) (o : Option LassoSearch) (s : LassoSearch) → c ≡ k.circuit → o ≡ Some s → IsBefore k.circuit j after s
    → IfSome o (IsBefore c j after)
some-before c j after k o s circuit has is =
    subst (λ (q : Option LassoSearch). IfSome q (IsBefore c j after)) (sym has) (subst (λ (d : Circuit). IsBefore d j after s) (sym circuit) is)

stays-some : (o q : Option LassoSearch) (s : LassoSearch) → o ≡ Some s → StaysOfKind o q → (t : LassoSearch) × (q ≡ Some t)
stays-some o None s has stays = absurd (subst (λ (p : Option LassoSearch). StaysOfKind p None) has stays)
stays-some o (Some t) s has stays = (t, refl)

turns-kept : (a b m n : ℕ) → a ≤ m → m ≤ n → b ≡ a → b ≤ n
turns-kept a b m n h more same = omega (arith, h, more, same)

-- a worker behind a search
pub sought-of : (k : Known) (w v : Worker) (after : ℕ) (c : Circuit) → IsWorker k w → w.phase ≡ phases.Deepens after → c ≡ k.circuit
    → CountsConflicts w.meter v.meter → v.property ≡ w.property → v.rounds ≡ w.rounds → v.phase ≡ w.phase → StaysOfKind w.lasso_search v.lasso_search
    → IfSome v.lasso_search (IsSearchOf c w.property) → SeeksOn k after w v
sought-of k w v after c is at circuit counted property rounds phase stays search =
    let had = searches-of k w after is at in
    let has = stays-some w.lasso_search v.lasso_search had.0 had.1 stays in
    let here : v.phase ≡ phases.Deepens after = phase ∙ at in
    record {
      sought = record {
        served = is.served;
        rounds = subst (λ (m : ℕ). IfSome v.rounds (AreRoundsOf k.circuit m (plain k.list))) (sym property)
            (subst (λ (r : Option Asking). IfSome r (AreRoundsOf k.circuit w.property (plain k.list))) (sym rounds) is.rounds);
        phase = here;
        short = is.short;
        turns = turns-kept (k.turns + left_to k w) (k.turns + left_to k v) (first_left k w.lasso_search) (first_left k v.lasso_search) is.turns
            (first-kind-on k k w.lasso_search v.lasso_search refl refl refl stays)
            (ap (λ p. k.turns + left_in k v.property p) phase ∙ ap (λ (m : ℕ). k.turns + left_in k m w.phase) property);
        search = has.0;
        has = has.1;
        seeks = record {
          only = had.2.only ∙ ap (λ (m : ℕ). m ∷ []) (sym property);
          list = had.2.list;
          search = subst (λ (m : ℕ). IsSearchOf k.circuit m has.0) (sym property)
              (subst (λ (d : Circuit). IsSearchOf d w.property has.0) circuit
              (subst (λ (q : Option LassoSearch). IfSome q (IsSearchOf c w.property)) has.1 search));
        };
      };
      phase = phase;
      kind = stays;
      counted = counted;
    }

-- ---- behind the search

-- A turn that ends, or goes on to the next question, and has spent nothing more.
sought-turn : (k l : Known) (w : Worker) (after : ℕ) (p : Phase) → (is : IsSought k after w) → KeepsList k l → IsIn w.property l w.meter p
    → IsDeepIn l.circuit w.property w.meter is.search p → left_in l w.property p < after * 2 + 2 → searches_left_in l w.property p ≡ 0
    → Turns 0 k w l (record w { phase = p })
sought-turn k l w after p is kept here deep less none =
    let e = kept.keeps in
    let fewer : left_in l w.property p < left_to k w = subst (λ q. left_in l w.property p < left_in k w.property q) (sym is.phase) less in
    record {
      worker = record {
        served = served-on k l e.circuit e.properties is.served;
        rounds = rounds-same w.rounds w.property k l e.circuit kept.list is.rounds;
        phase = here;
        short = short-on k.limit l.limit e.limit is.short;
        kind = subst (λ (o : Option LassoSearch). IsOfKind w.property l w.meter p o) (sym is.has)
            (seeks-on w.property k l is.search e.circuit e.properties e.given kept.list is.seeks, deep);
        turns = turns-on k.turns l.turns (left_to k w) (left_in l w.property p) (first_left k w.lasso_search) (first_left l w.lasso_search) e.turns fewer is.turns
            (first-kind-on k l w.lasso_search w.lasso_search e.limit e.given e.properties (same-kind w.lasso_search));
      };
      kind = same-kind w.lasso_search;
      limits = record { conflicts = refl; steps = refl };
      less = fewer;
      steps = steps-fewer w.meter.steps w.meter.steps (searches_left_in l w.property p) (searches_left_to k w) 0 (search_steps k.circuit k.properties)
          (least (w.meter.steps)) (few (searches_left_in l w.property p) (searches_left_to k w) none);
    }
  where
    least : (n : ℕ) → n ≤ n
    least n = omega arith

    few : (a b : ℕ) → a ≡ 0 → a + 0 ≤ b
    few a b none = omega (arith, none)

some-left : (after : ℕ) → 0 < after * 2 + 2
some-left after = omega arith

-- without a call
kept-self : (k : Known) → KeepsList k k
kept-self k = record {
  keeps = record { circuit = refl; properties = refl; number = refl; given = refl; limit = refl; turns = omega arith; settled = λ j h. h };
  list = refl;
}

pub refused-turn : (k : Known) (w : Worker) (after : ℕ) → IsSought k after w → Turns 0 k w k (record w { phase = phases.Refused })
refused-turn k w after is = sought-turn k k w after phases.Refused is (kept-self k) tt tt (some-left after) refl

pub spent-turn : (k : Known) (w : Worker) (after : ℕ) → IsSought k after w → w.meter.conflict_limit ≡ Some w.meter.conflicts
    → Turns 0 k w k (record w { phase = phases.Deep })
spent-turn k w after is spent = sought-turn k k w after phases.Deep is (kept-self k) tt (inl spent) (some-left after) refl

pub hand-in-turn : (k l : Known) (w : Worker) (after : ℕ) → IsSought k after w → HasFinished w.property k l → Turns 0 k w l (record w { phase = phases.Closed })
hand-in-turn k l w after is h =
    let only : l.properties ≡ w.property ∷ [] = h.keeps.keeps.properties ∙ is.seeks.only in
    sought-turn k l w after phases.Closed is h.keeps
    (settled-only w.property l (ap length only) (subst (λ (js : List ℕ). Contains js w.property) (sym only) (first-in w.property [])) h.settled)
    tt (some-left after) refl

behind-of : (c : Circuit) (j after : ℕ) (o : Option LassoSearch) (s : LassoSearch) → o ≡ Some s → IfSome o (IsBehind c j after) → IsBehind c j after s
behind-of c j after o s has is = subst (λ (q : Option LassoSearch). IfSome q (IsBehind c j after)) has is

deeper-by : (k : Known) (w : Worker) (after : ℕ) (b : Bool) → (after == 0) ≡ b → (is : IsSought k after w) → IsBehind k.circuit w.property after is.search
    → Turns 0 k w k (record w { phase = cond b phases.Deep (phases.AsksDeeper (after - 1)) })
deeper-by k w after true last is behind =
    let none : after ≡ 0 = eqb-true after 0 last in
    sought-turn k k w after phases.Deep is (kept-self k) tt (inr (all-done is.search.done after is.search.depth behind.all none)) (some-left after) refl
  where
    all-done : (done after depth : ℕ) → done + after ≡ depth → after ≡ 0 → done ≡ depth
    all-done done after depth all none = omega (arith, all, none)
deeper-by k w after false more is behind =
    let some : 0 < after = above after (eqb-false after 0 more) in
    sought-turn k k w after (phases.AsksDeeper (after - 1)) is (kept-self k) tt
    (record {
      solver = behind.solver;
      most = most is.search.done after is.search.depth behind.all;
      least = least is.search.done after is.search.depth behind.all;
    })
    (less after some) refl
  where
    above : (n : ℕ) → (n ≡ 0 → ⊥) → 0 < n
    above n h = grind (arith)

    most : (done after depth : ℕ) → done + after ≡ depth → done + (after - 1) ≤ depth
    most done after depth all = omega (arith, all)

    least : (done after depth : ℕ) → done + after ≡ depth → depth ≤ done + (after - 1) + 1
    least done after depth all = omega (arith, all)

    less : (after : ℕ) → 0 < after → (after - 1) * 2 + 3 < after * 2 + 2
    less after some = omega (arith, some)

pub deeper-turn : (k : Known) (w : Worker) (after : ℕ) → IsSought k after w → IfSome w.lasso_search (IsBehind k.circuit w.property after)
    → Turns 0 k w k (record w { phase = phase_deeper after })
deeper-turn k w after is behind =
    deeper-by k w after (after == 0) refl is (behind-of k.circuit w.property after w.lasso_search is.search is.has behind)

-- a turn is a search and its rest
pub seeks_turn : (k l : Known) (after : ℕ) (w v u : Worker) → w.phase ≡ phases.Deepens after → SeeksOn k after w v → Turns 0 k v l u → Turns 0 k w l u
seeks_turn k l after w v u at on turn =
    let cost : ℕ = search_steps k.circuit k.properties in
    let left : left_to k v ≡ left_to k w =
    ap (λ p. left_in k v.property p) on.sought.phase ∙ sym (ap (λ p. left_in k w.property p) at)
    in
    let searches : searches_left_to k v ≡ searches_left_to k w =
    ap (λ p. searches_left_in k v.property p) on.sought.phase ∙ sym (ap (λ p. searches_left_in k w.property p) at)
    in
    record {
      worker = turn.worker;
      kind = on-kind w.lasso_search v.lasso_search u.lasso_search on.kind turn.kind;
      limits = record {
        conflicts = turn.limits.conflicts ∙ on.counted.conflict_limit;
        steps = turn.limits.steps ∙ on.counted.step_limit;
      };
      less = subst (λ (n : ℕ). left_to l u < n) left turn.less;
      steps = subst (λ (n : ℕ). steps_through u (searches_left_to l u + 0) cost ≤ n + searches_left_to k w * cost) on.counted.steps
          (subst (λ (n : ℕ). steps_through u (searches_left_to l u + 0) cost ≤ v.meter.steps + n * cost) searches turn.steps);
    }

-- ---- calls

pub one-more-sought : (k : Known) (w : Worker) (after : ℕ) → IsSought k after w → k.turns + 1 < 2 ^ 32
one-more-sought k w after is =
    turn-fits k.turns (first_left k w.lasso_search)
    (few k.turns (left_to k w) (first_left k w.lasso_search) is.turns (subst (λ p. 0 < left_in k w.property p) (sym is.phase) (some-left after)))
    (subst (λ (o : Option LassoSearch). first_left k o < 4294967296) (sym is.has) (deep-fits is.search.depth is.seeks.search.short))
  where
    few : (turns left most : ℕ) → turns + left ≤ most → 0 < left → turns < most
    few turns left most within some = omega (arith, within, some)

    deep-fits : (depth : ℕ) → depth ≤ 65536 → depth * 2 + 3 < 4294967296
    deep-fits depth short = omega (arith, short)

pub serves-sought : (k : Known) (w : Worker) (after : ℕ) → IsSought k after w → Contains k.properties w.property
serves-sought k w after is = subst (λ (js : List ℕ). Contains js w.property) (sym is.seeks.only) (first-in w.property [])
