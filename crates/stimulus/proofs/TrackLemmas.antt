-- What a walk knows of the positions of a stimulus, and what it shows of lassos.
use Rattle.std.proofs.Common.{◌≡◌, ℕ, ◌+◌, ◌-◌, ◌<◌, ◌≤◌, Bool, List, [], ◌∷◌, ◌++◌, map, length, take, drop, get_or, subst, refl, sym, ap, ◌∙◌, Option, Some, None, unwrap_or, slice_get, IsTrue, All, Any, inl, inr, arith}
use Rattle.std.specs.Option.{option_map}
use Rattle.std.proofs.lemmas.Bool.{cases_lt}
use Rattle.std.proofs.lemmas.List.{take_more, take_all, map-append, map-id, length-map, length-take-le}
use Rattle.std.proofs.lemmas.Simd.{map-map}
use Rattle.std.proofs.lemmas.Option.{slice_get-map, slice_get_within, same_Some}
use Rattle.std.proofs.lemmas.List.Elements.{All-head, All-tail, All-cons, All-nil, All-push, All-weaker, All-get_or}
use Rattle.aig_semantics.specs.declared.traces.Position.{Position}
use Rattle.aig_semantics.specs.declared.traces.Stimulus.{Stimulus}
use Rattle.aig_semantics.specs.Circuits.{Circuit, fair_literals}
use Rattle.aig_semantics.specs.Runs.{position_of, successor, literal_at, IsRun, IsInitial, IsInitialRun, MeetsConstraints, IsFairLasso}
use Rattle.aig_semantics.specs.Stimuli.{simulated, state_after, HasLasso, StandsFor}
use Rattle.circuit.proofs.Following.{length-simulated}
use Rattle.stimulus.specs.declared.walks.Walk.{Walk}
use Rattle.stimulus.specs.declared.walks.Watched.{Watched}
use Rattle.stimulus.specs.Walks.{IsEndOf, unmet, watched_after, GoesOn, ClosesFrom}
use Rattle.stimulus.specs.Places.{packed, place_at}
use Rattle.stimulus.specs.Faults.{CanBegin, IsFirstForbidden, HasNoLasso}
use Rattle.stimulus.proofs.PlaceLemmas.{IsPlaceMap, IsPlaceMap-none, IsPlaceMap-push}
use Rattle.stimulus.proofs.RunLemmas.{state_after-push, simulated-push, IsRun-from_meets, IsRun-meets, last_position, IsEndOf-none, IsEndOf-push}

-- a walk has met the positions with these inputs
pub record Tracks (c : Circuit) (j : ℕ) (latches : List Bool) (inputs : List (List Bool)) (walk : Walk) : Type 0 where
  pub places : IsPlaceMap (length c.latches) (map (λ p. p.latches) (simulated c latches inputs)) walk.places
  pub next : walk.next ≡ state_after c latches inputs
  pub key : walk.key.items ≡ packed walk.next
  pub literals : map (λ x. x.literal) walk.watched.items ≡ fair_literals c j
  pub ends : All (λ x. IsEndOf (λ p. literal_at c p x.literal) (simulated c latches inputs) x.end) walk.watched.items
  pub allowed : All (MeetsConstraints c) (simulated c latches inputs)

All-unmet : (c : Circuit) (literals : List ℕ) → All (λ x. IsEndOf (λ p. literal_at c p x.literal) [] x.end) (map unmet literals)
All-unmet c [] = All-nil _
All-unmet c (literal ∷ literals) =
    All-cons (λ x. IsEndOf (λ p. literal_at c p x.literal) [] x.end) (unmet literal) (map unmet literals) (IsEndOf-none (λ p. literal_at c p literal)) (All-unmet c literals)

pub Tracks-none : (c : Circuit) (j : ℕ) (latches : List Bool) (walk : Walk) → ((key : List ℕ) → place_at walk.places key ≡ None) → walk.next ≡ latches → walk.key.items ≡ packed latches → walk.watched.items ≡ map unmet (fair_literals c j) → Tracks c j latches [] walk
unfolding simulated state_after
Tracks-none c j latches walk places next key watched = record {
  places = IsPlaceMap-none (length c.latches) walk.places places;
  next = next;
  key = key ∙ ap packed (sym next);
  literals = ap (map (λ x. x.literal)) watched ∙ map-map (λ x. x.literal) unmet (fair_literals c j) ∙ map-id (fair_literals c j);
  ends = subst (All (λ x. IsEndOf (λ p. literal_at c p x.literal) [] x.end)) (sym watched) (All-unmet c (fair_literals c j));
  allowed = All-nil (MeetsConstraints c);
}

All-watched_after : (c : Circuit) (run : List Position) (p : Position) (number : ℕ) (watched : List Watched) → number ≡ length run + 1
    → All (λ x. IsEndOf (λ q. literal_at c q x.literal) run x.end) watched
    → All (λ x. IsEndOf (λ q. literal_at c q x.literal) (run ++ p ∷ []) x.end) (map (watched_after (literal_at c p) number) watched)
All-watched_after c run p number [] is h = All-nil _
All-watched_after c run p number (x ∷ watched) is h =
    let Now = λ (x : Watched). IsEndOf (λ q. literal_at c q x.literal) run x.end in
    All-cons (λ x. IsEndOf (λ q. literal_at c q x.literal) (run ++ p ∷ []) x.end) (watched_after (literal_at c p) number x) (map (watched_after (literal_at c p) number) watched)
    (IsEndOf-push (λ q. literal_at c q x.literal) run p x.end number is (All-head Now x watched h))
    (All-watched_after c run p number watched is (All-tail Now x watched h))

literals-watched_after : (value : ℕ → Bool) (number : ℕ) (watched : List Watched) → map (λ x. x.literal) (map (watched_after value number) watched) ≡ map (λ x. x.literal) watched
literals-watched_after value number watched = map-map (λ x. x.literal) (watched_after value number) watched

pub length-state_after : (c : Circuit) (latches : List Bool) (inputs : List (List Bool)) → length latches ≡ length c.latches → length (state_after c latches inputs) ≡ length c.latches
unfolding state_after
length-state_after c latches [] h = h
length-state_after c latches (now ∷ inputs) h = length-state_after c (successor c (position_of latches now)) inputs (length-map c.latches (λ latch. literal_at c (position_of latches now) latch.next))

pub Tracks-push : (c : Circuit) (j : ℕ) (latches : List Bool) (inputs : List (List Bool)) (now : List Bool) (number : ℕ) (old new : Walk)
    → number ≡ length inputs + 1 → length latches ≡ length c.latches → length now ≡ length c.inputs
    → All (λ literal. IsTrue (literal_at c (position_of old.next now) literal)) c.constraints
    → GoesOn c now number old new → Tracks c j latches inputs old → Tracks c j latches (inputs ++ now ∷ []) new
Tracks-push c j latches inputs now number old new is fit_latches fit_inputs meets goes h =
    let p = position_of old.next now in
    let run = simulated c latches inputs in
    let position : position_of (state_after c latches inputs) now ≡ p = ap (λ state. position_of state now) (sym h.next) in
    let more : simulated c latches (inputs ++ now ∷ []) ≡ run ++ p ∷ [] = simulated-push c latches inputs now ∙ ap (λ q. run ++ q ∷ []) position in
    let allowed : MeetsConstraints c p = record { position = record { latches = ap length h.next ∙ length-state_after c latches inputs fit_latches; inputs = fit_inputs }; constraints = meets } in
    let states : map (λ p. p.latches) run ++ old.next ∷ [] ≡ map (λ p. p.latches) (simulated c latches (inputs ++ now ∷ [])) =
    sym (map-append (λ p. p.latches) run (p ∷ [])) ∙ ap (map (λ p. p.latches)) (sym more) in
    let places : IsPlaceMap (length c.latches) (map (λ p. p.latches) run ++ old.next ∷ []) new.places =
    IsPlaceMap-push (length c.latches) (map (λ p. p.latches) run) old.next (number - 1) old.places new.places
    (ap length h.next ∙ length-state_after c latches inputs fit_latches)
    (omega (arith, length-simulated c latches inputs, length-map run (λ p. p.latches)))
    (subst (λ key. place_at new.places key ≡ Some (unwrap_or (place_at old.places key) (number - 1))) h.key goes.there)
    (λ key apart. goes.others key (λ e. apart (e ∙ h.key)))
    h.places in
    let ends : All (λ x. IsEndOf (λ q. literal_at c q x.literal) (simulated c latches (inputs ++ now ∷ [])) x.end) (map (watched_after (literal_at c p) number) old.watched.items) =
    subst (λ run. All (λ x. IsEndOf (λ q. literal_at c q x.literal) run x.end) (map (watched_after (literal_at c p) number) old.watched.items)) (sym more)
    (All-watched_after c run p number old.watched.items (omega (arith, length-simulated c latches inputs)) h.ends) in
    record {
      places = subst (λ states. IsPlaceMap (length c.latches) states new.places) states places;
      key = goes.key;
      next = goes.next ∙ ap (successor c) (sym position) ∙ sym (state_after-push c latches inputs now);
      literals = ap (map (λ x. x.literal)) goes.watched ∙ literals-watched_after (literal_at c p) number old.watched.items ∙ h.literals;
      ends = subst (All (λ x. IsEndOf (λ q. literal_at c q x.literal) (simulated c latches (inputs ++ now ∷ [])) x.end)) (sym goes.watched) ends;
      allowed = subst (All (MeetsConstraints c)) (sym more) (All-push (MeetsConstraints c) run p h.allowed allowed);
    }

-- a simulated run begins with the state that it is simulated from
pub IsInitialRun-simulated : (c : Circuit) (latches : List Bool) (inputs : List (List Bool)) → IsInitial c latches → IsRun c (simulated c latches inputs) → IsInitialRun c (simulated c latches inputs)
unfolding simulated
IsInitialRun-simulated c latches [] initial run = tt
IsInitialRun-simulated c latches (now ∷ inputs) initial run = (initial, run)

initial_of : (c : Circuit) (latches : List Bool) (inputs : List (List Bool)) → 0 < length inputs → IsInitialRun c (simulated c latches inputs) → IsInitial c latches × IsRun c (simulated c latches inputs)
unfolding simulated
initial_of c latches [] some h = absurd (omega arith)
initial_of c latches (now ∷ inputs) some h = h

-- the element whose image stands at a place
mapped_some : {X Y : Type 0} (f : X → Y) (o : Option X) (y : Y) → option_map f o ≡ Some y → (x : X) × (o ≡ Some x) × (f x ≡ y)
mapped_some f None y e = cc
mapped_some f (Some x) y e = (x, refl, same_Some (f x) y e)

-- what is seen on the loop
seen_fair : (c : Circuit) (run : List Position) (from : ℕ) (watched : List Watched)
    → All (λ x. IsEndOf (λ p. literal_at c p x.literal) run x.end) watched → All (λ x. from < x.end) watched
    → All (λ literal. Any (λ p. IsTrue (literal_at c p literal)) (drop from run)) (map (λ x. x.literal) watched)
seen_fair c run from [] ends seen = All-nil _
seen_fair c run from (x ∷ watched) ends seen =
    let Ends = λ (x : Watched). IsEndOf (λ p. literal_at c p x.literal) run x.end in
    let Seen = λ (x : Watched). from < x.end in
    All-cons (λ literal. Any (λ p. IsTrue (literal_at c p literal)) (drop from run)) x.literal (map (λ x. x.literal) watched)
    ((All-head Ends x watched ends).within from (All-head Seen x watched seen))
    (seen_fair c run from watched (All-tail Ends x watched ends) (All-tail Seen x watched seen))

fair_seen : (c : Circuit) (run : List Position) (from : ℕ) (watched : List Watched)
    → All (λ x. IsEndOf (λ p. literal_at c p x.literal) run x.end) watched
    → All (λ literal. Any (λ p. IsTrue (literal_at c p literal)) (drop from run)) (map (λ x. x.literal) watched)
    → All (λ x. from < x.end) watched
fair_seen c run from [] ends fair = All-nil _
fair_seen c run from (x ∷ watched) ends fair =
    let Ends = λ (x : Watched). IsEndOf (λ p. literal_at c p x.literal) run x.end in
    let Fair = λ (literal : ℕ). Any (λ p. IsTrue (literal_at c p literal)) (drop from run) in
    let literals = map (λ x. x.literal) watched in
    All-cons (λ x. from < x.end) x watched
    ((All-head Ends x watched ends).behind from (All-head Fair x.literal literals fair))
    (fair_seen c run from watched (All-tail Ends x watched ends) (All-tail Fair x.literal literals fair))

-- a loop from this place closes and has all that is watched
pub record LoopsFrom (states : List (List Bool)) (next : List Bool) (watched : List Watched) (from : ℕ) : Type 0 where
  pub closes : slice_get states from ≡ Some next
  pub seen : All (λ w. from < w.end) watched

-- where a loop closes the stimulus has a fair lasso, and the other way round
lasso_from_loop : (c : Circuit) (j : ℕ) (latches : List Bool) (inputs : List (List Bool)) (walk : Walk) (from : ℕ)
    → j < length c.justice → IsInitial c latches → 0 < length inputs → Tracks c j latches inputs walk
    → LoopsFrom (map (λ p. p.latches) (simulated c latches inputs)) walk.next walk.watched.items from → IsFairLasso c j (simulated c latches inputs) from
lasso_from_loop c j latches inputs walk from property initial some h loops =
    let run = simulated c latches inputs in
    let at = sym (slice_get-map (λ p. p.latches) run from) ∙ loops.closes in
    let first = mapped_some (λ p. p.latches) (slice_get run from) walk.next at in
    let last = last_position c latches inputs some in
    record {
      property = property;
      initial = IsInitialRun-simulated c latches inputs initial (IsRun-from_meets c latches inputs h.allowed);
      inside = slice_get_within run from first.0 first.1;
      closes = record { first = first.0; last = last.0; is_first = first.1; is_last = last.1; closes = last.2 ∙ sym h.next ∙ sym first.2 };
      fair = subst (All (λ literal. Any (λ p. IsTrue (literal_at c p literal)) (drop from run))) h.literals (seen_fair c run from walk.watched.items h.ends loops.seen);
    }

loop_from_lasso : (c : Circuit) (j : ℕ) (latches : List Bool) (inputs : List (List Bool)) (walk : Walk) (from : ℕ)
    → 0 < length inputs → Tracks c j latches inputs walk
    → IsFairLasso c j (simulated c latches inputs) from → LoopsFrom (map (λ p. p.latches) (simulated c latches inputs)) walk.next walk.watched.items from
loop_from_lasso c j latches inputs walk from some h lasso =
    let run = simulated c latches inputs in
    let last = last_position c latches inputs some in
    let same : lasso.closes.last ≡ last.0 = same_Some lasso.closes.last last.0 (sym lasso.closes.is_last ∙ last.1) in
    let next : lasso.closes.first.latches ≡ walk.next = sym lasso.closes.closes ∙ ap (successor c) same ∙ last.2 ∙ sym h.next in
    record {
      closes = slice_get-map (λ p. p.latches) run from ∙ ap (option_map (λ p. p.latches)) lasso.closes.is_first ∙ ap Some next;
      seen = fair_seen c run from walk.watched.items h.ends (subst (All (λ literal. Any (λ p. IsTrue (literal_at c p literal)) (drop from run))) (sym h.literals) lasso.fair);
    }

-- the place that is kept for the next state, against all places with that state
module _ (c : Circuit) (j : ℕ) (latches : List Bool) (inputs : List (List Bool)) (walk : Walk) (fits : length latches ≡ length c.latches) (h : Tracks c j latches inputs walk) where
  abbrev states : List (List Bool)
  states = map (λ p. p.latches) (simulated c latches inputs)

  fits_next : length walk.next ≡ length c.latches
  fits_next = ap length h.next ∙ length-state_after c latches inputs fits

  kept_next : (from : ℕ) → place_at walk.places walk.key.items ≡ Some from → place_at walk.places (packed walk.next) ≡ Some from
  kept_next from e = ap (place_at walk.places) (sym h.key) ∙ e

  loops_where_closed : (from : ℕ) → ClosesFrom walk from → LoopsFrom states walk.next walk.watched.items from
  loops_where_closed from closes = record { closes = h.places.found walk.next from fits_next (kept_next from closes.kept); seen = closes.seen }

  first_closed : (from place : ℕ) → ClosesFrom walk from → LoopsFrom states walk.next walk.watched.items place → from ≤ place
  first_closed from place closes loops = h.places.least walk.next from place fits_next (kept_next from closes.kept) loops.closes

  closed_at : (place : ℕ) → LoopsFrom states walk.next walk.watched.items place → (o : Option ℕ) → place_at walk.places walk.key.items ≡ o → (from : ℕ) × ClosesFrom walk from
  closed_at place loops None e = absurd (h.places.met walk.next place fits_next loops.closes (ap (place_at walk.places) (sym h.key) ∙ e))
  closed_at place loops (Some from) e =
      let first : from ≤ place = h.places.least walk.next from place fits_next (kept_next from e) loops.closes in
      (from, record { kept = e; seen = All-weaker (λ w. place < w.end) (λ w. from < w.end) (λ w later. omega arith) walk.watched.items loops.seen })

  none_closed : ((from : ℕ) → ClosesFrom walk from → ⊥) → (place : ℕ) → LoopsFrom states walk.next walk.watched.items place → ⊥
  none_closed closed place loops =
      let some = closed_at place loops (place_at walk.places walk.key.items) refl in closed some.0 some.1

-- the last element of those that all have it
last_all : {X : Type 0} (P : X → Type 0) (xs : List X) (x : X) → All P (xs ++ x ∷ []) → P x
last_all P [] x h = All-head P x [] h
last_all P (y ∷ xs) x h = last_all P xs x (All-tail P y (xs ++ x ∷ []) h)

-- what is known after the first k positions, when none of the lassos looked for ends there
pub record IsReplayed (c : Circuit) (j : ℕ) (s : Stimulus) (k : ℕ) (walk : Walk) : Type 0 where
  pub tracks : Tracks c j s.latches (take k s.inputs) walk
  pub none : (n from : ℕ) → n ≤ k → HasLasso c j s n from → ⊥

-- a lasso has a position
some_in_lasso : (c : Circuit) (j : ℕ) (s : Stimulus) (n from : ℕ) → HasLasso c j s n from → 0 < n
some_in_lasso c j s n from has =
    omega (arith, has.lasso.inside, length-simulated c s.latches (take n s.inputs), length-take-le n s.inputs has.inside)

-- its positions meet the constraints
pub run_of_lasso : (c : Circuit) (j : ℕ) (s : Stimulus) (n from : ℕ) → HasLasso c j s n from → All (MeetsConstraints c) (simulated c s.latches (take n s.inputs))
run_of_lasso c j s n from has =
    IsRun-meets c (simulated c s.latches (take n s.inputs))
    (initial_of c s.latches (take n s.inputs) (omega (arith, some_in_lasso c j s n from has, length-take-le n s.inputs has.inside)) has.lasso.initial).1

pub can_begin : (c : Circuit) (j : ℕ) (s : Stimulus) (n from : ℕ) → HasLasso c j s n from → CanBegin c j s
can_begin c j s n from has = record {
  property = has.lasso.property;
  fits = has.fits;
  initial = (initial_of c s.latches (take n s.inputs) (omega (arith, some_in_lasso c j s n from has, length-take-le n s.inputs has.inside)) has.lasso.initial).0;
}

pub IsReplayed-none : (c : Circuit) (j : ℕ) (s : Stimulus) (walk : Walk) → ((key : List ℕ) → place_at walk.places key ≡ None) → walk.next ≡ s.latches → walk.key.items ≡ packed s.latches → walk.watched.items ≡ map unmet (fair_literals c j) → IsReplayed c j s 0 walk
IsReplayed-none c j s walk places next key watched = record {
  tracks = Tracks-none c j s.latches walk places next key watched;
  none = λ n from few has. absurd (omega (arith, some_in_lasso c j s n from has));
}

-- one position more
module _ (c : Circuit) (j : ℕ) (s : Stimulus) (k : ℕ) (now : List Bool) (old new : Walk)
    (can : CanBegin c j s) (inside : k < length s.inputs) (at : now ≡ get_or s.inputs k now) (h : IsReplayed c j s k old) where
  one_more : take (k + 1) s.inputs ≡ take k s.inputs ++ now ∷ []
  one_more = take_more s.inputs k now inside ∙ ap (λ x. take k s.inputs ++ x ∷ []) (sym at)

  more_run : simulated c s.latches (take (k + 1) s.inputs) ≡ simulated c s.latches (take k s.inputs) ++ position_of old.next now ∷ []
  more_run =
      ap (simulated c s.latches) one_more ∙ simulated-push c s.latches (take k s.inputs) now
      ∙ ap (λ state. simulated c s.latches (take k s.inputs) ++ position_of state now ∷ []) (sym h.tracks.next)

  -- a position where a constraint is false is the first such, with no lasso before it
  pub first_forbidden : (All (λ literal. IsTrue (literal_at c (position_of old.next now) literal)) c.constraints → ⊥) → IsFirstForbidden c j s k
  first_forbidden not_met = record {
    inside = inside;
    before = h.tracks.allowed;
    forbidden = λ met. not_met (last_all (MeetsConstraints c) (simulated c s.latches (take k s.inputs)) (position_of old.next now) (subst (All (MeetsConstraints c)) more_run met)).constraints;
    none = h.none;
  }

  module _ (meets : All (λ literal. IsTrue (literal_at c (position_of old.next now) literal)) c.constraints) (goes : GoesOn c now (k + 1) old new) where
    tracks_more : Tracks c j s.latches (take (k + 1) s.inputs) new
    tracks_more =
        subst (λ inputs. Tracks c j s.latches inputs new) (sym one_more)
        (Tracks-push c j s.latches (take k s.inputs) now (k + 1) old new (omega (arith, length-take-le k s.inputs)) can.fits.latches
        (ap length at ∙ All-get_or (λ values. length values ≡ length c.inputs) s.inputs k now inside can.fits.inputs)
        meets goes h.tracks)

    some_more : 0 < length (take (k + 1) s.inputs)
    some_more = omega (arith, length-take-le (k + 1) s.inputs)

    -- no lasso ends at a position where no loop closes
    pub IsReplayed-more : ((from : ℕ) → ClosesFrom new from → ⊥) → IsReplayed c j s (k + 1) new
    IsReplayed-more closed = record {
      tracks = tracks_more;
      none = λ n from few has.
          elim (cases_lt k n) [
            | inl past ↦ last from (subst (λ m. HasLasso c j s m from) (omega arith) has)
            | inr fewer ↦ h.none n from fewer has
          ];
    }
      where
        last : (from : ℕ) → HasLasso c j s (k + 1) from → ⊥
        last from has =
            none_closed c j s.latches (take (k + 1) s.inputs) new can.fits.latches tracks_more closed from
            (loop_from_lasso c j s.latches (take (k + 1) s.inputs) new from some_more tracks_more has.lasso)

    -- the first loop that closes is the lasso that the stimulus stands for
    pub StandsFor-first : (from : ℕ) → ClosesFrom new from → StandsFor c j s (k + 1) from
    StandsFor-first from closes = record {
      has = record {
        fits = can.fits;
        inside = omega arith;
        lasso =
            lasso_from_loop c j s.latches (take (k + 1) s.inputs) new from can.property can.initial some_more tracks_more
            (loops_where_closed c j s.latches (take (k + 1) s.inputs) new can.fits.latches tracks_more from closes);
      };
      shortest = λ n place has. elim (cases_lt k n) [ inl past ↦ omega arith | inr few ↦ absurd (h.none n place few has) ];
      earliest = λ place has.
          first_closed c j s.latches (take (k + 1) s.inputs) new can.fits.latches tracks_more from place closes
          (loop_from_lasso c j s.latches (take (k + 1) s.inputs) new place some_more tracks_more has.lasso);
    }

-- where the positions end there is no lasso
pub no_lasso : (c : Circuit) (j : ℕ) (s : Stimulus) (k : ℕ) (walk : Walk) → length s.inputs ≤ k → IsReplayed c j s k walk → HasNoLasso c j s
no_lasso c j s k walk ends h = record {
  allowed = subst (λ inputs. All (MeetsConstraints c) (simulated c s.latches inputs)) (take_all k s.inputs ends) h.tracks.allowed;
  none = λ n from has. h.none n from (omega (arith, has.inside)) has;
}
