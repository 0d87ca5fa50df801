-- The runs of the monitor are those of the circuit, and its counters count their rounds.
use Rattle.std.proofs.Common.{◌≡◌, ℕ, zero, suc, ◌+◌, ◌-◌, ◌*◌, ◌<◌, ◌≤◌, ◌↔◌, Bool, true, false, List, [], ◌∷◌, ◌++◌, map, length, get_or, take, refl, sym, ap, ◌∙◌, subst, arith, length-append, take_at, Some, slice_get}
use Rattle.std.proofs.lemmas.Option.{same_Some}
use Rattle.std.proofs.lemmas.List.{append_assoc, length-map, length-replicate}
use Rattle.aig_semantics.specs.declared.traces.Position.{Position}
use Rattle.aig_semantics.specs.Circuits.{Circuit, IsChecked, IsWithinLimits, fair_literals}
use Rattle.aig_semantics.specs.Runs.{IsPosition, position_of, valuation_at, literal_at, successor, MeetsConstraints, StartsIn, IsRun, IsInitial, IsInitialRun}
use Rattle.aig_semantics.specs.Valuations.{HasOneValuation}
use Rattle.fair_semantics.specs.Rounds.{HasRounds}
use Rattle.fair_semantics.proofs.Runs.{run-of}
use Rattle.live_to_safe.specs.Watching.{numbered}
use Rattle.round_monitor.specs.declared.sizes.Sizes.{Sizes}
use Rattle.round_monitor.specs.Counting.{HasRunOfRounds, own_position, HasFullRun, WatchesRounds}
use Rattle.round_monitor.specs.Numbers.{sizes_of, seen, counter, seen_gate, counter_gate}
use Rattle.round_monitor.specs.Watching.{seen_latch, counter_latch, new_latches}
use Rattle.round_monitor.specs.Monitor.{monitor_circuit}
use Rattle.circuit.specs.RoundsAlong.{none_seen, ends_with, seen_next, more_if, rounds_along}
use Rattle.live_to_safe.proofs.Lists.{cons-same}
use Rattle.live_to_safe.proofs.Lassos.{Begin, begin-length, begin-append, begin-split, begin-zero, zero-begins, some-run}
use Rattle.round_monitor.proofs.Lists.{get_or-behind}
use Rattle.round_monitor.proofs.Numbering.{latches-length}
use Rattle.round_monitor.proofs.Watched.{tally, tally-zero, tally-true, tally-told, watch_state, joint, next-is, kept, back}
use Rattle.circuit.proofs.RoundsAlong.{length-seen_next, rounds-fewer, counted}

first-sum : (e : Bool) (n : ℕ) → more_if e n ≡ more_if e 0 + n
first-sum true n = omega arith
first-sum false n = omega arith

later-sum : (e : Bool) (a n : ℕ) → a + more_if e n ≡ more_if e a + n
later-sum true a n = omega arith
later-sum false a n = refl

module _ (c : Circuit) (j k : ℕ) (checked : IsChecked c) (limits : IsWithinLimits c) (property : j < length c.justice) (some : 1 ≤ k) (one : HasOneValuation c) (other : HasOneValuation (monitor_circuit c j k)) where
  abbrev z : Sizes
  z = sizes_of c j k

  abbrev t : Circuit
  t = monitor_circuit c j k

  abbrev literals : List ℕ
  literals = fair_literals c j

  abbrev own : Position → Position
  own = own_position c

  abbrev next_seens : Position → List Bool → List Bool
  next_seens p seens = seen_next (valuation_at c p) literals seens

  abbrev next_count : Position → List Bool → ℕ → ℕ
  next_count p seens n = more_if (ends_with (valuation_at c p) literals seens) n

  successor-length : (p : Position) → length (successor c p) ≡ length c.latches
  successor-length p = length-map c.latches (λ latch. literal_at c p latch.next)

  -- the positions of a run, with what is watched at each
  abbrev watched : List Bool → ℕ → List Position → List Position
  watched seens n [] = []
  watched seens n (p ∷ run) = joint p seens n k ∷ watched (next_seens p seens) (next_count p seens n) run

  watched-length : (seens : List Bool) (n : ℕ) (run : List Position) → length (watched seens n run) ≡ length run
  watched-length seens n [] = refl
  watched-length seens n (p ∷ run) = omega (arith, watched-length (next_seens p seens) (next_count p seens n) run)

  -- ---- from a run of the circuit

  own-joint : (p : Position) (seens : List Bool) (n : ℕ) → length p.latches ≡ length c.latches → own (joint p seens n k) ≡ p
  own-joint p seens n l = ap (λ ls. position_of ls p.inputs) (take_at p.latches (watch_state seens n k) (length c.latches) l)

  own-watched : (seens : List Bool) (n : ℕ) (run : List Position) → IsRun c run → map own (watched seens n run) ≡ run
  own-watched seens n [] h = refl
  own-watched seens n (p ∷ run) h =
      cons-same (own (joint p seens n k)) p (map own (watched (next_seens p seens) (next_count p seens n) run)) run
      (own-joint p seens n h.0.position.latches) (own-watched (next_seens p seens) (next_count p seens n) run h.2)

  watched-starts : (state seens : List Bool) (n : ℕ) (run : List Position) → StartsIn state run → StartsIn (state ++ watch_state seens n k) (watched seens n run)
  watched-starts state seens n [] h = tt
  watched-starts state seens n (p ∷ run) h = ap (λ s. s ++ watch_state seens n k) h

  watched-run : (seens : List Bool) (n : ℕ) (run : List Position) → length seens ≡ length literals → IsRun c run → IsRun t (watched seens n run)
  watched-run seens n [] l h = tt
  watched-run seens n (p ∷ run) l h =
      let step = next-is c j k checked limits property some one other p seens n h.0.position l in
      let later : List Position = watched (next_seens p seens) (next_count p seens n) run in (
        kept c j k checked limits property some one other p seens n h.0.position l h.0,
        subst (λ s. StartsIn s later) (sym step) (watched-starts (successor c p) (next_seens p seens) (next_count p seens n) run h.1),
        watched-run (next_seens p seens) (next_count p seens n) run (length-seen_next (valuation_at c p) literals seens l) h.2,
      )

  -- ---- from a run of the monitor

  -- a run from such a state is a run of the circuit with what is watched
  record IsWatched (state seens : List Bool) (n : ℕ) (run : List Position) : Type 0 where
    is : run ≡ watched seens n (map own run)
    is_run : IsRun c (map own run)
    starts : StartsIn state (map own run)

  whole-is : (whole : Position) (state seens : List Bool) (n : ℕ) → length state ≡ length c.latches → whole.latches ≡ state ++ watch_state seens n k
      → (whole ≡ joint (own whole) seens n k) × ((own whole).latches ≡ state)
  whole-is whole state seens n l starts =
      let front : take (length c.latches) whole.latches ≡ state =
      ap (take (length c.latches)) starts ∙ take_at state (watch_state seens n k) (length c.latches) l
      in
      (ap (λ ls. position_of ls whole.inputs) (starts ∙ ap (λ s. s ++ watch_state seens n k) (sym front)), front)

  own-position : (whole : Position) (state : List Bool) → IsPosition t whole → length state ≡ length c.latches → (own whole).latches ≡ state → IsPosition c (own whole)
  own-position whole state is l starts = record { latches = ap length starts ∙ l; inputs = is.inputs }

  is-watched : (run : List Position) (state seens : List Bool) (n : ℕ) → length state ≡ length c.latches → length seens ≡ length literals
      → IsRun t run → StartsIn (state ++ watch_state seens n k) run → IsWatched state seens n run
  is-watched [] state seens n l q is_run starts = record { is = refl; is_run = tt; starts = tt }
  is-watched (whole ∷ run) state seens n l q is_run starts =
      let p : Position = own whole in
      let parts = whole-is whole state seens n l starts in
      let is = own-position whole state is_run.0.position l parts.1 in
      let possible = back c j k checked limits property some one other p seens n is q (subst (MeetsConstraints t) parts.0 is_run.0) in
      let step : successor t whole ≡ successor c p ++ watch_state (next_seens p seens) (next_count p seens n) k =
      ap (successor t) parts.0 ∙ next-is c j k checked limits property some one other p seens n is q
      in
      let rest = is-watched run (successor c p) (next_seens p seens) (next_count p seens n) (successor-length p)
      (length-seen_next (valuation_at c p) literals seens q) is_run.2 (subst (λ s. StartsIn s run) step is_run.1)
      in
      record {
        is = cons-same whole (joint p seens n k) run (watched (next_seens p seens) (next_count p seens n) (map own run)) parts.0 rest.is;
        is_run = (possible, rest.starts, rest.is_run);
        starts = parts.1;
      }

  -- ---- behind a run

  -- the state behind it, with the rounds counted
  record Behind (seens : List Bool) (n : ℕ) (run : List Position) (last : Position) : Type 0 where
    state : List Bool
    noted : List Bool
    is : successor t last ≡ state ++ watch_state noted (rounds_along c literals seens run + n) k
    state-length : length state ≡ length c.latches
    noted-length : length noted ≡ length literals

  behind : (run : List Position) (seens : List Bool) (n i : ℕ) (last : Position) → suc i ≡ length run → length seens ≡ length literals → IsRun c run
      → slice_get (watched seens n run) i ≡ Some last → Behind seens n run last
  behind [] seens n i last size l h at = absurd (omega (arith, size))
  behind (p ∷ []) seens n zero last size l h at =
      let same : joint p seens n k ≡ last = same_Some (joint p seens n k) last at in
      let sum : next_count p seens n ≡ rounds_along c literals seens (p ∷ []) + n = first-sum (ends_with (valuation_at c p) literals seens) n in
      record {
        state = successor c p;
        noted = next_seens p seens;
        is = ap (successor t) (sym same) ∙ next-is c j k checked limits property some one other p seens n h.0.position l
            ∙ ap (λ m. successor c p ++ watch_state (next_seens p seens) m k) sum;
        state-length = successor-length p;
        noted-length = length-seen_next (valuation_at c p) literals seens l;
      }
  behind (p ∷ []) seens n (suc i) last size l h at = absurd (omega (arith, size))
  behind (p ∷ q ∷ run) seens n zero last size l h at = absurd (omega (arith, size))
  behind (p ∷ q ∷ run) seens n (suc i) last size l h at =
      let later = behind (q ∷ run) (next_seens p seens) (next_count p seens n) i last (omega (arith, size)) (length-seen_next (valuation_at c p) literals seens l) h.2 at in
      let sum : rounds_along c literals (next_seens p seens) (q ∷ run) + next_count p seens n ≡ rounds_along c literals seens (p ∷ q ∷ run) + n =
      later-sum (ends_with (valuation_at c p) literals seens) (rounds_along c literals (next_seens p seens) (q ∷ run)) n
      in
      record {
        state = later.state;
        noted = later.noted;
        is = later.is ∙ ap (λ m. later.state ++ watch_state later.noted m k) sum;
        state-length = later.state-length;
        noted-length = later.noted-length;
      }

  -- ---- initial runs

  abbrev none : List Bool
  none = none_seen literals

  none-length : length none ≡ length literals
  none-length = length-replicate (length literals) false

  watch_begins : Begin (new_latches z) (watch_state none 0 k)
  watch_begins =
      begin-append (numbered (seen_latch z) 0 z.literals) (numbered (counter_latch z) 0 z.counters) none (tally 0 k)
      (begin-zero (seen z) (λ m. 2 * seen_gate z m) 0 z.literals)
      (subst (Begin (numbered (counter_latch z) 0 z.counters)) (sym (tally-zero k)) (begin-zero (counter z) (λ i. 2 * counter_gate z i + 1) 0 z.counters))

  watch_is : (values : List Bool) → Begin (new_latches z) values → values ≡ watch_state none 0 k
  watch_is values h =
      let split = begin-split (numbered (seen_latch z) 0 z.literals) (numbered (counter_latch z) 0 z.counters) values h in
      split.2
      ∙ ap (λ xs. xs ++ split.1) (zero-begins (seen z) (λ m. 2 * seen_gate z m) 0 z.literals split.0 split.3)
      ∙ ap (λ xs. none ++ xs) (zero-begins (counter z) (λ i. 2 * counter_gate z i + 1) 0 z.counters split.1 split.4 ∙ sym (tally-zero k))

  -- an initial run of the monitor
  record IsWatchedRun (run : List Position) : Type 0 where
    is : run ≡ watched none 0 (map own run)
    initial : IsInitialRun c (map own run)
    is_run : IsRun c (map own run)

  initial-watched : (run : List Position) → IsInitialRun t run → IsWatchedRun run
  initial-watched [] h = record { is = refl; initial = tt; is_run = tt }
  initial-watched (p ∷ run) h =
      let split = begin-split c.latches (new_latches z) p.latches h.0 in
      let starts : p.latches ≡ split.0 ++ watch_state none 0 k = split.2 ∙ ap (λ xs. split.0 ++ xs) (watch_is split.1 split.4) in
      let w = is-watched (p ∷ run) split.0 none 0 (begin-length c.latches split.0 split.3) none-length h.1 starts in
      record { is = w.is; initial = (subst (IsInitial c) (sym w.starts) split.3, w.is_run); is_run = w.is_run }

  watched-initial : (run : List Position) → IsInitialRun c run → IsInitialRun t (watched none 0 run)
  watched-initial [] h = tt
  watched-initial (p ∷ run) h = (
    begin-append c.latches (new_latches z) p.latches (watch_state none 0 k) h.0 watch_begins,
    watched-run none 0 (p ∷ run) none-length h.1,
  )

  abbrev value_behind : Position → ℕ → Bool
  value_behind last i = get_or (successor t last) (length c.latches + length literals + i) false

  -- the value of a counter behind a run
  counter-is : (run : List Position) (last : Position) (i : ℕ) → IsInitialRun t run → slice_get run (length run - 1) ≡ Some last
      → value_behind last i ≡ get_or (tally (rounds_along c literals none (map own run)) k) i false
  counter-is run last i initial at =
      let w = initial-watched run initial in
      let e : ℕ = length run - 1 in
      let size : suc e ≡ length (map own run) = some-run run last at ∙ sym (length-map run own) in
      let there : slice_get (watched none 0 (map own run)) e ≡ Some last = ap (λ r. slice_get r e) (sym w.is) ∙ at in
      let b = behind (map own run) none 0 e last size none-length w.is_run there in
      let n : ℕ = rounds_along c literals none (map own run) + 0 in
      let sum : n ≡ rounds_along c literals none (map own run) = omega arith in
      let fit : length (b.state ++ b.noted) ≡ length c.latches + length literals = omega (arith, length-append b.state b.noted, b.state-length, b.noted-length) in
      ap (λ s. get_or s (length c.latches + length literals + i) false) (b.is ∙ sym (append_assoc b.state b.noted (tally n k)))
      ∙ get_or-behind (b.state ++ b.noted) (tally n k) (length c.latches + length literals + i) i false (omega (arith, fit))
      ∙ ap (λ m. get_or (tally m k) i false) sum

  counts : (run : List Position) (last : Position) (i : ℕ) → IsInitialRun t run → slice_get run (length run - 1) ≡ Some last → i < k
      → (value_behind last i ≡ true) ↔ HasRounds c j (i + 1) (map own run)
  counts run last i initial at inside =
      let is = counter-is run last i initial at in
      let n : ℕ = rounds_along c literals none (map own run) in
      let most = counted c j (map own run) in (
        λ e. rounds-fewer c j (i + 1) n (map own run) (let a = tally-told n k i (sym is ∙ e) in omega (arith, a)) most.has,
        λ h. is ∙ tally-true n k i inside (let a = most.most (i + 1) h in omega (arith, a)),
      )

  pub watches : WatchesRounds c j k t
  watches = record {
    sound = λ run h. (initial-watched run h).initial;
    complete = λ run h. (watched none 0 run, watched-initial run h, own-watched none 0 run (run-of c run h));
    counts = counts;
  }

  -- ---- the last counter

  last-place : length t.latches - 1 ≡ length c.latches + length literals + (k - 1)
  last-place =
      let a = length-append c.latches (new_latches z) in
      omega (arith, a, latches-length z, some)

  from_full : HasFullRun t → HasRunOfRounds c j k
  from_full (run, full) =
      let size : k - 1 + 1 ≡ k = omega (arith, some) in
      let is_true : value_behind full.last (k - 1) ≡ true = ap (λ i. get_or (successor t full.last) i false) (sym last-place) ∙ full.full in
      let h = (counts run full.last (k - 1) full.initial full.is_last (omega (arith, some))).0 is_true in
      (map own run, (initial-watched run full.initial).initial, subst (λ n. HasRounds c j n (map own run)) size h)

  -- a run with a round has a last position
  last-of : (run : List Position) → 0 < length run → (last : Position) × (slice_get run (length run - 1) ≡ Some last)
  last-of run inside = at (length run - 1) run (omega (arith, inside))
    where
      at : (i : ℕ) (xs : List Position) → suc i ≡ length xs → (last : Position) × (slice_get xs i ≡ Some last)
      at i [] size = absurd (omega (arith, size))
      at zero (x ∷ xs) size = (x, refl)
      at (suc i) (x ∷ xs) size = at i xs (omega (arith, size))

  some-position : (n : ℕ) (run : List Position) → 1 ≤ n → HasRounds c j n run → 0 < length run
  some-position zero run le h = absurd (omega (arith, le))
  some-position (suc n) run le (front, segment, rest, split, is, more) =
      let size = ap length split in
      let a = length-append (front ++ segment) rest in
      let b = length-append front segment in
      let e = is.some in
      omega (arith, size, a, b, e)

  to_full : HasRunOfRounds c j k → HasFullRun t
  to_full (run, initial, h) =
      let whole : List Position = watched none 0 run in
      let inside : 0 < length whole = omega (arith, watched-length none 0 run, some-position k run some h) in
      let last = last-of whole inside in
      let size : k ≡ k - 1 + 1 = omega (arith, some) in
      let back_again = own-watched none 0 run (run-of c run initial) in
      let rounds : HasRounds c j (k - 1 + 1) (map own whole) = subst (λ r. HasRounds c j (k - 1 + 1) r) (sym back_again) (subst (λ n. HasRounds c j n run) size h) in
      let is_true = (counts whole last.0 (k - 1) (watched-initial run initial) last.1 (omega (arith, some))).1 rounds in (
        whole,
        record {
          initial = watched-initial run initial;
          last = last.0;
          is_last = last.1;
          full = ap (λ i. get_or (successor t last.0) i false) last-place ∙ is_true;
        },
      )

  pub exact : HasFullRun t ↔ HasRunOfRounds c j k
  exact = (from_full, to_full)
