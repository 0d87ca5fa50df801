-- Paths of a search without entries to a literal, and full runs of a monitor: the same.
use Rattle.std.proofs.Common.{◌≡◌, ℕ, zero, suc, ◌+◌, ◌-◌, ◌*◌, ◌<◌, ◌≤◌, ◌↔◌, Bool, false, List, [], ◌∷◌, ◌++◌, map, length, get_or, refl, sym, ap, ◌∙◌, subst, arith, Some, slice_get, length-append}
use Rattle.std.specs.List.{All, flat_map, range_with_len}
use Rattle.std.proofs.lemmas.Option.{same_Some, none-some}
use Rattle.std.proofs.lemmas.List.{length-map}
use Rattle.std.proofs.lemmas.List.Elements.{All-nil, All-cons}
use Rattle.std.proofs.lemmas.List.FromFn.{length-range_with_len}
use Rattle.aig_semantics.specs.declared.parts.Latch.{Latch}
use Rattle.aig_semantics.specs.declared.parts.Reset.TheVariants.{Zero}
use Rattle.aig_semantics.specs.declared.traces.Position.{Position}
use Rattle.aig_semantics.specs.Circuits.{Circuit, IsWithinLimits, fair_literals}
use Rattle.aig_semantics.proofs.Lists.{All-left}
use Rattle.circuit.proofs.Counting.{All-unmap}
use Rattle.aig_semantics.specs.Runs.{literal_at, successor, MeetsConstraints, StartsIn, IsRun, IsInitialRun}
use Rattle.ic3_semantics.specs.Searching.{Leads, IsPathToLiteral}
use Rattle.fair_semantics.specs.Rounds.{HasRounds}
use Rattle.live_to_safe.specs.Watching.{numbered}
use Rattle.round_monitor.specs.declared.sizes.Sizes.{Sizes}
use Rattle.round_monitor.specs.Counting.{IsFullRun, HasFullRun, HasRunOfRounds, WatchesRounds, own_position}
use Rattle.round_monitor.specs.Monitor.{monitor_circuit}
use Rattle.round_monitor.specs.Numbers.{sizes_of}
use Rattle.round_monitor.specs.Watching.{seen_latch, counter_latch, new_latches}
use Rattle.fair_semantics.proofs.Runs.{run-of, initial-run}
use Rattle.round_monitor.proofs.Lists.{get_or-behind}
use Rattle.k_live.specs.Asking.{next_of_last, question}

abbrev pub no_latch : Latch
no_latch = record { var = 0; next = 0; reset = Zero }

-- the value of a latch behind a position
next-at : (f : Latch → Bool) (latches : List Latch) (i : ℕ) → i < length latches → get_or (map f latches) i false ≡ f (get_or latches i no_latch)
next-at f [] i below = absurd (omega (arith, below))
next-at f (l ∷ latches) zero below = refl
next-at f (l ∷ latches) (suc i) below = next-at f latches i (omega (arith, below))

pub last-next : (t : Circuit) (p : Position) → 0 < length t.latches → get_or (successor t p) (length t.latches - 1) false ≡ literal_at t p (next_of_last t)
last-next t p some = next-at (λ latch. literal_at t p latch.next) t.latches (length t.latches - 1) (omega (arith, some))

-- ---- from a path

leads-run : (t : Circuit) (s e : List Bool) (positions : List Position) → Leads (question t) s positions e → IsRun t positions × StartsIn s positions
leads-run t s e [] leads = (tt, tt)
leads-run t s e (p ∷ positions) leads =
    let rest = leads-run t (successor t p) e positions leads.3 in
    ((leads.1, rest.1, rest.0), leads.0)

slice-last : (before : List Position) (last : Position) → slice_get (before ++ last ∷ []) (length before) ≡ Some last
slice-last [] last = refl
slice-last (p ∷ before) last = slice-last before last

pub path-full : (t : Circuit) (positions : List Position) → 0 < length t.latches → IsPathToLiteral (question t) (next_of_last t) [] positions → IsFullRun t positions
path-full t positions some path =
    let run = leads-run t path.path.from (successor t path.last) positions path.path.leads in
    let size : length positions - 1 ≡ length path.before =
    (let a = ap length path.is_last ∙ length-append path.before (path.last ∷ []) in omega (arith, a))
    in
    record {
      initial = initial-run t path.path.from positions path.path.starts run.1 run.0;
      last = path.last;
      is_last = ap (slice_get positions) size ∙ ap (λ xs. slice_get xs (length path.before)) path.is_last ∙ slice-last path.before path.last;
      full = last-next t path.last some ∙ path.meets.holds;
    }

-- ---- from a full run

run-leads : (t : Circuit) (run : List Position) (k : ℕ) (last : Position) → suc k ≡ length run → slice_get run k ≡ Some last → (s : List Bool) → IsRun t run → StartsIn s run
    → Leads (question t) s run (successor t last)
run-leads t [] k last size at s h starts = absurd (omega (arith, size))
run-leads t (p ∷ []) zero last size at s h starts = (starts, h.0, refl, ap (successor t) (same_Some p last at))
run-leads t (p ∷ []) (suc k) last size at s h starts = absurd (omega (arith, size))
run-leads t (p ∷ q ∷ run) zero last size at s h starts = absurd (omega (arith, size))
run-leads t (p ∷ q ∷ run) (suc k) last size at s h starts =
    (starts, h.0, refl, run-leads t (q ∷ run) k last (omega (arith, size)) at (successor t p) h.2 h.1)

-- the positions before the last
front_of : (run : List Position) (k : ℕ) (last : Position) → suc k ≡ length run → slice_get run k ≡ Some last → (before : List Position) × (run ≡ before ++ last ∷ [])
front_of [] k last size at = absurd (omega (arith, size))
front_of (p ∷ []) zero last size at = ([], ap (λ x. x ∷ []) (same_Some p last at))
front_of (p ∷ []) (suc k) last size at = absurd (omega (arith, size))
front_of (p ∷ q ∷ run) zero last size at = absurd (omega (arith, size))
front_of (p ∷ q ∷ run) (suc k) last size at =
    let rest = front_of (q ∷ run) k last (omega (arith, size)) at in
    (p ∷ rest.0, ap (λ xs. p ∷ xs) rest.1)

last-possible : (t : Circuit) (run : List Position) (k : ℕ) (last : Position) → slice_get run k ≡ Some last → IsRun t run → MeetsConstraints t last
last-possible t [] k last at h = absurd (none-some last at)
last-possible t (p ∷ run) zero last at h = subst (MeetsConstraints t) (same_Some p last at) h.0
last-possible t (p ∷ run) (suc k) last at h = last-possible t run k last at h.2

pub full-path : (t : Circuit) (run : List Position) → 0 < length t.latches → IsFullRun t run → IsPathToLiteral (question t) (next_of_last t) [] run
full-path t [] some full = absurd (none-some full.last full.is_last)
full-path t (p ∷ run) some full =
    let k : ℕ = length (p ∷ run) - 1 in
    let size : suc k ≡ length (p ∷ run) = omega arith in
    let front = front_of (p ∷ run) k full.last size full.is_last in
    record {
      before = front.0;
      last = full.last;
      is_last = front.1;
      meets = record {
        possible = last-possible t (p ∷ run) k full.last full.is_last full.initial.1;
        holds = sym (last-next t full.last some) ∙ full.full;
        avoids = All-nil _;
        state = refl;
        next = refl;
      };
      path = record {
        from = p.latches;
        starts = full.initial.0;
        leads = run-leads t (p ∷ run) k full.last size full.is_last p.latches full.initial.1 refl;
      };
    }

-- ---- what is decided

-- the monitor has a latch for each counter, behind those of the circuit
pub monitor-latches : (c : Circuit) (j k : ℕ) → length (monitor_circuit c j k).latches ≡ length c.latches + (length (fair_literals c j) + k)
monitor-latches c j k =
    let z : Sizes = sizes_of c j k in
    let a = length-append c.latches (new_latches z) in
    let b = length-append (numbered (seen_latch z) 0 z.literals) (numbered (counter_latch z) 0 z.counters) in
    let d : length (numbered (seen_latch z) 0 z.literals) ≡ z.literals = length-map (range_with_len 0 z.literals) (seen_latch z) ∙ length-range_with_len 0 z.literals in
    let e : length (numbered (counter_latch z) 0 z.counters) ≡ z.counters = length-map (range_with_len 0 z.counters) (counter_latch z) ∙ length-range_with_len 0 z.counters in
    omega (arith, a, b, d, e)

pub some-latch : (c : Circuit) (j k : ℕ) (t : Circuit) → 1 ≤ k → t ≡ monitor_circuit c j k → 0 < length t.latches
some-latch c j k t some is = subst (λ x. 0 < length x.latches) (sym is) (omega (arith, some, monitor-latches c j k))

run-latches : (t : Circuit) (n : ℕ) (run : List Position) → n ≤ length t.latches → IsRun t run → All (λ p. n ≤ length p.latches) run
run-latches t n [] le h = All-nil _
run-latches t n (p ∷ run) le h =
    All-cons (λ q. n ≤ length q.latches) p run (let a = h.0.position.latches in omega (arith, a, le)) (run-latches t n run le h.2)

pub path-latches : (c : Circuit) (j k : ℕ) (t : Circuit) (positions : List Position) → 1 ≤ k → t ≡ monitor_circuit c j k
    → IsPathToLiteral (question t) (next_of_last t) [] positions → All (λ p. length c.latches ≤ length p.latches) positions
path-latches c j k t positions some is path =
    let size : length t.latches ≡ length c.latches + (length (fair_literals c j) + k) = ap (λ x. length x.latches) is ∙ monitor-latches c j k in
    let full = path-full t positions (some-latch c j k t some is) path in
    run-latches t (length c.latches) positions (omega (arith, size)) (run-of t positions full.initial)

-- a path is a run with the rounds
pub path-decides : (c : Circuit) (j k : ℕ) (t : Circuit) (positions : List Position) → 1 ≤ k → t ≡ monitor_circuit c j k → WatchesRounds c j k t
    → IsPathToLiteral (question t) (next_of_last t) [] positions
    → IsInitialRun c (map (own_position c) positions) × HasRounds c j k (map (own_position c) positions)
path-decides c j k t positions some is watches path =
    let full = path-full t positions (some-latch c j k t some is) path in
    let size : length t.latches ≡ length c.latches + (length (fair_literals c j) + k) = ap (λ x. length x.latches) is ∙ monitor-latches c j k in
    let place : length t.latches - 1 ≡ length c.latches + length (fair_literals c j) + (k - 1) = omega (arith, size, some) in
    let back : k - 1 + 1 ≡ k = omega (arith, some) in
    let h = (watches.counts positions full.last (k - 1) full.initial full.is_last (omega (arith, some))).0
    (ap (λ i. get_or (successor t full.last) i false) (sym place) ∙ full.full) in
    (watches.sound positions full.initial, subst (λ n. HasRounds c j n (map (own_position c) positions)) back h)

-- where there is no path no run has them
pub none-decides : (c : Circuit) (j k : ℕ) (t : Circuit) → 1 ≤ k → t ≡ monitor_circuit c j k → (HasFullRun t ↔ HasRunOfRounds c j k)
    → ((positions : List Position) → IsPathToLiteral (question t) (next_of_last t) [] positions → ⊥) → HasRunOfRounds c j k → ⊥
none-decides c j k t some is exact none run =
    let full = exact.1 run in
    none full.0 (full-path t full.0 (some-latch c j k t some is) full.1)

counters-zero : (z : Sizes) (first i n : ℕ) → i < n → (get_or (numbered (counter_latch z) first n) i no_latch).reset ≡ Zero
counters-zero z first i zero below = absurd (omega (arith, below))
counters-zero z first zero (suc n) below = refl
counters-zero z first (suc i) (suc n) below = counters-zero z (first + 1) i n (omega (arith, below))

-- the last latch of a monitor begins with 0
pub last-zero : (c : Circuit) (j k : ℕ) (t : Circuit) → 1 ≤ k → t ≡ monitor_circuit c j k → (get_or t.latches (length t.latches - 1) no_latch).reset ≡ Zero
last-zero c j k t some is =
    let z : Sizes = sizes_of c j k in
    let m : Circuit = monitor_circuit c j k in
    let seens : List Latch = numbered (seen_latch z) 0 z.literals in
    let counters : List Latch = numbered (counter_latch z) 0 k in
    let d : length seens ≡ z.literals = length-map (range_with_len 0 z.literals) (seen_latch z) ∙ length-range_with_len 0 z.literals in
    let place : length m.latches - 1 ≡ length c.latches + (z.literals + (k - 1)) = omega (arith, monitor-latches c j k, some) in
    let inner : z.literals + (k - 1) ≡ length seens + (k - 1) = omega (arith, d) in
    let at_last : get_or m.latches (length m.latches - 1) no_latch ≡ get_or counters (k - 1) no_latch =
    get_or-behind c.latches (seens ++ counters) (length m.latches - 1) (z.literals + (k - 1)) no_latch place
    ∙ get_or-behind seens counters (z.literals + (k - 1)) (k - 1) no_latch inner
    in
    subst (λ x. (get_or x.latches (length x.latches - 1) no_latch).reset ≡ Zero) (sym is)
    (ap (λ l. l.reset) at_last ∙ counters-zero z 0 (k - 1) k (omega (arith, some)))

-- and its next literal is within the range
pub next-low : (t : Circuit) → IsWithinLimits t → 0 < length t.latches → next_of_last t ≤ 2 * t.max + 1
next-low t limits some =
    let P : ℕ → Type 0 = λ literal. literal ≤ 2 * t.max + 1 in
    let nexts : List ℕ = map (λ latch. latch.next) t.latches in
    let rights : List ℕ = flat_map (λ gate. gate.rhs0 ∷ gate.rhs1 ∷ []) t.gates in
    let properties : List ℕ = flat_map (λ property. property) t.justice in
    let of_nexts : All P nexts =
    All-left P nexts rights (All-left P (nexts ++ rights) t.constraints (All-left P (nexts ++ rights ++ t.constraints) properties
    (All-left P (nexts ++ rights ++ t.constraints ++ properties) t.fairness limits.literals)))
    in
    All-unmap P (λ latch. latch.next) t.latches of_nexts (length t.latches - 1) no_latch (omega (arith, some))
