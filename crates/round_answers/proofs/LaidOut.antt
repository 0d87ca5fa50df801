-- A run as it is laid out, and how it is judged.
use Rattle.std.proofs.Common.{◌≡◌, ℕ, ◌+◌, ◌<◌, ◌≤◌, inl, inr, Bool, true, List, [], ◌∷◌, ◌++◌, map, length, take, drop, get_or, refl, sym, ap, subst, ◌∙◌, arith, append-nil}
use Rattle.std.specs.Prelude.{◌↔◌, IsTrue}
use Rattle.std.specs.List.{All}
use Rattle.std.proofs.lemmas.Bool.{cases_lt}
use Rattle.std.proofs.lemmas.List.{take_more, take_all, drop_all, length-take-le}
use Rattle.std.proofs.lemmas.List.Elements.{All-nil, All-head, All-tail, All-push}
use Rattle.aig_semantics.specs.declared.traces.Position.{Position}
use Rattle.aig_semantics.specs.declared.traces.Stimulus.{Stimulus}
use Rattle.aig_semantics.specs.Literals.{literal_in}
use Rattle.aig_semantics.specs.Circuits.{Circuit}
use Rattle.aig_semantics.specs.Valuations.{valuation}
use Rattle.aig_semantics.specs.Runs.{position_of, literal_at, successor, MeetsConstraints, IsInitial, IsInitialRun}
use Rattle.aig_semantics.specs.Stimuli.{simulated, state_after, FitsCircuit}
use Rattle.fair_semantics.proofs.Runs.{run-of}
use Rattle.circuit.proofs.Following.{length-simulated}
use Rattle.stimulus.specs.Faults.{AreAllowed}
use Rattle.stimulus.proofs.RunLemmas.{state_after-push, simulated-push, IsRun-from_meets, IsRun-meets}
use Rattle.stimulus.proofs.TrackLemmas.{length-state_after, IsInitialRun-simulated}
use Rattle.stimulus.proofs.FaultLemmas.{fewer_meet, first_positions_meet}
use Rattle.round_answers.specs.Ends.{IsFirstForbidden}
use Rattle.round_answers.specs.Running.{IsLaidOut}

simulated-none : (c : Circuit) (latches : List Bool) → simulated c latches [] ≡ []
unfolding simulated
simulated-none c latches = refl

after-none : (c : Circuit) (latches : List Bool) → state_after c latches [] ≡ latches
unfolding state_after
after-none c latches = refl

-- the first i positions are laid out and are allowed, and the state behind them is in hand
pub record IsOnTheWay (c : Circuit) (s : Stimulus) (i : ℕ) (run : List Position) (state : List Bool) : Type 0 where
  pub laid : run ≡ simulated c s.latches (take i s.inputs)
  pub allowed : AreAllowed c run
  pub stands : state ≡ state_after c s.latches (take i s.inputs)

pub way_start : (c : Circuit) (s : Stimulus) (run : List Position) (state : List Bool) → run ≡ [] → state ≡ s.latches → IsOnTheWay c s 0 run state
way_start c s run state none is = record {
  laid = none ∙ sym (simulated-none c s.latches);
  allowed = subst (AreAllowed c) (sym none) (All-nil (MeetsConstraints c));
  stands = is ∙ sym (after-none c s.latches);
}

pub way_size : (c : Circuit) (s : Stimulus) (i : ℕ) (run : List Position) (state : List Bool) → FitsCircuit c s → IsOnTheWay c s i run state → length state ≡ length c.latches
way_size c s i run state fits way = ap length way.stands ∙ length-state_after c s.latches (take i s.inputs) fits.latches

pub inputs_size : (c : Circuit) (s : Stimulus) (i : ℕ) (now : List Bool) → FitsCircuit c s → i < length s.inputs → now ≡ get_or s.inputs i now → length now ≡ length c.inputs
inputs_size c s i now fits inside at = ap length at ∙ fits.inputs i now inside

-- the position with these inputs comes behind them
next_position : (c : Circuit) (s : Stimulus) (i : ℕ) (run : List Position) (state now : List Bool) → IsOnTheWay c s i run state → i < length s.inputs → now ≡ get_or s.inputs i now
    → simulated c s.latches (take (i + 1) s.inputs) ≡ run ++ position_of state now ∷ []
next_position c s i run state now way inside at =
    let more : take (i + 1) s.inputs ≡ take i s.inputs ++ now ∷ [] = take_more s.inputs i now inside ∙ ap (λ x. take i s.inputs ++ x ∷ []) (sym at) in
    ap (simulated c s.latches) more ∙ simulated-push c s.latches (take i s.inputs) now
    ∙ ap (λ xs. xs ++ position_of (state_after c s.latches (take i s.inputs)) now ∷ []) (sym way.laid)
    ∙ ap (λ x. run ++ position_of x now ∷ []) (sym way.stands)

-- the inputs of a position, as a slice
pub at_place : (xs ys : List (List Bool)) (k : ℕ) (item : List Bool) → ys ≡ xs → item ≡ get_or ys k item → item ≡ get_or xs k item
at_place xs ys k item same at = at ∙ ap (λ zs. get_or zs k item) same

pub inside_place : (xs ys : List (List Bool)) (k : ℕ) → ys ≡ xs → k < length ys → k < length xs
inside_place xs ys k same inside = omega (arith, ap length same)

pub past_place : (xs ys : List (List Bool)) (k : ℕ) → ys ≡ xs → length ys ≤ k → length xs ≤ k
past_place xs ys k same past = omega (arith, ap length same)

-- a list that is written whole
pub written_back : (n : ℕ) (new old : List Bool) → length old ≡ n → length new ≡ n → take n (new ++ drop (length new) old) ≡ new
written_back n new old was is =
    ap (λ t. take n (new ++ t)) (drop_all (length new) old (omega (arith, was, is)))
    ∙ (ap (λ t. take n t) (append-nil new) ∙ take_all n new (omega (arith, is)))

-- the constraints are true at the position of these values
pub met_by : (c : Circuit) (state now values : List Bool) (literals : List ℕ) (answer : Bool) → values ≡ valuation c state now → literals ≡ c.constraints
    → (IsTrue answer ↔ All (λ literal. IsTrue (literal_in values literal)) literals)
    → (IsTrue answer ↔ All (λ literal. IsTrue (literal_at c (position_of state now) literal)) c.constraints)
met_by c state now values literals answer is same told =
    subst (λ (ls : List ℕ). IsTrue answer ↔ All (λ literal. IsTrue (literal_at c (position_of state now) literal)) ls) same
    (subst (λ (vs : List Bool). IsTrue answer ↔ All (λ literal. IsTrue (literal_in vs literal)) literals) is told)

-- the state behind it
pub behind_by : (c : Circuit) (state now values next : List Bool) → values ≡ valuation c state now → next ≡ map (λ latch. literal_in values latch.next) c.latches
    → next ≡ successor c (position_of state now)
behind_by c state now values next is told = told ∙ ap (λ (vs : List Bool). map (λ latch. literal_in vs latch.next) c.latches) is

pub way_more : (c : Circuit) (s : Stimulus) (i : ℕ) (run : List Position) (state now held copy next : List Bool) (more : List Position) → FitsCircuit c s → IsOnTheWay c s i run state → i < length s.inputs
    → now ≡ get_or s.inputs i now → All (λ literal. IsTrue (literal_at c (position_of state now) literal)) c.constraints → next ≡ successor c (position_of state now)
    → held ≡ state → copy ≡ now → more ≡ run ++ position_of held copy ∷ [] → IsOnTheWay c s (i + 1) more next
way_more c s i run state now held copy next more fits way inside at meets behind same is longer =
    let whole : more ≡ run ++ position_of state now ∷ [] =
    longer ∙ ap (λ (x : List Bool). run ++ position_of x copy ∷ []) same ∙ ap (λ (x : List Bool). run ++ position_of state x ∷ []) is in
    let taken : take (i + 1) s.inputs ≡ take i s.inputs ++ now ∷ [] = take_more s.inputs i now inside ∙ ap (λ x. take i s.inputs ++ x ∷ []) (sym at) in
    record {
      laid = whole ∙ sym (next_position c s i run state now way inside at);
      allowed =
          subst (AreAllowed c) (sym whole)
          (All-push (MeetsConstraints c) run (position_of state now) way.allowed
          (record { position = record { latches = way_size c s i run state fits way; inputs = inputs_size c s i now fits inside at }; constraints = meets }));
      stands =
          behind ∙ ap (λ x. successor c (position_of x now)) way.stands ∙ sym (state_after-push c s.latches (take i s.inputs) now) ∙ sym (ap (state_after c s.latches) taken);
    }

way_length : (c : Circuit) (s : Stimulus) (i : ℕ) (run : List Position) (state : List Bool) → IsOnTheWay c s i run state → i ≤ length s.inputs → length run ≡ i
way_length c s i run state way inside = ap length way.laid ∙ length-simulated c s.latches (take i s.inputs) ∙ length-take-le i s.inputs inside

last_of : (c : Circuit) (run : List Position) (p : Position) → AreAllowed c (run ++ p ∷ []) → MeetsConstraints c p
last_of c [] p h = All-head (MeetsConstraints c) p [] h
last_of c (q ∷ run) p h = last_of c run p (All-tail (MeetsConstraints c) q (run ++ p ∷ []) h)

pub way_forbidden : (c : Circuit) (s : Stimulus) (i : ℕ) (run : List Position) (state now : List Bool) → IsOnTheWay c s i run state → i < length s.inputs → now ≡ get_or s.inputs i now
    → (All (λ literal. IsTrue (literal_at c (position_of state now) literal)) c.constraints → ⊥) → IsFirstForbidden c s (length run)
way_forbidden c s i run state now way inside at none =
    let size : length run ≡ i = way_length c s i run state way (omega (arith, inside)) in
    subst (IsFirstForbidden c s) (sym size) (record {
      inside = inside;
      before = subst (AreAllowed c) way.laid way.allowed;
      forbidden = λ all. none (last_of c run (position_of state now) (subst (AreAllowed c) (next_position c s i run state now way inside at) all)).constraints;
    })

pub way_end : (c : Circuit) (s : Stimulus) (i : ℕ) (run : List Position) (state : List Bool) → IsOnTheWay c s i run state → length s.inputs ≤ i → IsLaidOut c s run true
way_end c s i run state way past = (way.laid ∙ ap (simulated c s.latches) (take_all i s.inputs past), way.allowed)

-- ---- what is judged

-- positions that are allowed, from an initial state, are an initial run, and of an initial run all are
pub allowed_run : (c : Circuit) (s : Stimulus) → IsInitial c s.latches → AreAllowed c (simulated c s.latches s.inputs) → IsInitialRun c (simulated c s.latches s.inputs)
allowed_run c s initial allowed = IsInitialRun-simulated c s.latches s.inputs initial (IsRun-from_meets c s.latches s.inputs allowed)

pub run_allowed : (c : Circuit) (s : Stimulus) → IsInitialRun c (simulated c s.latches s.inputs) → AreAllowed c (simulated c s.latches s.inputs)
run_allowed c s run = IsRun-meets c (simulated c s.latches s.inputs) (run-of c (simulated c s.latches s.inputs) run)

pub none_forbidden : (c : Circuit) (s : Stimulus) (n : ℕ) → AreAllowed c (simulated c s.latches s.inputs) → IsFirstForbidden c s n → ⊥
none_forbidden c s n all h = h.forbidden (first_positions_meet c s (n + 1) all)

pub one_forbidden : (c : Circuit) (s : Stimulus) (m n : ℕ) → IsFirstForbidden c s m → IsFirstForbidden c s n → m ≡ n
one_forbidden c s m n a b =
    elim (cases_lt m n) [
      | inl below ↦ absurd (a.forbidden (fewer_meet c s (m + 1) n (omega (arith, below)) b.before))
      | inr above ↦ elim (cases_lt n m) [ inl below ↦ absurd (b.forbidden (fewer_meet c s (n + 1) m (omega (arith, below)) a.before)) | inr other ↦ omega (arith, above, other) ]
    ]
