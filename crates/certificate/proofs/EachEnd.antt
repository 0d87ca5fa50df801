-- The check of every text has an end: a search over the positions of a stimulus.
use Rattle.std.proofs.Common.{◌≡◌, ◌≤◌, ◌<◌, ◌⊎◌, ℕ, zero, suc, ◌+◌, ◌-◌, Bool, true, false, List, [], ◌∷◌, length, take, drop, get_or, slice_get, refl, sym, ap, subst, ◌∙◌, arith, Some, None, Option, Ok, Err, inl, inr, IsTrue, All, Any, eqb, eqb-true, eq-eqb}
use Rattle.std.specs.List.{list_any}
use Rattle.std.proofs.lemmas.Bool.{cases_lt, cases_Bool, false≢true}
use Rattle.std.proofs.lemmas.Option.{same_Some, none-some}
use Rattle.std.proofs.lemmas.List.Elements.{All-nil, All-cons, All-head, All-tail}
use Rattle.std.proofs.lemmas.List.Folds.{Any-from_list_any, list_any-from_Any}
use Rattle.aig_semantics.specs.declared.parts.Latch.{Latch}
use Rattle.aig_semantics.specs.declared.parts.Reset.{Reset}
use Rattle.aig_semantics.specs.declared.parts.Reset.TheVariants.{Zero, One, Free}
use Rattle.aig_semantics.specs.declared.traces.Position.{Position}
use Rattle.aig_semantics.specs.declared.traces.Stimulus.{Stimulus}
use Rattle.aig_semantics.specs.Circuits.{Circuit, fair_literals}
use Rattle.aig_semantics.specs.Runs.{position_of, successor, literal_at, AgreesWith, MeetsConstraints, IsRun, IsInitial, IsInitialRun, ClosesAt, MeetsFairness}
use Rattle.aig_semantics.specs.Stimuli.{simulated, FitsCircuit, HasLasso, StandsFor}
use Rattle.stimulus.specs.declared.ends.ReplayFault.{ReplayFault}
use Rattle.stimulus.specs.declared.ends.ReplayFault.TheVariants.{Width, NotInitial, Constraint, NoFairLoop, NoProperty}
use Rattle.stimulus.specs.Faults.{items_of, width_of, IsFirstMisfit, AgreesAt, IsFirstWrong, CanBegin, AreAllowed, HasReplayFault}
use Rattle.stimulus.proofs.FaultLemmas.{initial_from}
use Rattle.answer_lines.specs.Left.{most_bytes}
use Rattle.circuit.proofs.Following.{StartsIn-simulated}
use Rattle.certificate.specs.declared.ends.Accepted.{Accepted}
use Rattle.certificate.specs.declared.ends.Accepted.TheVariants.{Lasso, Holds}
use Rattle.certificate.specs.declared.ends.AnswerFault.{AnswerFault}
use Rattle.certificate.specs.declared.ends.AnswerFault.TheVariants as faults
use Rattle.certificate.specs.Lines.{end_of, kept_readable}
use Rattle.certificate.specs.Answers.{IsGood}
use Rattle.certificate.specs.Reading.{State, Status, Property, Latches, Rows, Dotted, Versioned, Certified, Ended, Stepped, read_lines}
use Rattle.certificate.specs.Ends.{IsGoodAtEnd, IsFaultAtEnd, IsFirstFault, IsRefused}
use Rattle.certificate.specs.Laws.{EachHasEnd}
use Rattle.certificate.proofs.GoodRead.{good_from_reads}

-- ---- what can be decided

abbrev pub Known : Type 0 → Type 0
Known P = P ⊎ (P → ⊥)

both_known : {P Q : Type 0} → Known P → Known Q → Known (P × Q)
both_known (inl p) (inl q) = inl (p, q)
both_known (inl p) (inr never) = inr (λ h. never h.1)
both_known (inr never) q = inr (λ h. never h.0)

same_number : (m n : ℕ) → Known (m ≡ n)
same_number m n = elim (cases_Bool (eqb m n)) [ inl e ↦ inl (eqb-true m n e) | inr e ↦ inr (λ same. false≢true (sym e ∙ eq-eqb m n same)) ]

is_so : (b : Bool) → Known (IsTrue b)
is_so true = inl refl
is_so false = inr (λ h. false≢true h)

same_values : (a b : List Bool) → Known (a ≡ b)
same_values [] [] = inl refl
same_values [] (y ∷ b) = inr (λ e. cc)
same_values (x ∷ a) [] = inr (λ e. cc)
same_values (true ∷ a) (true ∷ b) = elim (same_values a b) [ inl e ↦ inl (ap (λ l. true ∷ l) e) | inr never ↦ inr (λ e. never (cc)) ]
same_values (false ∷ a) (false ∷ b) = elim (same_values a b) [ inl e ↦ inl (ap (λ l. false ∷ l) e) | inr never ↦ inr (λ e. never (cc)) ]
same_values (true ∷ a) (false ∷ b) = inr (λ e. (let wrong : true ≡ false = cc in cc))
same_values (false ∷ a) (true ∷ b) = inr (λ e. (let wrong : false ≡ true = cc in cc))

cons_known : {X : Type 0} (P : X → Type 0) (x : X) (xs : List X) → Known (P x) → Known (All P xs) → Known (All P (x ∷ xs))
cons_known P x xs (inl h) (inl t) = inl (All-cons P x xs h t)
cons_known P x xs (inl h) (inr never) = inr (λ all. never (All-tail P x xs all))
cons_known P x xs (inr never) t = inr (λ all. never (All-head P x xs all))

all_known : {X : Type 0} (P : X → Type 0) → ((x : X) → Known (P x)) → (xs : List X) → Known (All P xs)
all_known P known [] = inl (All-nil P)
all_known P known (x ∷ xs) = cons_known P x xs (known x) (all_known P known xs)

any_known : {X : Type 0} (test : X → Bool) (xs : List X) → Known (Any (λ x. IsTrue (test x)) xs)
any_known test xs =
    elim (cases_Bool (list_any test xs)) [
      | inl e ↦ inl (Any-from_list_any test xs e)
      | inr e ↦ inr (λ h. false≢true (sym e ∙ list_any-from_Any test xs h))
    ]

not_not : {P : Type 0} → Known P → ((P → ⊥) → ⊥) → P
not_not (inl p) h = p
not_not (inr never) h = absurd (h never)

no_known : {P : Type 0} → Known P → Known (P → ⊥)
no_known (inl p) = inr (λ never. never p)
no_known (inr never) = inl never

-- the least number below a bound
abbrev Least : (ℕ → Type 0) → ℕ → Type 0
Least P bound = (n : ℕ) × (n < bound) × P n × ((m : ℕ) → m < n → P m → ⊥)

abbrev NoneBelow : (ℕ → Type 0) → ℕ → Type 0
NoneBelow P bound = (m : ℕ) → m < bound → P m → ⊥

last_number : (P : ℕ → Type 0) (bound : ℕ) → NoneBelow P bound → (P bound → ⊥) → NoneBelow P (suc bound)
last_number P bound none never m low h =
    elim (cases_lt m bound) [
      | inl below ↦ none m below h
      | inr above ↦ (let same : m ≡ bound = omega (arith, low, above) in never (subst P same h))
    ]

least_more : (P : ℕ → Type 0) (bound : ℕ) → Known (P bound) → Least P bound ⊎ NoneBelow P bound → Least P (suc bound) ⊎ NoneBelow P (suc bound)
least_more P bound here (inl (n, low, h, none)) = inl (n, omega (arith, low), h, none)
least_more P bound (inl h) (inr none) = inl (bound, omega arith, h, none)
least_more P bound (inr never) (inr none) = inr (last_number P bound none never)

least : (P : ℕ → Type 0) → ((n : ℕ) → Known (P n)) → (bound : ℕ) → Least P bound ⊎ NoneBelow P bound
least P known zero = inr (λ m low h. absurd (omega (arith, low)))
least P known (suc bound) = least_more P bound (known bound) (least P known bound)

-- ---- before the positions

default : {X : Type 0} (xs : List X) (k : ℕ) (d e : X) → k < length xs → get_or xs k d ≡ get_or xs k e
default [] k d e inside = absurd (omega (arith, inside))
default (x ∷ xs) zero d e inside = refl
default (x ∷ xs) (suc k) d e inside = default xs k d e (omega (arith, inside))

abbrev HasWidth : Circuit → Stimulus → ℕ → Type 0
HasWidth c s n = length (get_or (items_of s) n []) ≡ width_of c n

width_known : (c : Circuit) (s : Stimulus) (n : ℕ) → Known (HasWidth c s n)
width_known c s n = same_number (length (get_or (items_of s) n [])) (width_of c n)

all_fit : (c : Circuit) (s : Stimulus) → NoneBelow (λ n. HasWidth c s n → ⊥) (length (items_of s)) → FitsCircuit c s
all_fit c s none =
    let each : (n : ℕ) → n < length (items_of s) → HasWidth c s n = λ n low. not_not (width_known c s n) (none n low) in
    record {
      latches = each 0 (omega arith);
      inputs = λ k d inside. (ap length (default s.inputs k d [] inside) ∙ each (suc k) (omega (arith, inside)));
    }

fits_or_not : (c : Circuit) (s : Stimulus) → FitsCircuit c s ⊎ ((item : ℕ) × IsFirstMisfit c s item)
fits_or_not c s = by (least (λ n. HasWidth c s n → ⊥) (λ n. no_known (width_known c s n)) (length (items_of s)))
  where
    by : Least (λ n. HasWidth c s n → ⊥) (length (items_of s)) ⊎ NoneBelow (λ n. HasWidth c s n → ⊥) (length (items_of s))
        → FitsCircuit c s ⊎ ((item : ℕ) × IsFirstMisfit c s item)
    by (inl (item, low, misfits, none)) = inr (item, record { inside = low; before = λ n below. not_not (width_known c s n) (none n below); misfits = misfits })
    by (inr none) = inl (all_fit c s none)

agrees_known : (reset : Reset) (value : Bool) → Known (AgreesWith reset value)
agrees_known Zero true = inr (λ e. false≢true (sym e))
agrees_known Zero false = inl refl
agrees_known One true = inl refl
agrees_known One false = inr (λ e. false≢true e)
agrees_known Free value = inl tt

agrees_by : (c : Circuit) (values : List Bool) (n : ℕ) (l : Option Latch) (v : Option Bool) → slice_get c.latches n ≡ l → slice_get values n ≡ v → Known (AgreesAt c values n)
agrees_by c values n None v at on = inl (λ latch value is has. absurd (none-some latch (sym at ∙ is)))
agrees_by c values n (Some l) None at on = inl (λ latch value is has. absurd (none-some value (sym on ∙ has)))
agrees_by c values n (Some l) (Some v) at on = by (agrees_known l.reset v)
  where
    by : Known (AgreesWith l.reset v) → Known (AgreesAt c values n)
    by (inl h) = inl (λ latch value is has. subst (λ x. AgreesWith x.reset value) (same_Some l latch (sym at ∙ is)) (subst (λ x. AgreesWith l.reset x) (same_Some v value (sym on ∙ has)) h))
    by (inr never) = inr (λ h. never (h l v at on))

agrees_at_known : (c : Circuit) (values : List Bool) (n : ℕ) → Known (AgreesAt c values n)
agrees_at_known c values n = agrees_by c values n (slice_get c.latches n) (slice_get values n) refl refl

initial_or_not : (c : Circuit) (values : List Bool) → length values ≡ length c.latches → IsInitial c values ⊎ ((latch : ℕ) × IsFirstWrong c values latch)
initial_or_not c values same = by (least (λ n. AgreesAt c values n → ⊥) (λ n. no_known (agrees_at_known c values n)) (length c.latches))
  where
    by : Least (λ n. AgreesAt c values n → ⊥) (length c.latches) ⊎ NoneBelow (λ n. AgreesAt c values n → ⊥) (length c.latches)
        → IsInitial c values ⊎ ((latch : ℕ) × IsFirstWrong c values latch)
    by (inl (latch, low, wrong, none)) = inr (latch, record { inside = low; before = λ n below. not_not (agrees_at_known c values n) (none n below); wrong = wrong })
    by (inr none) = inl (initial_from c values same (λ n low. not_not (agrees_at_known c values n) (none n low)))

-- ---- runs

meets_known : (c : Circuit) (p : Position) → Known (MeetsConstraints c p)
meets_known c p =
    by (both_known (both_known (same_number (length p.latches) (length c.latches)) (same_number (length p.inputs) (length c.inputs)))
    (all_known (λ literal. IsTrue (literal_at c p literal)) (λ literal. is_so (literal_at c p literal)) c.constraints))
  where
    by : Known (((length p.latches ≡ length c.latches) × (length p.inputs ≡ length c.inputs)) × All (λ literal. IsTrue (literal_at c p literal)) c.constraints)
        → Known (MeetsConstraints c p)
    by (inl h) = inl (record { position = record { latches = h.0.0; inputs = h.0.1 }; constraints = h.1 })
    by (inr never) = inr (λ h. never ((h.position.latches, h.position.inputs), h.constraints))

run_of_allowed : (c : Circuit) (state : List Bool) (inputs : List (List Bool)) → AreAllowed c (simulated c state inputs) → IsRun c (simulated c state inputs)
unfolding simulated
run_of_allowed c state [] all = tt
run_of_allowed c state (now ∷ later) all =
    let p : Position = position_of state now in
    let run : List Position = simulated c (successor c p) later in
    (All-head (MeetsConstraints c) p run all, StartsIn-simulated c (successor c p) later, run_of_allowed c (successor c p) later (All-tail (MeetsConstraints c) p run all))

allowed_of_run : (c : Circuit) (run : List Position) → IsRun c run → AreAllowed c run
allowed_of_run c [] is = All-nil (MeetsConstraints c)
allowed_of_run c (p ∷ run) is = All-cons (MeetsConstraints c) p run is.0 (allowed_of_run c run is.2)

initial_run : (c : Circuit) (state : List Bool) (inputs : List (List Bool)) → IsInitial c state → AreAllowed c (simulated c state inputs) → IsInitialRun c (simulated c state inputs)
unfolding simulated
initial_run c state [] initial all = tt
initial_run c state (now ∷ later) initial all = (initial, run_of_allowed c state (now ∷ later) all)

allowed_of_initial : (c : Circuit) (run : List Position) → IsInitialRun c run → AreAllowed c run
allowed_of_initial c [] is = All-nil (MeetsConstraints c)
allowed_of_initial c (p ∷ run) is = allowed_of_run c (p ∷ run) is.1

closes_by : (c : Circuit) (run : List Position) (from : ℕ) (first last : Option Position) → slice_get run from ≡ first → slice_get run (length run - 1) ≡ last
    → Known (ClosesAt c run from)
closes_by c run from None last is_first is_last = inr (λ h. none-some h.first (sym is_first ∙ h.is_first))
closes_by c run from (Some f) None is_first is_last = inr (λ h. none-some h.last (sym is_last ∙ h.is_last))
closes_by c run from (Some f) (Some l) is_first is_last = by (same_values (successor c l) f.latches)
  where
    by : Known (successor c l ≡ f.latches) → Known (ClosesAt c run from)
    by (inl e) = inl (record { first = f; last = l; is_first = is_first; is_last = is_last; closes = e })
    by (inr never) = inr (λ h. never (ends h))
      where
        ends : ClosesAt c run from → successor c l ≡ f.latches
        ends h =
            let same_first : h.first ≡ f = same_Some h.first f (sym h.is_first ∙ is_first) in
            let same_last : h.last ≡ l = same_Some h.last l (sym h.is_last ∙ is_last) in
            ap (successor c) (sym same_last) ∙ h.closes ∙ ap (λ p. p.latches) same_first

closes_known : (c : Circuit) (run : List Position) (from : ℕ) → Known (ClosesAt c run from)
closes_known c run from = closes_by c run from (slice_get run from) (slice_get run (length run - 1)) refl refl

below_known : (m n : ℕ) → Known (m < n)
below_known m n = elim (cases_lt m n) [ inl h ↦ inl h | inr above ↦ inr (λ h. absurd (omega (arith, h, above))) ]

take_whole : {X : Type 0} (xs : List X) → take (length xs) xs ≡ xs
take_whole [] = refl
take_whole (x ∷ xs) = ap (λ ys. x ∷ ys) (take_whole xs)

nothing_allowed : (c : Circuit) (state : List Bool) → AreAllowed c (simulated c state [])
unfolding simulated
nothing_allowed c state = All-nil (MeetsConstraints c)

-- ---- lassos

module _ (c : Circuit) (j : ℕ) (s : Stimulus) (can : CanBegin c j s) where
  abbrev run_to : ℕ → List Position
  run_to k = simulated c s.latches (take k s.inputs)

  abbrev Loops : ℕ → ℕ → Type 0
  Loops k from = ((k ≤ length s.inputs) × AreAllowed c (run_to k)) × ((from < length (run_to k)) × ClosesAt c (run_to k) from × MeetsFairness c j (drop from (run_to k)))

  lasso_of : (k from : ℕ) → Loops k from → HasLasso c j s k from
  lasso_of k from h = record {
    fits = can.fits;
    inside = h.0.0;
    lasso = record {
      property = can.property;
      initial = initial_run c s.latches (take k s.inputs) can.initial h.0.1;
      inside = h.1.0;
      closes = h.1.1;
      fair = h.1.2;
    };
  }

  loops_of : (k from : ℕ) → HasLasso c j s k from → Loops k from
  loops_of k from h = ((h.inside, allowed_of_initial c (run_to k) h.lasso.initial), (h.lasso.inside, h.lasso.closes, h.lasso.fair))

  allowed_known : (k : ℕ) → Known (AreAllowed c (run_to k))
  allowed_known k = all_known (MeetsConstraints c) (meets_known c) (run_to k)

  fair_known : (run : List Position) → Known (MeetsFairness c j run)
  fair_known run = all_known (λ literal. Any (λ p. IsTrue (literal_at c p literal)) run) (λ literal. any_known (λ p. literal_at c p literal) run) (fair_literals c j)

  within_known : (k : ℕ) → Known (k ≤ length s.inputs)
  within_known k = elim (cases_lt (length s.inputs) k) [ inl h ↦ inr (λ le. absurd (omega (arith, h, le))) | inr above ↦ inl (omega (arith, above)) ]

  three_known : {P Q R : Type 0} → Known P → Known Q → Known R → Known (P × Q × R)
  three_known (inl p) (inl q) (inl r) = inl (p, q, r)
  three_known (inl p) (inl q) (inr never) = inr (λ h. never h.2)
  three_known (inl p) (inr never) r = inr (λ h. never h.1)
  three_known (inr never) q r = inr (λ h. never h.0)

  loops_known : (k from : ℕ) → Known (Loops k from)
  loops_known k from =
      both_known (both_known (within_known k) (allowed_known k))
      (three_known (below_known from (length (run_to k))) (closes_known c (run_to k) from) (fair_known (drop from (run_to k))))

  -- the least place for so many positions
  abbrev LoopsSomewhere : ℕ → Type 0
  LoopsSomewhere k = Least (Loops k) (length (run_to k))

  nowhere : (k : ℕ) → NoneBelow (Loops k) (length (run_to k)) → (from : ℕ) → Loops k from → ⊥
  nowhere k none from h = none from h.1.0 h

  somewhere_known : (k : ℕ) → Known (LoopsSomewhere k)
  somewhere_known k = by (least (Loops k) (loops_known k) (length (run_to k)))
    where
      by : LoopsSomewhere k ⊎ NoneBelow (Loops k) (length (run_to k)) → Known (LoopsSomewhere k)
      by (inl h) = inl h
      by (inr none) = inr (λ h. nowhere k none h.0 h.2)

  somewhere : (k from : ℕ) → Loops k from → LoopsSomewhere k
  somewhere k from h = by (least (Loops k) (loops_known k) (length (run_to k)))
    where
      by : LoopsSomewhere k ⊎ NoneBelow (Loops k) (length (run_to k)) → LoopsSomewhere k
      by (inl found) = found
      by (inr none) = absurd (nowhere k none from h)

  at_least : (m n : ℕ) → (m < n → ⊥) → n ≤ m
  at_least m n never = elim (cases_lt m n) [ inl h ↦ absurd (never h) | inr above ↦ omega (arith, above) ]

  found_lasso : (k : ℕ) → LoopsSomewhere k → ((m : ℕ) → m < k → LoopsSomewhere m → ⊥) → (from : ℕ) × StandsFor c j s k from
  found_lasso k (from, low, loops, earlier) none = (
    from,
    record {
      has = lasso_of k from loops;
      shortest = λ n place h. at_least n k (λ below. none n below (somewhere n place (loops_of n place h)));
      earliest = λ place h. at_least place from (λ below. earlier place below (loops_of k place h));
    },
  )

  -- where there is none, a constraint is false somewhere or nowhere
  abbrev Fails : ℕ → Type 0
  Fails p = AreAllowed c (run_to (p + 1)) → ⊥

  allowed_before : (p : ℕ) → NoneBelow Fails p → AreAllowed c (run_to p)
  allowed_before zero none = nothing_allowed c s.latches
  allowed_before (suc p) none =
      let same : p + 1 ≡ suc p = omega arith in
      subst (λ k. AreAllowed c (run_to k)) same (not_not (allowed_known (p + 1)) (none p (omega arith)))

  without_lasso : ((k from : ℕ) → HasLasso c j s k from → ⊥) → (fault : ReplayFault) × HasReplayFault c j s fault
  without_lasso none = by (least Fails (λ p. no_known (allowed_known (p + 1))) (length s.inputs))
    where
      by : Least Fails (length s.inputs) ⊎ NoneBelow Fails (length s.inputs) → (fault : ReplayFault) × HasReplayFault c j s fault
      by (inl (p, low, fails, before)) =
          (Constraint p, (can, record { inside = low; before = allowed_before p before; forbidden = fails; none = λ k from few. none k from }))
      by (inr nothing) =
          let all : AreAllowed c (simulated c s.latches s.inputs) =
          subst (λ inputs. AreAllowed c (simulated c s.latches inputs)) (take_whole s.inputs) (allowed_before (length s.inputs) nothing) in
          (NoFairLoop, (can, record { allowed = all; none = none }))

  pub begun_ends : ((k : ℕ) × (from : ℕ) × StandsFor c j s k from) ⊎ ((fault : ReplayFault) × HasReplayFault c j s fault)
  begun_ends = by (least LoopsSomewhere somewhere_known (suc (length s.inputs)))
    where
      by : Least LoopsSomewhere (suc (length s.inputs)) ⊎ NoneBelow LoopsSomewhere (suc (length s.inputs))
          → ((k : ℕ) × (from : ℕ) × StandsFor c j s k from) ⊎ ((fault : ReplayFault) × HasReplayFault c j s fault)
      by (inl (k, low, here, none)) = let found = found_lasso k here none in inl (k, found.0, found.1)
      by (inr none) = inr (without_lasso (λ k from h. none k (let inside = h.inside in omega (arith, inside)) (somewhere k from (loops_of k from h))))

-- ---- a stimulus stands for a lasso, or has a fault

abbrev pub StandsOrFails : Circuit → ℕ → Stimulus → Type 0
StandsOrFails c j s = ((k : ℕ) × (from : ℕ) × StandsFor c j s k from) ⊎ ((fault : ReplayFault) × HasReplayFault c j s fault)

with_initial : (c : Circuit) (j : ℕ) (s : Stimulus) → j < length c.justice → FitsCircuit c s
    → IsInitial c s.latches ⊎ ((latch : ℕ) × IsFirstWrong c s.latches latch) → StandsOrFails c j s
with_initial c j s below fits (inl initial) = begun_ends c j s (record { property = below; fits = fits; initial = initial })
with_initial c j s below fits (inr (latch, wrong)) = inr (NotInitial latch, (below, fits, wrong))

with_fit : (c : Circuit) (j : ℕ) (s : Stimulus) → j < length c.justice → FitsCircuit c s ⊎ ((item : ℕ) × IsFirstMisfit c s item) → StandsOrFails c j s
with_fit c j s below (inl fits) = with_initial c j s below fits (initial_or_not c s.latches fits.latches)
with_fit c j s below (inr (item, misfit)) = inr (Width item, (below, misfit))

with_property : (c : Circuit) (j : ℕ) (s : Stimulus) → Known (j < length c.justice) → StandsOrFails c j s
with_property c j s (inl below) = with_fit c j s below (fits_or_not c s)
with_property c j s (inr never) = inr (NoProperty, at_least_all j (length c.justice) never)
  where
    at_least_all : (m n : ℕ) → (m < n → ⊥) → n ≤ m
    at_least_all m n never = elim (cases_lt m n) [ inl h ↦ absurd (never h) | inr above ↦ omega (arith, above) ]

pub stands_or_fails : (c : Circuit) (j : ℕ) (s : Stimulus) → StandsOrFails c j s
stands_or_fails c j s = with_property c j s (below_known j (length c.justice))

-- ---- the end of every text

ends_at : (c : Circuit) (s : State) (number : ℕ) → ((a : Accepted) × IsGoodAtEnd c s a) ⊎ ((fault : AnswerFault) × IsFaultAtEnd c s number fault)
ends_at c (Dotted n s) number = by (stands_or_fails c n s)
  where
    by : StandsOrFails c n s → ((a : Accepted) × IsGoodAtEnd c (Dotted n s) a) ⊎ ((fault : AnswerFault) × IsFaultAtEnd c (Dotted n s) number fault)
    by (inl (k, from, stands)) = inl (Lasso n k from, (refl, stands))
    by (inr (fault, has)) = inr (faults.Replay fault, has)
ends_at c (Ended body) number = inl (Holds body.property (length body.entries), (refl, refl))
ends_at c Status number = inr (faults.Shape number, refl)
ends_at c (Property claim) number = inr (faults.Shape number, refl)
ends_at c (Latches n) number = inr (faults.Shape number, refl)
ends_at c (Rows n s) number = inr (faults.Shape number, refl)
ends_at c (Versioned n) number = inr (faults.Shape number, refl)
ends_at c (Certified body wanted) number = inr (faults.Shape number, refl)

abbrev HasEnd : Circuit → List ℕ → Type 0
HasEnd c text = ((a : Accepted) × IsGood c text a) ⊎ ((fault : AnswerFault) × IsRefused c text fault)

refused_by : (c : Circuit) (text : List ℕ) (r : Stepped) (fault : AnswerFault) → read_lines c Status (kept_readable text) ≡ r → IsFirstFault c text r fault → IsRefused c text fault
refused_by c text r fault read first = subst (λ x. IsFirstFault c text x fault) (sym read) first

short_end : (c : Circuit) (text : List ℕ) (s : State) → read_lines c Status (kept_readable text) ≡ Ok s → length text ≤ most_bytes
    → ((a : Accepted) × IsGoodAtEnd c s a) ⊎ ((fault : AnswerFault) × IsFaultAtEnd c s (end_of text) fault) → HasEnd c text
short_end c text s read short (inl (a, good)) = inl (a, good_from_reads c text a (short, s, read, good))
short_end c text s read short (inr (fault, at_end)) = inr (fault, refused_by c text (Ok s) fault read (inr (short, at_end)))

read_end : (c : Circuit) (text : List ℕ) (r : Stepped) → read_lines c Status (kept_readable text) ≡ r → HasEnd c text
read_end c text (Err first) read = inr (first, refused_by c text (Err first) first read refl)
read_end c text (Ok s) read =
    elim (cases_lt most_bytes (length text)) [
      | inl long ↦ inr (faults.TooLong, refused_by c text (Ok s) faults.TooLong read (inl (long, refl)))
      | inr above ↦ short_end c text s read (omega (arith, above)) (ends_at c s (end_of text))
    ]

pub each_has_end : (c : Circuit) → EachHasEnd c
each_has_end c text = read_end c text (read_lines c Status (kept_readable text)) refl
