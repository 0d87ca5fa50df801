-- From a fair lasso of the slice to one of the circuit: inputs outside the cone are false, and the loop is repeated until
-- the whole state comes that an earlier repetition began with.
use Rattle.std.proofs.Common.{◌≡◌, ℕ, zero, suc, ◌-◌, ◌<◌, Bool, true, false, List, [], ◌∷◌, ◌++◌, map, length, drop, get_or, refl, sym, ap, ◌∙◌, subst, arith, length-append}
use Rattle.std.specs.Prelude.{IsTrue}
use Rattle.std.specs.List.{All, AllZip, Any, filter}
use Rattle.std.proofs.lemmas.List.{length-map}
use Rattle.aig_semantics.specs.declared.parts.Latch.{Latch}
use Rattle.aig_semantics.specs.declared.parts.Reset.{Reset}
use Rattle.aig_semantics.specs.declared.parts.Reset.TheVariants.{Zero, One, Free}
use Rattle.aig_semantics.specs.declared.traces.Position.{Position}
use Rattle.aig_semantics.specs.Circuits.{Circuit, fair_literals}
use Rattle.aig_semantics.specs.Runs.{IsPosition, position_of, literal_at, successor, MeetsConstraints, StartsIn, IsRun, AgreesWith, IsInitial, ClosesAt, MeetsFairness}
use Rattle.aig_semantics.specs.Valuations.{HasOneValuation}
use Rattle.fair_semantics.proofs.Runs.{end_of, loop-of, initial-run, get-seam}
use Rattle.cone.specs.Cones.{IsClosed}
use Rattle.live_to_safe.specs.BadRuns.{HasFairLasso}
use Rattle.live_to_safe.proofs.Lassos.{last-at, drop-seam}
use Rattle.slice.specs.Slicing.{sliced_circuit}
use Rattle.slice.proofs.Picking.{spread, length-spread, pick-spread, spread-zip}
use Rattle.slice.proofs.Repeating.{steps, steps-kept, ComesBack, comes_back}
use Rattle.slice.proofs.Valued.{state_left, left_of, fair-in, successor-is, constraints-back}
use Rattle.slice.proofs.Running.{run-positions, end-left, any-back}

-- ---- runs one behind the other

starts-append : (s : List Bool) (c : Circuit) (run more : List Position) → StartsIn s run → StartsIn (end_of c s run) more → StartsIn s (run ++ more)
starts-append s c [] more starts next = next
starts-append s c (p ∷ run) more starts next = starts

run-append : (c : Circuit) (s : List Bool) (run more : List Position) → IsRun c run → IsRun c more → StartsIn (end_of c s run) more → IsRun c (run ++ more)
run-append c s [] more h g next = g
run-append c s (p ∷ run) more h g next =
    (h.0, starts-append (successor c p) c run more h.1 next, run-append c (successor c p) run more h.2 g next)

end-append : (c : Circuit) (s : List Bool) (run more : List Position) → end_of c s (run ++ more) ≡ end_of c (end_of c s run) more
end-append c s [] more = refl
end-append c s (p ∷ run) more = end-append c (successor c p) run more

end-fits : (c : Circuit) (s : List Bool) (run : List Position) → length s ≡ length c.latches → length (end_of c s run) ≡ length c.latches
end-fits c s [] l = l
end-fits c s (p ∷ run) l = end-fits c (successor c p) run (length-map c.latches (λ latch. literal_at c p latch.next))

any-front : {X : Type 0} (P : X → Type 0) (xs ys : List X) → Any P xs → Any P (xs ++ ys)
any-front P [] ys (k, x, below, at, h) = absurd (omega (arith, below))
any-front P (y ∷ xs) ys (zero, x, below, at, h) = (0, x, omega arith, at, h)
any-front P (y ∷ xs) ys (suc k, x, below, at, h) =
    let rest = any-front P xs ys (k, x, omega (arith, below), at, h) in
    (suc rest.0, rest.1, (let a = rest.2 in omega (arith, a)), rest.3, rest.4)

-- ---- closing

-- a run that ends in the first state of its part behind the stem closes there
closes-behind : (c : Circuit) (s : List Bool) (stem : List Position) (first : Position) (more : List Position)
    → end_of c s (stem ++ first ∷ more) ≡ first.latches → ClosesAt c (stem ++ first ∷ more) (length stem)
closes-behind c s stem first more ends =
    let whole : List Position = stem ++ first ∷ more in
    let size : suc (length whole - 1) ≡ length whole = omega (arith, length-append stem (first ∷ more)) in
    let last = last-at c s whole (length whole - 1) size in
    record {
      first = first;
      last = last.0;
      is_first = get-seam stem first more;
      is_last = last.1;
      closes = sym last.2 ∙ ends;
    }

-- a run of the circuit from the state, with a loop at its end that is fair for these literals
record Found (c : Circuit) (literals : List ℕ) (state : List Bool) : Type 0 where
  stem : List Position
  first : Position
  more : List Position
  is_run : IsRun c (stem ++ first ∷ more)
  starts : StartsIn state (stem ++ first ∷ more)
  ends : end_of c state (stem ++ first ∷ more) ≡ first.latches
  fair : All (λ literal. Any (λ p. IsTrue (literal_at c p literal)) (first ∷ more)) literals

-- one position more in front
found_on : (c : Circuit) (literals : List ℕ) (p : Position) (state : List Bool) → p.latches ≡ state → MeetsConstraints c p → Found c literals (successor c p) → Found c literals state
found_on c literals p state starts possible found = record {
  stem = p ∷ found.stem;
  first = found.first;
  more = found.more;
  is_run = (possible, found.starts, found.is_run);
  starts = starts;
  ends = found.ends;
  fair = found.fair;
}

-- a stem to a state, and a loop from there to there
found_of : (c : Circuit) (literals : List ℕ) (state turn : List Bool) (stem loop : List Position) → 0 < length loop → IsRun c stem → StartsIn state stem
    → end_of c state stem ≡ turn → IsRun c loop → StartsIn turn loop → end_of c turn loop ≡ turn
    → All (λ literal. Any (λ p. IsTrue (literal_at c p literal)) loop) literals → Found c literals state
found_of c literals state turn stem [] some h starts ends g begins back fair = absurd (omega (arith, some))
found_of c literals state turn stem (first ∷ more) some h starts ends g begins back fair =
    let next : StartsIn (end_of c state stem) (first ∷ more) = subst (λ s. StartsIn s (first ∷ more)) (sym ends) begins in
    record {
      stem = stem;
      first = first;
      more = more;
      is_run = run-append c state stem (first ∷ more) h g next;
      starts = starts-append state c stem (first ∷ more) starts next;
      ends = end-append c state stem (first ∷ more) ∙ ap (λ s. end_of c s (first ∷ more)) ends ∙ back ∙ sym begins;
      fair = fair;
    }

lasso_of : (c : Circuit) (j : ℕ) (state : List Bool) → j < length c.justice → IsInitial c state → Found c (fair_literals c j) state → HasFairLasso c j
lasso_of c j state property initial found =
    let run : List Position = found.stem ++ found.first ∷ found.more in (
      run,
      length found.stem,
      record {
        property = property;
        initial = initial-run c state run initial found.starts found.is_run;
        inside = omega (arith, length-append found.stem (found.first ∷ found.more));
        closes = closes-behind c state found.stem found.first found.more found.ends;
        fair = subst (MeetsFairness c j) (sym (drop-seam found.stem (found.first ∷ found.more))) found.fair;
      },
    )

-- ---- what a latch outside the cone may begin with

begin_with : Reset → Bool
begin_with Zero = false
begin_with One = true
begin_with Free = false

may_begin : (reset : Reset) → AgreesWith reset (begin_with reset)
unfolding begin_with
may_begin Zero = refl
may_begin One = refl
may_begin Free = tt

module _ (c : Circuit) (j : ℕ) (set : ℕ → Bool) (closed : IsClosed c j set) (one : HasOneValuation c) (other : HasOneValuation (sliced_circuit c j set)) where
  abbrev t : Circuit
  t = sliced_circuit c j set

  abbrev left : Position → Position
  left p = left_of c set p

  abbrev state : List Bool → List Bool
  state s = state_left c set s

  -- the position of the circuit with this state and the inputs of one of the slice, others false
  abbrev whole : List Bool → Position → Position
  whole s q = position_of s (spread set (λ v. false) c.inputs q.inputs)

  -- a run of the slice over the circuit, from this state
  abbrev lifted : List Bool → List Position → List Position
  lifted s [] = []
  lifted s (q ∷ run) = whole s q ∷ lifted (successor c (whole s q)) run

  whole-fits : (s : List Bool) (q : Position) → length s ≡ length c.latches → IsPosition c (whole s q)
  whole-fits s q l = record { latches = l; inputs = length-spread set (λ v. false) c.inputs q.inputs }

  whole-left : (s : List Bool) (q : Position) → IsPosition t q → q.latches ≡ state s → left (whole s q) ≡ q
  whole-left s q is starts =
      ap (λ inputs. position_of (state s) inputs) (pick-spread set (λ v. false) c.inputs q.inputs is.inputs)
      ∙ ap (λ latches. position_of latches q.inputs) (sym starts)

  successor-length : (p : Position) → length (successor c p) ≡ length c.latches
  successor-length p = length-map c.latches (λ latch. literal_at c p latch.next)

  -- the first position of a run, and where the rest of it begins
  whole-meets : (s : List Bool) (q : Position) → length s ≡ length c.latches → MeetsConstraints t q → q.latches ≡ state s → MeetsConstraints c (whole s q)
  whole-meets s q l possible starts =
      constraints-back c j set closed one other (whole s q) (whole-fits s q l) (subst (MeetsConstraints t) (sym (whole-left s q possible.position starts)) possible)

  whole-next : (s : List Bool) (q : Position) (run : List Position) → length s ≡ length c.latches → MeetsConstraints t q → q.latches ≡ state s
      → StartsIn (successor t q) run → StartsIn (state (successor c (whole s q))) run
  whole-next s q run l possible starts next =
      subst (λ s. StartsIn s run)
      (ap (successor t) (sym (whole-left s q possible.position starts)) ∙ successor-is c j set closed one other (whole s q) (whole-fits s q l)) next

  lifted-starts : (s : List Bool) (run : List Position) → StartsIn s (lifted s run)
  lifted-starts s [] = tt
  lifted-starts s (q ∷ run) = refl

  lifted-run : (s : List Bool) (run : List Position) → length s ≡ length c.latches → IsRun t run → StartsIn (state s) run → IsRun c (lifted s run)
  lifted-run s [] l h starts = tt
  lifted-run s (q ∷ run) l h starts =
      let next : List Bool = successor c (whole s q) in (
        whole-meets s q l h.0 starts,
        lifted-starts next run,
        lifted-run next run (successor-length (whole s q)) h.2 (whole-next s q run l h.0 starts h.1),
      )

  lifted-left : (s : List Bool) (run : List Position) → length s ≡ length c.latches → IsRun t run → StartsIn (state s) run → map left (lifted s run) ≡ run
  lifted-left s [] l h starts = refl
  lifted-left s (q ∷ run) l h starts =
      let next : List Bool = successor c (whole s q) in
      ap (λ p. p ∷ map left (lifted next run)) (whole-left s q h.0.position starts)
      ∙ ap (λ ps. q ∷ ps) (lifted-left next run (successor-length (whole s q)) h.2 (whole-next s q run l h.0 starts h.1))

  lifted-length : (s : List Bool) (run : List Position) → length (lifted s run) ≡ length run
  lifted-length s [] = refl
  lifted-length s (q ∷ run) = ap suc (lifted-length (successor c (whole s q)) run)

  -- ---- laps round a loop of the slice

  module _ (loop : List Position) (begins : List Bool) (is_run : IsRun t loop) (starts : StartsIn begins loop) (ends : end_of t begins loop ≡ begins) (some : 0 < length loop) (fair : MeetsFairness t 0 loop) where
    -- where one lap ends
    abbrev lap : List Bool → List Bool
    lap s = end_of c s (lifted s loop)

    -- the state is the circuit's, and what is left of it is the loop's first
    abbrev IsTurn : List Bool → Type 0
    IsTurn s = (length s ≡ length c.latches) × (state s ≡ begins)

    lap-starts : (s : List Bool) → IsTurn s → StartsIn (state s) loop
    lap-starts s turn = subst (λ b. StartsIn b loop) (sym turn.1) starts

    lap-run : (s : List Bool) → IsTurn s → IsRun c (lifted s loop)
    lap-run s turn = lifted-run s loop turn.0 is_run (lap-starts s turn)

    lap-turn : (s : List Bool) → IsTurn s → IsTurn (lap s)
    lap-turn s turn = (
      end-fits c s (lifted s loop) turn.0,
      sym (end-left c j set closed one other s (lifted s loop) (lap-run s turn))
          ∙ ap (λ run. end_of t (state s) run) (lifted-left s loop turn.0 is_run (lap-starts s turn))
          ∙ ap (λ b. end_of t b loop) turn.1
          ∙ ends,
    )

    abbrev laps : ℕ → List Bool → List Position
    laps zero s = []
    laps (suc n) s = lifted s loop ++ laps n (lap s)

    laps-starts : (n : ℕ) (s : List Bool) → StartsIn s (laps n s)
    laps-starts zero s = tt
    laps-starts (suc n) s = starts-append s c (lifted s loop) (laps n (lap s)) (lifted-starts s loop) (laps-starts n (lap s))

    laps-run : (n : ℕ) (s : List Bool) → IsTurn s → IsRun c (laps n s)
    laps-run zero s turn = tt
    laps-run (suc n) s turn =
        run-append c s (lifted s loop) (laps n (lap s)) (lap-run s turn) (laps-run n (lap s) (lap-turn s turn)) (laps-starts n (lap s))

    laps-end : (n : ℕ) (s : List Bool) → end_of c s (laps n s) ≡ steps lap n s
    laps-end zero s = refl
    laps-end (suc n) s = end-append c s (lifted s loop) (laps n (lap s)) ∙ laps-end n (lap s)

    -- each literal is true in one lap
    lap-fair : (s : List Bool) → IsTurn s → All (λ literal. Any (λ p. IsTrue (literal_at c p literal)) (lifted s loop)) (fair_literals c j)
    lap-fair s turn = λ k d below.
        let literal : ℕ = get_or (fair_literals c j) k d in
        any-back c j set closed one other literal (fair-in c j set closed k d below) (lifted s loop) (run-positions c (lifted s loop) (lap-run s turn))
        (subst (λ ps. Any (λ p. IsTrue (literal_at t p literal)) ps) (sym (lifted-left s loop turn.0 is_run (lap-starts s turn))) (fair k d below))

    found_from : (s : List Bool) → IsTurn s → ComesBack lap s → Found c (fair_literals c j) s
    found_from s turn back =
        let again : List Bool = steps lap back.before s in
        let turn_again : IsTurn again = steps-kept IsTurn lap lap-turn back.before s turn in
        let round : List Position = laps (suc back.more) again in
        let size : 0 < length round = omega (arith, some, lifted-length again loop, length-append (lifted again loop) (laps back.more (lap again))) in
        found_of c (fair_literals c j) s again (laps back.before s) round size
        (laps-run back.before s turn) (laps-starts back.before s) (laps-end back.before s)
        (laps-run (suc back.more) again turn_again) (laps-starts (suc back.more) again) (laps-end (suc back.more) again ∙ back.back)
        (λ k d below. any-front (λ p. IsTrue (literal_at c p (get_or (fair_literals c j) k d))) (lifted again loop) (laps back.more (lap again)) (lap-fair again turn_again k d below))

    loop_found : (s : List Bool) → IsTurn s → Found c (fair_literals c j) s
    loop_found s turn =
        found_from s turn (comes_back (length c.latches) lap (λ u l. end-fits c u (lifted u loop) l) s turn.0)

  -- along the stem, and then the laps
  stem_found : (from : ℕ) (run : List Position) (s begins : List Bool) → length s ≡ length c.latches → IsRun t run → StartsIn (state s) run
      → IsRun t (drop from run) → StartsIn begins (drop from run) → end_of t begins (drop from run) ≡ begins → 0 < length (drop from run)
      → MeetsFairness t 0 (drop from run) → Found c (fair_literals c j) s
  stem_found zero [] s begins l h starts is_run first ends some fair = absurd (omega (arith, some))
  stem_found zero (q ∷ run) s begins l h starts is_run first ends some fair =
      loop_found (q ∷ run) begins is_run first ends some fair s (l, sym starts ∙ first)
  stem_found (suc from) [] s begins l h starts is_run first ends some fair = absurd (omega (arith, some))
  stem_found (suc from) (q ∷ run) s begins l h starts is_run first ends some fair =
      let next : List Bool = successor c (whole s q) in
      found_on c (fair_literals c j) (whole s q) s refl (whole-meets s q l h.0 starts)
      (stem_found from run next begins (successor-length (whole s q)) h.2 (whole-next s q run l h.0 starts h.1) is_run first ends some fair)

  abbrev latch_stays : Latch → Bool
  latch_stays latch = set latch.var

  abbrev Begins : Latch → Bool → Type 0
  Begins latch value = AgreesWith latch.reset value

  -- an initial state of the slice, others as their resets say
  abbrev begun : List Bool → List Bool
  begun s = spread latch_stays (λ latch. begin_with latch.reset) c.latches s

  zip-length : (latches : List Latch) (values : List Bool) → AllZip Begins latches values → length values ≡ length latches
  zip-length [] [] h = refl
  zip-length [] (v ∷ values) h = absurd h
  zip-length (l ∷ latches) [] h = absurd h
  zip-length (l ∷ latches) (v ∷ values) h = ap suc (zip-length latches values h.1)

  pub from_slice : j < length c.justice → HasFairLasso t 0 → HasFairLasso c j
  from_slice property ([], from, lasso) = absurd (let a = lasso.inside in omega (arith, a))
  from_slice property (q ∷ run, from, lasso) =
      let loop = loop-of t 0 (q ∷ run) from lasso in
      let s : List Bool = begun q.latches in
      let initial : IsInitial c s = spread-zip latch_stays (λ latch. begin_with latch.reset) Begins (λ latch. may_begin latch.reset) c.latches q.latches lasso.initial.0 in
      let same : state s ≡ q.latches =
      pick-spread latch_stays (λ latch. begin_with latch.reset) c.latches q.latches (zip-length (filter latch_stays c.latches) q.latches lasso.initial.0)
      in
      lasso_of c j s property initial
      (stem_found from (q ∷ run) s loop.begins (length-spread latch_stays (λ latch. begin_with latch.reset) c.latches q.latches) lasso.initial.1 (sym same)
      loop.run loop.starts loop.ends loop.some lasso.fair)
