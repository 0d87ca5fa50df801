-- The translation has a bad run exactly where the circuit has a fair lasso of the property. From a lasso: its first loop
-- position saves the state, and after one round the state is back with each literal seen. From a bad run: the positions from
-- the one that saved the state on, without the last, are a fair loop.
use Rattle.std.proofs.Common.{◌≡◌, ℕ, zero, suc, ◌+◌, ◌-◌, ◌*◌, ◌<◌, ◌↔◌, Bool, true, false, ◌&&◌, List, [], ◌∷◌, ◌++◌, map, length, drop, replicate, refl, sym, ap, ◌∙◌, subst, arith, length-append}
use Rattle.std.proofs.lemmas.Bool.{and_parts, and_from}
use Rattle.std.proofs.lemmas.Option.{none-some}
use Rattle.std.proofs.lemmas.List.{length-map, length-replicate}
use Rattle.aig_semantics.specs.declared.traces.Position.{Position}
use Rattle.aig_semantics.specs.Circuits.{Circuit, IsChecked, IsWithinLimits, fair_literals}
use Rattle.aig_semantics.specs.Runs.{IsPosition, position_of, literal_at, successor, MeetsConstraints, StartsIn, IsRun, IsInitial, MeetsFairness}
use Rattle.aig_semantics.specs.Valuations.{HasOneValuation}
use Rattle.fair_semantics.proofs.Runs.{end_of, loop-of, initial-run}
use Rattle.circuit.proofs.RoundsAlong.{Soon, soon_none, soon_all, soon_fair, fair_soon}
use Rattle.live_to_safe.specs.declared.sizes.Sizes.{Sizes}
use Rattle.live_to_safe.specs.BadRuns.{HasBadRun, HasFairLasso}
use Rattle.live_to_safe.specs.Numbers.{sizes_of, save, copy, seen, latch_gate, literal_gate}
use Rattle.live_to_safe.specs.Watching.{numbered, copy_latch, seen_latch, new_latches, bad_literal}
use Rattle.live_to_safe.specs.Translation.{safety_circuit, safety_model}
use Rattle.live_to_safe.proofs.Valued.{same_lists, seen_after, all_true}
use Rattle.live_to_safe.proofs.Watched.{watch_state, joint, watch_next, step-is, bad-at, kept, back}
use Rattle.live_to_safe.proofs.Lassos.{same_lists-self, same_lists-equal, length-seen_after, seen_after-off, last_split, soon_next, soon_before, EndsBad, ends-cons, ends-last, last-ends, some-run, ends-some, drop-seam, closes-behind, any_one, Begin, begin-length, begin-append, begin-split, begin-zero, zero-begins}

same_append : (xs ys zs : List Bool) → xs ≡ ys → xs ++ zs ≡ ys ++ zs
same_append xs ys zs e = ap (λ vs. vs ++ zs) e

module _ (c : Circuit) (j : ℕ) (checked : IsChecked c) (limits : IsWithinLimits c) (property : j < length c.justice) (one : HasOneValuation c) (other : HasOneValuation (safety_circuit c j)) where
  abbrev z : Sizes
  z = sizes_of c j

  abbrev t : Circuit
  t = safety_circuit c j

  abbrev literals : List ℕ
  literals = fair_literals c j

  abbrev none_seen : List Bool
  none_seen = replicate z.literals false

  none-length : length none_seen ≡ length literals
  none-length = length-replicate z.literals false

  -- what is seen at a position
  abbrev values_at : Position → List Bool
  values_at p = map (literal_at c p) literals

  values-length : (p : Position) (seens : List Bool) → length seens ≡ length literals → length seens ≡ length (values_at p)
  values-length p seens l = omega (arith, l, length-map literals (literal_at c p))

  successor-length : (p : Position) → length (successor c p) ≡ length c.latches
  successor-length p = length-map c.latches (λ latch. literal_at c p latch.next)

  -- a run of the translation from a state of the circuit and what is watched, to a bad position
  abbrev LeadsToBad : List Bool → List Bool → Type 0
  LeadsToBad state watch = (run : List Position) × IsRun t run × StartsIn (state ++ watch) run × EndsBad t (bad_literal z) run

  -- one position more in front
  lead_on : (p : Position) (is_saved : Bool) (copies seens : List Bool) (saves : Bool) (state watch : List Bool) → MeetsConstraints c p
      → length copies ≡ length c.latches → length seens ≡ length literals → p.latches ≡ state
      → watch_next c j p is_saved copies seens saves ≡ watch → LeadsToBad (successor c p) watch → LeadsToBad state (watch_state is_saved copies seens)
  lead_on p is_saved copies seens saves state watch possible l q starts next (run, is_run, begins, bad) =
      let whole : Position = joint p is_saved copies seens saves in
      let met = kept c j checked limits property one other p is_saved copies seens saves possible.position l q possible in
      let step : successor t whole ≡ successor c p ++ watch =
      step-is c j checked limits property one other p is_saved copies seens saves possible.position l q ∙ ap (λ w. successor c p ++ w) next
      in (
        whole ∷ run,
        (met, subst (λ s. StartsIn s run) (sym step) begins, is_run),
        same_append p.latches state (watch_state is_saved copies seens) starts,
        ends-cons t (bad_literal z) whole run bad,
      )

  -- ---- from a lasso to a bad run

  -- once round: the state that was saved comes again, and its position's constraints are met
  round_on : (first : Position) → MeetsConstraints c first → (rest : List Position) (state seens : List Bool) → length seens ≡ length literals
      → IsRun c rest → StartsIn state rest → end_of c state rest ≡ first.latches → Soon c literals seens rest
      → LeadsToBad state (watch_state true first.latches seens)
  round_on first possible [] state seens l is_run starts ends soon =
      let whole : Position = joint first true first.latches seens false in
      let met = kept c j checked limits property one other first true first.latches seens false possible.position possible.position.latches l possible in
      let bad = bad-at c j checked limits property one other first true first.latches seens false possible.position possible.position.latches l in (
        whole ∷ [],
        (met, tt, tt),
        same_append first.latches state (watch_state true first.latches seens) (sym ends),
        bad ∙ and_from (same_lists first.latches first.latches) (all_true seens) (same_lists-self first.latches) (soon_none c literals seens soon),
      )
  round_on first possible (p ∷ rest) state seens l is_run starts ends soon =
      let now = seen_after true seens (values_at p) in
      lead_on p true first.latches seens false state (watch_state true first.latches now) is_run.0 possible.position.latches l starts refl
      (round_on first possible rest (successor c p) now (length-seen_after true seens (values_at p) (values-length p seens l) ∙ l)
      is_run.2 is_run.1 ends (soon_next c p rest literals seens soon))

  -- along the stem, and then round the loop
  stem_on : (from : ℕ) (run : List Position) (state copies : List Bool) → length copies ≡ length c.latches → IsRun c run → StartsIn state run
      → (begins : List Bool) → StartsIn begins (drop from run) → end_of c begins (drop from run) ≡ begins → 0 < length (drop from run)
      → MeetsFairness c j (drop from run) → LeadsToBad state (watch_state false copies none_seen)
  stem_on zero [] state copies l is_run starts begins first ends some fair = absurd (omega (arith, some))
  stem_on zero (p ∷ rest) state copies l is_run starts begins first ends some fair =
      let now = seen_after true none_seen (values_at p) in
      lead_on p false copies none_seen true state (watch_state true p.latches now) is_run.0 l none-length starts refl
      (round_on p is_run.0 rest (successor c p) now (length-seen_after true none_seen (values_at p) (values-length p none_seen none-length) ∙ none-length)
      is_run.2 is_run.1 (ends ∙ sym first) (soon_next c p rest literals none_seen (fair_soon c literals none_seen (p ∷ rest) none-length fair)))
  stem_on (suc from) [] state copies l is_run starts begins first ends some fair = absurd (omega (arith, some))
  stem_on (suc from) (p ∷ rest) state copies l is_run starts begins first ends some fair =
      lead_on p false copies none_seen false state (watch_state false copies none_seen) is_run.0 l none-length starts
      (ap (λ xs. watch_state false copies xs) (seen_after-off z.literals (values_at p) (sym (length-map literals (literal_at c p)))))
      (stem_on from rest (successor c p) copies l is_run.2 is_run.1 begins first ends some fair)

  -- the latches that watch begin with 0
  watch_begins : Begin (new_latches z) (watch_state false (replicate z.latches false) none_seen)
  watch_begins = (
    refl,
    begin-append (numbered (copy_latch z) 0 z.latches) (numbered (seen_latch z) 0 z.literals) (replicate z.latches false) none_seen
        (begin-zero (copy z) (λ i. 2 * (latch_gate z i + 2) + 1) 0 z.latches)
        (begin-zero (seen z) (λ m. 2 * (literal_gate z m + 1)) 0 z.literals),
  )

  bad_run : (state : List Bool) → IsInitial c state → LeadsToBad state (watch_state false (replicate z.latches false) none_seen) → HasBadRun (safety_model c j)
  bad_run state initial ([], is_run, begins, bad) = absurd bad
  bad_run state initial (p ∷ run, is_run, begins, bad) =
      let last = ends-last t (bad_literal z) (length (p ∷ run) - 1) (p ∷ run) (ends-some t (bad_literal z) (p ∷ run) bad) bad in
      let starts : IsInitial t p.latches =
      subst (IsInitial t) (sym begins) (begin-append c.latches (new_latches z) state (watch_state false (replicate z.latches false) none_seen) initial watch_begins)
      in (
        p ∷ run,
        record {
          initial = (starts, is_run);
          last = last.0;
          is_last = last.1;
          bad = (0, bad_literal z, omega arith, refl, last.2);
        },
      )

  pub from_lasso : HasFairLasso c j → HasBadRun (safety_model c j)
  from_lasso ([], from, lasso) = absurd (let a = lasso.inside in omega (arith, a))
  from_lasso (p ∷ run, from, lasso) =
      let loop = loop-of c j (p ∷ run) from lasso in
      bad_run p.latches lasso.initial.0
      (stem_on from (p ∷ run) p.latches (replicate z.latches false) (length-replicate z.latches false) lasso.initial.1 refl
      loop.begins loop.starts loop.ends loop.some lasso.fair)

  -- ---- from a bad run to a lasso

  -- a position of the translation in its parts
  record Parted (whole : Position) (state : List Bool) (is_saved : Bool) (copies seens : List Bool) : Type 0 where
    own : Position
    saves : Bool
    is : whole ≡ joint own is_saved copies seens saves
    latches : own.latches ≡ state
    fits : IsPosition c own

  part : (whole : Position) (state : List Bool) (is_saved : Bool) (copies seens : List Bool) → IsPosition t whole → length state ≡ length c.latches
      → whole.latches ≡ state ++ watch_state is_saved copies seens → Parted whole state is_saved copies seens
  part whole state is_saved copies seens is l starts =
      let size : length whole.inputs ≡ length c.inputs + 1 = let a = is.inputs in omega (arith, a, length-append c.inputs (save z ∷ [])) in
      let inputs = last_split (length c.inputs) whole.inputs size in
      record {
        own = position_of state inputs.0;
        saves = inputs.1;
        is = ap (λ ls. position_of ls whole.inputs) starts ∙ ap (λ is. position_of (state ++ watch_state is_saved copies seens) is) inputs.2;
        latches = refl;
        fits = record { latches = l; inputs = inputs.3 };
      }

  -- a run of the circuit that ends in this state, with each literal that is not seen yet
  abbrev Round : List Bool → List Bool → List Bool → Type 0
  Round state copies seens = (run : List Position) × IsRun c run × StartsIn state run × (end_of c state run ≡ copies) × Soon c literals seens run

  next_on : (p : Position) (copies seens : List Bool) (saves : Bool) → watch_next c j p true copies seens saves ≡ watch_state true copies (seen_after true seens (values_at p))
  next_on p copies seens true = refl
  next_on p copies seens false = refl

  round_back : (run : List Position) (state copies seens : List Bool) → length state ≡ length c.latches → length copies ≡ length c.latches → length seens ≡ length literals
      → IsRun t run → StartsIn (state ++ watch_state true copies seens) run → EndsBad t (bad_literal z) run → Round state copies seens
  round_back [] state copies seens l k q is_run starts bad = absurd bad
  round_back (whole ∷ []) state copies seens l k q is_run starts bad =
      let parted = part whole state true copies seens is_run.0.position l starts in
      let at = bad-at c j checked limits property one other parted.own true copies seens parted.saves parted.fits k q in
      let both : (same_lists parted.own.latches copies && all_true seens) ≡ true =
      sym at ∙ ap (λ p. literal_at t p (bad_literal z)) (sym parted.is) ∙ bad
      in
      let parts = and_parts (same_lists parted.own.latches copies) (all_true seens) both in
      ([], tt, tt, sym parted.latches ∙ same_lists-equal parted.own.latches copies (parted.fits.latches ∙ sym k) parts.0, soon_all c literals seens [] q parts.1)
  round_back (whole ∷ after ∷ run) state copies seens l k q is_run starts bad =
      let parted = part whole state true copies seens is_run.0.position l starts in
      let p = parted.own in
      let possible = back c j checked limits property one other p true copies seens parted.saves parted.fits k q (subst (MeetsConstraints t) parted.is is_run.0) in
      let step : successor t whole ≡ successor c p ++ watch_state true copies (seen_after true seens (values_at p)) =
      ap (successor t) parted.is ∙ step-is c j checked limits property one other p true copies seens parted.saves parted.fits k q
      ∙ ap (λ w. successor c p ++ w) (next_on p copies seens parted.saves)
      in
      let now = seen_after true seens (values_at p) in
      let rest = round_back (after ∷ run) (successor c p) copies now (successor-length p) k
      (length-seen_after true seens (values_at p) (values-length p seens q) ∙ q) is_run.2 (is_run.1 ∙ step) bad in
      (p ∷ rest.0, (possible, rest.2, rest.1), parted.latches, rest.3, soon_before c p rest.0 literals seens q rest.4)

  -- a run of the circuit from the state, with a fair loop at its end
  record Found (state : List Bool) : Type 0 where
    stem : List Position
    first : Position
    more : List Position
    is_run : IsRun c (stem ++ first ∷ more)
    starts : StartsIn state (stem ++ first ∷ more)
    ends : end_of c (successor c first) more ≡ first.latches
    fair : Soon c literals none_seen (first ∷ more)

  begin_on : (p : Position) (state : List Bool) → p.latches ≡ state → MeetsConstraints c p → Found (successor c p) → Found state
  begin_on p state starts possible found = record {
    stem = p ∷ found.stem;
    first = found.first;
    more = found.more;
    is_run = (possible, found.starts, found.is_run);
    starts = starts;
    ends = found.ends;
    fair = found.fair;
  }

  -- by whether the state is saved at the position
  stem_by : (run : List Position) (p : Position) (state copies : List Bool) (saves : Bool) → p.latches ≡ state → MeetsConstraints c p
      → IsRun t run → StartsIn (successor c p ++ watch_next c j p false copies none_seen saves) run → EndsBad t (bad_literal z) run
      → (StartsIn (successor c p ++ watch_state false copies none_seen) run → Found (successor c p)) → Found state
  stem_by run p state copies true latches possible is_run starts bad later =
      let now = seen_after true none_seen (values_at p) in
      let round = round_back run (successor c p) p.latches now (successor-length p) possible.position.latches
      (length-seen_after true none_seen (values_at p) (values-length p none_seen none-length) ∙ none-length) is_run starts bad in
      record {
        stem = [];
        first = p;
        more = round.0;
        is_run = (possible, round.2, round.1);
        starts = latches;
        ends = round.3;
        fair = soon_before c p round.0 literals none_seen none-length round.4;
      }
  stem_by run p state copies false latches possible is_run starts bad later =
      let off : watch_state false copies (seen_after false none_seen (values_at p)) ≡ watch_state false copies none_seen =
      ap (λ xs. watch_state false copies xs) (seen_after-off z.literals (values_at p) (sym (length-map literals (literal_at c p))))
      in
      begin_on p state latches possible (later (subst (λ w. StartsIn (successor c p ++ w) run) off starts))

  stem_back : (run : List Position) (state copies : List Bool) → length state ≡ length c.latches → length copies ≡ length c.latches
      → IsRun t run → StartsIn (state ++ watch_state false copies none_seen) run → EndsBad t (bad_literal z) run → Found state
  stem_back [] state copies l k is_run starts bad = absurd bad
  stem_back (whole ∷ []) state copies l k is_run starts bad =
      let parted = part whole state false copies none_seen is_run.0.position l starts in
      let at = bad-at c j checked limits property one other parted.own false copies none_seen parted.saves parted.fits k none-length in
      let wrong : false ≡ true = sym at ∙ ap (λ p. literal_at t p (bad_literal z)) (sym parted.is) ∙ bad in
      absurd (cc)
  stem_back (whole ∷ after ∷ run) state copies l k is_run starts bad =
      let parted = part whole state false copies none_seen is_run.0.position l starts in
      let p = parted.own in
      let possible = back c j checked limits property one other p false copies none_seen parted.saves parted.fits k none-length (subst (MeetsConstraints t) parted.is is_run.0) in
      let step : successor t whole ≡ successor c p ++ watch_next c j p false copies none_seen parted.saves =
      ap (successor t) parted.is ∙ step-is c j checked limits property one other p false copies none_seen parted.saves parted.fits k none-length
      in
      stem_by (after ∷ run) p state copies parted.saves parted.latches possible is_run.2 (is_run.1 ∙ step) bad
      (λ starts_so. stem_back (after ∷ run) (successor c p) copies (successor-length p) k is_run.2 starts_so bad)

  -- what the latches that watch begin with
  watch_is : (values : List Bool) → Begin (new_latches z) values → values ≡ watch_state false (replicate z.latches false) none_seen
  watch_is [] h = absurd h
  watch_is (v ∷ values) h =
      let split = begin-split (numbered (copy_latch z) 0 z.latches) (numbered (seen_latch z) 0 z.literals) values h.1 in
      ap (λ b. b ∷ values) h.0
      ∙ ap (λ xs. false ∷ xs) (split.2
      ∙ ap (λ xs. xs ++ split.1) (zero-begins (copy z) (λ i. 2 * (latch_gate z i + 2) + 1) 0 z.latches split.0 split.3)
      ∙ ap (λ xs. replicate z.latches false ++ xs) (zero-begins (seen z) (λ m. 2 * (literal_gate z m + 1)) 0 z.literals split.1 split.4))

  lasso_of : (state : List Bool) → IsInitial c state → Found state → HasFairLasso c j
  lasso_of state initial found =
      let run : List Position = found.stem ++ found.first ∷ found.more in (
        run,
        length found.stem,
        record {
          property = property;
          initial = initial-run c state run initial found.starts found.is_run;
          inside = omega (arith, length-append found.stem (found.first ∷ found.more));
          closes = closes-behind c state found.stem found.first found.more found.ends;
          fair = subst (MeetsFairness c j) (sym (drop-seam found.stem (found.first ∷ found.more))) (soon_fair c literals (found.first ∷ found.more) found.fair);
        },
      )

  pub from_bad_run : HasBadRun (safety_model c j) → HasFairLasso c j
  from_bad_run ([], bad) = absurd (none-some bad.last bad.is_last)
  from_bad_run (p ∷ run, bad) =
      let size = some-run (p ∷ run) bad.last bad.is_last in
      let true-last : literal_at t bad.last (bad_literal z) ≡ true = any_one (λ l. literal_at t bad.last l ≡ true) (bad_literal z) bad.bad in
      let ends = last-ends t (bad_literal z) (length (p ∷ run) - 1) (p ∷ run) bad.last size bad.is_last true-last in
      let split = begin-split c.latches (new_latches z) p.latches bad.initial.0 in
      let starts : p.latches ≡ split.0 ++ watch_state false (replicate z.latches false) none_seen =
      split.2 ∙ ap (λ xs. split.0 ++ xs) (watch_is split.1 split.4)
      in
      let size-of : length split.0 ≡ length c.latches = begin-length c.latches split.0 split.3 in
      lasso_of split.0 split.3
      (stem_back (p ∷ run) split.0 (replicate z.latches false) size-of (length-replicate z.latches false) bad.initial.1 starts ends)

  pub exact : HasBadRun (safety_model c j) ↔ HasFairLasso c j
  exact = (from_bad_run, from_lasso)
