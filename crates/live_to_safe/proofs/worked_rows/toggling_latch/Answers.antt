use Rattle.std.proofs.Common.{◌≡◌, true, false, refl, sym, subst, arith}
use Rattle.std.proofs.lemmas.Option.{same_Some}
use Rattle.aig_semantics.specs.Examples.{toggle}
use Rattle.aig_semantics.specs.Valuations.{value_beside, given_value, value_through, values_below, valuation}
use Rattle.aig_semantics.specs.Runs.{literal_at}
use Rattle.aig_semantics.proofs.Lassos.{constraints-met}
use Rattle.live_to_safe.specs.Translation.{safety_model}
use Rattle.live_to_safe.specs.Examples.{watched}
use Rattle.live_to_safe.proofs.Lassos.{any_one}
use Rattle.live_to_safe.proofs.worked_rows.toggling_latch.Goals as goal

pub returns-clause-bad_run : goal.returns-clause-bad_run
unfolding value_beside given_value value_through values_below valuation
returns-clause-bad_run c = record {
  initial = ((refl, (refl, (refl, (refl, tt)))), (constraints-met _ _ refl refl refl, refl, (constraints-met _ _ refl refl refl, refl, (constraints-met _ _ refl refl refl, tt, tt))));
  last = watched false true false true false;
  is_last = refl;
  bad = (0, 34, omega arith, refl, refl);
}

pub returns-clause-too_short : goal.returns-clause-too_short
unfolding value_beside given_value value_through values_below valuation
returns-clause-too_short c = λ h.
    let last = watched true true false false false in
    let same : last ≡ h.last = same_Some last h.last h.is_last in
    let bad : literal_at (safety_model toggle 0).circuit last 34 ≡ true =
    subst (λ p. literal_at (safety_model toggle 0).circuit p 34 ≡ true) (sym same) (any_one (λ l. literal_at (safety_model toggle 0).circuit h.last l ≡ true) 34 h.bad)
    in
    let wrong : false ≡ true = bad in
    absurd (cc)
