use Rattle.std.proofs.Common.{◌≡◌, ℕ, zero, suc, ◌≤◌, true, false, [], ◌∷◌, take, length, refl, arith}
use Rattle.std.proofs.lemmas.List.Elements.{All-replicate}
use Rattle.aig_semantics.specs.Valuations.{value_beside, given_value, value_through, values_below, valuation}
use Rattle.aig_semantics.specs.Stimuli.{simulated, HasLasso}
use Rattle.aig_semantics.proofs.Lassos.{constraints-met, fairness-met, closes-between}
use Rattle.aig_semantics.specs.Examples.{toggle_of_nothing, without_inputs}
use Rattle.aig_semantics.proofs.worked_rows.property_without_literals.Goals as goal

two_back_to_first : HasLasso toggle_of_nothing 0 (without_inputs (false ∷ []) 2) 2 0
unfolding value_beside given_value value_through values_below valuation simulated
two_back_to_first = record {
  fits = record { latches = refl; inputs = All-replicate (λ values. length values ≡ 0) 2 [] refl };
  inside = omega arith;
  lasso = record {
    property = omega arith;
    initial = ((refl, tt), (constraints-met _ _ refl refl refl, refl, (constraints-met _ _ refl refl refl, tt, tt)));
    inside = omega arith;
    closes = record { first = _; last = _; is_first = refl; is_last = refl; closes = refl };
    fair = fairness-met toggle_of_nothing 0 (simulated toggle_of_nothing (without_inputs (false ∷ []) 2).latches (take 2 (without_inputs (false ∷ []) 2).inputs)) refl;
  };
}

at_least_two : (n place : ℕ) → HasLasso toggle_of_nothing 0 (without_inputs (false ∷ []) 2) n place → 2 ≤ n
unfolding value_beside given_value value_through values_below valuation simulated
at_least_two zero place h = absurd (omega (arith, h.lasso.inside))
at_least_two (suc zero) zero h =
    let e : (true ∷ []) ≡ (false ∷ []) = closes-between _ _ 0 _ _ refl refl h.lasso.closes in
    cc
at_least_two (suc zero) (suc place) h = absurd (omega (arith, h.lasso.inside))
at_least_two (suc (suc n)) place h = omega arith

pub returns : goal.returns
returns c = record { has = two_back_to_first; shortest = at_least_two; earliest = λ place h. omega arith }
