use Rattle.std.proofs.Common.{true, [], ◌∷◌, refl, arith}
use Rattle.std.proofs.lemmas.List.Elements.{All-cons, All-nil}
use Rattle.aig_semantics.specs.Examples.{kept}
use Rattle.aig_semantics.specs.Valuations.{value_beside, given_value, value_through, values_below, valuation}
use Rattle.aig_semantics.proofs.Lassos.{constraints-met}
use Rattle.fair_semantics.specs.Skeletons.{IsSituation}
use Rattle.fair_semantics.proofs.worked_rows.skeletons_of_a_kept_latch.Goals as goal

pub returns-clause-one : goal.returns-clause-one
unfolding value_beside given_value value_through values_below valuation
returns-clause-one c = record {
  property = omega arith;
  size = refl;
  situations = All-cons (IsSituation kept) _ [] (record { possible = constraints-met kept (record { latches = true ∷ []; inputs = [] }) refl refl refl; next = refl }) (All-nil (IsSituation kept));
  fair = (refl, tt);
}
