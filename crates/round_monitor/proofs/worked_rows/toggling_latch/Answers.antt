use Rattle.std.proofs.Common.{true, false, refl}
use Rattle.aig_semantics.specs.Valuations.{value_beside, given_value, value_through, values_below, valuation}
use Rattle.aig_semantics.proofs.Lassos.{constraints-met}
use Rattle.round_monitor.specs.Examples.{counted}
use Rattle.round_monitor.proofs.worked_rows.toggling_latch.Goals as goal

pub returns-clause-full : goal.returns-clause-full
unfolding value_beside given_value value_through values_below valuation
returns-clause-full c = record {
  initial = (
    (refl, (refl, (refl, (refl, tt)))),
    (
      constraints-met _ _ refl refl refl,
      refl,
      (constraints-met _ _ refl refl refl, refl, (constraints-met _ _ refl refl refl, refl, (constraints-met _ _ refl refl refl, tt, tt))),
    ),
  );
  last = counted true false true false;
  is_last = refl;
  full = refl;
}
