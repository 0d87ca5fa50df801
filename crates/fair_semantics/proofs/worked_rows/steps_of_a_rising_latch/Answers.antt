use Rattle.std.proofs.Common.{◌≡◌, true, false, [], ◌∷◌}
use Rattle.fair_semantics.proofs.Examples.{rises-step, rises-begins}
use Rattle.fair_semantics.proofs.worked_rows.steps_of_a_rising_latch.Goals as goal

pub returns-clause-rises : goal.returns-clause-rises
returns-clause-rises c = rises-begins

pub returns-clause-never_falls : goal.returns-clause-never_falls
returns-clause-never_falls c = λ s step.
    let e : (false ∷ []) ≡ (true ∷ []) = (rises-step s (false ∷ []) step).1 in
    cc
