use Rattle.std.proofs.Common.{◌≡◌, zero, suc, [], ◌∷◌, true, refl, sym, subst, arith}
use Rattle.aig_semantics.specs.Examples.{counter}
use Rattle.ternary.specs.declared.values.Value3.TheVariants.{One, X}
use Rattle.ternary.specs.Simulation.{beside3, given3, value3_through, values3_below, simulation}
use Rattle.ternary.specs.Cubes.{LeavesOpen, NeedsEachLiteral, state_of}
use Rattle.ternary.specs.Values.{literal3_in}
use Rattle.ternary.proofs.worked_rows.cubes_of_the_counter.Goals as goal

pub returns-clause-told : goal.returns-clause-told
unfolding values3_below
returns-clause-told c = refl

both-needed : NeedsEachLiteral counter [] (12 ∷ []) (record { var = 0; positive = true } ∷ record { var = 1; positive = true } ∷ [])
unfolding beside3 given3 value3_through values3_below simulation
both-needed zero below = (0, 12, omega arith, refl, refl)
both-needed (suc zero) below = (0, 12, omega arith, refl, refl)
both-needed (suc (suc k)) below = absurd (omega arith)

pub returns-clause-needed : goal.returns-clause-needed
returns-clause-needed c = both-needed

pub returns-clause-open : goal.returns-clause-open
unfolding beside3 given3 value3_through values3_below simulation
returns-clause-open c = (0, 2, omega arith, refl, refl)

one-not_x : One ≡ X → ⊥
one-not_x e = cc

not-open : LeavesOpen counter [] (2 ∷ []) (record { var = 0; positive = true } ∷ []) → ⊥
unfolding beside3 given3 value3_through values3_below simulation
not-open (zero, literal, below, at, e) = one-not_x (subst (λ l. literal3_in (simulation counter (state_of 2 (record { var = 0; positive = true } ∷ [])) []) l ≡ X) (sym at) e)
not-open (suc k, literal, below, at, e) = absurd (omega arith)

pub returns-clause-not_needed : goal.returns-clause-not_needed
returns-clause-not_needed c = λ h. not-open (h 1 (omega arith))
