use Rattle.std.proofs.Common.{◌≡◌, Bool, true, false, List, [], ◌∷◌, length, refl, ap₂, ◌∙◌, arith}
use Rattle.std.specs.Prelude.{IsTrue}
use Rattle.std.specs.List.{All}
use Rattle.std.proofs.lemmas.List.Elements.{All-cons, All-nil, All-head}
use Rattle.aig_semantics.specs.Valuations.{value_beside, given_value, value_through, values_below, valuation}
use Rattle.aig_semantics.specs.Runs.{literal_at, successor}
use Rattle.fair_semantics.specs.declared.skeletons.Situation.{Situation}
use Rattle.fair_semantics.specs.declared.skeletons.Skeleton.{Skeleton}
use Rattle.fair_semantics.specs.Entries.{numbered}
use Rattle.fair_semantics.specs.Allowing.{allow}
use Rattle.fair_semantics.specs.Skeletons.{IsSituation, IsSkeleton, states_of, places, AreTrueInTurn}
use Rattle.fair_semantics.specs.Examples.{rises, risen}
use Rattle.fair_semantics.proofs.Certified.{certifies}
use Rattle.fair_semantics.proofs.Examples.{rises-possible, rises-step, risen_valid}
use Rattle.fair_semantics.proofs.worked_rows.skeletons_of_a_rising_latch.Goals as goal

pub returns-clause-one : goal.returns-clause-one
unfolding value_beside given_value value_through values_below valuation
returns-clause-one c = record {
  property = omega arith;
  size = refl;
  situations = All-cons (IsSituation rises) _ [] (record { possible = rises-possible false; next = refl }) (All-nil (IsSituation rises));
  fair = (refl, tt);
}

-- a position at which the latch is 0
low : (latches inputs : List Bool) → length latches ≡ 1 → length inputs ≡ 0
    → IsTrue (literal_at rises (record { latches = latches; inputs = inputs }) 3) → latches ≡ false ∷ []
unfolding value_beside given_value value_through values_below valuation
low [] inputs size none h = absurd (omega arith)
low (b ∷ d ∷ latches) inputs size none h = absurd (omega arith)
low (b ∷ []) (i ∷ inputs) size none h = absurd (omega arith)
low (true ∷ []) [] size none h = let e : false ≡ true = h in absurd (cc)
low (false ∷ []) [] size none h = refl

none_for : (situations : List Situation) → length situations ≡ 1 → All (IsSituation rises) situations → AreTrueInTurn rises (3 ∷ []) situations
    → allow (numbered (risen ∷ [])) (states_of situations) ≡ false
none_for [] size are fair = absurd (omega arith)
none_for (s ∷ r ∷ situations) size are fair = absurd (omega arith)
none_for (s ∷ []) size are fair =
    let is : IsSituation rises s = All-head (IsSituation rises) s [] are in
    let lengths = is.possible.position in
    let here : s.position.latches ≡ false ∷ [] = low s.position.latches s.position.inputs lengths.latches lengths.inputs fair.0 in
    let next : s.successor ≡ true ∷ [] =
    is.next ∙ (rises-step s.position.latches (successor rises s.position) (record { position = s.position; possible = is.possible; begins = refl; ends = refl })).1
    in
    ap₂ (λ a b. allow (numbered (risen ∷ [])) (a ∷ b ∷ [])) here next

none : (skeleton : Skeleton) → IsSkeleton rises 0 skeleton → allow (numbered (risen ∷ [])) (places skeleton) ≡ false
none skeleton is = none_for skeleton.situations is.size is.situations is.fair

pub returns-clause-none : goal.returns-clause-none
returns-clause-none c = none

pub returns-clause-no_lasso : goal.returns-clause-no_lasso
returns-clause-no_lasso c = certifies rises (risen ∷ []) 0 (risen_valid, tt) none
