-- What the cube of a lifted state promises.
use Rattle.std.proofs.Common.{◌≡◌, ℕ, ◌+◌, ◌<◌, ◌≤◌, Bool, true, false, List, [], ◌∷◌, map, length, get_or, set, refl, sym, ap, ◌∙◌, subst, inl, inr, arith}
use Rattle.std.proofs.lemmas.Option.{unwrap_or-slice_get}
use Rattle.aig_semantics.specs.declared.traces.Position.{Position}
use Rattle.aig_semantics.specs.Literals.{literal_in}
use Rattle.aig_semantics.specs.Circuits.{Circuit}
use Rattle.aig_semantics.specs.Valuations.{valuation}
use Rattle.aig_semantics.specs.Runs.{IsPosition}
use Rattle.proof_semantics.specs.Clauses.{values_of}
use Rattle.ternary.specs.declared.values.Value3.{Value3}
use Rattle.ternary.specs.declared.values.Value3.TheVariants.{Zero, One, X}
use Rattle.ternary.specs.Values.{known, literal3_in, IsCompletion}
use Rattle.ternary.specs.Simulation.{simulation}
use Rattle.ternary.specs.Cubes.{IsOverLatches, LiesIn, ShowsTrue, KeepsTrue, state_of, without, NeedsEachLiteral}
use Rattle.ternary.specs.Lifting.{AreOne, SomeIsX, IsLiftedTo, literals_from}
use Rattle.ternary.proofs.Refined.{completion-becomes, simulation-sound}
use Rattle.ternary.proofs.Forgetting.{known-completes, becomes-literal, known-literal_in}
use Rattle.ternary.proofs.CubeLaws.{over-from, lies-from, completes-from, state-told, state-without}

-- what holds while values are forgotten, all that are left being latches from i on
pub record IsLifting (c : Circuit) (at : Position) (keep : List ℕ) (i : ℕ) (state : List Value3) : Type 0 where
  pub lifted : IsLiftedTo c at.latches at.inputs keep i state
  pub within : i ≤ length at.latches
  pub long : length state ≡ length at.latches

completion-long : (xs : List Value3) (bs : List Bool) → IsCompletion xs bs → length xs ≡ length bs
completion-long [] [] h = refl
completion-long [] (b ∷ bs) h = absurd h
completion-long (x ∷ xs) [] h = absurd h
completion-long (x ∷ xs) (b ∷ bs) h = omega (arith, completion-long xs bs h.1)

one-true : (b : Bool) → One ≡ known b → b ≡ true
one-true true e = refl
one-true false e = absurd (apart e)
  where
    apart : One ≡ Zero → ⊥
    apart e = cc

from-first : (bs : List Bool) (i w : ℕ) → i < length bs → 0 + i ≡ w → values_of bs w ≡ get_or bs i false
from-first bs i w below e = unwrap_or-slice_get bs w false ∙ ap (λ n. get_or bs n false) (same i w e)
  where
    same : (i w : ℕ) → 0 + i ≡ w → w ≡ i
    same i w e = omega arith

module _ (c : Circuit) (at : Position) (keep : List ℕ) (fits : IsPosition c at) (state : List Value3) (h : IsLiftedTo c at.latches at.inputs keep (length at.latches) state) where
  long : length state ≡ length c.latches
  long = completion-long state at.latches h.tells ∙ fits.latches

  pub lifted-over : IsOverLatches c (literals_from 0 state)
  lifted-over = over-from 0 (length c.latches) state (omega (arith, long))

  pub lifted-holds : LiesIn at.latches (literals_from 0 state)
  lifted-holds = lies-from (values_of at.latches) 0 state at.latches h.tells (from-first at.latches)

  literal-true : (s : List Bool) → IsCompletion state s → (literal : ℕ) → literal3_in (simulation c state (map known at.inputs)) literal ≡ One → literal_in (valuation c s at.inputs) literal ≡ true
  literal-true s completes literal one =
      let values : List Bool = valuation c s at.inputs in
      let sound = simulation-sound c state (map known at.inputs) s at.inputs completes (known-completes at.inputs) in
      elim (becomes-literal (simulation c state (map known at.inputs)) (map known values) (completion-becomes (simulation c state (map known at.inputs)) values sound) literal) [
        | inl x ↦ absurd (apart (sym one ∙ x))
        | inr same ↦ one-true (literal_in values literal) (sym one ∙ (same ∙ known-literal_in values literal))
      ]
    where
      apart : One ≡ X → ⊥
      apart e = cc

  pub lifted-keeps : KeepsTrue c at.inputs keep (literals_from 0 state)
  lifted-keeps =
      λ s size lies k d below.
      literal-true s (completes-from (values_of s) 0 state s (size ∙ sym long) lies (from-first s)) (get_or keep k d) (h.keeps k d below)

  pub lifted-told : ShowsTrue c at.inputs keep (literals_from 0 state)
  lifted-told =
      let told : state_of (length c.latches) (literals_from 0 state) ≡ state =
      ap (λ n. state_of n (literals_from 0 state)) (sym long) ∙ state-told state
      in
      subst (λ xs. AreOne (simulation c xs (map known at.inputs)) keep) (sym told) h.keeps

  pub lifted-needed : NeedsEachLiteral c at.inputs keep (literals_from 0 state)
  lifted-needed =
      λ k below.
      let dropped = state-without k state below in
      let inside : dropped.0 < length at.latches = omega (arith, dropped.1, completion-long state at.latches h.tells) in
      let told : state_of (length c.latches) (without k (literals_from 0 state)) ≡ set state dropped.0 X =
      ap (λ n. state_of n (without k (literals_from 0 state))) (sym long) ∙ dropped.3
      in
      subst (λ xs. SomeIsX (simulation c xs (map known at.inputs)) keep) (sym told) (h.tight dropped.0 inside dropped.2)
