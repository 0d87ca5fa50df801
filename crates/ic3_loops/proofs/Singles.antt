-- A clause that no step of the arena leaves is a closed set.
use Rattle.std.proofs.Common.{◌≡◌, ℕ, zero, suc, Bool, true, false, not, List, [], map, length, refl, sym, ap, subst, ◌∙◌}
use Rattle.std.proofs.lemmas.Bool.{false≢true}
use Rattle.proof_semantics.specs.declared.literals.Lit.{Lit}
use Rattle.proof_semantics.specs.Clauses.{clause_value, cube_value, values_of, negation}
use Rattle.proof_semantics.proofs.LiteralLaws.{cube_value-negations}
use Rattle.ic3_frames.specs.Frames.{frame_at}
use Rattle.ic3_frames.specs.Room.{allowed_by}
use Rattle.ic3_semantics.specs.Stepping.{Stepping, meets_from}
use Rattle.ic3_loops.specs.Sound.{Agree}
use Rattle.ic3_loops.specs.Generalizing.{IsExcluded}
use Rattle.ic3_loops.specs.Single.{IsSingle}
use Rattle.ic3_loops.proofs.Stuck.{negation_over}
use Rattle.ic3_loops.proofs.Excluding.{twice, based-is, relative-is}

agree-none : (st : Stepping) → st.lemmas ≡ [] → Agree st.lemmas []
agree-none st none k s = ap (λ lemmas. meets_from lemmas k s) none ∙ empty k
  where
    empty : (k : ℕ) → true ≡ allowed_by (frame_at [] k) s
    empty zero = refl
    empty (suc k) = refl

not_false : (b : Bool) → not b ≡ true → b ≡ false
not_false true e = absurd (false≢true e)
not_false false e = refl

-- The negation of a cube that no step enters, and that holds in a state.
pub single-is : (st : Stepping) (starts cube clause : List Lit) (to : List Bool) → st.lemmas ≡ [] → IsExcluded starts st 0 cube
    → cube_value (values_of to) cube ≡ true → clause ≡ map negation cube → IsSingle st.question starts to clause
single-is st starts cube clause to none excluded holds is =
    let n : ℕ = length st.question.circuit.latches in
    let v : ℕ → Bool = values_of to in
    subst (IsSingle st.question starts to) (sym is)
    (record {
      over = negation_over n cube excluded.over;
      based = based-is starts cube excluded.misses;
      breaks =
          not_false (clause_value v (map negation cube))
          (sym (cube_value-negations v (map negation cube)) ∙ ap (cube_value v) (twice cube) ∙ holds);
      kept = λ p arena inside. relative-is st [] 0 cube excluded.none (agree-none st none) 0 p refl arena refl inside;
    })
