-- Cubes that no step enters, and their parts.
use Rattle.std.proofs.Common.{◌≡◌, ℕ, ◌<◌, Bool, true, false, ◌&&◌, not, List, [], ◌∷◌, length, inl, inr, refl, sym, ap, subst, ◌∙◌, arith}
use Rattle.std.specs.Prelude.{Option, None, Some, Result, Ok, Err, IsSome, IfSome, IfOk, OnOk, ◌↔◌}
use Rattle.std.proofs.lemmas.Bool.{or_left, or_right, false≢true, cases_Bool}
use Rattle.std.proofs.lemmas.Result.{IfOk-weaker}
use Rattle.std.proofs.lemmas.List.Elements.{All-head, All-tail}
use Rattle.aig_semantics.specs.Runs.{successor}
use Rattle.proof_semantics.specs.declared.literals.Lit.{Lit}
use Rattle.proof_semantics.specs.Clauses.{negation, literal_value, clause_value, cube_value, values_of, has_literal, is_part}
use Rattle.proof_semantics.proofs.LiteralLaws.{literal_value-negation}
use Rattle.edge.specs.Units.{Spendings}
use Rattle.edge.specs.Ends.{CountsConflicts}
use Rattle.ic3_frames.specs.Frames.{frame_at, with_lemma}
use Rattle.ic3_frames.specs.Room.{allowed_by}
use Rattle.ic3_frames.proofs.Meaning.{with-within}
use Rattle.ic3_semantics.specs.Stepping.{Stepping, IsMissing, IsOver}
use Rattle.ic3_generalise.specs.Cubes.{value_literals, misses_starts, IsBased}
use Rattle.ic3_semantics.specs.Searching.{CountsUpTo}
use Rattle.ic3_loops.specs.Propagating.{Narrows}
use Rattle.ic3_loops.specs.Generalizing.{IsExcluded, IsAsked}
use Rattle.ic3_loops.proofs.Ended.{up_to_on, up_to_conflicts}
use Rattle.ic3_loops.proofs.Excluding.{part_true, part_over, own_literal}
use Rattle.ic3_loops.proofs.Sounds.{allowed_before}

abbrev Levels : Type 0
Levels = List (List (List Lit))

-- ---- the cube of a state

-- the cube of a state that is no start misses the starts
pub state-misses : (starts : List Lit) (s : List Bool) → IsOver (length s) starts → cube_value (values_of s) starts ≡ false
    → misses_starts starts (value_literals 0 s) ≡ true
state-misses [] s over h = absurd (false≢true (sym h))
state-misses (l ∷ starts) s over h =
    elim (cases_Bool (literal_value (values_of s) l)) [
      | inl holds ↦ or_right (has_literal (value_literals 0 s) (negation l)) (misses_starts starts (value_literals 0 s))
          (state-misses starts s (All-tail (λ a. a.var < length s) l starts over)
          (sym (ap (λ b. b && cube_value (values_of s) starts) holds) ∙ h))
      | inr fails ↦ or_left (has_literal (value_literals 0 s) (negation l)) (misses_starts starts (value_literals 0 s))
          (own_literal s (negation l) (All-head (λ a. a.var < length s) l starts over) (literal_value-negation (values_of s) l ∙ ap not fails))
    ]

-- ---- parts that miss the starts

-- What no step enters from outside the cube, none enters from outside a longer part.
pub excluded-based : (starts : List Lit) (st : Stepping) (level : ℕ) (cube part based : List Lit) → IsOver (length st.question.circuit.latches) cube
    → IsMissing st level cube part → IsBased starts cube part based → IsExcluded starts st level based
excluded-based starts st level cube part based over missing is = record {
  over = part_over (length st.question.circuit.latches) based cube is.among over;
  misses = is.misses;
  none = λ p enters.
      missing.none p (record {
        step = enters.step;
        frame = enters.frame;
        outside = elim (cases_Bool (cube_value (values_of p.latches) cube)) [
          | inl inside ↦ absurd (false≢true (sym enters.outside ∙ part_true (values_of p.latches) based cube is.among inside))
          | inr outside ↦ outside
        ];
        inside = part_true (values_of (successor st.question.circuit p)) part based is.holds enters.inside;
      });
}

-- ---- what is told of a cube

pub asked-missing : (starts : List Lit) (st : Stepping) (level : ℕ) (cube part based : List Lit) → IsOver (length st.question.circuit.latches) cube
    → misses_starts starts cube ≡ true → IsMissing st level cube part → IsBased starts cube part based → IsAsked starts st level cube (Some based)
asked-missing starts st level cube part based over misses missing is = (
  record { over = over; misses = misses; none = missing.of_cube },
  is.among,
  excluded-based starts st level cube part based over missing is,
)

module _ {E : Type 0} (starts : List Lit) (st : Stepping) (level : ℕ) (cube : List Lit) (r : Result (Option (List Lit)) E)
    (asked : IfOk r (IsAsked starts st level cube)) where
  pub asked-exactly : IfOk r (λ answer. IsSome answer ↔ IsExcluded starts st level cube)
  asked-exactly = IfOk-weaker r (IsAsked starts st level cube) (λ answer. IsSome answer ↔ IsExcluded starts st level cube) by asked
    where
      by : (answer : Option (List Lit)) → IsAsked starts st level cube answer → IsSome answer ↔ IsExcluded starts st level cube
      by (Some part) says = (λ some. says.0, λ excluded. refl)
      by None says = (λ some. absurd (false≢true some), λ excluded. absurd (says excluded))

  pub asked-part : IfOk r (λ answer. IfSome answer (λ part. is_part part cube ≡ true))
  asked-part = IfOk-weaker r (IsAsked starts st level cube) (λ answer. IfSome answer (λ part. is_part part cube ≡ true)) by asked
    where
      by : (answer : Option (List Lit)) → IsAsked starts st level cube answer → IfSome answer (λ part. is_part part cube ≡ true)
      by (Some part) says = says.1
      by None says = tt

  pub asked-passing : IfOk r (λ answer. IfSome answer (IsExcluded starts st level))
  asked-passing = IfOk-weaker r (IsAsked starts st level cube) (λ answer. IfSome answer (IsExcluded starts st level)) by asked
    where
      by : (answer : Option (List Lit)) → IsAsked starts st level cube answer → IfSome answer (IsExcluded starts st level)
      by (Some part) says = says.2
      by None says = tt

-- ---- a lemma that was put in

-- The frame of its level excludes the states that it is false in, and no frame allows more.
pub put-excludes : (levels new : Levels) (k : ℕ) (lemma : List Lit) (s : List Bool) → k < length levels → new ≡ with_lemma levels k lemma
    → clause_value (values_of s) lemma ≡ false → allowed_by (frame_at new k) s ≡ false
put-excludes levels new k lemma s inside is excluded =
    ap (λ those. allowed_by (frame_at those k) s) is
    ∙ with-within (values_of s) levels k lemma k inside (omega arith)
    ∙ ap (λ b. allowed_by (frame_at levels k) s && b) excluded
    ∙ none (allowed_by (frame_at levels k) s)
  where
    none : (a : Bool) → (a && false) ≡ false
    none true = refl
    none false = refl

pub put-narrows : (levels new : Levels) (k : ℕ) (lemma : List Lit) → k < length levels → new ≡ with_lemma levels k lemma → Narrows levels new
put-narrows levels new k lemma inside is =
    subst (Narrows levels) (sym is) (λ i s allowed. allowed_before levels k lemma i s inside allowed)

-- what is so of the number that is told
pub at_level : {E : Type 0} (r : Result ℕ E) (P : ℕ → Type 0) (k : ℕ) → IfOk r (λ x. x ≡ k) → OnOk r (P k) → IfOk r P
at_level (Ok x) P k is h = subst P (sym is) h
at_level (Err e) P k is h = h

-- Questions, and then one step.
pub counted-questions : (a b c d : Spendings) → CountsConflicts a b → CountsConflicts b c → CountsUpTo 1 c d → CountsUpTo 1 a d
counted-questions a b c d first second third =
    up_to_on 1 1 a b d (up_to_conflicts 1 a b first) (omega (arith, first.steps))
    (up_to_on 1 1 b c d (up_to_conflicts 1 b c second) (omega (arith, second.steps)) third)
