-- Laws of trails on which no variable comes twice.
use Rattle.std.proofs.Common.{◌≡◌, ℕ, zero, suc, ◌<◌, Bool, true, false, eqb, List, [], ◌∷◌, ◌++◌, length, get_or, take, Some, None, refl, ap, sym, subst, ◌∙◌, ◌⊎◌, arith, append_assoc, eqb-true, eq-eqb}
use Rattle.std.specs.List.{list_any}
use Rattle.std.specs.Option.{option_map}
use Rattle.std.proofs.lemmas.List.{append-nil}
use Rattle.std.proofs.lemmas.Bool.{false≢true, and_parts, cond-false}
use Rattle.proof_semantics.specs.declared.literals.Lit.{Lit}
use Rattle.cdcl_trail.specs.Trails.{Step, literals_of, step_of, value_of, once}
use Rattle.cdcl_trail.specs.Propagation.{IsForced, HaveReasons, IsReasonedTrail}
use Rattle.cdcl_trail.proofs.TrailLaws.{not-true, or_neither, or_both}
use Rattle.cdcl_trail.proofs.ScanLaws.{untrue}

-- The step's variable had no value before, and its literal was assumed or is forced by a clause.
pub record IsFresh (clauses : List (List Lit)) (before : List Step) (step : Step) : Type 0 where
  pub fresh : value_of before step.literal.var ≡ None
  pub source : (step.reason ≡ None) ⊎ IsForced clauses before step

-- each step after those before it
abbrev pub AreFresh : List (List Lit) → List Step → List Step → Type 0
AreFresh clauses before [] = Unit {0}
AreFresh clauses before (step ∷ more) = IsFresh clauses before step × AreFresh clauses (before ++ step ∷ []) more

abbrev pub IsFreshTrail : List (List Lit) → List Step → Type 0
IsFreshTrail clauses steps = AreFresh clauses [] steps

pub fresh_at : (clauses : List (List Lit)) (before xs : List Step) (i : ℕ) (d : Step) → i < length xs → AreFresh clauses before xs
    → IsFresh clauses (before ++ take i xs) (get_or xs i d)
fresh_at clauses before [] i d below all = absurd (omega (arith, below))
fresh_at clauses before (x ∷ xs) zero d below all = subst (λ b. IsFresh clauses b x) (sym (append-nil before)) all.0
fresh_at clauses before (x ∷ xs) (suc i) d below all =
    subst (λ b. IsFresh clauses b (get_or xs i d)) (append_assoc before (x ∷ []) (take i xs)) (fresh_at clauses (before ++ x ∷ []) xs i d (omega (arith, below)) all.1)

none_of : (before : List Step) (v : ℕ) → list_any (λ b. eqb b.var v) (literals_of before) ≡ false → value_of before v ≡ None
none_of [] v e = refl
none_of (x ∷ before) v e =
    let parts = or_neither _ _ e in
    ap (option_map (λ (s : Step). s.literal.positive)) (cond-false (eqb x.literal.var v) (Some x) (step_of before v) parts.0) ∙ none_of before v parts.1

lacks : (f : Lit → Bool) (before : List Step) (s : Step) (more : List Step) → list_any f (literals_of (before ++ s ∷ more)) ≡ false → f s.literal ≡ false
lacks f [] s more e = (or_neither _ _ e).0
lacks f (x ∷ before) s more e = lacks f before s more (or_neither _ _ e).1

once_before : (before : List Step) (s : Step) (more : List Step) → once (literals_of (before ++ s ∷ more)) ≡ true
    → list_any (λ b. eqb b.var s.literal.var) (literals_of before) ≡ false
once_before [] s more e = refl
once_before (x ∷ before) s more e =
    let parts = and_parts _ _ e in
    let apart : eqb s.literal.var x.literal.var ≡ false = lacks (λ b. eqb b.var x.literal.var) before s more (not-true _ parts.0) in
    or_both _ _ (untrue _ (λ same. false≢true (sym apart ∙ eq-eqb s.literal.var x.literal.var (sym (eqb-true x.literal.var s.literal.var same)))))
    (once_before before s more parts.1)

fresh_from : (clauses : List (List Lit)) (before xs : List Step) → once (literals_of (before ++ xs)) ≡ true → HaveReasons clauses before xs → AreFresh clauses before xs
fresh_from clauses before [] e all = tt
fresh_from clauses before (x ∷ xs) e all = (
  record { fresh = none_of before x.literal.var (once_before before x xs e); source = all.0 },
  fresh_from clauses (before ++ x ∷ []) xs (ap (λ zs. once (literals_of zs)) (append_assoc before (x ∷ []) xs) ∙ e) all.1,
)

-- a trail's own invariant gives that each variable comes without a value
pub fresh_trail : (clauses : List (List Lit)) (steps : List Step) (literals : List Lit) → literals ≡ literals_of steps → once literals ≡ true → IsReasonedTrail clauses steps
    → IsFreshTrail clauses steps
fresh_trail clauses steps literals same e reasoned = fresh_from clauses [] steps (sym (ap once same) ∙ e) reasoned
