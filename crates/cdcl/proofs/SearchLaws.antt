-- Laws of what a search decides and assumes.
use Rattle.std.proofs.Common.{◌≡◌, ℕ, zero, suc, ◌+◌, ◌-◌, ◌<◌, ◌≤◌, Bool, true, false, not, cond, eqb, List, [], ◌∷◌, ◌++◌, length, get_or, take, Option, Some, None, refl, ap, sym, ◌∙◌, ◌⊎◌, inl, inr, arith, eqb-true, eq-eqb}
use Rattle.std.specs.Prelude.{is_none, slice_get, nat_eq, ◌&&◌}
use Rattle.std.specs.List.{list_any, list_all}
use Rattle.std.proofs.lemmas.List.{take_more}
use Rattle.std.proofs.lemmas.Bool.{false≢true, and_parts, and_from, or_cases, or_left, or_right, cond-true, cond-false}
use Rattle.std.proofs.lemmas.Option.{none-some, same_Some, slice_get_read}
use Rattle.proof_semantics.specs.Clauses.{bool_eq, lit_eq, negation, has_literal, literal_value, clauses_value, values_of, has_opposites}
use Rattle.proof_semantics.specs.declared.literals.Lit.{Lit}
use Rattle.proof_semantics.proofs.LiteralLaws.{lit_eq-true, lit_eq-same, bool_eq-same, has_literal-push, clause_value-has}
use Rattle.cdcl_trail.specs.Trails.{Step, assumed, literals_of, value_of, once}
use Rattle.cdcl_trail.specs.Propagation.{is_true, is_false, is_falsified, AreForced, Propagates}
use Rattle.cdcl_trail.proofs.TrailLaws.{not-true, or_neither}
use Rattle.cdcl_trail.proofs.ScanLaws.{all_has, any_gives, any_has, untrue, one_value}
use Rattle.cdcl_trail.proofs.PassLaws.{held_at}
use Rattle.cdcl_trail.proofs.PrefixLaws.{all_from, true_more, none_before, reasoned_assumed}
use Rattle.cdcl_learn.proofs.LiteralTraceLaws.{false_stands, true_last}
use Rattle.cdcl.specs.Searching.{IsUndecided, IsOpenIn, has_variable, open_by, count_open, is_satisfied, is_over, are_over, AreTrue, AssumesSome}
use Rattle.cdcl_trail.specs.Trails.{opened_by, level}
use Rattle.cdcl_trail.specs.Propagation.{HaveReasons}
use Rattle.cdcl_learn.specs.Learning.{is_assumed}
use Rattle.cdcl.proofs.BackLaws.{no_assumed}
use Rattle.cdcl_log.proofs.CoverLaws.{over_push}

abbrev Has : List Lit → Lit → Type 0
Has lits a = has_literal lits a ≡ true

-- Values.

pub model_holds : (v : ℕ → Bool) (steps : List Step) (clauses : List (List Lit)) → ((a : Lit) → is_true steps a ≡ true → literal_value v a ≡ true)
    → is_satisfied clauses steps ≡ true → clauses_value v clauses ≡ true
model_holds v steps [] each all = refl
model_holds v steps (clause ∷ clauses) each all =
    let parts = and_parts _ _ all in
    let found = any_gives (is_true steps) clause parts.0 in
    and_from _ _ (clause_value-has v clause found.0 (each found.0 found.2) found.1) (model_holds v steps clauses each parts.1)

-- The open literal of a clause.

abbrev pub OpenSoFar : List Step → List Lit → Option Lit → Type 0
OpenSoFar steps seen None = list_all (is_false steps) seen ≡ true
OpenSoFar steps seen (Some a) = (value_of steps a.var ≡ None) × Has seen a

has_at : (clause : List Lit) (i : ℕ) (d : Lit) → i < length clause → d ≡ get_or clause i d → Has clause d
has_at [] i d below is = absurd (omega (arith, below))
has_at (x ∷ clause) zero d below is = or_left _ _ (ap (lit_eq d) (sym is) ∙ lit_eq-same d)
has_at (x ∷ clause) (suc i) d below is = or_right _ _ (has_at clause i d (omega (arith, below)) is)

-- The choice among clauses.

has_variable-of : (clause : List Lit) (a : Lit) → Has clause a → has_variable clause a.var ≡ true
has_variable-of [] a has = absurd (false≢true has)
has_variable-of (b ∷ clause) a has =
    elim (or_cases (lit_eq a b) (has_literal clause a) has) [
      | inl same ↦ or_left _ _ (eq-eqb a.var b.var (ap (λ (c : Lit). c.var) (lit_eq-true a b same)))
      | inr later ↦ or_right _ _ (has_variable-of clause a later)
    ]

pub open_at : (clauses : List (List Lit)) (steps : List Step) (i : ℕ) (clause : List Lit) (a : Lit) → i < length clauses → clause ≡ get_or clauses i clause → IsOpenIn steps clause a
    → IsUndecided clauses steps a
open_at clauses steps i clause a below is o = record {
  unvalued = o.unvalued;
  place = i;
  clause = clause;
  at = slice_get_read clauses _ i clause refl below is;
  inside = has_variable-of clause a o.inside;
}

-- Decisions.

open_less : (xs ys : List Step) (v : ℕ) (o : Option Bool) → value_of (xs ++ ys) v ≡ o → open_by (value_of (xs ++ ys) v) ≤ open_by (value_of xs v)
open_less xs ys v None is =
    omega (arith, ap open_by is, ap open_by (none_before xs ys v is))
open_less xs ys v (Some b) is = omega (arith, ap open_by is)

pub count_open_more : (vars : List ℕ) (xs ys : List Step) → count_open vars (xs ++ ys) ≤ count_open vars xs
count_open_more [] xs ys = omega arith
count_open_more (v ∷ vars) xs ys = omega (arith, open_less xs ys v (value_of (xs ++ ys) v) refl, count_open_more vars xs ys)

pub count_open_falls : (vars : List ℕ) (xs ys : List Step) (v : ℕ) (b : Bool) → list_any (nat_eq v) vars ≡ true → value_of xs v ≡ None → value_of (xs ++ ys) v ≡ Some b
    → count_open vars (xs ++ ys) < count_open vars xs
count_open_falls [] xs ys v b among none some = absurd (false≢true among)
count_open_falls (w ∷ vars) xs ys v b among none some =
    elim (or_cases (nat_eq v w) (list_any (nat_eq v) vars) among) [
      | inl here ↦
          let same : v ≡ w = eqb-true v w here in
          omega (arith, ap (λ n. open_by (value_of xs n)) (sym same) ∙ ap open_by none, ap (λ n. open_by (value_of (xs ++ ys) n)) (sym same) ∙ ap open_by some, count_open_more vars xs ys)
      | inr later ↦ omega (arith, open_less xs ys w (value_of (xs ++ ys) w) refl, count_open_falls vars xs ys v b later none some)
    ]

pub over_append : (vars : List ℕ) (xs ys : List Step) → is_over vars (literals_of xs) ≡ true → is_over vars (literals_of ys) ≡ true → is_over vars (literals_of (xs ++ ys)) ≡ true
over_append vars [] ys first later = later
over_append vars (x ∷ xs) ys first later = let parts = and_parts _ _ first in and_from _ _ parts.0 (over_append vars xs ys parts.1 later)

pub over_at : (vars : List ℕ) (clauses : List (List Lit)) (i : ℕ) (clause : List Lit) → slice_get clauses i ≡ Some clause → are_over vars clauses ≡ true → is_over vars clause ≡ true
over_at vars [] i clause at all = absurd (none-some clause at)
over_at vars (c ∷ clauses) zero clause at all = ap (is_over vars) (sym (same_Some c clause at)) ∙ (and_parts _ _ all).0
over_at vars (c ∷ clauses) (suc i) clause at all = over_at vars clauses i clause at (and_parts _ _ all).1

pub over_variable : (vars : List ℕ) (clause : List Lit) (v : ℕ) → is_over vars clause ≡ true → has_variable clause v ≡ true → list_any (nat_eq v) vars ≡ true
over_variable vars [] v all has = absurd (false≢true has)
over_variable vars (b ∷ clause) v all has =
    let parts = and_parts _ _ all in
    elim (or_cases (nat_eq v b.var) (has_variable clause v) has) [
      | inl here ↦ ap (λ n. list_any (nat_eq n) vars) (eqb-true v b.var here) ∙ parts.0
      | inr later ↦ over_variable vars clause v parts.1 later
    ]

over_forced : (vars : List ℕ) (clauses : List (List Lit)) (before xs : List Step) → are_over vars clauses ≡ true → AreForced clauses before xs → is_over vars (literals_of xs) ≡ true
over_forced vars clauses before [] all forced = refl
over_forced vars clauses before (x ∷ xs) all forced =
    let f = forced.0 in
    and_from _ _
    (all_has (λ a. list_any (nat_eq a.var) vars) f.clause x.literal
    (over_at vars clauses (f.number - 1) f.clause (held_at clauses f.number f.clause f.held) all) (and_parts _ _ f.left).0)
    (over_forced vars clauses (before ++ x ∷ []) xs all forced.1)

pub over_reasoned : (vars : List ℕ) (clauses : List (List Lit)) (before xs : List Step) → are_over vars clauses ≡ true → level xs ≡ 0 → HaveReasons clauses before xs
    → is_over vars (literals_of xs) ≡ true
over_reasoned vars clauses before [] all flat reasoned = refl
over_reasoned vars clauses before (x ∷ xs) all flat reasoned =
    elim reasoned.0 [
      | inl none ↦ absurd (omega (arith, flat, ap opened_by none))
      | inr f ↦
          and_from _ _
          (all_has (λ a. list_any (nat_eq a.var) vars) f.clause x.literal
          (over_at vars clauses (f.number - 1) f.clause (held_at clauses f.number f.clause f.held) all) (and_parts _ _ f.left).0)
          (over_reasoned vars clauses (before ++ x ∷ []) xs all (omega (arith, flat)) reasoned.1)
    ]

pub over_propagated : (vars : List ℕ) (clauses : List (List Lit)) (steps later : List Step) → Propagates clauses steps later → are_over vars clauses ≡ true
    → is_over vars (literals_of steps) ≡ true → is_over vars (literals_of later) ≡ true
over_propagated vars clauses steps later p all first =
    ap (λ xs. is_over vars (literals_of xs)) p.behind ∙ over_append vars steps p.added first (over_forced vars clauses steps p.added all p.reasons)

pub falsified_no_tautology : (steps : List Step) (clause : List Lit) → is_falsified steps clause ≡ true → has_opposites clause ≡ false
falsified_no_tautology steps clause all = untrue _ (λ e.
    let found = any_gives (λ a. has_literal clause (negation a)) clause e in
    one_value (value_of steps found.0.var) (not found.0.positive) (all_has (is_false steps) clause found.0 all found.1) (all_has (is_false steps) clause (negation found.0) all found.2))

pub falsified_over : (vars : List ℕ) (steps : List Step) (clause : List Lit) → is_falsified steps clause ≡ true → is_over vars (literals_of steps) ≡ true → is_over vars clause ≡ true
falsified_over vars steps clause all over =
    all_from (λ a. list_any (nat_eq a.var) vars) clause (λ a has.
    all_has (λ b. list_any (nat_eq b.var) vars) (literals_of steps) (negation a) over (false_stands steps a (all_has (is_false steps) clause a all has)))

-- Assumptions.

abbrev pub no_literal : Lit
no_literal = record { var = 0; positive = false }

get_at : (lits : List Lit) (i : ℕ) → i < length lits → Has lits (get_or lits i no_literal)
get_at [] i below = absurd (omega (arith, below))
get_at (x ∷ lits) zero below = or_left _ _ (lit_eq-same x)
get_at (x ∷ lits) (suc i) below = or_right _ _ (get_at lits i (omega (arith, below)))

seen_more : (lits : List Lit) (i : ℕ) (a : Lit) → i < length lits → Has (take (i + 1) lits) a → (Has (take i lits) a) ⊎ (lit_eq a (get_or lits i no_literal) ≡ true)
seen_more lits i a below has =
    elim (or_cases (has_literal (take i lits) a) (lit_eq a (get_or lits i no_literal))
    (sym (has_literal-push (take i lits) (get_or lits i no_literal) a) ∙ ap (λ xs. has_literal xs a) (sym (take_more lits i no_literal below)) ∙ has)) [
      | inl before ↦ inl before
      | inr here ↦ inr here
    ]

literals_push : (steps : List Step) (s : Step) → literals_of (steps ++ s ∷ []) ≡ literals_of steps ++ s.literal ∷ []
literals_push [] s = refl
literals_push (x ∷ steps) s = ap (λ xs. x.literal ∷ xs) (literals_push steps s)

assumed_push : (steps : List Step) (d a : Lit) → is_assumed (steps ++ assumed d ∷ []) a ≡ true → (is_assumed steps a ≡ true) ⊎ (a ≡ d)
assumed_push [] d a e =
    elim (or_cases (lit_eq d a && true) false e) [
      | inl here ↦ inr (sym (lit_eq-true d a (and_parts (lit_eq d a) true here).0))
      | inr nothing ↦ absurd (false≢true nothing)
    ]
assumed_push (x ∷ steps) d a e =
    elim (or_cases (lit_eq x.literal a && is_none x.reason) (is_assumed (steps ++ assumed d ∷ []) a) e) [
      | inl here ↦ inl (or_left _ _ here)
      | inr later ↦ elim (assumed_push steps d a later) [ inl found ↦ inl (or_right _ _ found) | inr same ↦ inr same ]
    ]

-- one more of them
pub assumes_more : (assumptions : List Lit) (start steps later : List Step) (i : ℕ) → i < length assumptions → later ≡ steps ++ assumed (get_or assumptions i no_literal) ∷ []
    → AssumesSome assumptions start steps → AssumesSome assumptions start later
assumes_more assumptions start steps later i below is so_far =
    let d = get_or assumptions i no_literal in
    record {
      reasoned = λ clauses before. reasoned_assumed clauses steps later d is (so_far.reasoned clauses before);
      only = λ a e. elim (assumed_push steps d a (ap (λ xs. is_assumed xs a) (sym is) ∙ e)) [
        | inl before ↦ so_far.only a before
        | inr here ↦ inr (ap (has_literal assumptions) here ∙ get_at assumptions i below)
      ];
      over = λ vars before over.
          ap (λ xs. is_over vars (literals_of xs)) is ∙ ap (is_over vars) (literals_push steps (assumed d))
          ∙ over_push vars (literals_of steps) d (so_far.over vars before over)
          (all_has (λ a. list_any (nat_eq a.var) vars) assumptions d over (get_at assumptions i below));
    }

-- The assumptions that were seen are true.
abbrev pub AreTrueSoFar : List Lit → List Step → Type 0
AreTrueSoFar seen steps = (a : Lit) → has_literal seen a ≡ true → is_true steps a ≡ true

pub true_now : (assumptions : List Lit) (steps later : List Step) (i : ℕ) → i < length assumptions → value_of steps (get_or assumptions i no_literal).var ≡ None
    → later ≡ steps ++ assumed (get_or assumptions i no_literal) ∷ [] → AreTrueSoFar (take i assumptions) steps → AreTrueSoFar (take (i + 1) assumptions) later
true_now assumptions steps later i below fresh is so_far a has =
    let d = get_or assumptions i no_literal in
    ap (λ xs. is_true xs a) is
    ∙ elim (seen_more assumptions i a below has) [
      | inl before ↦ true_more steps (assumed d ∷ []) a (so_far a before)
      | inr here ↦ ap (is_true (steps ++ assumed d ∷ [])) (lit_eq-true a d here) ∙ true_last steps d fresh
    ]

-- The negation of a false assumption was not assumed.
pub not_assumed : (assumptions : List Lit) (start steps : List Step) (d : Lit) → has_opposites assumptions ≡ false → level start ≡ 0 → AssumesSome assumptions start steps
    → has_literal assumptions d ≡ true → is_assumed steps (negation d) ≡ false
not_assumed assumptions start steps d consistent flat some has = untrue _ (λ e.
    elim (some.only (negation d) e) [
      | inl before ↦ no_assumed start (negation d) flat before
      | inr other ↦ false≢true (sym consistent ∙ any_has (λ a. has_literal assumptions (negation a)) assumptions d has other)
    ])

-- Values of literals.

once_has : (lits : List Lit) (v : ℕ) (a : Lit) → list_any (λ b. eqb b.var v) lits ≡ false → Has lits a → a.var ≡ v → ⊥
once_has [] v a none has same = false≢true has
once_has (x ∷ lits) v a none has same =
    let parts = or_neither _ _ none in
    elim (or_cases _ _ has) [
      | inl here ↦ false≢true (sym parts.0 ∙ ap (λ (b : Lit). eqb b.var v) (sym (lit_eq-true a x here)) ∙ eq-eqb a.var v same)
      | inr later ↦ once_has lits v a parts.1 later same
    ]

once_apart : (lits : List Lit) (i : ℕ) (a : Lit) → once lits ≡ true → i < length lits → Has (take i lits) a → a.var ≡ (get_or lits i no_literal).var → ⊥
once_apart [] i a all below has same = omega (arith, below)
once_apart (x ∷ lits) zero a all below has same = false≢true has
once_apart (x ∷ lits) (suc i) a all below has same =
    let parts = and_parts _ _ all in
    elim (or_cases (lit_eq a x) (has_literal (take i lits) a) has) [
      | inl here ↦ once_has lits x.var (get_or lits i no_literal) (not-true _ parts.0) (get_at lits i (omega (arith, below)))
          (sym same ∙ ap (λ (b : Lit). b.var) (lit_eq-true a x here))
      | inr later ↦ once_apart lits i a parts.1 (omega (arith, below)) later same
    ]

pub values_more : (literals : List Lit) (i : ℕ) (old new : List Bool) → once literals ≡ true → i < length literals
    → ((n : ℕ) → values_of new n ≡ cond (eqb n (get_or literals i no_literal).var) (get_or literals i no_literal).positive (values_of old n))
    → AreTrue old (take i literals) → AreTrue new (take (i + 1) literals)
values_more literals i old new apart below told so_far a has =
    let d = get_or literals i no_literal in
    ap (bool_eq a.positive) (told a.var)
    ∙ elim (seen_more literals i a below has) [
      | inl before ↦
          ap (bool_eq a.positive) (cond-false (eqb a.var d.var) d.positive (values_of old a.var)
          (untrue _ (λ e. once_apart literals i a apart below before (eqb-true a.var d.var e))))
          ∙ so_far a before
      | inr here ↦
          let same : a ≡ d = lit_eq-true a d here in
          ap (bool_eq a.positive) (cond-true (eqb a.var d.var) d.positive (values_of old a.var) (eq-eqb a.var d.var (ap (λ (b : Lit). b.var) same)))
          ∙ ap (λ (b : Lit). bool_eq a.positive b.positive) (sym same) ∙ bool_eq-same a.positive
    ]
