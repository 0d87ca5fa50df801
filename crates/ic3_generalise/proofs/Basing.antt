-- Parts of a cube that miss the starts.
use Rattle.std.proofs.Common.{◌≡◌, ℕ, zero, suc, ◌<◌, Bool, true, false, ◌||◌, cond, List, [], ◌∷◌, length, get_or, inl, inr, sym, ap, subst, ◌∙◌, arith}
use Rattle.std.specs.Prelude.{filter}
use Rattle.std.specs.List.{list_any}
use Rattle.std.proofs.lemmas.Bool.{or_left, or_right, or_cases, false≢true, cases_Bool}
use Rattle.proof_semantics.specs.declared.literals.Lit.{Lit}
use Rattle.proof_semantics.specs.Clauses.{lit_eq, negation, has_literal, is_part}
use Rattle.proof_semantics.proofs.LiteralLaws.{lit_eq-same, lit_eq-true, negation_twice}
use Rattle.ic3_generalise.specs.Cubes.{misses_starts, IsOpposed, IsBased}
use Rattle.ic3_generalise.specs.Cubes.{with_literal as with_kept}
use Rattle.ic3_generalise.proofs.Parts.{part_has, part_from, part_same}

-- ---- literals that a filter keeps

step_has : (a c : Lit) (rest xs : List Lit) (t : Bool) → (has_literal rest a ≡ true → has_literal xs a ≡ true)
    → has_literal (cond t (c ∷ rest) rest) a ≡ true → has_literal (c ∷ xs) a ≡ true
step_has a c rest xs false on has = or_right (lit_eq a c) (has_literal xs a) (on has)
step_has a c rest xs true on has =
    elim (or_cases (lit_eq a c) (has_literal rest a) has) [
      | inl here ↦ or_left (lit_eq a c) (has_literal xs a) here
      | inr later ↦ or_right (lit_eq a c) (has_literal xs a) (on later)
    ]

filter_has : (test : Lit → Bool) (xs : List Lit) (a : Lit) → has_literal (filter test xs) a ≡ true → has_literal xs a ≡ true
filter_has test [] a has = has
filter_has test (c ∷ xs) a has = step_has a c (filter test xs) xs (test c) (filter_has test xs a) has

here_step : (a c : Lit) (rest : List Lit) (t : Bool) → t ≡ true → lit_eq a c ≡ true → has_literal (cond t (c ∷ rest) rest) a ≡ true
here_step a c rest true e same = or_left (lit_eq a c) (has_literal rest a) same
here_step a c rest false e same = absurd (false≢true e)

later_step : (a c : Lit) (rest : List Lit) (t : Bool) → has_literal rest a ≡ true → has_literal (cond t (c ∷ rest) rest) a ≡ true
later_step a c rest true has = or_right (lit_eq a c) (has_literal rest a) has
later_step a c rest false has = has

has_filter : (test : Lit → Bool) (xs : List Lit) (a : Lit) → has_literal xs a ≡ true → test a ≡ true → has_literal (filter test xs) a ≡ true
has_filter test [] a has holds = has
has_filter test (c ∷ xs) a has holds =
    elim (or_cases (lit_eq a c) (has_literal xs a) has) [
      | inl same ↦ here_step a c (filter test xs) (test c) (ap test (sym (lit_eq-true a c same)) ∙ holds) same
      | inr later ↦ later_step a c (filter test xs) (test c) (has_filter test xs a later holds)
    ]

-- ---- parts that miss the starts

any_of : (test : Lit → Bool) (lits : List Lit) (a : Lit) → has_literal lits a ≡ true → test a ≡ true → list_any test lits ≡ true
any_of test [] a has holds = absurd (false≢true has)
any_of test (l ∷ lits) a has holds = elim (cases_Bool (lit_eq a l)) [
  | inl same ↦ or_left (test l) (list_any test lits) (ap test (sym (lit_eq-true a l same)) ∙ holds)
  | inr other ↦ or_right (test l) (list_any test lits) (any_of test lits a (sym (ap (λ t. t || has_literal lits a) other) ∙ has) holds)
]

pub based-part : (starts cube part : List Lit) → is_part part cube ≡ true → misses_starts starts part ≡ true → IsBased starts cube part part
based-part starts cube part among misses = record { among = among; holds = part_same part; misses = misses }

pub based-with : (starts cube part : List Lit) (l : Lit) → is_part part cube ≡ true → IsOpposed starts cube l
    → IsBased starts cube part (with_kept cube part l)
based-with starts cube part l among opposed =
    let test : Lit → Bool = λ a. has_literal part a || lit_eq a l in
    let has : has_literal (filter test cube) l ≡ true =
    has_filter test cube l opposed.own (or_right (has_literal part l) (lit_eq l l) (lit_eq-same l))
    in
    record {
      among = part_from (filter test cube) cube (filter_has test cube);
      holds =
          part_from part (filter test cube)
          (λ a mine. has_filter test cube a (part_has part cube a among mine) (or_left (has_literal part a) (lit_eq a l) mine));
      misses =
          any_of (λ m. has_literal (filter test cube) (negation m)) starts (negation l) opposed.against
          (subst (λ x. has_literal (filter test cube) x ≡ true) (sym (negation_twice l)) has);
    }

pub based-whole : (starts cube part : List Lit) → is_part part cube ≡ true → misses_starts starts cube ≡ true → IsBased starts cube part cube
based-whole starts cube part among misses = record { among = part_same cube; holds = among; misses = misses }

-- a literal of the cube whose negation is one of the starts'
pub opposed-is : (starts cube : List Lit) (i : ℕ) (l : Lit) → i < length cube → l ≡ get_or cube i l → has_literal starts (negation l) ≡ true
    → IsOpposed starts cube l
opposed-is starts cube i l below is against =
    record { own = subst (λ x. has_literal cube x ≡ true) (sym is) (has_at cube i l below); against = against }
  where
    has_at : (lits : List Lit) (k : ℕ) (d : Lit) → k < length lits → has_literal lits (get_or lits k d) ≡ true
    has_at [] k d below = absurd (omega arith)
    has_at (a ∷ lits) zero d below = or_left (lit_eq a a) (has_literal lits a) (lit_eq-same a)
    has_at (a ∷ lits) (suc k) d below =
        or_right (lit_eq (get_or lits k d) a) (has_literal lits (get_or lits k d)) (has_at lits k d (omega arith))
