-- Laws of watched pairs: what keeps them guarded, and that guarded pairs leave no clause unit or false.
use Rattle.std.proofs.Common.{◌≡◌, ℕ, zero, suc, ◌≤◌, true, false, not, ◌||◌, List, [], ◌∷◌, ◌++◌, length, take, Option, Some, refl, ap, sym, subst, ◌∙◌, inl, inr, arith, append_assoc}
use Rattle.std.specs.Prelude.{slice_get}
use Rattle.std.specs.List.{list_any}
use Rattle.std.proofs.lemmas.List.{append-nil}
use Rattle.std.proofs.lemmas.Bool.{false≢true}
use Rattle.std.proofs.lemmas.Option.{none-some, same_Some}
use Rattle.proof_semantics.specs.Clauses.{lit_eq, negation, has_literal}
use Rattle.proof_semantics.specs.declared.literals.Lit.{Lit}
use Rattle.proof_semantics.proofs.LiteralLaws.{lit_eq-true}
use Rattle.cdcl_trail.specs.Trails.{Step, value_of}
use Rattle.cdcl_trail.specs.Propagation.{is_true, is_false, is_falsified, is_unit_for, is_unit}
use Rattle.cdcl_trail.specs.Guards.{IsPairOf, IsGuarded, AreGuarded, AreSure, AreDone, IsFront, KeepsGuards}
use Rattle.cdcl_trail.specs.declared.pairs.Pair.{Pair}
use Rattle.cdcl_trail.proofs.TrailLaws.{either, or_both, not-false}
use Rattle.cdcl_trail.proofs.ScanLaws.{all_has, any_gives, any_has, one_value, untrue, unit_true, unit_others}
use Rattle.cdcl_trail.proofs.PrefixLaws.{false_more, true_more, false_before}

-- Fronts.

pub front_same : (steps : List Step) → IsFront steps steps
front_same steps = ([], sym (append-nil steps))

-- the first of some steps, and the first of more
take_splits : (xs : List Step) (g b : ℕ) → g ≤ b → (rest : List Step) × (take b xs ≡ take g xs ++ rest)
take_splits xs zero b fits = (take b xs, refl)
take_splits [] (suc g) zero fits = absurd (omega arith)
take_splits [] (suc g) (suc b) fits = ([], refl)
take_splits (x ∷ xs) (suc g) zero fits = absurd (omega arith)
take_splits (x ∷ xs) (suc g) (suc b) fits = let later = take_splits xs g b (omega arith) in (later.0, ap (λ ys. x ∷ ys) later.1)

take_front : (xs more : List Step) (g : ℕ) → (rest : List Step) × (take g (xs ++ more) ≡ take g xs ++ rest)
take_front [] more zero = ([], refl)
take_front [] more (suc g) = (take (suc g) more, refl)
take_front (x ∷ xs) more zero = ([], refl)
take_front (x ∷ xs) more (suc g) = let later = take_front xs more g in (later.0, ap (λ ys. x ∷ ys) later.1)

take_within : (xs more : List Step) (g : ℕ) → g ≤ length xs → take g (xs ++ more) ≡ take g xs
take_within xs more zero fits = refl
take_within [] more (suc g) fits = absurd (omega arith)
take_within (x ∷ xs) more (suc g) fits = ap (λ ys. x ∷ ys) (take_within xs more g (omega arith))

take_some : (xs : List Step) (g : ℕ) → (rest : List Step) × (xs ≡ take g xs ++ rest)
take_some xs zero = (xs, refl)
take_some [] (suc g) = ([], refl)
take_some (x ∷ xs) (suc g) = let later = take_some xs g in (later.0, ap (λ ys. x ∷ ys) later.1)

pub take_whole : (xs : List Step) → take (length xs) xs ≡ xs
take_whole [] = refl
take_whole (x ∷ xs) = ap (λ ys. x ∷ ys) (take_whole xs)

take_next : (xs : List Step) (n : ℕ) (x : Step) → slice_get xs n ≡ Some x → take (suc n) xs ≡ take n xs ++ x ∷ []
take_next [] n x e = absurd (none-some x e)
take_next (y ∷ xs) zero x e = ap (λ z. z ∷ []) (same_Some y x e)
take_next (y ∷ xs) (suc n) x e = ap (λ ys. y ∷ ys) (take_next xs n x e)

-- What is false by the first of some steps.

false_along : (xs ys : List Step) (rest : List Step) (a : Lit) → ys ≡ xs ++ rest → is_false xs a ≡ true → is_false ys a ≡ true
false_along xs ys rest a e f = ap (λ zs. is_false zs a) e ∙ false_more xs rest a f

true_along : (xs ys : List Step) (rest : List Step) (a : Lit) → ys ≡ xs ++ rest → is_true xs a ≡ true → is_true ys a ≡ true
true_along xs ys rest a e f = ap (λ zs. is_true zs a) e ∙ true_more xs rest a f

pub false_first : (steps : List Step) (n : ℕ) (a : Lit) → is_false (take n steps) a ≡ true → is_false steps a ≡ true
false_first steps n a f = let all = take_some steps n in false_along (take n steps) steps all.0 a all.1 f

pub false_front : (front steps : List Step) (a : Lit) → IsFront front steps → is_false front a ≡ true → is_false steps a ≡ true
false_front front steps a f e = false_along front steps f.0 a f.1 e

pub true_front : (front steps : List Step) (a : Lit) → IsFront front steps → is_true front a ≡ true → is_true steps a ≡ true
true_front front steps a f e = true_along front steps f.0 a f.1 e

-- what is false by the first g steps of a front is false by the first b of all
pub false_early : (front steps : List Step) (g b : ℕ) (a : Lit) → IsFront front steps → g ≤ b → is_false (take g front) a ≡ true → is_false (take b steps) a ≡ true
false_early front steps g b a f fits e =
    let more = take_front front f.0 g in
    let longer = take_splits steps g b fits in
    false_along (take g steps) (take b steps) longer.0 a longer.1
    (subst (λ xs. is_false (take g xs) a ≡ true) (sym f.1) (false_along (take g front) (take g (front ++ f.0)) more.0 a more.1 e))

-- What keeps pairs guarded.

pub guarded_more : (n : ℕ) (steps more : List Step) (pairs : List (Option Pair)) → n ≤ length steps → AreGuarded n steps pairs → AreGuarded n (steps ++ more) pairs
guarded_more n steps more pairs within all place pair is =
    let here = all place pair is in (
      λ e. true_more steps more pair.second (here.0 (subst (λ xs. is_false xs pair.first ≡ true) (take_within steps more n within) e)),
      λ e. true_more steps more pair.first (here.1 (subst (λ xs. is_false xs pair.second ≡ true) (take_within steps more n within) e)),
    )

pub guarded_fewer : (n g : ℕ) (steps : List Step) (pairs : List (Option Pair)) → g ≤ n → AreGuarded n steps pairs → AreGuarded g steps pairs
guarded_fewer n g steps pairs fits all place pair is =
    let here = all place pair is in
    let front = front_same steps in (
      λ e. here.0 (false_early steps steps g n pair.first front fits e),
      λ e. here.1 (false_early steps steps g n pair.second front fits e),
    )

-- a pair is guarded where neither literal is false so early
pub guarded_late : (front steps : List Step) (g b : ℕ) (a c : Lit) → IsFront front steps → g ≤ b → is_false (take b steps) a ≡ false → is_false (take b steps) c ≡ false
    → IsGuarded (take g front) front a c
guarded_late front steps g b a c f fits not_a not_c = (
  λ e. absurd (false≢true (sym not_a ∙ false_early front steps g b a f fits e)),
  λ e. absurd (false≢true (sym not_c ∙ false_early front steps g b c f fits e)),
)

-- a false watched literal gives way to one that is not false
pub guarded_moved : (front steps : List Step) (n : ℕ) (a b c : Lit) → IsFront front steps → is_false steps a ≡ true → is_false steps c ≡ false
    → IsGuarded (take n front) front a b → IsGuarded (take n front) front c b
guarded_moved front steps n a b c f gone unfalse here = (
  λ e. absurd (false≢true (sym unfalse ∙ false_front front steps c f (false_first front n c e))),
  λ e. absurd (one_value (value_of steps a.var) a.positive (true_front front steps a f (here.1 e)) gone),
)

pub guarded_swap : (first steps : List Step) (a b : Lit) → IsGuarded first steps a b → IsGuarded first steps b a
guarded_swap first steps a b here = (here.1, here.0)

-- the place goes on where every pair with the literal that became false is done
next_half : (steps : List Step) (n : ℕ) (x : Step) (a b : Lit) → slice_get steps n ≡ Some x → (is_false (take n steps) a ≡ true → is_true steps b ≡ true)
    → (lit_eq a (negation x.literal) ≡ true → is_true steps b ≡ true) → is_false (take (suc n) steps) a ≡ true → is_true steps b ≡ true
next_half steps n x a b is earlier now e =
    elim (either (lit_eq a (negation x.literal))) [
      | inl same ↦ now same
      | inr differs ↦ earlier (false_before (take n steps) x a (subst (λ xs. is_false xs a ≡ true) (take_next steps n x is) e) differs)
    ]

pub guarded_next : (n : ℕ) (steps : List Step) (pairs : List (Option Pair)) (x : Step) → slice_get steps n ≡ Some x → AreGuarded n steps pairs
    → AreDone steps (negation x.literal) pairs → AreGuarded (suc n) steps pairs
guarded_next n steps pairs x is all done place pair at =
    let here = all place pair at in
    let there = done place pair at in (
      next_half steps n x pair.first pair.second is here.0 there.0,
      next_half steps n x pair.second pair.first is here.1 there.1,
    )

pub keeps_same : (steps : List Step) (pairs : List (Option Pair)) → KeepsGuards steps pairs pairs
keeps_same steps pairs n front f all = all

pub keeps_more : (steps later : List Step) (a b c : List (Option Pair)) → IsFront steps later → KeepsGuards steps a b → KeepsGuards later b c → KeepsGuards steps a c
keeps_more steps later a b c f first second n front g all =
    second n front (g.0 ++ f.0, f.1 ∙ ap (λ xs. xs ++ f.0) g.1 ∙ append_assoc front g.0 f.0) (first n front g all)

-- What guarded pairs mean at the end.

-- of a clause with a guarded pair
guarded_by : (steps : List Step) (pair : Pair) → IsGuarded (take (length steps) steps) steps pair.first pair.second → IsGuarded steps steps pair.first pair.second
guarded_by steps pair here = subst (λ xs. IsGuarded xs steps pair.first pair.second) (take_whole steps) here

pair_not_false : (steps : List Step) (clause : List Lit) (pair : Pair) → IsPairOf clause pair → IsGuarded steps steps pair.first pair.second → is_falsified steps clause ≡ true → ⊥
pair_not_false steps clause pair of here all =
    one_value (value_of steps pair.second.var) pair.second.positive
    (here.0 (all_has (is_false steps) clause pair.first all of.first)) (all_has (is_false steps) clause pair.second all of.second)

-- of a literal beside the unit one
unit_beside : (steps : List Step) (clause : List Lit) (u a b : Lit) → is_unit_for steps clause u ≡ true → has_literal clause a ≡ true → has_literal clause b ≡ true
    → lit_eq u a ≡ false → (is_false steps a ≡ true → is_true steps b ≡ true) → ⊥
unit_beside steps clause u a b unit in_a in_b apart here =
    unit_true steps clause u b unit in_b (here (unit_others steps clause u a unit in_a apart))

pair_not_unit : (steps : List Step) (clause : List Lit) (pair : Pair) (u : Lit) → IsPairOf clause pair → IsGuarded steps steps pair.first pair.second
    → is_unit_for steps clause u ≡ true → ⊥
pair_not_unit steps clause pair u of here unit =
    elim (either (lit_eq u pair.first)) [
      | inl same ↦
          unit_beside steps clause u pair.second pair.first unit of.second of.first
          (ap (λ (x : Lit). lit_eq x pair.second) (lit_eq-true u pair.first same) ∙ of.apart) here.1
      | inr apart ↦ unit_beside steps clause u pair.first pair.second unit of.first of.second apart here.0
    ]

neither_holds : (steps : List Step) (clause : List Lit) → (is_falsified steps clause ≡ true → ⊥) → ((u : Lit) → is_unit_for steps clause u ≡ true → ⊥)
    → not (is_falsified steps clause || is_unit steps clause) ≡ true
neither_holds steps clause not_false not_unit =
    not-false _ (or_both _ _ (untrue _ not_false)
    (untrue _ (λ e. let found = any_gives (is_unit_for steps clause) clause e in not_unit found.0 found.2)))

pub pair_settles : (steps : List Step) (clause : List Lit) (pair : Pair) → IsPairOf clause pair → IsGuarded (take (length steps) steps) steps pair.first pair.second
    → not (is_falsified steps clause || is_unit steps clause) ≡ true
pair_settles steps clause pair of here =
    let whole = guarded_by steps pair here in
    neither_holds steps clause (pair_not_false steps clause pair of whole) (λ u. pair_not_unit steps clause pair u of whole)

-- of a clause with a true literal
pub true_settles : (steps : List Step) (clause : List Lit) → list_any (is_true steps) clause ≡ true → not (is_falsified steps clause || is_unit steps clause) ≡ true
true_settles steps clause any =
    let found = any_gives (is_true steps) clause any in
    neither_holds steps clause
    (λ all. one_value (value_of steps found.0.var) found.0.positive found.2 (all_has (is_false steps) clause found.0 all found.1))
    (λ u unit. unit_true steps clause u found.0 unit found.1 found.2)

-- What is sure.

pub sure_more : (n : ℕ) (steps more : List Step) (singles : List ℕ) (clauses : List (List Lit)) → AreSure n steps singles clauses → AreSure n (steps ++ more) singles clauses
sure_more n steps more singles clauses all j place clause under single is =
    let found = any_gives (is_true steps) clause (all j place clause under single is) in
    any_has (is_true (steps ++ more)) clause found.0 found.1 (true_more steps more found.0 found.2)

pub unfalse_first : (steps : List Step) (n : ℕ) (a : Lit) → is_false steps a ≡ false → is_false (take n steps) a ≡ false
unfalse_first steps n a e = untrue _ (λ f. false≢true (sym e ∙ false_first steps n a f))

pub unfalse_fewer : (steps : List Step) (m n : ℕ) (a : Lit) → m ≤ n → is_false (take n steps) a ≡ false → is_false (take m steps) a ≡ false
unfalse_fewer steps m n a fits e = untrue _ (λ f. false≢true (sym e ∙ false_early steps steps m n a (front_same steps) fits f))
