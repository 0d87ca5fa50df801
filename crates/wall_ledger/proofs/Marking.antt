-- Marks after a turn.
use Rattle.std.proofs.Common.{◌≡◌, ◌≢◌, ℕ, zero, suc, ◌<◌, ◌≤◌, ◌⊎◌, inl, inr, ⊎_elim, Bool, true, false, List, [], ◌∷◌, map, refl, sym, ap, ◌∙◌, subst, arith}
use Rattle.std.specs.Prelude.{Option, Some, None, ◌==◌, if◌then◌else◌}
use Rattle.std.specs.List.{Contains, AllByRecursion}
use Rattle.std.proofs.lemmas.Bool.{cases_eq, cases_lt, eq-eqb, ne_eqb}
use Rattle.std.proofs.lemmas.Bool.Decides.{nat_tests}
use Rattle.std.proofs.lemmas.List.Elements.{recursion_from_All, All-contains_itself}
use Rattle.wall_store.specs.declared.outcomes.Outcome.{Outcome}
use Rattle.wall_store.specs.declared.outcomes.Served.{Served}
use Rattle.wall_store.specs.Boards.{properties_of, outcome_of}
use Rattle.wall_store.specs.Events.{IsOpen, IsNextOpen, NoneOpenFrom, with_outcome}
use Rattle.wall_ledger.specs.Passes.{Mark, blank, won, closed, Marked, IsMarkOf, AreMarksOf}
use Rattle.wall_ledger.specs.Turns.{HasWon, closed_unless_won, closing, is_passed, marks_opened}

abbrev pub marked_properties : List Marked → List ℕ
marked_properties marks = map (λ m. m.property) marks

-- ---- marks that are closed

abbrev pub shut : Bool → Marked → Marked
shut b m = if b then record m { mark = closed_unless_won m.mark } else m

shut_mark : (m : Mark) (a : Option Outcome) → a ≢ None → IsMarkOf m a → IsMarkOf (closed_unless_won m) a
shut_mark blank a there h = there
shut_mark (won o) a there h = h
shut_mark closed a there h = h

shut_true : (served : List Served) (b : Bool) (m : Marked) → (b ≡ true → outcome_of served m.property ≢ None)
    → IsMarkOf m.mark (outcome_of served m.property) → IsMarkOf (shut b m).mark (outcome_of served (shut b m).property)
shut_true served true m there h = shut_mark m.mark (outcome_of served m.property) (there refl) h
shut_true served false m there h = h

pub closing_true : (test : ℕ → Bool) (served : List Served) (marks : List Marked)
    → AllByRecursion (λ j. test j ≡ true → outcome_of served j ≢ None) (marked_properties marks)
    → AreMarksOf marks served → AreMarksOf (closing test marks) served
closing_true test served [] there a = tt
closing_true test served (m ∷ marks) there a =
    (shut_true served (test m.property) m there.0 a.0, closing_true test served marks there.1 a.1)

-- what is so of each property is so of those that are marked
pub each_property : (P : ℕ → Type 0) (marks : List Marked) (served : List Served) → marked_properties marks ≡ properties_of served
    → ((j : ℕ) → Contains (properties_of served) j → P j) → AllByRecursion P (marked_properties marks)
each_property P marks served same each =
    subst (AllByRecursion P) (sym same)
    (recursion_from_All P (properties_of served) (λ k d inside. each _ (All-contains_itself (properties_of served) k d inside)))

shut_won : (b : Bool) (m : Marked) (j : ℕ) (o : Outcome) → (m.property ≡ j) × (m.mark ≡ won o) → ((shut b m).property ≡ j) × ((shut b m).mark ≡ won o)
shut_won true m j o h = (h.0, ap closed_unless_won h.1)
shut_won false m j o h = h

unshut_mark : (m : Mark) (o : Outcome) → closed_unless_won m ≡ won o → m ≡ won o
unshut_mark blank o e = absurd cc
unshut_mark (won p) o e = e
unshut_mark closed o e = absurd cc

unshut_won : (b : Bool) (m : Marked) (j : ℕ) (o : Outcome) → ((shut b m).property ≡ j) × ((shut b m).mark ≡ won o) → (m.property ≡ j) × (m.mark ≡ won o)
unshut_won true m j o h = (h.0, unshut_mark m.mark o h.1)
unshut_won false m j o h = h

pub closing_old : (test : ℕ → Bool) (marks : List Marked) (j : ℕ) (o : Outcome) → HasWon j o marks → HasWon j o (closing test marks)
closing_old test [] j o h = absurd h
closing_old test (m ∷ marks) j o (inl h) = inl (shut_won (test m.property) m j o h)
closing_old test (m ∷ marks) j o (inr h) = inr (closing_old test marks j o h)

pub closing_new : (test : ℕ → Bool) (marks : List Marked) (j : ℕ) (o : Outcome) → HasWon j o (closing test marks) → HasWon j o marks
closing_new test [] j o h = absurd h
closing_new test (m ∷ marks) j o (inl h) = inl (unshut_won (test m.property) m j o h)
closing_new test (m ∷ marks) j o (inr h) = inr (closing_new test marks j o h)

shut_property : (b : Bool) (m : Marked) → (shut b m).property ≡ m.property
shut_property true m = refl
shut_property false m = refl

pub closing_properties : (test : ℕ → Bool) (marks : List Marked) → marked_properties (closing test marks) ≡ marked_properties marks
closing_properties test [] = refl
closing_properties test (m ∷ marks) = λ i. shut_property (test m.property) m i ∷ closing_properties test marks i

-- ---- a mark that is won

abbrev pub crown : Bool → Outcome → Marked → Marked
crown b o m = if b then record m { mark = won o } else m

abbrev pub crowning : ℕ → Outcome → List Marked → List Marked
crowning j o marks = map (λ (m : Marked). if m.property == j then record m { mark = won o } else m) marks

crown_property : (b : Bool) (o : Outcome) (m : Marked) → (crown b o m).property ≡ m.property
crown_property true o m = refl
crown_property false o m = refl

pub crowning_properties : (j : ℕ) (o : Outcome) (marks : List Marked) → marked_properties (crowning j o marks) ≡ marked_properties marks
crowning_properties j o [] = refl
crowning_properties j o (m ∷ marks) = λ i. crown_property (m.property == j) o m i ∷ crowning_properties j o marks i

crown_true : (served : List Served) (b : Bool) (o : Outcome) (m : Marked) → (b ≡ true → outcome_of served m.property ≡ Some o)
    → (b ≡ false → IsMarkOf m.mark (outcome_of served m.property)) → IsMarkOf (crown b o m).mark (outcome_of served (crown b o m).property)
crown_true served true o m here else_ = here refl
crown_true served false o m here else_ = else_ refl

-- what the marks say of the board before is so of the board after, but for property j
pub crowning_true : (j : ℕ) (o : Outcome) (old new : List Served) (marks : List Marked) → outcome_of new j ≡ Some o
    → ((i : ℕ) → i ≢ j → outcome_of new i ≡ outcome_of old i) → AreMarksOf marks old → AreMarksOf (crowning j o marks) new
crowning_true j o old new [] is same a = tt
crowning_true j o old new (m ∷ marks) is same a = (
  crown_true new (m.property == j) o m (λ e. ap (outcome_of new) (from_eq m.property j e) ∙ is)
      (λ e. subst (IsMarkOf m.mark) (sym (same m.property (from_ne m.property j e))) a.0),
  crowning_true j o old new marks is same a.1,
)
  where
    from_eq : (a b : ℕ) → (a == b) ≡ true → a ≡ b
    from_eq a b e = elim (cases_eq a b) [
      | inl same ↦ same
      | inr apart ↦ absurd (let f : (a == b) ≡ false = ne_eqb a b apart in let t : true ≡ false = sym e ∙ f in cc)
    ]

    from_ne : (a b : ℕ) → (a == b) ≡ false → a ≢ b
    from_ne a b e same = let t : (a == b) ≡ true = eq-eqb a b same in let f : true ≡ false = sym t ∙ e in cc

crown_new : (b : Bool) (o p : Outcome) (m : Marked) (i : ℕ) → ((crown b o m).property ≡ i) × ((crown b o m).mark ≡ won p)
    → ((b ≡ true) × (m.property ≡ i)) ⊎ ((m.property ≡ i) × (m.mark ≡ won p))
crown_new true o p m i h = inl (refl, h.0)
crown_new false o p m i h = inr h

pub eq_from : (a b : ℕ) → (a == b) ≡ true → a ≡ b
eq_from a b e = elim (cases_eq a b) [
  | inl same ↦ same
  | inr apart ↦ absurd (let f : (a == b) ≡ false = ne_eqb a b apart in let t : true ≡ false = sym e ∙ f in cc)
]

-- a mark that is won afterwards was won, or is the one of property j
pub crowning_new : (j : ℕ) (o : Outcome) (marks : List Marked) (i : ℕ) (p : Outcome) → HasWon i p (crowning j o marks)
    → HasWon i p marks ⊎ (i ≡ j)
crowning_new j o [] i p h = absurd h
crowning_new j o (m ∷ marks) i p (inl h) =
    ⊎_elim (λ (t : ((m.property == j) ≡ true) × (m.property ≡ i)). inr (sym t.1 ∙ eq_from m.property j t.0))
    (λ (t : (m.property ≡ i) × (m.mark ≡ won p)). inl (inl t)) (crown_new (m.property == j) o p m i h)
crowning_new j o (m ∷ marks) i p (inr h) =
    ⊎_elim (λ (t : HasWon i p marks). inl (inr t)) (λ (t : i ≡ j). inr t) (crowning_new j o marks i p h)

crown_old : (b : Bool) (o p : Outcome) (m : Marked) (i : ℕ) → (b ≡ true → m.property ≢ i) → (m.property ≡ i) × (m.mark ≡ won p)
    → ((crown b o m).property ≡ i) × ((crown b o m).mark ≡ won p)
crown_old true o p m i apart h = absurd (apart refl h.0)
crown_old false o p m i apart h = h

pub crowning_old : (j : ℕ) (o : Outcome) (marks : List Marked) (i : ℕ) (p : Outcome) → i ≢ j → HasWon i p marks → HasWon i p (crowning j o marks)
crowning_old j o [] i p apart h = absurd h
crowning_old j o (m ∷ marks) i p apart (inl h) =
    inl (crown_old (m.property == j) o p m i (λ e same. apart (sym same ∙ eq_from m.property j e)) h)
crowning_old j o (m ∷ marks) i p apart (inr h) = inr (crowning_old j o marks i p apart h)

crown_here : (b : Bool) (o : Outcome) (m : Marked) (j : ℕ) → b ≡ true → m.property ≡ j → ((crown b o m).property ≡ j) × ((crown b o m).mark ≡ won o)
crown_here true o m j e same = (same, refl)
crown_here false o m j e same = absurd cc

-- property j is among those of the list
abbrev pub IsThere : ℕ → List ℕ → Type 0
IsThere j [] = ⊥
IsThere j (i ∷ is) = (i ≡ j) ⊎ IsThere j is

pub there_from : (is : List ℕ) (j : ℕ) → Contains is j → IsThere j is
there_from [] j h = absurd (let b = h.1 in omega arith)
there_from (i ∷ is) j (zero, below, here) = inl here
there_from (i ∷ is) j (suc k, below, here) = inr (there_from is j (k, (omega arith), here))

pub crowning_here : (j : ℕ) (o : Outcome) (marks : List Marked) → IsThere j (marked_properties marks) → HasWon j o (crowning j o marks)
crowning_here j o [] h = absurd h
crowning_here j o (m ∷ marks) (inl h) = inl (crown_here (m.property == j) o m j (eq-eqb m.property j h) h)
crowning_here j o (m ∷ marks) (inr h) = inr (crowning_here j o marks h)

-- ---- outcomes after one was handed in

outcome_head : (s : Served) (served : List Served) (i : ℕ) → s.property ≡ i → outcome_of (s ∷ served) i ≡ s.outcome
outcome_head s served i e = rw (eq-eqb s.property i e) refl

outcome_tail : (s : Served) (served : List Served) (i : ℕ) → s.property ≢ i → outcome_of (s ∷ served) i ≡ outcome_of served i
outcome_tail s served i n = rw (ne_eqb s.property i n) refl

pub outcome_here : (served : List Served) (j : ℕ) (o : Outcome) → IsThere j (properties_of served) → outcome_of (with_outcome served j o) j ≡ Some o
outcome_here [] j o h = absurd h
outcome_here (s ∷ served) j o h = elim (cases_eq s.property j) [
  | inl same ↦
      (let whole : with_outcome (s ∷ served) j o ≡ record { property = s.property; outcome = Some o } ∷ served = rw (eq-eqb s.property j same) refl in
      ap (λ (us : List Served). outcome_of us j) whole ∙ outcome_head (record { property = s.property; outcome = Some o }) served j same)
  | inr apart ↦
      (let whole : with_outcome (s ∷ served) j o ≡ s ∷ with_outcome served j o = rw (ne_eqb s.property j apart) refl in
      ap (λ (us : List Served). outcome_of us j) whole ∙ (outcome_tail s (with_outcome served j o) j apart
      ∙ outcome_here served j o (⊎_elim (λ (e : s.property ≡ j). absurd (apart e)) (λ t. t) h)))
]

pub outcome_else : (served : List Served) (j : ℕ) (o : Outcome) (i : ℕ) → i ≢ j → outcome_of (with_outcome served j o) i ≡ outcome_of served i
outcome_else [] j o i n = refl
outcome_else (s ∷ served) j o i n = elim (cases_eq s.property j) [
  | inl same ↦
      (let t : Served = record { property = s.property; outcome = Some o } in
      let whole : with_outcome (s ∷ served) j o ≡ t ∷ served = rw (eq-eqb s.property j same) refl in
      let far : s.property ≢ i = λ e. n (sym e ∙ same) in
      ap (λ (us : List Served). outcome_of us i) whole ∙ (outcome_tail t served i far ∙ sym (outcome_tail s served i far)))
  | inr apart ↦
      (let whole : with_outcome (s ∷ served) j o ≡ s ∷ with_outcome served j o = rw (ne_eqb s.property j apart) refl in
      ap (λ (us : List Served). outcome_of us i) whole ∙ elim (cases_eq s.property i) [
        | inl here ↦ outcome_head s (with_outcome served j o) i here ∙ sym (outcome_head s served i here)
        | inr far ↦ outcome_tail s (with_outcome served j o) i far ∙ (outcome_else served j o i n ∙ sym (outcome_tail s served i far))
      ])
]

-- ---- the next open property

passed_straight : (least j i : ℕ) → least ≤ j → is_passed least j i ≡ true → (least ≤ i) × (i < j)
passed_straight least j i h passed = (grind (arith, nat_tests), grind (arith, nat_tests))

passed_around : (least j i : ℕ) → j < least → is_passed least j i ≡ true → (i < j) ⊎ (least ≤ i)
passed_around least j i h passed = elim (cases_lt i j) [
  | inl before ↦ inl before
  | inr behind ↦ inr (grind (arith, nat_tests))
]

not_from : (served : List Served) (least j : ℕ) → NoneOpenFrom served least → IsOpen served j → j < least
not_from served least j none here = elim (cases_lt j least) [
  | inl below ↦ below
  | inr from_on ↦ absurd (none j (omega (arith, from_on)) here)
]

-- what a search passes over has an outcome
passed_over : (served : List Served) (least j i : ℕ) → IsNextOpen served least (Some j) → Contains (properties_of served) i
    → is_passed least j i ≡ true → outcome_of served i ≢ None
passed_over served least j i (inl first) inside passed none =
    let p = passed_straight least j i first.from_on passed in first.none_before i p.0 p.1 (inside, none)
passed_over served least j i (inr wrap) inside passed none =
    let below : j < least = not_from served least j wrap.0 wrap.1.open_one in
    ⊎_elim (λ (h : i < j). wrap.1.none_before i (omega arith) h (inside, none)) (λ (h : least ≤ i). wrap.0 i h (inside, none))
    (passed_around least j i below passed)

pub opened_true : (marks : List Marked) (served : List Served) (least : ℕ) (r : Option ℕ) → marked_properties marks ≡ properties_of served
    → IsNextOpen served least r → AreMarksOf marks served → AreMarksOf (marks_opened marks least r) served
opened_true marks served least None same settled a =
    closing_true (λ i. true) served marks
    (each_property (λ j. true ≡ true → outcome_of served j ≢ None) marks served same (λ j inside _ none. settled j (inside, none))) a
opened_true marks served least (Some j) same next a =
    closing_true (is_passed least j) served marks
    (each_property (λ i. is_passed least j i ≡ true → outcome_of served i ≢ None) marks served same
    (λ i inside passed. passed_over served least j i next inside passed)) a
