-- Laws of renaming: what a trail over numbers says, the trail over their names says of the names.
use Rattle.std.proofs.Common.{◌≡◌, ℕ, zero, suc, ◌+◌, ◌-◌, ◌<◌, Bool, true, false, not, ◌&&◌, ◌||◌, cond, eqb, leb, List, [], ◌∷◌, ◌++◌, map, length, Option, Some, None, refl, ap, ap₂, sym, subst, ◌∙◌, inl, inr}
use Rattle.std.specs.Prelude.{slice_get, is_some}
use Rattle.std.specs.List.{list_any, list_all, AllByRecursion}
use Rattle.std.specs.Option.{option_map}
use Rattle.std.proofs.lemmas.Bool.{cases_Bool, eqb-true, eqb-false, eq-eqb, ne_eqb, false≢true, and_parts, or_cases, or_left, or_right}
use Rattle.std.proofs.lemmas.List.{map-append, get_or_append_left}
use Rattle.std.proofs.lemmas.Option.{none-some, same_Some, slice_get-map}
use Rattle.proof_semantics.specs.Clauses.{bool_eq, lit_eq, has_literal}
use Rattle.proof_semantics.specs.declared.literals.Lit.{Lit}
use Rattle.proof_semantics.proofs.LiteralLaws.{lit_eq-true, lit_eq-same}
use Rattle.cnf.specs.Clauses.{clause_numbered}
use Rattle.packed_literals.specs.Naming.{place_among, name_of, named, AreApart}
use Rattle.packed_literals.specs.Packing.{literal}
use Rattle.cdcl_trail.specs.Trails.{Step, step, opened_by, literals_of, reasons_in, step_of, value_of, reason_in, reason_of, level, up_to_variable, level_of, up_to_level, once}
use Rattle.cdcl_trail.specs.Propagation.{is_value, is_true, is_false, is_falsified, is_unit_for, is_unit, is_complete, IsConflict, IsForced, AreForced, Propagates}
use Rattle.cdcl_trail.specs.Guards.{IsPairOf}
use Rattle.cdcl_trail.specs.Watched.{HasTwo}
use Rattle.cdcl_trail.specs.Renaming.{named_step, named_steps, named_clause, named_clauses, named_pair, IsBelow, AreBelow, StepsAreBelow, ClausesAreBelow}
use Rattle.cdcl_trail.specs.declared.pairs.Pair.{Pair}

-- Tests and choices under a map.

pub any_map : {A B : Type 0} (h : A → B) (f : B → Bool) (g : A → Bool) (P : A → Type 0) → ((x : A) → P x → f (h x) ≡ g x)
    → (xs : List A) → AllByRecursion P xs → list_any f (map h xs) ≡ list_any g xs
any_map h f g P same [] all = refl
any_map h f g P same (x ∷ xs) all = ap₂ (λ b c. b || c) (same x all.0) (any_map h f g P same xs all.1)

pub all_map : {A B : Type 0} (h : A → B) (f : B → Bool) (g : A → Bool) (P : A → Type 0) → ((x : A) → P x → f (h x) ≡ g x)
    → (xs : List A) → AllByRecursion P xs → list_all f (map h xs) ≡ list_all g xs
all_map h f g P same [] all = refl
all_map h f g P same (x ∷ xs) all = ap₂ (λ b c. b && c) (same x all.0) (all_map h f g P same xs all.1)

some_choice : {A B : Type 0} (h : A → B) (b : Bool) (x : A) (later : Option A) → cond b (Some (h x)) (option_map h later) ≡ option_map h (cond b (Some x) later)
some_choice h true x later = refl
some_choice h false x later = refl

none_choice : {A B : Type 0} (h : A → B) (b : Bool) (later : Option A) → cond b None (option_map h later) ≡ option_map h (cond b None later)
none_choice h true later = refl
none_choice h false later = refl

list_choice : {A B : Type 0} (h : A → B) (b : Bool) (xs ys : List A) → cond b (map h xs) (map h ys) ≡ map h (cond b xs ys)
list_choice h true xs ys = refl
list_choice h false xs ys = refl

pub mapped_some : {A B : Type 0} (h : A → B) (o : Option A) (y : B) → option_map h o ≡ Some y → (x : A) × (o ≡ Some x) × (h x ≡ y)
mapped_some h None y e = absurd (none-some y e)
mapped_some h (Some x) y e = (x, refl, same_Some (h x) y e)

pub all_at : {A : Type 0} (P : A → Type 0) (xs : List A) (i : ℕ) (x : A) → AllByRecursion P xs → slice_get xs i ≡ Some x → P x
all_at P [] i x all e = absurd (none-some x e)
all_at P (y ∷ xs) zero x all e = subst P (same_Some y x e) all.0
all_at P (y ∷ xs) (suc i) x all e = all_at P xs i x all.1 e

pub all_both : {A : Type 0} (P : A → Type 0) (xs ys : List A) → AllByRecursion P xs → AllByRecursion P ys → AllByRecursion P (xs ++ ys)
all_both P [] ys all more = more
all_both P (x ∷ xs) ys all more = (all.0, all_both P xs ys all.1 more)

pub has_below : (n : ℕ) (lits : List Lit) (a : Lit) → AreBelow n lits → has_literal lits a ≡ true → IsBelow n a
has_below n [] a all has = absurd (false≢true has)
has_below n (b ∷ lits) a all has =
    elim (or_cases _ _ has) [
      | inl same ↦ subst (IsBelow n) (sym (lit_eq-true a b same)) all.0
      | inr later ↦ has_below n lits a all.1 later
    ]

-- What names leave as it is.

pub level_named : (names : List ℕ) (steps : List Step) → level (named_steps names steps) ≡ level steps
level_named names [] = refl
level_named names (s ∷ steps) = ap (λ n. opened_by s.reason + n) (level_named names steps)

pub cut_named : (names : List ℕ) (n : ℕ) (steps : List Step) → up_to_level n (named_steps names steps) ≡ named_steps names (up_to_level n steps)
cut_named names n [] = refl
cut_named names n (s ∷ steps) =
    ap (λ xs. cond (leb (opened_by s.reason) n) (named_step names s ∷ xs) []) (cut_named names (n - opened_by s.reason) steps)
    ∙ list_choice (named_step names) (leb (opened_by s.reason) n) (s ∷ up_to_level (n - opened_by s.reason) steps) []

pub literals_named : (names : List ℕ) (steps : List Step) → literals_of (named_steps names steps) ≡ named_clause names (literals_of steps)
literals_named names [] = refl
literals_named names (s ∷ steps) = ap (λ xs. named names s.literal ∷ xs) (literals_named names steps)

pub reasons_named : (names : List ℕ) (steps : List Step) → reasons_in (named_steps names steps) ≡ reasons_in steps
reasons_named names [] = refl
reasons_named names (s ∷ steps) = ap (λ xs. s.reason ∷ xs) (reasons_named names steps)

pub numbered_named : (names : List ℕ) (clauses : List (List Lit)) (number : ℕ)
    → clause_numbered (named_clauses names clauses) number ≡ option_map (named_clause names) (clause_numbered clauses number)
numbered_named names clauses number =
    ap (cond (eqb number 0) None) (slice_get-map (named_clause names) clauses (number - 1))
    ∙ none_choice (named_clause names) (eqb number 0) (slice_get clauses (number - 1))

step_positive : (names : List ℕ) (o : Option Step)
    → option_map (λ (s : Step). s.literal.positive) (option_map (named_step names) o) ≡ option_map (λ (s : Step). s.literal.positive) o
step_positive names None = refl
step_positive names (Some s) = refl

step_reason : (names : List ℕ) (o : Option Step) → reason_in (option_map (named_step names) o) ≡ reason_in o
step_reason names None = refl
step_reason names (Some s) = refl

-- a numbered clause is one of the list
pub numbered_below : (n : ℕ) (clauses : List (List Lit)) (number : ℕ) (clause : List Lit) → ClausesAreBelow n clauses
    → clause_numbered clauses number ≡ Some clause → AreBelow n clause
numbered_below n clauses number clause all e =
    elim (cases_Bool (eqb number 0)) [
      | inl zero_is ↦ absurd (none-some clause (sym (ap (λ b. cond b None (slice_get clauses (number - 1))) zero_is) ∙ e))
      | inr other ↦ all_at (AreBelow n) clauses (number - 1) clause all (sym (ap (λ b. cond b None (slice_get clauses (number - 1))) other) ∙ e)
    ]

-- Names, none of which comes twice.
module _ (names : List ℕ) (apart : AreApart names) where
  same_number : (m k : ℕ) → m < length names → k < length names → name_of names m ≡ name_of names k → m ≡ k
  same_number m k p q e = same_Some m k (sym (apart m p) ∙ ap (place_among names) e ∙ apart k q)

  pub eq_named : (m k : ℕ) → m < length names → k < length names → eqb (name_of names m) (name_of names k) ≡ eqb m k
  eq_named m k p q =
      elim (cases_Bool (eqb m k)) [
        | inl same ↦ eq-eqb (name_of names m) (name_of names k) (ap (name_of names) (eqb-true m k same)) ∙ sym same
        | inr differs ↦ ne_eqb (name_of names m) (name_of names k) (λ e. eqb-false m k differs (same_number m k p q e)) ∙ sym differs
      ]

  pub lit_named : (a b : Lit) → IsBelow (length names) a → IsBelow (length names) b → lit_eq (named names a) (named names b) ≡ lit_eq a b
  lit_named a b p q = ap (λ t. t && bool_eq a.positive b.positive) (eq_named a.var b.var p q)

  pub has_named : (clause : List Lit) (a : Lit) → AreBelow (length names) clause → IsBelow (length names) a
      → has_literal (named_clause names clause) (named names a) ≡ has_literal clause a
  has_named clause a all p = any_map (named names) (lit_eq (named names a)) (lit_eq a) (IsBelow (length names)) (λ b q. lit_named a b p q) clause all

  -- Values.

  pub step_named : (steps : List Step) (v : ℕ) → StepsAreBelow (length names) steps → v < length names
      → step_of (named_steps names steps) (name_of names v) ≡ option_map (named_step names) (step_of steps v)
  step_named [] v all p = refl
  step_named (s ∷ steps) v all p =
      ap₂ (λ b later. cond b (Some (named_step names s)) later) (eq_named s.literal.var v all.0 p) (step_named steps v all.1 p)
      ∙ some_choice (named_step names) (eqb s.literal.var v) s (step_of steps v)

  pub value_named : (steps : List Step) (v : ℕ) → StepsAreBelow (length names) steps → v < length names
      → value_of (named_steps names steps) (name_of names v) ≡ value_of steps v
  value_named steps v all p =
      ap (option_map (λ (s : Step). s.literal.positive)) (step_named steps v all p) ∙ step_positive names (step_of steps v)

  pub reason_named : (steps : List Step) (v : ℕ) → StepsAreBelow (length names) steps → v < length names
      → reason_of (named_steps names steps) (name_of names v) ≡ reason_of steps v
  reason_named steps v all p = ap reason_in (step_named steps v all p) ∙ step_reason names (step_of steps v)

  front_named : (steps : List Step) (v : ℕ) → StepsAreBelow (length names) steps → v < length names
      → up_to_variable (named_steps names steps) (name_of names v) ≡ named_steps names (up_to_variable steps v)
  front_named [] v all p = refl
  front_named (s ∷ steps) v all p =
      ap₂ (λ b xs. cond b (named_step names s ∷ []) (named_step names s ∷ xs)) (eq_named s.literal.var v all.0 p) (front_named steps v all.1 p)
      ∙ list_choice (named_step names) (eqb s.literal.var v) (s ∷ []) (s ∷ up_to_variable steps v)

  pub level_of_named : (steps : List Step) (v : ℕ) → StepsAreBelow (length names) steps → v < length names
      → level_of (named_steps names steps) (name_of names v) ≡ level_of steps v
  level_of_named steps v all p = ap level (front_named steps v all p) ∙ level_named names (up_to_variable steps v)

  pub once_named : (lits : List Lit) → AreBelow (length names) lits → once (named_clause names lits) ≡ once lits
  once_named [] all = refl
  once_named (a ∷ lits) all =
      ap₂ (λ b c. not b && c)
      (any_map (named names) (λ b. eqb b.var (name_of names a.var)) (λ b. eqb b.var a.var) (IsBelow (length names)) (λ b q. eq_named b.var a.var q all.0) lits all.1)
      (once_named lits all.1)

  -- a number's variable is none without a number
  pub stranger : (v k : ℕ) → k < length names → place_among names v ≡ None → eqb (name_of names k) v ≡ false
  stranger v k p none = ne_eqb (name_of names k) v (λ e. none-some k (sym none ∙ sym (ap (place_among names) e) ∙ apart k p))

  -- A variable without a number has no value.
  pub unnamed : (steps : List Step) (v : ℕ) → StepsAreBelow (length names) steps → place_among names v ≡ None → step_of (named_steps names steps) v ≡ None
  unnamed [] v all none = refl
  unnamed (s ∷ steps) v all none =
      ap (λ b. cond b (Some (named_step names s)) (step_of (named_steps names steps) v)) (stranger v s.literal.var all.0 none)
      ∙ unnamed steps v all.1 none

  -- Clauses.

  pub true_named : (steps : List Step) (a : Lit) → StepsAreBelow (length names) steps → IsBelow (length names) a
      → is_true (named_steps names steps) (named names a) ≡ is_true steps a
  true_named steps a all p = ap (λ value. is_value value a.positive) (value_named steps a.var all p)

  pub false_named : (steps : List Step) (a : Lit) → StepsAreBelow (length names) steps → IsBelow (length names) a
      → is_false (named_steps names steps) (named names a) ≡ is_false steps a
  false_named steps a all p = ap (λ value. is_value value (not a.positive)) (value_named steps a.var all p)

  pub falsified_named : (steps : List Step) (clause : List Lit) → StepsAreBelow (length names) steps → AreBelow (length names) clause
      → is_falsified (named_steps names steps) (named_clause names clause) ≡ is_falsified steps clause
  falsified_named steps clause all below =
      all_map (named names) (is_false (named_steps names steps)) (is_false steps) (IsBelow (length names)) (λ a p. false_named steps a all p) clause below

  pub unit_for_named : (steps : List Step) (clause : List Lit) (a : Lit) → StepsAreBelow (length names) steps → AreBelow (length names) clause
      → IsBelow (length names) a → is_unit_for (named_steps names steps) (named_clause names clause) (named names a) ≡ is_unit_for steps clause a
  unit_for_named steps clause a all below p =
      ap₂ (λ x y. x && y) (has_named clause a below p)
      (ap₂ (λ value y. not (is_some value) && y) (value_named steps a.var all p)
      (all_map (named names) (λ b. lit_eq (named names a) b || is_false (named_steps names steps) b) (λ b. lit_eq a b || is_false steps b) (IsBelow (length names))
      (λ b q. ap₂ (λ x y. x || y) (lit_named a b p q) (false_named steps b all q)) clause below))

  pub unit_named : (steps : List Step) (clause : List Lit) → StepsAreBelow (length names) steps → AreBelow (length names) clause
      → is_unit (named_steps names steps) (named_clause names clause) ≡ is_unit steps clause
  unit_named steps clause all below =
      any_map (named names) (is_unit_for (named_steps names steps) (named_clause names clause)) (is_unit_for steps clause) (IsBelow (length names))
      (λ a p. unit_for_named steps clause a all below p) clause below

  pub complete_named : (clauses : List (List Lit)) (steps : List Step) → StepsAreBelow (length names) steps → ClausesAreBelow (length names) clauses
      → is_complete (named_clauses names clauses) (named_steps names steps) ≡ is_complete clauses steps
  complete_named clauses steps all below =
      all_map (named_clause names)
      (λ clause. not (is_falsified (named_steps names steps) clause || is_unit (named_steps names steps) clause))
      (λ clause. not (is_falsified steps clause || is_unit steps clause))
      (AreBelow (length names))
      (λ clause p. ap₂ (λ x y. not (x || y)) (falsified_named steps clause all p) (unit_named steps clause all p)) clauses below

  pub conflict_named : (clauses : List (List Lit)) (steps : List Step) (number : ℕ) → StepsAreBelow (length names) steps
      → ClausesAreBelow (length names) clauses → IsConflict clauses steps number → IsConflict (named_clauses names clauses) (named_steps names steps) number
  conflict_named clauses steps number all below conflict =
      let clause = conflict.0 in (
        named_clause names clause,
        numbered_named names clauses number ∙ ap (option_map (named_clause names)) conflict.1,
        falsified_named steps clause all (numbered_below (length names) clauses number clause below conflict.1) ∙ conflict.2,
      )

  -- Reasons.

  pub forced_named : (clauses : List (List Lit)) (before : List Step) (s : Step) → StepsAreBelow (length names) before
      → ClausesAreBelow (length names) clauses → IsForced clauses before s → IsForced (named_clauses names clauses) (named_steps names before) (named_step names s)
  forced_named clauses before s all below f =
      let inside = numbered_below (length names) clauses f.number f.clause below f.held in
      let has = and_parts (has_literal f.clause s.literal) _ f.left in
      record {
        number = f.number;
        reason = f.reason;
        clause = named_clause names f.clause;
        held = numbered_named names clauses f.number ∙ ap (option_map (named_clause names)) f.held;
        left = unit_for_named before f.clause s.literal all inside (has_below (length names) f.clause s.literal inside has.0) ∙ f.left;
      }

  forced_below : (clauses : List (List Lit)) (before : List Step) (s : Step) → ClausesAreBelow (length names) clauses → IsForced clauses before s
      → IsBelow (length names) s.literal
  forced_below clauses before s below f =
      has_below (length names) f.clause s.literal (numbered_below (length names) clauses f.number f.clause below f.held)
      (and_parts (has_literal f.clause s.literal) _ f.left).0

  -- What clauses over numbers force is over numbers.
  pub added_below : (clauses : List (List Lit)) (before more : List Step) → ClausesAreBelow (length names) clauses → AreForced clauses before more
      → StepsAreBelow (length names) more
  added_below clauses before [] below f = tt
  added_below clauses before (s ∷ more) below f = (forced_below clauses before s below f.0, added_below clauses (before ++ s ∷ []) more below f.1)

  pub propagated_below : (clauses : List (List Lit)) (earlier later : List Step) → ClausesAreBelow (length names) clauses → StepsAreBelow (length names) earlier
      → Propagates clauses earlier later → StepsAreBelow (length names) later
  propagated_below clauses earlier later below all p =
      subst (StepsAreBelow (length names)) (sym p.behind)
      (all_both (λ (s : Step). IsBelow (length names) s.literal) earlier p.added all (added_below clauses earlier p.added below p.reasons))

  forced_all_named : (clauses : List (List Lit)) (before more : List Step) → StepsAreBelow (length names) before → ClausesAreBelow (length names) clauses
      → AreForced clauses before more → AreForced (named_clauses names clauses) (named_steps names before) (named_steps names more)
  forced_all_named clauses before [] all below f = tt
  forced_all_named clauses before (s ∷ more) all below f = (
    forced_named clauses before s all below f.0,
    subst (λ xs. AreForced (named_clauses names clauses) xs (named_steps names more)) (map-append (named_step names) before (s ∷ []))
        (forced_all_named clauses (before ++ s ∷ []) more
        (all_both (λ (x : Step). IsBelow (length names) x.literal) before (s ∷ []) all (forced_below clauses before s below f.0, tt)) below f.1),
  )

  pub propagates_named : (clauses : List (List Lit)) (earlier later : List Step) → StepsAreBelow (length names) earlier → ClausesAreBelow (length names) clauses
      → Propagates clauses earlier later → Propagates (named_clauses names clauses) (named_steps names earlier) (named_steps names later)
  propagates_named clauses earlier later all below p = record {
    added = named_steps names p.added;
    behind = ap (named_steps names) p.behind ∙ map-append (named_step names) earlier p.added;
    reasons = forced_all_named clauses earlier p.added all below p.reasons;
  }

  -- Pairs.

  pub pair_named : (clause : List Lit) (pair : Pair) → AreBelow (length names) clause → IsPairOf clause pair
      → IsPairOf (named_clause names clause) (named_pair names pair)
  pair_named clause pair below is =
      let p = has_below (length names) clause pair.first below is.first in
      let q = has_below (length names) clause pair.second below is.second in
      record {
        first = has_named clause pair.first below p ∙ is.first;
        second = has_named clause pair.second below q ∙ is.second;
        apart = lit_named pair.first pair.second p q ∙ is.apart;
      }

  -- each literal of a renamed clause is one of the clause, under its name
  unnamed_literal : (clause : List Lit) (b : Lit) → has_literal (named_clause names clause) b ≡ true
      → (a : Lit) × (has_literal clause a ≡ true) × (b ≡ named names a)
  unnamed_literal [] b has = absurd (false≢true has)
  unnamed_literal (a ∷ clause) b has =
      elim (or_cases _ _ has) [
        | inl same ↦ (a, or_left _ _ (lit_eq-same a), lit_eq-true b (named names a) same)
        | inr later ↦ let found = unnamed_literal clause b later in (found.0, or_right _ _ found.1, found.2)
      ]

  pub two_unnamed : (clause : List Lit) → AreBelow (length names) clause → HasTwo (named_clause names clause) → HasTwo clause
  two_unnamed clause below two =
      let a = unnamed_literal clause two.0 two.2 in
      let b = unnamed_literal clause two.1 two.3 in
      let p = has_below (length names) clause a.0 below a.1 in
      let q = has_below (length names) clause b.0 below b.1 in (
        a.0,
        b.0,
        a.1,
        b.1,
        sym (lit_named a.0 b.0 p q) ∙ ap₂ lit_eq (sym a.2) (sym b.2) ∙ two.4,
      )

-- Names that come later.

pub name_stays : (names more : List ℕ) (a : Lit) → IsBelow (length names) a → named (names ++ more) a ≡ named names a
name_stays names more a p = ap (λ v. literal v a.positive) (get_or_append_left names more 0 a.var p)

pub clause_stays : (names more : List ℕ) (clause : List Lit) → AreBelow (length names) clause → named_clause (names ++ more) clause ≡ named_clause names clause
clause_stays names more [] all = refl
clause_stays names more (a ∷ clause) all = ap₂ (λ b bs. b ∷ bs) (name_stays names more a all.0) (clause_stays names more clause all.1)

pub clauses_stay : (names more : List ℕ) (clauses : List (List Lit)) → ClausesAreBelow (length names) clauses
    → named_clauses (names ++ more) clauses ≡ named_clauses names clauses
clauses_stay names more [] all = refl
clauses_stay names more (c ∷ clauses) all = ap₂ (λ d ds. d ∷ ds) (clause_stays names more c all.0) (clauses_stay names more clauses all.1)

step_stays : (names more : List ℕ) (s : Step) → IsBelow (length names) s.literal → named_step (names ++ more) s ≡ named_step names s
step_stays names more s p = ap (λ a. step a s.reason) (name_stays names more s.literal p)

pub steps_stay : (names more : List ℕ) (steps : List Step) → StepsAreBelow (length names) steps → named_steps (names ++ more) steps ≡ named_steps names steps
steps_stay names more [] all = refl
steps_stay names more (s ∷ steps) all = ap₂ (λ x xs. x ∷ xs) (step_stays names more s all.0) (steps_stay names more steps all.1)
