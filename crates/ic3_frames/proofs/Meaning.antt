-- What a frame means, before and after a lemma is put into it.
use Rattle.std.proofs.Common.{◌≡◌, ℕ, zero, suc, ◌<◌, ◌≤◌, Bool, true, false, not, ◌&&◌, ◌||◌, List, [], ◌∷◌, ◌++◌, length, filter, refl, sym, ap, ◌∙◌, subst, inl, inr, add-one, arith}
use Rattle.std.proofs.lemmas.Bool.{cases_Bool, false≢true, and_parts}
use Rattle.std.proofs.lemmas.List.Folds.{list_all-append, list_any-append}
use Rattle.proof_semantics.specs.declared.literals.Lit.{Lit}
use Rattle.proof_semantics.specs.Clauses.{literal_value, clause_value, clauses_value, has_literal, is_part}
use Rattle.proof_semantics.proofs.LiteralLaws.{clause_value-has, not-not}
use Rattle.ic3_frames.specs.Frames.{same_clause, has_clause, frame_at, stays, put_from, put_at, with_lemma}
use Rattle.ic3_frames.specs.Meaning.{FramesGrow, LemmasRestrict, AboveStay, NumberStays, OpenedStay}
use Rattle.ic3_frames.proofs.Times.{same-is}

abbrev Levels : Type 0
Levels = List (List (List Lit))

and-comm : (a b : Bool) → (a && b) ≡ (b && a)
and-comm true true = refl
and-comm true false = refl
and-comm false true = refl
and-comm false false = refl

and-assoc : (a b c : Bool) → ((a && b) && c) ≡ (a && (b && c))
and-assoc true b c = refl
and-assoc false b c = refl

and-twice : (a b : Bool) → ((a && b) && a) ≡ (a && b)
and-twice true true = refl
and-twice true false = refl
and-twice false b = refl

-- a clause of the list adds nothing
pub has-adds-nothing : (v : ℕ → Bool) (xs : List (List Lit)) (c : List Lit) → has_clause xs c ≡ true
    → clauses_value v xs ≡ (clauses_value v xs && clause_value v c)
has-adds-nothing v [] c there = absurd (false≢true there)
has-adds-nothing v (x ∷ xs) c there =
    elim (cases_Bool (same_clause c x)) [
      | inl here ↦
          subst (λ y. (clause_value v x && clauses_value v xs) ≡ ((clause_value v x && clauses_value v xs) && clause_value v y)) (sym (same-is c x here))
          (sym (and-twice (clause_value v x) (clauses_value v xs)))
      | inr apart ↦
          let later = has-adds-nothing v xs c (rw apart at there) in
          ap (λ b. clause_value v x && b) later ∙ sym (and-assoc (clause_value v x) (clauses_value v xs) (clause_value v c))
    ]

-- what does not stay beside a lemma follows from it
pub part-implies : (v : ℕ → Bool) (c d : List Lit) → is_part c d ≡ true → clause_value v c ≡ true → clause_value v d ≡ true
part-implies v [] d part holds = absurd (false≢true holds)
part-implies v (a ∷ c) d part holds =
    let parts = and_parts (has_literal d a) (is_part c d) part in
    elim (cases_Bool (literal_value v a)) [
      | inl here ↦ clause_value-has v d a here parts.0
      | inr out ↦ part-implies v c d parts.1 (rw out at holds)
    ]

was-true : (b : Bool) → not b ≡ false → b ≡ true
was-true b e = sym (not-not b) ∙ ap not e

gone-implied : (v : ℕ → Bool) (n : ℕ) (c d : List Lit) → stays n c d ≡ false → clause_value v c ≡ true → clause_value v d ≡ true
gone-implied v zero c d gone holds = ap (clause_value v) (sym (same-is c d (was-true (same_clause c d) gone))) ∙ holds
gone-implied v (suc n) c d gone holds = part-implies v c d (was-true (is_part c d) gone) holds

-- beside the lemma, what stays says what all said
stays-said : (v : ℕ → Bool) (n : ℕ) (xs : List (List Lit)) (c : List Lit)
    → (clauses_value v (filter (stays n c) xs) && clause_value v c) ≡ (clauses_value v xs && clause_value v c)
stays-said v n [] c = refl
stays-said v n (x ∷ xs) c =
    elim (cases_Bool (stays n c x)) [
      | inl kept ↦
          rw kept
          (and-assoc (clause_value v x) (clauses_value v (filter (stays n c) xs)) (clause_value v c)
          ∙ ap (λ b. clause_value v x && b) (stays-said v n xs c)
          ∙ sym (and-assoc (clause_value v x) (clauses_value v xs) (clause_value v c)))
      | inr gone ↦
          rw gone
          (stays-said v n xs c ∙ said (clause_value v c) (clauses_value v xs) (clause_value v x) (gone-implied v n c x gone))
    ]
  where
    said : (c rest x : Bool) → (c ≡ true → x ≡ true) → (rest && c) ≡ ((x && rest) && c)
    said c rest true h = refl
    said true rest false h = absurd (false≢true (h refl))
    said false true false h = refl
    said false false false h = refl

swap : (a b c : Bool) → ((a && b) && c) ≡ ((a && c) && b)
swap true b c = and-comm b c
swap false b c = refl

regroup : (a b c : Bool) → ((a && c) && b) ≡ (a && (b && c))
regroup true b c = and-comm c b
regroup false b c = refl

pub from-within : (v : ℕ → Bool) (m : ℕ) (levels : Levels) (n : ℕ) (c : List Lit) (k : ℕ) → n < length levels → k ≤ n
    → clauses_value v (frame_at (put_from m levels n c) k) ≡ (clauses_value v (frame_at levels k) && clause_value v c)
from-within v m [] n c k inside within = absurd (omega arith)
from-within v m (own ∷ levels) zero c (suc k) inside within = absurd (omega arith)
from-within v m (own ∷ levels) zero c zero inside within =
    let rest : List (List Lit) = frame_at levels 0 in
    let kept : List (List Lit) = filter (stays m c) own in
    let value : List (List Lit) → Bool = clauses_value v in
    list_all-append (clause_value v) (kept ++ c ∷ []) rest
    ∙ ap (λ b. b && value rest) (list_all-append (clause_value v) kept (c ∷ []))
    ∙ last (value kept) (clause_value v c) (value rest)
    ∙ ap (λ b. b && value rest) (stays-said v m own c)
    ∙ swap (value own) (clause_value v c) (value rest)
    ∙ ap (λ b. b && clause_value v c) (sym (list_all-append (clause_value v) own rest))
  where
    last : (a c b : Bool) → ((a && (c && true)) && b) ≡ ((a && c) && b)
    last true true b = refl
    last true false b = refl
    last false c b = refl
from-within v m (own ∷ levels) (suc n) c (suc k) inside within = from-within v (suc m) levels n c k (omega arith) (omega arith)
from-within v m (own ∷ levels) (suc n) c zero inside within =
    let kept : List (List Lit) = filter (stays m c) own in
    let value : List (List Lit) → Bool = clauses_value v in
    let rest : Bool = value (frame_at levels 0) in
    let said : Bool = clause_value v c in
    list_all-append (clause_value v) kept (frame_at (put_from (suc m) levels n c) 0)
    ∙ ap (λ b. value kept && b) (from-within v (suc m) levels n c 0 (omega arith) (omega arith))
    ∙ sym (regroup (value kept) rest said)
    ∙ ap (λ b. b && rest) (stays-said v m own c)
    ∙ swap (value own) said rest
    ∙ ap (λ b. b && said) (sym (list_all-append (clause_value v) own (frame_at levels 0)))

pub put-within : (v : ℕ → Bool) (levels : Levels) (n : ℕ) (c : List Lit) (k : ℕ) → n < length levels → k ≤ n
    → clauses_value v (frame_at (put_at levels n c) k) ≡ (clauses_value v (frame_at levels k) && clause_value v c)
put-within v levels n c k inside within = from-within v 0 levels n c k inside within

or-right : (a b : Bool) → b ≡ true → (a || b) ≡ true
or-right true b e = refl
or-right false b e = e

-- a lemma of a frame is one of each frame below
has-below : (levels : Levels) (n k : ℕ) (c : List Lit) → k ≤ n → has_clause (frame_at levels n) c ≡ true → has_clause (frame_at levels k) c ≡ true
has-below levels zero zero c below h = h
has-below levels zero (suc k) c below h = absurd (omega arith)
has-below [] (suc n) k c below h = absurd (false≢true h)
has-below (own ∷ levels) (suc n) zero c below h =
    list_any-append (same_clause c) own (frame_at levels 0)
    ∙ or-right (has_clause own c) (has_clause (frame_at levels 0) c) (has-below levels n 0 c (omega arith) h)
has-below (own ∷ levels) (suc n) (suc k) c below h = has-below levels n k c (omega arith) h

pub with-within : (v : ℕ → Bool) (levels : Levels) (n : ℕ) (c : List Lit) (k : ℕ) → n < length levels → k ≤ n
    → clauses_value v (frame_at (with_lemma levels n c) k) ≡ (clauses_value v (frame_at levels k) && clause_value v c)
with-within v levels n c k inside within =
    elim (cases_Bool (has_clause (frame_at levels n) c)) [
      | inl there ↦ rw there (has-adds-nothing v (frame_at levels k) c (has-below levels n k c within there))
      | inr absent ↦ rw absent (put-within v levels n c k inside within)
    ]

from-above : (m : ℕ) (levels : Levels) (n : ℕ) (c : List Lit) (k : ℕ) → n < k → frame_at (put_from m levels n c) k ≡ frame_at levels k
from-above m [] n c k above = refl
from-above m (own ∷ levels) zero c zero above = absurd (omega arith)
from-above m (own ∷ levels) zero c (suc k) above = refl
from-above m (own ∷ levels) (suc n) c zero above = absurd (omega arith)
from-above m (own ∷ levels) (suc n) c (suc k) above = from-above (suc m) levels n c k (omega arith)

pub with-above : (levels : Levels) (n : ℕ) (c : List Lit) (k : ℕ) → n < k → frame_at (with_lemma levels n c) k ≡ frame_at levels k
with-above levels n c k above =
    elim (cases_Bool (has_clause (frame_at levels n) c)) [
      | inl there ↦ rw there refl
      | inr absent ↦ rw absent (from-above 0 levels n c k above)
    ]

and-second : (a b : Bool) → (a && b) ≡ true → b ≡ true
and-second true b e = e
and-second false b e = absurd (false≢true e)

grow : (levels : Levels) (k : ℕ) (v : ℕ → Bool) → clauses_value v (frame_at levels k) ≡ true → clauses_value v (frame_at levels (suc k)) ≡ true
grow [] zero v h = refl
grow [] (suc k) v h = refl
grow (own ∷ levels) zero v h =
    and-second (clauses_value v own) (clauses_value v (frame_at levels 0))
    (sym (list_all-append (clause_value v) own (frame_at levels 0)) ∙ h)
grow (own ∷ levels) (suc k) v h = grow levels k v h

pub frames-grow : FramesGrow
frames-grow levels k v h = ap (λ n. clauses_value v (frame_at levels n)) (add-one k) ∙ grow levels k v h

pub lemmas-restrict : LemmasRestrict
lemmas-restrict levels n lemma k v inside within = with-within v levels n lemma k inside within

pub above-stay : AboveStay
above-stay levels n lemma k above = with-above levels n lemma k above

pub length-from : (m : ℕ) (levels : Levels) (k : ℕ) (c : List Lit) → length (put_from m levels k c) ≡ length levels
length-from m [] k c = refl
length-from m (own ∷ levels) zero c = refl
length-from m (own ∷ levels) (suc k) c = ap suc (length-from (suc m) levels k c)

pub length-put : (levels : Levels) (k : ℕ) (c : List Lit) → length (put_at levels k c) ≡ length levels
length-put levels k c = length-from 0 levels k c

pub number-stays : NumberStays
number-stays levels n c =
    elim (cases_Bool (has_clause (frame_at levels n) c)) [
      | inl there ↦ rw there refl
      | inr absent ↦ rw absent (length-put levels n c)
    ]

pub opened-stay : OpenedStay
opened-stay [] zero = refl
opened-stay [] (suc zero) = refl
opened-stay [] (suc (suc k)) = refl
opened-stay (own ∷ levels) zero = ap (λ later. own ++ later) (opened-stay levels 0)
opened-stay (own ∷ levels) (suc k) = opened-stay levels k
