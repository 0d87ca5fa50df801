-- Laws of what is kept of the clauses.
use Rattle.std.proofs.Common.{◌≡◌, ℕ, suc, ◌<◌, Bool, true, false, List, [], ◌∷◌, ◌++◌, length, map, Option, Some, None, refl, ap, sym, subst, ◌∙◌, ◌⊎◌, inl, inr, arith}
use Rattle.std.specs.Prelude.{slice_get, Result, Ok, Err}
use Rattle.std.specs.Option.{IfSome, IfNone}
use Rattle.std.specs.Result.{OnOk, OnErr}
use Rattle.std.proofs.Math.ListN.{set, length-set}
use Rattle.std.proofs.lemmas.Bool.{false≢true}
use Rattle.std.proofs.lemmas.Option.{none-some, same_Some, slice_get_within}
use Rattle.proof_semantics.specs.Clauses.{lit_eq}
use Rattle.proof_semantics.specs.declared.literals.Lit.{Lit}
use Rattle.proof_semantics.proofs.LiteralLaws.{lit_eq-true, lit_eq-same}
use Rattle.clause_arena.specs.Lending.{IsRefOf, lent, StaysLent}
use Rattle.clause_arena.specs.declared.Ref.{Ref}
use Rattle.packed_literals.specs.Lists.{IsIn, IsWithout, list_for}
use Rattle.packed_literals.specs.declared.lists.Lists.{Lists}
use Rattle.packed_literals.proofs.ListLaws.{get_in_append, get_last, get_push, get_set, get_set_other, in_push, in_more, place_either, length_last}
use Rattle.cdcl_trail.specs.Guards.{IsPairOf, IsSingle}
use Rattle.cdcl_trail.specs.Storing.{Stores, IsCovered, AreCovered, KeepsLists, AreListed, IsOther, has_more_singles}
use Rattle.cdcl_trail.specs.declared.pairs.Pair.{Pair}
use Rattle.cdcl_trail.proofs.TrailLaws.{either}

-- the same under other names
pub stores_same : (a b : List Lit) (p q : List Ref) (r t : List (Option Pair)) (m n : List ℕ) → b ≡ a → q ≡ p → t ≡ r → n ≡ m
    → Stores a p r m → Stores b q t n
stores_same a b p q r t m n e f g h s =
    subst (λ x. Stores x q t n) (sym e) (subst (λ x. Stores a x t n) (sym f) (subst (λ x. Stores a p x n) (sym g) (subst (λ x. Stores a p r x) (sym h) s)))

-- What is covered.

covered_more : (fixed : Lit → Bool) (lists more : Lists) (n : ℕ) (a b : Lit) → KeepsLists lists more → IsCovered fixed lists n a b → IsCovered fixed more n a b
covered_more fixed lists more n a b keeps (inl e) = inl (keeps a n e)
covered_more fixed lists more n a b keeps (inr e) = inr e

pub covered_lists : (fixed : Lit → Bool) (pairs later : List (Option Pair)) (lists more : Lists) → KeepsLists lists more → later ≡ pairs → AreCovered fixed lists pairs → AreCovered fixed more later
covered_lists fixed pairs later lists more keeps is all n pair e =
    let here = all n pair (ap (λ xs. slice_get xs n) (sym is) ∙ e) in
    (covered_more fixed lists more n pair.first pair.second keeps here.0, covered_more fixed lists more n pair.second pair.first keeps here.1)

covered_grown : (f g : Lit → Bool) (lists : Lists) (n : ℕ) (a b : Lit) → ((c : Lit) → f c ≡ true → g c ≡ true) → IsCovered f lists n a b → IsCovered g lists n a b
covered_grown f g lists n a b each (inl e) = inl e
covered_grown f g lists n a b each (inr e) = inr (each b e)

-- more literals are fixed
pub covered_grow : (f g : Lit → Bool) (lists : Lists) (pairs : List (Option Pair)) → ((c : Lit) → f c ≡ true → g c ≡ true) → AreCovered f lists pairs → AreCovered g lists pairs
covered_grow f g lists pairs each all n pair e =
    let here = all n pair e in
    (covered_grown f g lists n pair.first pair.second each here.0, covered_grown f g lists n pair.second pair.first each here.1)

-- A clause more.

map_push : (f : Ref → List Lit) (xs : List Ref) (x : Ref) → map f (xs ++ x ∷ []) ≡ map f xs ++ f x ∷ []
map_push f [] x = refl
map_push f (y ∷ xs) x = ap (λ zs. f y ∷ zs) (map_push f xs x)

map_along : (f g : Ref → List Lit) (xs : List Ref) → ((n : ℕ) (x : Ref) → slice_get xs n ≡ Some x → f x ≡ g x) → map f xs ≡ map g xs
map_along f g [] each = refl
map_along f g (x ∷ xs) each =
    ap (λ y. y ∷ map f xs) (each 0 x refl) ∙ ap (λ ys. g x ∷ ys) (map_along f g xs (λ n y e. each (suc n) y e))

-- the clauses with one more
pub held_push : (arena later : List Lit) (places : List Ref) (place : Ref) (clause : List Lit)
    → ((n : ℕ) (r : Ref) → slice_get places n ≡ Some r → IsRefOf arena r) → StaysLent arena later → lent later place ≡ clause
    → map (lent later) (places ++ place ∷ []) ≡ map (lent arena) places ++ clause ∷ []
held_push arena later places place clause refs stays is =
    map_push (lent later) places place
    ∙ ap (λ xs. xs ++ lent later place ∷ []) (map_along (lent later) (lent arena) places (λ n r e. (stays r (refs n r e)).1))
    ∙ ap (λ c. map (lent arena) places ++ c ∷ []) is

length_map : {A B : Type 0} (f : A → B) (xs : List A) → length (map f xs) ≡ length xs
length_map f [] = refl
length_map f (x ∷ xs) = ap suc (length_map f xs)

-- what is known of a clause by whether it is watched
pub record Fits (clause : List Lit) (found : Option Pair) : Type 0 where
  pub some : (pair : Pair) → found ≡ Some pair → IsPairOf clause pair
  pub none : found ≡ None → IsSingle clause

singles_more : (singles : List ℕ) (n : ℕ) (found : Option Pair) (m : ℕ) → IsIn singles m → IsIn (has_more_singles singles n found) m
singles_more singles n None m e = in_more singles (n ∷ []) m e
singles_more singles n (Some pair) m e = e

singles_last : (singles : List ℕ) (n : ℕ) (found : Option Pair) → None ≡ found → IsIn (has_more_singles singles n found) n
singles_last singles n None e = in_push singles n
singles_last singles n (Some pair) e = absurd (none-some pair e)

listed_at : (lists : Lists) (n : ℕ) (found : Option Pair) (pair : Pair) → AreListed lists n found → Some pair ≡ found
    → IsIn (list_for lists pair.first) n × IsIn (list_for lists pair.second) n
listed_at lists n None pair all e = absurd (none-some pair (sym e))
listed_at lists n (Some p) pair all e = subst (λ (x : Pair). IsIn (list_for lists x.first) n × IsIn (list_for lists x.second) n) (same_Some p pair (sym e)) all

past : {A : Type 0} (xs : List A) (x : A) → slice_get xs (length xs) ≡ Some x → ⊥
past xs x e = let within : length xs < length xs = slice_get_within xs (length xs) x e in omega (arith, within)

-- of a clause by its place, where one more came
clause_cases : (clauses : List (List Lit)) (pairs : List (Option Pair)) (clause c : List Lit) (found o : Option Pair) (n : ℕ) → length pairs ≡ length clauses
    → slice_get (pairs ++ found ∷ []) n ≡ Some o → slice_get (clauses ++ clause ∷ []) n ≡ Some c
    → ((slice_get pairs n ≡ Some o) × (slice_get clauses n ≡ Some c)) ⊎ ((o ≡ found) × (c ≡ clause))
clause_cases clauses pairs clause c found o n beside e f =
    elim (get_push pairs found n o e) [
      | inl before ↦ elim (get_push clauses clause n c f) [
        | inl there ↦ inl (before, there)
        | inr last ↦
            absurd (past pairs o (subst (λ k. slice_get pairs k ≡ Some o) (last.0 ∙ sym beside) before))
      ]
      | inr at_last ↦ elim (get_push clauses clause n c f) [
        | inl there ↦ absurd (past clauses c (subst (λ k. slice_get clauses k ≡ Some c) (at_last.0 ∙ beside) there))
        | inr last ↦ inr (at_last.1, last.1)
      ]
    ]

ref_last : (arena later : List Lit) (places : List Ref) (place : Ref) → ((n : ℕ) (r : Ref) → slice_get places n ≡ Some r → IsRefOf arena r)
    → StaysLent arena later → IsRefOf later place → (n : ℕ) (r : Ref) → slice_get (places ++ place ∷ []) n ≡ Some r → IsRefOf later r
ref_last arena later places place refs stays is_ref n r e =
    elim (get_push places place n r e) [
      | inl before ↦ (stays r (refs n r before)).0
      | inr last ↦ subst (λ x. IsRefOf later x) (sym last.1) is_ref
    ]

unpaired_push : (pairs : List (Option Pair)) (singles : List ℕ) (number : ℕ) (found : Option Pair) (j n : ℕ) → number ≡ length pairs
    → ((j n : ℕ) → slice_get singles j ≡ Some n → slice_get pairs n ≡ Some None) → slice_get (has_more_singles singles number found) j ≡ Some n
    → slice_get (pairs ++ found ∷ []) n ≡ Some None
unpaired_push pairs singles number None j n last each e =
    elim (get_push singles number j n e) [
      | inl before ↦ get_in_append pairs (None ∷ []) n None (each j n before)
      | inr at_last ↦ ap (slice_get (pairs ++ None ∷ [])) (at_last.1 ∙ last) ∙ get_last pairs None
    ]
unpaired_push pairs singles number (Some pair) j n last each e = get_in_append pairs (Some pair ∷ []) n None (each j n e)

pub stores_push : (arena later : List Lit) (places : List Ref) (place : Ref) (pairs : List (Option Pair)) (found : Option Pair) (singles : List ℕ) (clause : List Lit)
    → Stores arena places pairs singles → StaysLent arena later → IsRefOf later place → lent later place ≡ clause → Fits clause found
    → Stores later (places ++ place ∷ []) (pairs ++ found ∷ []) (has_more_singles singles (length places) found)
stores_push arena later places place pairs found singles clause s stays is_ref is fits =
    let clauses = map (lent arena) places in
    let grown : map (lent later) (places ++ place ∷ []) ≡ clauses ++ clause ∷ [] = held_push arena later places place clause s.refs stays is in
    let long : length pairs ≡ length clauses = s.beside ∙ sym (length_map (lent arena) places) in
    record {
      beside = length_last pairs found ∙ ap suc s.beside ∙ sym (length_last places place);
      refs = ref_last arena later places place s.refs stays is_ref;
      paired = λ n pair c e f.
          elim (clause_cases clauses pairs clause c found (Some pair) n long e (subst (λ xs. slice_get xs n ≡ Some c) grown f)) [
            | inl before ↦ s.paired n pair c before.0 before.1
            | inr last ↦ subst (λ x. IsPairOf x pair) (sym last.1) (fits.some pair (sym last.0))
          ];
      single = λ n c e f.
          elim (clause_cases clauses pairs clause c found None n long e (subst (λ xs. slice_get xs n ≡ Some c) grown f)) [
            | inl before ↦ s.single n c before.0 before.1
            | inr last ↦ subst (λ x. IsSingle x) (sym last.1) (fits.none (sym last.0))
          ];
      listed = λ n e. elim (get_push pairs found n None e) [
        | inl before ↦ singles_more singles (length places) found n (s.listed n before)
        | inr last ↦ subst (λ k. IsIn (has_more_singles singles (length places) found) k) (sym (last.0 ∙ s.beside)) (singles_last singles (length places) found last.1)
      ];
      unpaired = λ j n e. unpaired_push pairs singles (length places) found j n (sym s.beside) s.unpaired e;
    }

pub covered_push : (fixed : Lit → Bool) (pairs : List (Option Pair)) (found : Option Pair) (lists more : Lists) (number : ℕ) → number ≡ length pairs → KeepsLists lists more
    → AreListed more number found → AreCovered fixed lists pairs → AreCovered fixed more (pairs ++ found ∷ [])
covered_push fixed pairs found lists more number at keeps listed all n pair e =
    elim (get_push pairs found n (Some pair) e) [
      | inl before ↦ covered_lists fixed pairs pairs lists more keeps refl all n pair before
      | inr last ↦
          let here = subst (λ k. IsIn (list_for more pair.first) k × IsIn (list_for more pair.second) k) (at ∙ sym last.0) (listed_at more number found pair listed last.1) in
          (inl here.0, inl here.1)
    ]

-- A clause watched elsewhere.

pub add_keeps : {T E : Type 0} (r : Result T E) (lists more : Lists) (a : Lit) (n : ℕ) → OnOk r (list_for more a ≡ list_for lists a ++ n ∷ []) → OnErr r (list_for more a ≡ list_for lists a)
    → ((b : Lit) → lit_eq b a ≡ false → list_for more b ≡ list_for lists b) → KeepsLists lists more
add_keeps (Ok x) lists more a n ok err others b m e =
    elim (either (lit_eq b a)) [
      | inl same ↦
          let is : b ≡ a = lit_eq-true b a same in
          subst (λ (c : Lit). IsIn (list_for more c) m) (sym is)
          (subst (λ xs. IsIn xs m) (sym ok) (in_more (list_for lists a) (n ∷ []) m (subst (λ (c : Lit). IsIn (list_for lists c) m) is e)))
      | inr apart ↦ subst (λ xs. IsIn xs m) (sym (others b apart)) e
    ]
add_keeps (Err x) lists more a n ok err others b m e =
    elim (either (lit_eq b a)) [
      | inl same ↦
          let is : b ≡ a = lit_eq-true b a same in
          subst (λ (c : Lit). IsIn (list_for more c) m) (sym is)
          (subst (λ xs. IsIn xs m) (sym err) (subst (λ (c : Lit). IsIn (list_for lists c) m) is e))
      | inr apart ↦ subst (λ xs. IsIn xs m) (sym (others b apart)) e
    ]

pub keeps_then : (a b c : Lists) → KeepsLists a b → KeepsLists b c → KeepsLists a c
keeps_then a b c first second l n e = second l n (first l n e)

-- what stays in a list, where another clause is taken from it
stays_without : (more final : Lists) (l a : Lit) (place number n : ℕ) → slice_get (list_for more l) place ≡ Some number → (number ≡ n → ⊥)
    → IsWithout (list_for more l) place (list_for final l) → ((b : Lit) → lit_eq b l ≡ false → list_for final b ≡ list_for more b)
    → IsIn (list_for more a) n → IsIn (list_for final a) n
stays_without more final l a place number n entry differs without others e =
    elim (either (lit_eq a l)) [
      | inl same ↦
          let is : a ≡ l = lit_eq-true a l same in
          elim (without.kept n (subst (λ (c : Lit). IsIn (list_for more c) n) is e)) [
            | inl here ↦ absurd (differs (same_Some number n (sym entry ∙ here)))
            | inr left ↦ subst (λ (c : Lit). IsIn (list_for final c) n) (sym is) left
          ]
      | inr apart ↦ subst (λ xs. IsIn xs n) (sym (others a apart)) e
    ]

pub lit_apart : (a b : Lit) → lit_eq a b ≡ false → lit_eq b a ≡ false
lit_apart a b e =
    elim (either (lit_eq b a)) [
      | inl same ↦ absurd (false≢true (sym e ∙ ap (lit_eq a) (lit_eq-true b a same) ∙ lit_eq-same a))
      | inr apart ↦ apart
    ]

other_covered : (fixed : Lit → Bool) (lists : Lists) (n : ℕ) (before : Pair) (l b : Lit) → IsOther before l b → fixed l ≡ false
    → IsCovered fixed lists n before.first before.second × IsCovered fixed lists n before.second before.first → IsIn (list_for lists b) n
other_covered fixed lists n before l b (inl e) unfixed both =
    elim both.1 [
      | inl here ↦ subst (λ (c : Lit). IsIn (list_for lists c) n) e.1 here
      | inr other ↦ absurd (false≢true (sym unfixed ∙ ap fixed (sym e.0) ∙ other))
    ]
other_covered fixed lists n before l b (inr e) unfixed both =
    elim both.0 [
      | inl here ↦ subst (λ (c : Lit). IsIn (list_for lists c) n) e.1 here
      | inr other ↦ absurd (false≢true (sym unfixed ∙ ap fixed (sym e.0) ∙ other))
    ]

-- what a move does
pub record Moves (lists more final : Lists) (l a : Lit) (place number : ℕ) : Type 0 where
  pub entry : slice_get (list_for lists l) place ≡ Some number
  pub keeps : KeepsLists lists more
  pub added : list_for more a ≡ list_for lists a ++ number ∷ []
  pub alone : (b : Lit) → lit_eq b a ≡ false → list_for more b ≡ list_for lists b
  pub without : IsWithout (list_for more l) place (list_for final l)
  pub others : (b : Lit) → lit_eq b l ≡ false → list_for final b ≡ list_for more b

moved_here : (fixed : Lit → Bool) (lists more final : Lists) (l : Lit) (place number : ℕ) (pair before : Pair) → Moves lists more final l pair.first place number
    → IsOther before l pair.second → lit_eq pair.first l ≡ false → lit_eq pair.second l ≡ false → fixed l ≡ false
    → IsCovered fixed lists number before.first before.second × IsCovered fixed lists number before.second before.first
    → IsCovered fixed final number pair.first pair.second × IsCovered fixed final number pair.second pair.first
moved_here fixed lists more final l place number pair before m other apart apart_too unfixed both = (
  inl (subst (λ xs. IsIn xs number) (sym (m.others pair.first apart ∙ m.added)) (in_push (list_for lists pair.first) number)),
  inl
      (subst (λ xs. IsIn xs number) (sym (m.others pair.second apart_too))
      (m.keeps pair.second number (other_covered fixed lists number before l pair.second other unfixed both))),
)

-- an entry for another clause stays where one is taken from a list
covered_without : (fixed : Lit → Bool) (more final : Lists) (l a b : Lit) (place number n : ℕ) → slice_get (list_for more l) place ≡ Some number → (number ≡ n → ⊥)
    → IsWithout (list_for more l) place (list_for final l) → ((b : Lit) → lit_eq b l ≡ false → list_for final b ≡ list_for more b)
    → IsCovered fixed more n a b → IsCovered fixed final n a b
covered_without fixed more final l a b place number n entry differs without others (inl e) = inl (stays_without more final l a place number n entry differs without others e)
covered_without fixed more final l a b place number n entry differs without others (inr e) = inr e

moved_there : (fixed : Lit → Bool) (lists more final : Lists) (l : Lit) (place number n : ℕ) (pair p : Pair) → Moves lists more final l pair.first place number
    → lit_eq pair.first l ≡ false → (number ≡ n → ⊥) → IsCovered fixed lists n p.first p.second × IsCovered fixed lists n p.second p.first
    → IsCovered fixed final n p.first p.second × IsCovered fixed final n p.second p.first
moved_there fixed lists more final l place number n pair p m apart differs both =
    let entry : slice_get (list_for more l) place ≡ Some number =
    ap (λ xs. slice_get xs place) (m.alone l (lit_apart pair.first l apart)) ∙ m.entry in (
      covered_without fixed more final l p.first p.second place number n entry differs m.without m.others (covered_more fixed lists more n p.first p.second m.keeps both.0),
      covered_without fixed more final l p.second p.first place number n entry differs m.without m.others (covered_more fixed lists more n p.second p.first m.keeps both.1),
    )

pub stores_moved : (arena : List Lit) (places : List Ref) (pairs : List (Option Pair)) (singles : List ℕ) (number : ℕ) (pair before : Pair)
    → Stores arena places pairs singles → ((clause : List Lit) → slice_get (map (lent arena) places) number ≡ Some clause → IsPairOf clause pair)
    → slice_get pairs number ≡ Some (Some before) → Stores arena places (set pairs number (Some pair)) singles
stores_moved arena places pairs singles number pair before s of was =
    let now : slice_get (set pairs number (Some pair)) number ≡ Some (Some pair) = get_set pairs number (Some pair) (Some before) was in
    record {
      beside = length-set pairs number (Some pair) ∙ s.beside;
      refs = s.refs;
      paired = λ n p c e f. elim (place_either number n) [
        | inl same ↦
            let is : pair ≡ p = same_Some pair p (same_Some (Some pair) (Some p) (sym now ∙ ap (slice_get (set pairs number (Some pair))) same ∙ e)) in
            subst (λ x. IsPairOf c x) is (of c (ap (slice_get (map (lent arena) places)) same ∙ f))
        | inr differs ↦ s.paired n p c (sym (get_set_other pairs number n (Some pair) differs) ∙ e) f
      ];
      single = λ n c e f. elim (place_either number n) [
        | inl same ↦ absurd (none-some pair (same_Some None (Some pair) (sym (sym now ∙ ap (slice_get (set pairs number (Some pair))) same ∙ e))))
        | inr differs ↦ s.single n c (sym (get_set_other pairs number n (Some pair) differs) ∙ e) f
      ];
      listed = λ n e. elim (place_either number n) [
        | inl same ↦ absurd (none-some pair (same_Some None (Some pair) (sym (sym now ∙ ap (slice_get (set pairs number (Some pair))) same ∙ e))))
        | inr differs ↦ s.listed n (sym (get_set_other pairs number n (Some pair) differs) ∙ e)
      ];
      unpaired = λ j n e. elim (place_either number n) [
        | inl same ↦ absurd (none-some before (same_Some None (Some before) (sym (s.unpaired j n e) ∙ ap (slice_get pairs) (sym same) ∙ was)))
        | inr differs ↦ get_set_other pairs number n (Some pair) differs ∙ s.unpaired j n e
      ];
    }

pub covered_moved : (fixed : Lit → Bool) (pairs : List (Option Pair)) (lists more final : Lists) (l : Lit) (place number : ℕ) (pair before : Pair)
    → Moves lists more final l pair.first place number → slice_get pairs number ≡ Some (Some before) → IsOther before l pair.second
    → lit_eq pair.first l ≡ false → lit_eq pair.second l ≡ false → fixed l ≡ false → AreCovered fixed lists pairs
    → AreCovered fixed final (set pairs number (Some pair))
covered_moved fixed pairs lists more final l place number pair before m was other apart apart_too unfixed all n p e =
    elim (place_either number n) [
      | inl same ↦
          let now : slice_get (set pairs number (Some pair)) number ≡ Some (Some pair) = get_set pairs number (Some pair) (Some before) was in
          let is : pair ≡ p = same_Some pair p (same_Some (Some pair) (Some p) (sym now ∙ ap (slice_get (set pairs number (Some pair))) same ∙ e)) in
          subst (λ (x : Pair). IsCovered fixed final n x.first x.second × IsCovered fixed final n x.second x.first) is
          (subst (λ k. IsCovered fixed final k pair.first pair.second × IsCovered fixed final k pair.second pair.first) same
          (moved_here fixed lists more final l place number pair before m other apart apart_too unfixed (all number before was)))
      | inr differs ↦
          moved_there fixed lists more final l place number n pair p m apart differs (all n p (sym (get_set_other pairs number n (Some pair) differs) ∙ e))
    ]

-- An entry that goes.

-- another literal's entries stay
covered_apart : (fixed : Lit → Bool) (lists final : Lists) (l a b : Lit) (n : ℕ) → lit_eq a l ≡ false → ((b : Lit) → lit_eq b l ≡ false → list_for final b ≡ list_for lists b)
    → IsCovered fixed lists n a b → IsCovered fixed final n a b
covered_apart fixed lists final l a b n apart others (inl e) = inl (subst (λ xs. IsIn xs n) (sym (others a apart)) e)
covered_apart fixed lists final l a b n apart others (inr e) = inr e

covered_beside : (fixed : Lit → Bool) (lists final : Lists) (l b : Lit) (n : ℕ) (pair : Pair) → IsOther pair l b → fixed b ≡ true → lit_eq b l ≡ false
    → ((b : Lit) → lit_eq b l ≡ false → list_for final b ≡ list_for lists b)
    → IsCovered fixed lists n pair.first pair.second × IsCovered fixed lists n pair.second pair.first
    → IsCovered fixed final n pair.first pair.second × IsCovered fixed final n pair.second pair.first
covered_beside fixed lists final l b n pair (inl e) holds apart others both = (
  inr (ap fixed e.1 ∙ holds),
  covered_apart fixed lists final l pair.second pair.first n (ap (λ (x : Lit). lit_eq x l) e.1 ∙ apart) others both.1,
)
covered_beside fixed lists final l b n pair (inr e) holds apart others both = (
  covered_apart fixed lists final l pair.first pair.second n (ap (λ (x : Lit). lit_eq x l) e.1 ∙ apart) others both.0,
  inr (ap fixed e.1 ∙ holds),
)

pub covered_unlisted : (fixed : Lit → Bool) (pairs : List (Option Pair)) (lists final : Lists) (l b : Lit) (place number : ℕ) (pair : Pair)
    → slice_get (list_for lists l) place ≡ Some number → slice_get pairs number ≡ Some (Some pair) → IsOther pair l b → fixed b ≡ true → lit_eq b l ≡ false
    → IsWithout (list_for lists l) place (list_for final l) → ((b : Lit) → lit_eq b l ≡ false → list_for final b ≡ list_for lists b)
    → AreCovered fixed lists pairs → AreCovered fixed final pairs
covered_unlisted fixed pairs lists final l b place number pair entry was other holds apart without others all n p e =
    elim (place_either number n) [
      | inl same ↦
          let is : pair ≡ p = same_Some pair p (same_Some (Some pair) (Some p) (sym was ∙ ap (slice_get pairs) same ∙ e)) in
          subst (λ (x : Pair). IsCovered fixed final n x.first x.second × IsCovered fixed final n x.second x.first) is
          (subst (λ k. IsCovered fixed final k pair.first pair.second × IsCovered fixed final k pair.second pair.first) same
          (covered_beside fixed lists final l b number pair other holds apart others (all number pair was)))
      | inr differs ↦
          let both = all n p e in (
            covered_without fixed lists final l p.first p.second place number n entry differs without others both.0,
            covered_without fixed lists final l p.second p.first place number n entry differs without others both.1,
          )
    ]

-- the two lists of a pair have the clause
pub add_ok : {T E : Type 0} (r : Result T E) (lists between more : Lists) (pair : Pair) (n : ℕ) → list_for between pair.first ≡ list_for lists pair.first ++ n ∷ []
    → OnOk r (list_for more pair.second ≡ list_for between pair.second ++ n ∷ []) → OnErr r (list_for more pair.second ≡ list_for between pair.second)
    → ((b : Lit) → lit_eq b pair.second ≡ false → list_for more b ≡ list_for between b)
    → OnOk r (IsIn (list_for more pair.first) n × IsIn (list_for more pair.second) n)
add_ok {T = T} {E = E} (Ok x) lists between more pair n first ok err others = (
  add_keeps {T = T} {E = E} (Ok x) between more pair.second n ok err others pair.first n (subst (λ xs. IsIn xs n) (sym first) (in_push (list_for lists pair.first) n)),
  subst (λ xs. IsIn xs n) (sym ok) (in_push (list_for between pair.second) n),
)
add_ok (Err x) lists between more pair n first ok err others = ok

-- an entry of another literal's list stays
pub entry_stays : (lists more : Lists) (l a : Lit) (place number : ℕ) → lit_eq a l ≡ false → ((b : Lit) → lit_eq b a ≡ false → list_for more b ≡ list_for lists b)
    → slice_get (list_for lists l) place ≡ Some number → slice_get (list_for more l) place ≡ Some number
entry_stays lists more l a place number apart others e = ap (λ xs. slice_get xs place) (others l (lit_apart a l apart)) ∙ e

pub fits_from : (clause : List Lit) (found : Option Pair) → IfSome found (IsPairOf clause) → IfNone found (IsSingle clause) → Fits clause found
fits_from clause None some none = record { some = λ pair e. absurd (none-some pair e); none = λ e. none }
fits_from clause (Some p) some none = record { some = λ pair e. subst (IsPairOf clause) (same_Some p pair e) some; none = λ e. absurd (none-some p (sym e)) }

pub keeps_from : (a b more : Lists) → b ≡ a → KeepsLists b more → KeepsLists a more
keeps_from a b more e keeps = subst (λ x. KeepsLists x more) e keeps
