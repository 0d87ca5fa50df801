-- The entries of a view at their places, and the sides of a state entry by entry.
use Rattle.std.proofs.Common.{◌≡◌, ℕ, zero, suc, ◌+◌, ◌<◌, Bool, false, List, [], ◌∷◌, ◌++◌, length, get_or, set, take, refl, sym, ap, ◌∙◌, inl, inr, arith, length-take}
use Rattle.std.specs.declared.sync.Arc.{Arc}
use Rattle.std.proofs.lemmas.Bool.{cases_eq}
use Rattle.std.proofs.lemmas.List.{length-map, take-map, take_more, take_more_set, get_or-map}
use Rattle.fair_semantics.specs.Entries.{Entry, numbered, entry_at, set_over, sets_of, set_at}
use Rattle.fair_semantics.specs.Validity.{set_behind}
use Rattle.fair_semantics.proofs.Sets.{nothing, sets_of-at, sets_of-entry, sets_after-append, with_set-other, set_over-agree}
use Rattle.entry.specs.CheckedEntries.{CheckedEntry, entry_in, viewed}

-- ---- entries of a view

pub viewed-at : {Z : Type 0} (view : List (Arc CheckedEntry Z)) (k : ℕ) (a : Arc CheckedEntry Z)
    → k < length view → a ≡ get_or view k a → entry_at (viewed view) k ≡ entry_in a
viewed-at view k a below at = get_or-map entry_in view k a nothing below ∙ ap entry_in (sym at)

-- ---- sides, entry by entry

get_or-last : (xs : List Bool) (b : Bool) → get_or (xs ++ b ∷ []) (length xs) false ≡ b
get_or-last [] b = refl
get_or-last (x ∷ xs) b = get_or-last xs b

get_or-other : (xs : List Bool) (b : Bool) (n : ℕ) → (n ≡ length xs → ⊥) → get_or (xs ++ b ∷ []) n false ≡ get_or xs n false
get_or-other [] b zero apart = absurd (apart refl)
get_or-other [] b (suc n) apart = refl
get_or-other (x ∷ xs) b zero apart = refl
get_or-other (x ∷ xs) b (suc n) apart = get_or-other xs b n (λ same. apart (ap suc same))

-- with one more entry its side stands behind those of the entries before it
grown : (before : List Entry) (sides : List Bool) (e : Entry) (state : List Bool) → length sides ≡ length before
    → ((n : ℕ) → get_or sides n false ≡ set_at before n state)
    → (n : ℕ) → get_or (sides ++ set_over (λ m s. get_or sides m false) e state ∷ []) n false ≡ set_at (before ++ e ∷ []) n state
grown before sides e state same h n =
    let b : Bool = set_over (λ m s. get_or sides m false) e state in
    elim (cases_eq n (length before)) [
      | inl here ↦
          ap (λ k. get_or (sides ++ b ∷ []) k false) (here ∙ sym same) ∙ get_or-last sides b
          ∙ set_over-agree (λ m s. get_or sides m false) (set_at before) e state (λ k d inside signed. h _)
          ∙ sym (sets_of-at before e [] state) ∙ ap (λ k. set_at (before ++ e ∷ []) k state) (sym here)
      | inr apart ↦
          get_or-other sides b n (λ last. apart (last ∙ same)) ∙ h n
          ∙ sym (with_set-other (sets_of (numbered before)) (record { number = length before; entry = e }) n state apart)
          ∙ sym (ap (λ (sets : ℕ → List Bool → Bool). sets n state) (sets_after-append (λ m t. false) 0 (length before) before (e ∷ []) (omega arith)))
    ]

pub sides-next : {Z : Type 0} (view : List (Arc CheckedEntry Z)) (scratch state : List Bool) (i : ℕ) (a : Arc CheckedEntry Z) (inside : Bool)
    → i < length view → i < length scratch → a ≡ get_or view i a
    → inside ≡ set_over (λ n s. get_or (take i scratch) n false) (entry_in a) state
    → ((n : ℕ) → get_or (take i scratch) n false ≡ set_at (take i (viewed view)) n state)
    → (n : ℕ) → get_or (take (i + 1) (set scratch i inside)) n false ≡ set_at (take (i + 1) (viewed view)) n state
sides-next view scratch state i a inside below room at is h n =
    let entries : List Entry = viewed view in
    let within : i < length entries = omega (arith, below, length-map view entry_in) in
    let places : length (take i scratch) ≡ i = simp length-take (omega arith) in
    let before : length (take i entries) ≡ i = simp length-take (omega arith) in
    ap (λ xs. get_or xs n false) (take_more_set scratch i inside room)
    ∙ ap (λ b. get_or (take i scratch ++ b ∷ []) n false) is
    ∙ grown (take i entries) (take i scratch) (entry_in a) state (places ∙ sym before) h n
    ∙ ap (λ e. set_at (take i entries ++ e ∷ []) n state) (sym (viewed-at view i a below at))
    ∙ ap (λ es. set_at es n state) (sym (take_more entries i nothing within))

pub take-viewed : {Z : Type 0} (view : List (Arc CheckedEntry Z)) (i : ℕ) → i ≡ length view → take i (viewed view) ≡ viewed view
take-viewed [] i same = ap (λ k. take k []) same
take-viewed (a ∷ view) i same =
    ap (λ k. take k (viewed (a ∷ view))) same ∙ ap (λ es. entry_in a ∷ es) (take-viewed view (length view) refl)

pub side-is : {Z : Type 0} (view : List (Arc CheckedEntry Z)) (scratch state : List Bool) (k : ℕ) (a : Arc CheckedEntry Z) (inside : Bool)
    → k < length view → a ≡ get_or view k a
    → ((n : ℕ) → get_or (take (length (take k view)) scratch) n false ≡ set_at (viewed (take k view)) n state)
    → inside ≡ set_over (λ n s. get_or (take k scratch) n false) (entry_in a) state
    → inside ≡ set_at (viewed view) k state
side-is view scratch state k a inside below at h is =
    let entries : List Entry = viewed view in
    let within : k < length entries = omega (arith, below, length-map view entry_in) in
    let place : length (take k view) ≡ k = simp length-take (omega arith) in
    let known : (n : ℕ) → get_or (take k scratch) n false ≡ set_at (take k entries) n state =
    λ n. ap (λ m. get_or (take m scratch) n false) (sym place) ∙ h n ∙ ap (λ es. set_at es n state) (sym (take-map entry_in k view))
    in
    is ∙ set_over-agree (λ n s. get_or (take k scratch) n false) (set_at (take k entries)) (entry_in a) state (λ i d there signed. known _)
    ∙ ap (λ e. set_behind (take k entries) e state) (sym (viewed-at view k a below at))
    ∙ sym (sets_of-entry entries k state within)
