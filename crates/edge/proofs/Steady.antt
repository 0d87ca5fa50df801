-- A shelf in memory of which no call is to fail: no read of a text that is there fails.
use Rattle.std.proofs.Common.{ℕ, zero, suc, ◌≡◌, List, [], true, Some, refl, ◌∙◌, ap, inl, inr, arith, ◌∷◌}
use Rattle.std.specs.Prelude.{Contains, IsNone, Option}
use Rattle.edge.specs.Faults.{one_more}
use Rattle.edge.specs.InMemory.{ShelfInMemory, NamedText, text_of, ReadsOnce}
use Rattle.edge.specs.Reads.{ReadsOf, GoodReads, Reads}

-- the reads of a shelf in memory, whose places nothing tells
abbrev pub ReadsInMemory : ReadsOf ShelfInMemory
ReadsInMemory old name from room failed new = ReadsOnce old name failed new

texts_stay : (name : List ℕ) (n : ℕ) (old new : ShelfInMemory) → GoodReads ReadsInMemory name n old new → new.texts ≡ old.texts
texts_stay name zero old new same = ap (λ (s : ShelfInMemory). s.texts) same
texts_stay name (suc n) old new (mid, before, (from, room, step)) =
    ap (λ (s : ShelfInMemory). s.texts) step.0 ∙ texts_stay name n old mid before

failing_stay : (name : List ℕ) (n : ℕ) (old new : ShelfInMemory) → GoodReads ReadsInMemory name n old new → new.failing ≡ old.failing
failing_stay name zero old new same = ap (λ (s : ShelfInMemory). s.failing) same
failing_stay name (suc n) old new (mid, before, (from, room, step)) =
    ap (λ (s : ShelfInMemory). s.failing) step.0 ∙ failing_stay name n old mid before

none_there : (x : ℕ) (xs : List ℕ) → xs ≡ [] → Contains xs x → ⊥
none_there x [] none h = absurd (omega (arith, h.1))
none_there x (y ∷ xs) none h = absurd (cc none)

is_there : (told : Option (List ℕ)) (text : List ℕ) → told ≡ Some text → IsNone told → ⊥
is_there told text some none = cc

pub no_read_fails : (name text : List ℕ) (old new : ShelfInMemory) → old.failing ≡ [] → text_of old.texts name ≡ Some text → Reads ReadsInMemory name true old new → ⊥
no_read_fails name text old new steady told (n, last, before, (from, room, step)) =
    let texts : last.texts ≡ old.texts = texts_stay name n old last before in
    elim (step.1 refl) [
      | inl failing ↦ none_there (one_more last.calls) last.failing (failing_stay name n old last before ∙ steady) failing
      | inr none ↦ is_there (text_of last.texts name) text (ap (λ (t : List NamedText). text_of t name) texts ∙ told) none
    ]
