-- The lemmas of a frame, level by level.
use Rattle.std.proofs.Common.{◌≡◌, ℕ, zero, suc, ◌+◌, ◌<◌, ◌≤◌, List, [], ◌∷◌, ◌++◌, length, take, get_or, inl, inr, refl, sym, ap, ap₂, ◌∙◌, append_assoc, arith}
use Rattle.std.proofs.lemmas.Bool.{cases_lt}
use Rattle.std.proofs.lemmas.List.{take_more, take_all}
use Rattle.proof_semantics.specs.declared.literals.Lit.{Lit}
use Rattle.ic3_frames.specs.Frames.{own_lemmas, frame_at}
use Rattle.ic3_frames.proofs.Putting.{frame-own}

-- one lemma more of a level
pub next_own : (old clauses new own : List (List Lit)) (place next : ℕ) (lemma : List Lit) → place < length own → next ≡ place + 1
    → lemma ≡ get_or own place [] → clauses ≡ old ++ take place own → new ≡ clauses ++ lemma ∷ [] → new ≡ old ++ take next own
next_own old clauses new own place next lemma below is lemma_is so_far pushed =
    pushed
    ∙ ap₂ (λ cs x. cs ++ x ∷ []) so_far lemma_is
    ∙ append_assoc old (take place own) (get_or own place [] ∷ [])
    ∙ ap (λ rest. old ++ rest) (sym (take_more own place [] below))
    ∙ ap (λ n. old ++ take n own) (sym is)

pub whole_own : (old clauses own : List (List Lit)) (place : ℕ) → (place < length own → ⊥) → clauses ≡ old ++ take place own → clauses ≡ old ++ own
whole_own old clauses own place past so_far = so_far ∙ ap (λ rest. old ++ rest) (take_all place own (not_below place (length own) past))
  where
    not_below : (i n : ℕ) → (i < n → ⊥) → n ≤ i
    not_below i n h =
        elim (cases_lt i n) [
          | inl below ↦ absurd (h below)
          | inr past ↦ past
        ]

pub frame_past : (levels : List (List (List Lit))) (k : ℕ) → length levels ≤ k → frame_at levels k ≡ []
frame_past [] zero past = refl
frame_past [] (suc k) past = refl
frame_past (own ∷ levels) zero past = absurd (omega arith)
frame_past (own ∷ levels) (suc k) past = frame_past levels k (omega arith)

pub next_level : (levels : List (List (List Lit))) (front new whole : List (List Lit)) (k : ℕ) → k < length levels
    → new ≡ front ++ own_lemmas levels k → front ++ frame_at levels k ≡ whole → new ++ frame_at levels (k + 1) ≡ whole
next_level levels front new whole k below is so_far =
    ap (λ cs. cs ++ frame_at levels (k + 1)) is
    ∙ append_assoc front (own_lemmas levels k) (frame_at levels (k + 1))
    ∙ ap (λ rest. front ++ rest) (sym (frame-own levels k below))
    ∙ so_far

append_none : (xs : List (List Lit)) → xs ++ [] ≡ xs
append_none [] = refl
append_none (x ∷ xs) = ap (λ rest. x ∷ rest) (append_none xs)

pub all_levels : (levels : List (List (List Lit))) (front whole : List (List Lit)) (k : ℕ) → length levels ≤ k
    → front ++ frame_at levels k ≡ whole → front ≡ whole
all_levels levels front whole k past so_far =
    sym (append_none front) ∙ ap (λ rest. front ++ rest) (sym (frame_past levels k past)) ∙ so_far
