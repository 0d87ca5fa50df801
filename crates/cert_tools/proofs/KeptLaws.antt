-- What is kept of a list, and what steps reach.
use Rattle.std.proofs.Common.{◌≡◌, ◌⊎◌, ℕ, suc, List, [], ◌∷◌, ◌++◌, length, refl, sym, ap, subst, inl, inr}
use Rattle.std.specs.List.{AllZip}
use Rattle.cert_tools.specs.Kept.{Keeps, LeadsThrough, Reaches}

-- ---- elements of a list

-- x is one of the elements
abbrev pub In : {X : Type 0} → X → List X → Type 0
In x [] = ⊥
In x (y ∷ ys) = (x ≡ y) ⊎ In x ys

pub in_right : {X : Type 0} (x : X) (xs ys : List X) → In x ys → In x (xs ++ ys)
in_right x [] ys h = h
in_right x (y ∷ xs) ys h = inr (in_right x xs ys h)

-- what is kept of a list is kept for P, and stands in the list
pub kept_has : {X : Type 0} (P : X → Type 0) (xs kept : List X) (x : X) → Keeps P xs kept → In x xs → P x → In x kept
kept_has P [] kept x keeps at h = absurd at
kept_has P (y ∷ xs) kept x (inl (p, (rest, is, keeps))) (inl same) h = subst (In x) (sym is) (inl same)
kept_has P (y ∷ xs) kept x (inr (none, keeps)) (inl same) h = absurd (none (subst P same h))
kept_has P (y ∷ xs) kept x (inl (p, (rest, is, keeps))) (inr at) h = subst (In x) (sym is) (inr (kept_has P xs rest x keeps at h))
kept_has P (y ∷ xs) kept x (inr (none, keeps)) (inr at) h = kept_has P xs kept x keeps at h

pub kept_is : {X : Type 0} (P : X → Type 0) (xs kept : List X) (x : X) → Keeps P xs kept → In x kept → P x
kept_is P [] kept x none at = absurd (subst (In x) none at)
kept_is P (y ∷ xs) kept x (inl (p, (rest, is, keeps))) at = elim (subst (In x) is at) [
  | inl same ↦ subst P (sym same) p
  | inr more ↦ kept_is P xs rest x keeps more
]
kept_is P (y ∷ xs) kept x (inr (none, keeps)) at = kept_is P xs kept x keeps at

pub kept_in : {X : Type 0} (P : X → Type 0) (xs kept : List X) (x : X) → Keeps P xs kept → In x kept → In x xs
kept_in P [] kept x none at = absurd (subst (In x) none at)
kept_in P (y ∷ xs) kept x (inl (p, (rest, is, keeps))) at = elim (subst (In x) is at) [
  | inl same ↦ inl same
  | inr more ↦ inr (kept_in P xs rest x keeps more)
]
kept_in P (y ∷ xs) kept x (inr (none, keeps)) at = inr (kept_in P xs kept x keeps at)

-- each element is kept where each is so
pub keeps_all : {X : Type 0} (P : X → Type 0) (xs : List X) → ((x : X) → In x xs → P x) → Keeps P xs xs
keeps_all P [] h = refl
keeps_all P (x ∷ xs) h = inl (h x (inl refl), (xs, refl, keeps_all P xs (λ y at. h y (inr at))))

-- lists whose elements go together have one length
pub zip_length : {A B : Type 0} (R : A → B → Type 0) (xs : List A) (ys : List B) → AllZip R xs ys → length xs ≡ length ys
zip_length R [] [] zip = refl
zip_length R [] (y ∷ ys) zip = absurd zip
zip_length R (x ∷ xs) [] zip = absurd zip
zip_length R (x ∷ xs) (y ∷ ys) (first, zip) = ap suc (zip_length R xs ys zip)

-- ---- steps

pub reaches_more : (Step : ℕ → ℕ → Type 0) (v w x : ℕ) → Reaches Step v w → Step w x → Reaches Step v x
reaches_more Step v w x ([], same) step = (x ∷ [], (subst (λ n. Step n x) (sym same) step, refl))
reaches_more Step v w x (u ∷ through, (first, others)) step =
    let more = reaches_more Step u w x (through, others) step in (u ∷ more.0, (first, more.1))

-- steps between numbers that are so lead on where the same steps are others
pub leads_so : (Step Other : ℕ → ℕ → Type 0) (f : ℕ → ℕ) (R : ℕ → Type 0) → ((v w : ℕ) → R v → Step v w → R w × Other (f v) (f w))
    → (v : ℕ) (through : List ℕ) (w : ℕ) → R v → LeadsThrough Step v through w → R w × Reaches Other (f v) (f w)
leads_so Step Other f R each v [] w r same = (subst R same r, ([], ap f same))
leads_so Step Other f R each v (u ∷ through) w r (first, others) =
    let one = each v u r first in
    let more = leads_so Step Other f R each u through w one.0 others in
    (more.0, (f u ∷ more.1.0, (one.1, more.1.1)))
