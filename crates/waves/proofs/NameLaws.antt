-- Names that are set apart.
use Rattle.std.proofs.Common.{◌≡◌, ℕ, zero, suc, ◌+◌, ◌<◌, ◌≤◌, ◌||◌, Bool, true, false, List, [], ◌∷◌, ◌++◌, length, fold, take, get_or, refl, sym, ap, ◌∙◌, arith, length-append, if◌then◌else◌}
use Rattle.std.specs.List.{flat_map}
use Rattle.std.specs.Str.{bytes_eq}
use Rattle.std.proofs.lemmas.Bool.{false≢true}
use Rattle.std.proofs.lemmas.List.{take_more}
use Rattle.std.proofs.lemmas.List.Sums.{fold-append}
use Rattle.std.proofs.lemmas.Slice.Eq.{bytes_eq-Decides}
use Rattle.waves.specs.declared.signals.Signal.{Signal}
use Rattle.waves.specs.Names.{has_name, set_apart, enough}

-- how many bytes the names have together
abbrev pub total : List Signal → ℕ
total signals = length (flat_map (λ s. s.name) signals)

-- a name that a signal has is no longer than all names together
pub no_longer : (signals : List Signal) (name : List ℕ) → has_name signals name ≡ true → length name ≤ total signals
no_longer [] name h = absurd (false≢true h)
no_longer (s ∷ signals) name h =
    by (bytes_eq s.name name) refl h (no_longer signals name)
  where
    by : (b : Bool) → bytes_eq s.name name ≡ b → (b || has_name signals name) ≡ true → (has_name signals name ≡ true → length name ≤ total signals)
        → length name ≤ total (s ∷ signals)
    by true e g later = omega (arith, ap length ((bytes_eq-Decides s.name name).0 e), length-append s.name (flat_map (λ s. s.name) signals))
    by false e g later = omega (arith, later g, length-append s.name (flat_map (λ s. s.name) signals))

-- a name that is longer than that is free
pub longer_free : (signals : List Signal) (name : List ℕ) → total signals < length name → has_name signals name ≡ false
longer_free signals name long = by (has_name signals name) refl
  where
    by : (b : Bool) → has_name signals name ≡ b → has_name signals name ≡ false
    by true e = absurd (omega (arith, long, no_longer signals name e))
    by false e = e

abbrev dotted : List ℕ → List ℕ → List ℕ
dotted label name = name ++ 46 ∷ label

pub dotted_longer : (label name : List ℕ) → length name < length (name ++ 46 ∷ label)
dotted_longer label name = omega (arith, length-append name (46 ∷ label))

-- once more makes no difference where it was often enough
pub once_more : (most : ℕ) (signals : List Signal) (label name : List ℕ) → total signals < length name + most
    → set_apart (suc most) signals label name ≡ set_apart most signals label name
unfolding set_apart
once_more zero signals label name long =
    ap (λ b. if b then name ++ 46 ∷ label else name) (longer_free signals name (omega (arith, long)))
once_more (suc most) signals label name long =
    ap (λ (x : List ℕ). if has_name signals name then x else name)
    (once_more most signals label (name ++ 46 ∷ label) (omega (arith, long, dotted_longer label name)))

-- a name that is taken gets a dot and the label
pub apart_on : (signals : List Signal) (label name : List ℕ) → has_name signals name ≡ true
    → set_apart (enough signals) signals label (name ++ 46 ∷ label) ≡ set_apart (enough signals) signals label name
unfolding set_apart
apart_on signals label name h =
    once_more (total signals) signals label (name ++ 46 ∷ label) (omega (arith, dotted_longer label name))
    ∙ sym (ap (λ b. if b then set_apart (total signals) signals label (name ++ 46 ∷ label) else name) h)

-- another stays
pub apart_end : (signals : List Signal) (label name : List ℕ) → has_name signals name ≡ false → set_apart (enough signals) signals label name ≡ name
unfolding set_apart
apart_end signals label name h = ap (λ b. if b then set_apart (total signals) signals label (name ++ 46 ∷ label) else name) h

-- a fold goes on by one element
pub fold_more : {A B : Type 0} (h : B → A → B) (n : B) (xs : List A) (i : ℕ) (d : A) → i < length xs
    → fold h n (take (i + 1) xs) ≡ h (fold h n (take i xs)) (get_or xs i d)
fold_more h n xs i d inside = ap (fold h n) (take_more xs i d inside) ∙ fold-append h n (take i xs) (get_or xs i d ∷ [])
