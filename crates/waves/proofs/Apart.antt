-- No two signals share a name or an identifier.
use Rattle.std.proofs.Common.{◌≡◌, ◌≢◌, ℕ, zero, suc, ◌+◌, ◌-◌, ◌*◌, ◌<◌, ◌≤◌, ◌||◌, Bool, true, false, List, [], ◌∷◌, ◌++◌, length, fold, get_or, refl, sym, ap, ◌∙◌, arith, length-append, if◌then◌else◌}
use Rattle.std.specs.Prelude.{nat_lt}
use Rattle.std.specs.List.{AllPairs}
use Rattle.std.specs.Str.{bytes_eq}
use Rattle.std.proofs.lemmas.Bool.{false≢true, ltb-true, ltb-false}
use Rattle.std.proofs.Math.Seq.{get_or-append_seam}
use Rattle.std.proofs.lemmas.List.{get_or_append_left}
use Rattle.std.proofs.lemmas.List.Quantifiers.{all_pairs_push}
use Rattle.std.proofs.lemmas.Slice.Eq.{bytes_eq-Decides}
use Rattle.waves.specs.declared.buses.Variable.{Variable}
use Rattle.waves.specs.declared.signals.Signal.{Signal}
use Rattle.waves.specs.Names.{has_name, set_apart, enough, next_identifier, identifier}
use Rattle.waves.specs.Buses.{variables_of}
use Rattle.waves.specs.Signals.{label_of, next_signal, with_signal}
use Rattle.waves.specs.Laws.{NamesAreApart, IdentifiersAreApart}
use Rattle.waves.proofs.NameLaws.{total, longer_free, dotted_longer}

-- ---- names

-- what is set apart is free
apart_free : (most : ℕ) (signals : List Signal) (label name : List ℕ) → total signals < length name + most
    → has_name signals (set_apart most signals label name) ≡ false
unfolding set_apart
apart_free zero signals label name long = longer_free signals name (omega (arith, long))
apart_free (suc most) signals label name long =
    by (has_name signals name) refl (apart_free most signals label (name ++ 46 ∷ label) (omega (arith, long, dotted_longer label name)))
  where
    by : (b : Bool) → has_name signals name ≡ b → has_name signals (set_apart most signals label (name ++ 46 ∷ label)) ≡ false
        → has_name signals (if b then set_apart most signals label (name ++ 46 ∷ label) else name) ≡ false
    by true e later = later
    by false e later = e

-- a free name is none of the names
free_apart : (signals : List Signal) (name : List ℕ) (k : ℕ) (d : Signal) → has_name signals name ≡ false → k < length signals → (get_or signals k d).name ≡ name → ⊥
free_apart [] name k d free inside same = absurd (omega (arith, inside))
free_apart (s ∷ signals) name zero d free inside same =
    false≢true (sym free ∙ ap (λ b. b || has_name signals name) ((bytes_eq-Decides s.name name).1 same))
free_apart (s ∷ signals) name (suc k) d free inside same = free_apart signals name k d (behind (bytes_eq s.name name) free) (omega (arith, inside)) same
  where
    behind : (b : Bool) → (b || has_name signals name) ≡ false → has_name signals name ≡ false
    behind true e = absurd (false≢true (sym e))
    behind false e = e

abbrev NamesApart : List Signal → Type 0
NamesApart signals = AllPairs (λ (a b : Signal). a.name ≢ b.name) signals

names_on : (signals : List Signal) (v : Variable) → NamesApart signals → NamesApart (with_signal signals v)
names_on signals v h =
    let s = next_signal signals v in
    all_pairs_push (λ (a b : Signal). a.name ≢ b.name) signals s h
    (λ k d inside. free_apart signals s.name k d
    (apart_free (enough signals) signals (label_of v.wires) v.name (omega arith)) inside)

names_all : (variables : List Variable) (signals : List Signal) → NamesApart signals → NamesApart (fold with_signal signals variables)
names_all [] signals h = h
names_all (v ∷ variables) signals h = names_all variables (with_signal signals v) (names_on signals v h)

no_pairs : {X : Type 0} (R : X → X → Type 0) → AllPairs R []
no_pairs R i j d less inside = absurd (omega (arith, inside))

pub names_are_apart : NamesAreApart
names_are_apart m j = names_all (variables_of m j) [] (no_pairs (λ (a b : Signal). a.name ≢ b.name))

-- ---- identifiers

-- the number of an identifier, from 1 on
value : List ℕ → ℕ
value [] = 0
value (b ∷ code) = (b - 32) + 94 * value code

-- each character is from 33 to 126
unfoldable pub InRange : List ℕ → Type 0
InRange [] = Unit {0}
InRange (b ∷ code) = (33 ≤ b) × (b ≤ 126) × InRange code

next_in_range : (code : List ℕ) → InRange code → InRange (next_identifier code)
unfolding InRange
next_in_range [] h = (omega arith, omega arith, tt)
next_in_range (b ∷ code) h = by (nat_lt b 126) refl (next_in_range code h.2)
  where
    by : (t : Bool) → nat_lt b 126 ≡ t → InRange (next_identifier code) → InRange (if t then (b + 1) ∷ code else 33 ∷ next_identifier code)
    by true e later = (omega (arith, h.0), omega (arith, ltb-true b 126 e), h.2)
    by false e later = (omega arith, omega arith, later)

next_value : (code : List ℕ) → InRange code → value (next_identifier code) ≡ value code + 1
unfolding InRange value
next_value [] h = refl
next_value (b ∷ code) h = by (nat_lt b 126) refl (next_value code h.2)
  where
    by : (t : Bool) → nat_lt b 126 ≡ t → value (next_identifier code) ≡ value code + 1
        → value (if t then (b + 1) ∷ code else 33 ∷ next_identifier code) ≡ value (b ∷ code) + 1
    by true e later = omega (arith, h.0)
    by false e later = omega (arith, h.0, h.1, later, ltb-false b 126 e)

pub in_range : (n : ℕ) → InRange (identifier n)
unfolding InRange identifier
in_range zero = (omega arith, omega arith, tt)
in_range (suc n) = next_in_range (identifier n) (in_range n)

value_of : (n : ℕ) → value (identifier n) ≡ n + 1
unfolding value identifier
value_of zero = refl
value_of (suc n) = next_value (identifier n) (in_range n) ∙ (let e = value_of n in omega (arith, e))

one_number : (m n : ℕ) → identifier m ≡ identifier n → m ≡ n
one_number m n e = omega (arith, value_of m, value_of n, ap value e)

-- each signal has the identifier of its place
abbrev AreNumbered : List Signal → Type 0
AreNumbered signals = (k : ℕ) (d : Signal) → k < length signals → (get_or signals k d).code ≡ identifier k

numbered_on : (signals : List Signal) (s : Signal) → s.code ≡ identifier (length signals) → AreNumbered signals → AreNumbered (signals ++ s ∷ [])
numbered_on signals s e h k d inside = by (nat_lt k (length signals)) refl
  where
    by : (t : Bool) → nat_lt k (length signals) ≡ t → (get_or (signals ++ s ∷ []) k d).code ≡ identifier k
    by true less =
        let below : k < length signals = ltb-true k (length signals) less in
        ap (λ (x : Signal). x.code) (get_or_append_left signals (s ∷ []) d k below) ∙ h k d below
    by false more =
        let same : k ≡ length signals = omega (arith, ltb-false k (length signals) more, inside, length-append signals (s ∷ [])) in
        ap (λ n. (get_or (signals ++ s ∷ []) n d).code) same ∙ ap (λ (x : Signal). x.code) (get_or-append_seam signals s [] d) ∙ e ∙ ap identifier (sym same)

pub numbered_all : (variables : List Variable) (signals : List Signal) → AreNumbered signals → AreNumbered (fold with_signal signals variables)
numbered_all [] signals h = h
numbered_all (v ∷ variables) signals h = numbered_all variables (with_signal signals v) (numbered_on signals (next_signal signals v) refl h)

pub identifiers_are_apart : IdentifiersAreApart
identifiers_are_apart m j a b d less inside same =
    let numbered = numbered_all (variables_of m j) [] (λ k e within. absurd (omega (arith, within))) in
    let e : a ≡ b = one_number a b (sym (numbered a d (omega (arith, less, inside))) ∙ same ∙ numbered b d inside) in
    omega (arith, e, less)
