-- Values beside the elements of a list, and those beside the elements that a filter keeps.
use Rattle.std.proofs.Common.{◌≡◌, ℕ, zero, suc, Bool, true, false, cond, List, [], ◌∷◌, map, length, refl, ap, ◌∙◌, inl, inr, arith}
use Rattle.std.specs.List.{AllZip, Contains, filter}
use Rattle.std.proofs.lemmas.Bool.{cases_Bool}

abbrev pub next_of : List Bool → Bool
next_of [] = false
next_of (v ∷ vs) = v

abbrev pub rest_of : List Bool → List Bool
rest_of [] = []
rest_of (v ∷ vs) = vs

ends_meet : (vs : List Bool) (n : ℕ) → length vs ≡ suc n → (next_of vs ∷ rest_of vs ≡ vs) × (length (rest_of vs) ≡ n)
ends_meet [] n l = absurd (omega (arith, l))
ends_meet (v ∷ vs) n l = (refl, omega (arith, l))

-- what a filter keeps of names is what is named of the elements that pass
pub map-filter : {X : Type 0} (name : X → ℕ) (set : ℕ → Bool) (xs : List X) → map name (filter (λ x. set (name x)) xs) ≡ filter set (map name xs)
map-filter name set [] = refl
map-filter name set (x ∷ xs) = elim (cases_Bool (set (name x))) [
  | inl t ↦ rw t (ap (λ vs. name x ∷ vs) (map-filter name set xs))
  | inr f ↦ rw f (map-filter name set xs)
]

pub contains-filter : (set : ℕ → Bool) (vs : List ℕ) (v : ℕ) → set v ≡ true → Contains vs v → Contains (filter set vs) v
contains-filter set [] v t (k, below, at) = absurd (omega (arith, below))
contains-filter set (u ∷ vs) v t (zero, below, at) = rw (ap set at ∙ t) (0, omega arith, at)
contains-filter set (u ∷ vs) v t (suc k, below, at) =
    let rest = contains-filter set vs v t (k, omega (arith, below), at) in
    elim (cases_Bool (set u)) [
      | inl e ↦ rw e (suc rest.0, (let a = rest.1 in omega (arith, a)), rest.2)
      | inr e ↦ rw e rest
    ]

module _ {X : Type 0} (test : X → Bool) where
  -- of values beside these elements those beside the elements that are kept
  abbrev pub pick : List X → List Bool → List Bool
  pick [] vs = []
  pick (x ∷ xs) vs = cond (test x) (next_of vs ∷ pick xs (rest_of vs)) (pick xs (rest_of vs))

  pub length-pick : (xs : List X) (vs : List Bool) → length (pick xs vs) ≡ length (filter test xs)
  length-pick [] vs = refl
  length-pick (x ∷ xs) vs = elim (cases_Bool (test x)) [
    | inl t ↦ rw t (ap suc (length-pick xs (rest_of vs)))
    | inr f ↦ rw f (length-pick xs (rest_of vs))
  ]

  pub pick-map : (f : X → Bool) (xs : List X) → pick xs (map f xs) ≡ map f (filter test xs)
  pick-map f [] = refl
  pick-map f (x ∷ xs) = elim (cases_Bool (test x)) [
    | inl t ↦ rw t (ap (λ vs. f x ∷ vs) (pick-map f xs))
    | inr e ↦ rw e (pick-map f xs)
  ]

  pub pick-zip : (R : X → Bool → Type 0) (xs : List X) (vs : List Bool) → AllZip R xs vs → AllZip R (filter test xs) (pick xs vs)
  pick-zip R [] [] h = tt
  pick-zip R [] (v ∷ vs) h = absurd h
  pick-zip R (x ∷ xs) [] h = absurd h
  pick-zip R (x ∷ xs) (v ∷ vs) h = elim (cases_Bool (test x)) [
    | inl t ↦ rw t (h.0, pick-zip R xs vs h.1)
    | inr f ↦ rw f (pick-zip R xs vs h.1)
  ]

  module _ (other : X → Bool) where
    -- values beside all elements: these beside those that are kept, others beside the rest
    abbrev pub spread : List X → List Bool → List Bool
    spread [] vs = []
    spread (x ∷ xs) vs = cond (test x) (next_of vs ∷ spread xs (rest_of vs)) (other x ∷ spread xs vs)

    pub length-spread : (xs : List X) (vs : List Bool) → length (spread xs vs) ≡ length xs
    length-spread [] vs = refl
    length-spread (x ∷ xs) vs = elim (cases_Bool (test x)) [
      | inl t ↦ rw t (ap suc (length-spread xs (rest_of vs)))
      | inr f ↦ rw f (ap suc (length-spread xs vs))
    ]

    pub pick-spread : (xs : List X) (vs : List Bool) → length vs ≡ length (filter test xs) → pick xs (spread xs vs) ≡ vs
    pick-spread [] [] l = refl
    pick-spread [] (v ∷ vs) l = absurd (omega (arith, l))
    pick-spread (x ∷ xs) vs l = elim (cases_Bool (test x)) [
      | inl t ↦
          let whole = ends_meet vs (length (filter test xs)) (rw t at l) in
          rw t (ap (λ ys. next_of vs ∷ ys) (pick-spread xs (rest_of vs) whole.1) ∙ whole.0)
      | inr f ↦ rw f (pick-spread xs vs (rw f at l))
    ]

    spread-zip-kept : (R : X → Bool → Type 0) (x : X) (xs : List X) (vs : List Bool) → ((us : List Bool) → AllZip R (filter test xs) us → AllZip R xs (spread xs us))
        → AllZip R (x ∷ filter test xs) vs → AllZip R (x ∷ xs) (next_of vs ∷ spread xs (rest_of vs))
    spread-zip-kept R x xs [] more h = absurd h
    spread-zip-kept R x xs (v ∷ vs) more h = (h.0, more vs h.1)

    pub spread-zip : (R : X → Bool → Type 0) → ((x : X) → R x (other x)) → (xs : List X) (vs : List Bool) → AllZip R (filter test xs) vs → AllZip R xs (spread xs vs)
    spread-zip R each [] vs h = tt
    spread-zip R each (x ∷ xs) vs h = elim (cases_Bool (test x)) [
      | inl t ↦ rw t (spread-zip-kept R x xs vs (λ us g. spread-zip R each xs us g) (rw t at h))
      | inr f ↦ rw f (each x, spread-zip R each xs vs (rw f at h))
    ]
