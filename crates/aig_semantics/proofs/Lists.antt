-- Lists whose elements differ, the value that stands beside a variable, and the first element that passes a test.
use Rattle.std.proofs.Common.{◌≡◌, ◌≢◌, ℕ, zero, suc, ◌+◌, ◌<◌, ◌==◌, Bool, true, false, List, [], ◌∷◌, ◌++◌, map, length, get_or, Some, None, refl, sym, ap, ◌∙◌, subst, inl, inr, arith, length-append}
use Rattle.std.specs.List.{All, AllPairs, Contains, find}
use Rattle.std.proofs.lemmas.Bool.{eqb-true, eq-eqb, ne_eqb, cases_Bool}
use Rattle.std.proofs.lemmas.List.{get_or_append_left, get_or-append-add, get_or-map, length-map}
use Rattle.std.proofs.lemmas.List.Elements.{All-head, All-tail}
use Rattle.std.proofs.lemmas.Option.{same_Some, none-some}
use Rattle.aig_semantics.specs.Valuations.{value_beside}

-- ---- lists whose elements differ

abbrev pub AllDiffer : List ℕ → Type 0
AllDiffer vs = AllPairs (λ v w. v ≢ w) vs

pub AllDiffer-tail : (v : ℕ) (vs : List ℕ) → AllDiffer (v ∷ vs) → AllDiffer vs
AllDiffer-tail v vs h = λ i j d lt below. h (suc i) (suc j) d (omega arith) (omega arith)

pub AllDiffer-left : (vs us : List ℕ) → AllDiffer (vs ++ us) → AllDiffer vs
AllDiffer-left vs us h =
    λ i j d lt below e.
    let first : i < length vs = omega arith in
    h i j d lt (omega (arith, length-append vs us))
    (get_or_append_left vs us d i first ∙ e ∙ sym (get_or_append_left vs us d j below))

pub AllDiffer-right : (vs us : List ℕ) → AllDiffer (vs ++ us) → AllDiffer us
AllDiffer-right vs us h =
    λ i j d lt below e.
    h (length vs + i) (length vs + j) d (omega arith) (omega (arith, length-append vs us))
    (get_or-append-add vs us i d ∙ e ∙ sym (get_or-append-add vs us j d))

-- an element of the first list is none of the second
pub AllDiffer-across : (vs us : List ℕ) → AllDiffer (vs ++ us) → (v : ℕ) → Contains vs v → Contains us v → ⊥
AllDiffer-across vs us h v (i, first, at) (j, second, there) =
    h i (length vs + j) v (omega arith) (omega (arith, length-append vs us))
    (get_or_append_left vs us v i first ∙ at ∙ sym (get_or-append-add vs us j v ∙ there))

-- ---- the parts of a list

pub All-left : {X : Type 0} (P : X → Type 0) (xs ys : List X) → All P (xs ++ ys) → All P xs
All-left P xs ys h = λ k d below. subst P (get_or_append_left xs ys d k below) (h k d (omega (arith, length-append xs ys)))

pub All-right : {X : Type 0} (P : X → Type 0) (xs ys : List X) → All P (xs ++ ys) → All P ys
All-right P xs ys h = λ k d below. subst P (get_or-append-add xs ys k d) (h (length xs + k) d (omega (arith, length-append xs ys)))

-- ---- the value beside a variable

-- where each variable has the value f beside it, the value that is found is f's
pub value_beside-some : (f : ℕ → Bool) (vs : List ℕ) (v : ℕ) (b : Bool) → value_beside vs (map f vs) v ≡ Some b → f v ≡ b
unfolding value_beside
value_beside-some f [] v b e = absurd (none-some b e)
value_beside-some f (u ∷ us) v b e =
    elim (cases_Bool (u == v)) [
      | inl t ↦ ap f (sym (eqb-true u v t)) ∙ same_Some (f u) b (rw t at e)
      | inr t ↦ value_beside-some f us v b (rw t at e)
    ]

-- no value is found beside a variable that is not there
pub value_beside-none : (vs : List ℕ) (values : List Bool) (v : ℕ) → (Contains vs v → ⊥) → value_beside vs values v ≡ None
unfolding value_beside
value_beside-none [] values v h = refl
value_beside-none (u ∷ us) [] v h = refl
value_beside-none (u ∷ us) (b ∷ values) v h =
    rw (ne_eqb u v (λ e. h (0, omega arith, e)))
    (value_beside-none us values v (λ c. h (suc c.0, (let l : c.0 < length us = c.1 in omega arith), c.2)))

-- a value is found beside a variable that is there
pub value_beside-there : (vs : List ℕ) (values : List Bool) (v : ℕ) → length vs ≡ length values → value_beside vs values v ≡ None → Contains vs v → ⊥
unfolding value_beside
value_beside-there [] values v l e (k, below, at) = omega arith
value_beside-there (u ∷ us) [] v l e c = omega arith
value_beside-there (u ∷ us) (b ∷ values) v l e (zero, below, at) = none-some b (sym (rw (eq-eqb u v at) at e))
value_beside-there (u ∷ us) (b ∷ values) v l e (suc k, below, at) =
    elim (cases_Bool (u == v)) [
      | inl t ↦ none-some b (sym (rw t at e))
      | inr t ↦ value_beside-there us values v (omega arith) (rw t at e) (k, omega arith, at)
    ]

-- the value beside the k-th variable is the k-th
pub value_beside-at : (vs : List ℕ) (values : List Bool) (k : ℕ) → AllDiffer vs → length vs ≡ length values → k < length vs → value_beside vs values (get_or vs k 0) ≡ Some (get_or values k false)
unfolding value_beside
value_beside-at [] values k h l below = absurd (omega arith)
value_beside-at (u ∷ us) [] k h l below = absurd (omega arith)
value_beside-at (u ∷ us) (b ∷ values) zero h l below = rw (eq-eqb u u refl)
value_beside-at (u ∷ us) (b ∷ values) (suc k) h l below =
    rw (ne_eqb u (get_or us k 0) (h 0 (suc k) 0 (omega arith) (omega arith)))
    (value_beside-at us values k (AllDiffer-tail u us h) (omega arith) (omega arith))

-- ---- the first element that passes a test

pub find-some : {X : Type 0} (P : X → Type 0) (p : X → Bool) (xs : List X) (x : X) → All P xs → find p xs ≡ Some x → P x × (p x ≡ true)
find-some P p [] x h e = absurd (none-some x e)
find-some P p (y ∷ xs) x h e =
    elim (cases_Bool (p y)) [
      | inl t ↦
          let same = same_Some y x (rw t at e) in
          (subst P same (All-head P y xs h), subst (λ z. p z ≡ true) same t)
      | inr t ↦ find-some P p xs x (All-tail P y xs h) (rw t at e)
    ]

pub find-none : {X : Type 0} (p : X → Bool) (xs : List X) → find p xs ≡ None → (k : ℕ) (d : X) → k < length xs → p (get_or xs k d) ≡ false
find-none p [] e k d below = absurd (omega arith)
find-none p (y ∷ xs) e zero d below =
    elim (cases_Bool (p y)) [
      | inl t ↦ absurd (none-some y (sym (rw t at e)))
      | inr t ↦ t
    ]
find-none p (y ∷ xs) e (suc k) d below =
    elim (cases_Bool (p y)) [
      | inl t ↦ absurd (none-some y (sym (rw t at e)))
      | inr t ↦ find-none p xs (rw t at e) k d (omega arith)
    ]

-- where the keys differ, the k-th element is the first that has its key
pub find-at : {X : Type 0} (key : X → ℕ) (xs : List X) (k : ℕ) (d : X) → AllDiffer (map key xs) → k < length xs → find (λ x. key x == key (get_or xs k d)) xs ≡ Some (get_or xs k d)
find-at key [] k d h below = absurd (omega arith)
find-at key (y ∷ xs) zero d h below = rw (eq-eqb (key y) (key y) refl)
find-at key (y ∷ xs) (suc k) d h below =
    let inside : k < length xs = omega arith in
    let apart : key y ≢ key (get_or xs k d) =
    λ e. h 0 (suc k) 0 (omega arith) (simp length-map (omega arith)) (e ∙ sym (get_or-map key xs k d 0 inside))
    in
    rw (ne_eqb (key y) (key (get_or xs k d)) apart)
    (find-at key xs k d (AllDiffer-tail (key y) (map key xs) h) inside)
