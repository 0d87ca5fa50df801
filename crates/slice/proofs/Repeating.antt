-- Steps from state to state come back: of finitely many states with n values, one comes twice.
use Rattle.std.proofs.Common.{◌≡◌, ℕ, zero, suc, ◌+◌, ◌-◌, ◌<◌, Bool, true, false, ◌||◌, List, length, refl, sym, ap, ◌∙◌, inl, inr, arith}
use Rattle.std.proofs.lemmas.Bool.{false≢true, cases_Bool, or_left, or_right}
use Rattle.fair_semantics.proofs.States.{count, count-within, count-less, same, same_is, same_itself}

-- ---- steps

abbrev pub steps : (List Bool → List Bool) → ℕ → List Bool → List Bool
steps step zero s = s
steps step (suc n) s = steps step n (step s)

steps-more : (step : List Bool → List Bool) (n : ℕ) (s : List Bool) → steps step (suc n) s ≡ step (steps step n s)
steps-more step zero s = refl
steps-more step (suc n) s = steps-more step n (step s)

steps-add : (step : List Bool → List Bool) (m n k : ℕ) (s : List Bool) → k ≡ m + n → steps step k s ≡ steps step n (steps step m s)
steps-add step zero n k s e =
    let same : k ≡ n = omega (arith, e) in
    ap (λ i. steps step i s) same
steps-add step (suc m) n zero s e = absurd (omega (arith, e))
steps-add step (suc m) n (suc k) s e = steps-add step m n k (step s) (omega (arith, e))

pub steps-kept : (P : List Bool → Type 0) (step : List Bool → List Bool) → ((s : List Bool) → P s → P (step s)) → (n : ℕ) (s : List Bool) → P s → P (steps step n s)
steps-kept P step kept zero s h = h
steps-kept P step kept (suc n) s h = steps-kept P step kept n (step s) (kept s h)

-- behind some steps a state comes that as many as these and one come back to
pub record ComesBack (step : List Bool → List Bool) (s : List Bool) : Type 0 where
  pub before : ℕ
  pub more : ℕ
  pub back : steps step (suc more) (steps step before s) ≡ steps step before s

module _ (size : ℕ) (step : List Bool → List Bool) (kept : (s : List Bool) → length s ≡ size → length (step s) ≡ size) (start : List Bool) (fits : length start ≡ size) where
  -- the states that pass the test came before step k
  abbrev AllCame : (List Bool → Bool) → ℕ → Type 0
  AllCame test k = (s : List Bool) → test s ≡ true → (i : ℕ) × (i < k) × (steps step i start ≡ s)

  came_more : (test : List Bool → Bool) (k : ℕ) (now : List Bool) → AllCame test k → steps step k start ≡ now → (s : List Bool) (b : Bool) → test s ≡ b
      → (test s || same now s) ≡ true → (i : ℕ) × (i < suc k) × (steps step i start ≡ s)
  came_more test k now all at s true is e =
      let h = all s is in
      (h.0, (let a = h.1 in omega (arith, a)), h.2)
  came_more test k now all at s false is e =
      let here : same now s ≡ true = sym (ap (λ x. x || same now s) is) ∙ e in
      (k, omega arith, at ∙ same_is now s here)

  came_back : (k i : ℕ) → i < k → steps step i start ≡ steps step k start → ComesBack step start
  came_back k i lt e = record {
    before = i;
    more = k - i - 1;
    back = sym (steps-add step i (suc (k - i - 1)) k start (omega (arith, lt))) ∙ sym e;
  }

  search_on : (room k : ℕ) (test : List Bool → Bool) → AllCame test k → count size (λ s. true) < count size test + room → ComesBack step start
  search_on zero k test all most = absurd (let h = count-within size test (λ s. true) (λ s e. refl) in omega (arith, h, most))
  search_on (suc room) k test all most =
      let now : List Bool = steps step k start in
      elim (cases_Bool (test now)) [
        | inl met ↦ let h = all now met in came_back k h.0 h.1 h.2
        | inr new ↦
            let next : List Bool → Bool = λ s. test s || same now s in
            let up : (s : List Bool) → test s ≡ true → next s ≡ true = λ s e. or_left (test s) (same now s) e in
            let here : next now ≡ true = or_right (test now) (same now now) (same_itself now) in
            let fit : length now ≡ size = steps-kept (λ s. length s ≡ size) step kept k start fits in
            let more = count-less size test next up now fit new here in
            search_on room (suc k) next (λ s e. came_more test k now all refl s (test s) refl e) (omega (arith, more, most))
      ]

  pub comes_back : ComesBack step start
  comes_back = search_on (suc (count size (λ s. true))) 0 (λ s. false) (λ s e. absurd (false≢true e)) (omega arith)
