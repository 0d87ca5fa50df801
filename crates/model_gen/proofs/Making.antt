-- Lists that are made value by value, and the draws that follow others.
use Rattle.std.proofs.Common.{◌≡◌, ℕ, zero, suc, ◌+◌, ◌*◌, ◌/◌, ◌^◌, ◌<◌, List, [], ◌∷◌, ◌++◌, length, refl, sym, ap, ◌∙◌, subst, arith}
use Rattle.std.specs.List.{All}
use Rattle.std.proofs.lemmas.List.FromFn.{map-range_with_len_more, get_or-map-range_with_len, length-map-range_with_len}
use Rattle.model_gen.specs.Draws.{next_state, state_after, draw}
use Rattle.model_gen.specs.Generated.{made, gate_drawn, scrambled_gate, latch_drawn, scrambled_latch, literal_drawn}

pub made_push : {A : Type 0} (f : ℕ → A) (n : ℕ) (xs ys : List A) (x : A) → ys ≡ xs ++ x ∷ [] → xs ≡ made f n → x ≡ f n → ys ≡ made f (n + 1)
made_push f n xs ys x pushed so_far is =
    pushed ∙ ap (λ s. s ++ x ∷ []) so_far ∙ ap (λ y. made f n ++ y ∷ []) is ∙ sym (map-range_with_len_more f 0 n n (omega arith))

pub all_made : {A : Type 0} (P : A → Type 0) (f : ℕ → A) (n : ℕ) → ((i : ℕ) → i < n → P (f i)) → All P (made f n)
all_made P f n each = λ k d below.
    let inside : k < n = let e = length-map-range_with_len f 0 n in omega (arith, e, below) in
    subst P (sym (get_or-map-range_with_len f 0 n k k d inside (omega arith))) (each k inside)

pub made_length : {A : Type 0} (f : ℕ → A) (n : ℕ) → length (made f n) ≡ n
made_length f n = length-map-range_with_len f 0 n

pub state_later : (s a k j : ℕ) → a + k ≡ j → state_after (state_after s a) k ≡ state_after s j
unfolding state_after
state_later s a zero j e = ap (state_after s) (let f : a ≡ j = omega (arith, e) in f)
state_later s a (suc k) j e =
    ap next_state (state_later s a k (a + k) refl) ∙ ap (state_after s) (let f : suc (a + k) ≡ j = omega (arith, e) in f)

pub draw_later : (s a k j : ℕ) → a + k ≡ j → draw (state_after s a) k ≡ draw s j
unfolding draw
draw_later s a k j e = ap (λ x. x / 2 ^ 33) (state_later s a (suc k) (suc j) (omega (arith, e)))

pub gate_step : (s n k st : ℕ) → st ≡ state_after s (2 * k) → gate_drawn (n + 3 + k) (draw st 0) (draw st 1) ≡ scrambled_gate s n k
gate_step s n k st e =
    ap (λ t. gate_drawn (n + 3 + k) (draw t 0) (draw t 1)) e
    ∙ ap (λ d. gate_drawn (n + 3 + k) d (draw (state_after s (2 * k)) 1)) (draw_later s (2 * k) 0 (2 * k) (omega arith))
    ∙ ap (λ d. gate_drawn (n + 3 + k) (draw s (2 * k)) d) (draw_later s (2 * k) 1 (2 * k + 1) refl)

pub latch_step : (s n i st : ℕ) → st ≡ state_after s (2 * i) → latch_drawn n (i + 3) (draw st 0) (draw st 1) ≡ scrambled_latch s n i
latch_step s n i st e =
    ap (λ t. latch_drawn n (i + 3) (draw t 0) (draw t 1)) e
    ∙ ap (λ d. latch_drawn n (i + 3) d (draw (state_after s (2 * i)) 1)) (draw_later s (2 * i) 0 (2 * i) (omega arith))
    ∙ ap (λ d. latch_drawn n (i + 3) (draw s (2 * i)) d) (draw_later s (2 * i) 1 (2 * i + 1) refl)

pub literal_step : (s n k st : ℕ) → st ≡ state_after s k → literal_drawn n (draw st 0) ≡ literal_drawn n (draw s k)
literal_step s n k st e = ap (λ t. literal_drawn n (draw t 0)) e ∙ ap (literal_drawn n) (draw_later s k 0 k (omega arith))

pub two_later : (s k st new : ℕ) → new ≡ state_after st 2 → st ≡ state_after s (2 * k) → new ≡ state_after s (2 * (k + 1))
two_later s k st new is e = is ∙ ap (λ t. state_after t 2) e ∙ state_later s (2 * k) 2 (2 * (k + 1)) (omega arith)

pub one_later : (s k st new : ℕ) → new ≡ state_after st 1 → st ≡ state_after s k → new ≡ state_after s (k + 1)
one_later s k st new is e = is ∙ ap (λ t. state_after t 1) e ∙ state_later s k 1 (k + 1) refl

pub none_later : (s : ℕ) → s ≡ state_after s 0
unfolding state_after
none_later s = refl
