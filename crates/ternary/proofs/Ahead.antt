-- Values that are forgotten ahead, in 64 lanes.
use Rattle.std.proofs.Common.{◌≡◌, ◌≢◌, ℕ, zero, suc, ◌+◌, ◌-◌, ◌<◌, ◌≤◌, ◌==◌, ◌⊎◌, false, List, [], length, get_or, set, take, refl, sym, ap, ◌∙◌, subst, inl, inr, arith}
use Rattle.std.specs.Int.{bit_at}
use Rattle.std.proofs.lemmas.Bool.{cases_eq, eq-eqb, ne_eqb}
use Rattle.std.proofs.lemmas.List.Elements.{All-more}
use Rattle.std.proofs.lemmas.List.{get_or-take, length-take, ext_get_or, length-map, length-set, get_or-map, get_or-set_same, get_or-set_other}
use Rattle.ternary.specs.declared.values.Value3.{Value3}
use Rattle.ternary.specs.declared.values.Value3.TheVariants.{One, X}
use Rattle.ternary.specs.declared.lanes.Lanes.{Lanes}
use Rattle.ternary.specs.Lanes.{lane_of, in_lane}
use Rattle.ternary.specs.Values.{literal3_in}
use Rattle.ternary.specs.Lifting.{AreOne, hide, forgotten, hidden_at, hidden_one}
use Rattle.ternary.proofs.Words.{two_bits}

-- ---- one value

hidden_one-other : (b : ℕ) (value : Value3) → hidden_one b false value ≡ value
hidden_one-other zero value = refl
hidden_one-other (suc b) value = refl

-- the value stays where no latch that is meant has its bit
pub hidden-same : (word n i v : ℕ) (value : Value3) → ((j : ℕ) → j < n → i + j ≡ v → bit_at word j ≡ 0) → hidden_at word n i v value ≡ value
hidden-same word zero i v value h = refl
hidden-same word (suc n) i v value h =
    elim (cases_eq (i + n) v) [
      | inl e ↦
          ap (λ b. hidden_one b ((i + n) == v) (hidden_at word n i v value)) (h n (omega arith) e)
          ∙ hidden-same word n i v value (λ j below. h j (omega arith))
      | inr ne ↦
          ap (λ t. hidden_one (bit_at word n) t (hidden_at word n i v value)) (ne_eqb (i + n) v ne)
          ∙ (hidden_one-other (bit_at word n) (hidden_at word n i v value)
          ∙ hidden-same word n i v value (λ j below. h j (omega arith)))
    ]

pub hidden-x : (word n i v j : ℕ) (value : Value3) → j < n → i + j ≡ v → bit_at word j ≡ 1 → hidden_at word n i v value ≡ X
hidden-x word zero i v j value below e bit = absurd (omega arith)
hidden-x word (suc n) i v j value below e bit =
    elim (cases_eq j n) [
      | inl same ↦
          let here : bit_at word n ≡ 1 = ap (λ m. bit_at word m) (sym same) ∙ bit in
          let meant : (i + n) ≡ v = ap (λ m. i + m) (sym same) ∙ e in
          ap (λ b. hidden_one b ((i + n) == v) (hidden_at word n i v value)) here
          ∙ ap (λ t. hidden_one 1 t (hidden_at word n i v value)) (eq-eqb (i + n) v meant)
      | inr ne ↦
          ap (λ t. hidden_one (bit_at word n) t (hidden_at word n i v value)) (ne_eqb (i + n) v (λ same. ne (apart i j n v e same)))
          ∙ (hidden_one-other (bit_at word n) (hidden_at word n i v value)
          ∙ hidden-x word n i v j value (inside j n below ne) e bit)
    ]
  where
    apart : (i j n v : ℕ) → i + j ≡ v → i + n ≡ v → j ≡ n
    apart i j n v e f = omega arith

    inside : (j n : ℕ) → j < suc n → j ≢ n → j < n
    inside j n below ne = omega arith

pub one-here : (u v : ℕ) (value : Value3) → u ≡ v → hidden_one 1 (u == v) value ≡ X
one-here u v value e = ap (λ t. hidden_one 1 t value) (eq-eqb u v e)

pub one-other : (u v : ℕ) (value : Value3) → u ≢ v → hidden_one 1 (u == v) value ≡ value
one-other u v value ne = ap (λ t. hidden_one 1 t value) (ne_eqb u v ne)

-- ---- lists

pub get_or-hidden_one : (u w : ℕ) (state : List Value3) → w < length state → get_or (set state u X) w X ≡ hidden_one 1 (u == w) (get_or state w X)
get_or-hidden_one u w state below =
    elim (cases_eq u w) [
      | inl e ↦
          ap (λ n. get_or (set state n X) w X) e ∙ (get_or-set_same state w X X below ∙ sym (one-here u w (get_or state w X) e))
      | inr ne ↦
          get_or-set_other state u w X X (λ e. ne (sym e)) ∙ sym (one-other u w (get_or state w X) ne)
    ]

length-hide : (b v : ℕ) (state : List Value3) → length (hide b v state) ≡ length state
length-hide zero v state = refl
length-hide (suc b) v state = length-set state v X

pub length-forgotten : (word n i : ℕ) (state : List Value3) → length (forgotten word n i state) ≡ length state
length-forgotten word zero i state = refl
length-forgotten word (suc n) i state = length-hide (bit_at word n) (i + n) (forgotten word n i state) ∙ length-forgotten word n i state

get_or-hide : (b u w : ℕ) (state : List Value3) → (b ≡ 0) ⊎ (b ≡ 1) → w < length state → get_or (hide b u state) w X ≡ hidden_one b (u == w) (get_or state w X)
get_or-hide b u w state (inl e) below = ap (λ n. get_or (hide n u state) w X) e ∙ sym (ap (λ n. hidden_one n (u == w) (get_or state w X)) e)
get_or-hide b u w state (inr e) below =
    ap (λ n. get_or (hide n u state) w X) e
    ∙ (get_or-hidden_one u w state below ∙ sym (ap (λ n. hidden_one n (u == w) (get_or state w X)) e))

pub get_or-forgotten : (word n i w : ℕ) (state : List Value3) → w < length state → get_or (forgotten word n i state) w X ≡ hidden_at word n i w (get_or state w X)
get_or-forgotten word zero i w state below = refl
get_or-forgotten word (suc n) i w state below =
    get_or-hide (bit_at word n) (i + n) w (forgotten word n i state) (two_bits word n) (omega (arith, length-forgotten word n i state))
    ∙ ap (λ x. hidden_one (bit_at word n) ((i + n) == w) x) (get_or-forgotten word n i w state below)

-- ---- lanes that are put one after the other

abbrev pub HasLanes : (ℕ → ℕ → Value3) → List Lanes → ℕ → Type 0
HasLanes f ahead n = (w : ℕ) → w < n → (d : Lanes) → (k : ℕ) → k < 64 → lane_of (get_or ahead w d) k ≡ f k w

pub put-next : (f : ℕ → ℕ → Value3) (ahead : List Lanes) (v : ℕ) (lanes : Lanes) → v < length ahead → HasLanes f ahead v → ((k : ℕ) → k < 64 → lane_of lanes k ≡ f k v) → HasLanes f (set ahead v lanes) (v + 1)
put-next f ahead v lanes inside h is =
    λ w below d k lt.
    elim (cases_eq w v) [
      | inl e ↦
          ap (λ n. lane_of (get_or (set ahead v lanes) n d) k) e
          ∙ (ap (λ x. lane_of x k) (get_or-set_same ahead v lanes d inside)
          ∙ (is k lt ∙ ap (λ n. f k n) (sym e)))
      | inr ne ↦
          ap (λ x. lane_of x k) (get_or-set_other ahead v w lanes d ne)
          ∙ h w (before w v below ne) d k lt
    ]
  where
    before : (w v : ℕ) → w < v + 1 → w ≢ v → w < v
    before w v below ne = omega arith

pub put-end : (f : ℕ → ℕ → Value3) (ahead : List Lanes) (n k : ℕ) (ys : List Value3) → length ahead ≡ length ys → length ahead ≤ n → HasLanes f ahead n → k < 64 → ((w : ℕ) → w < length ys → f k w ≡ get_or ys w X) → in_lane k ahead ≡ ys
put-end f ahead n k ys long all h lt is =
    ext_get_or X (in_lane k ahead) ys (length-map ahead (λ x. lane_of x k) ∙ long)
    (λ w below.
    let inside : w < length ahead = omega (arith, length-map ahead (λ x. lane_of x k)) in
    get_or-map (λ x. lane_of x k) ahead w (any_lanes) X inside
    ∙ (h w (omega arith) any_lanes k lt ∙ is w (omega arith)))
  where
    any_lanes : Lanes
    any_lanes = record { planes = [] }

-- ---- the value of a latch ahead

pub ahead-before : (word k i v : ℕ) (value : Value3) → v < i → hidden_at word (k + 1) i v value ≡ value
ahead-before word k i v value lt = hidden-same word (k + 1) i v value (λ j below e. absurd (omega arith))

pub ahead-past : (word k i v : ℕ) (value : Value3) → i ≤ v → 64 ≤ v - i → k < 64 → hidden_at word (k + 1) i v value ≡ value
ahead-past word k i v value le far lt = hidden-same word (k + 1) i v value (λ j below e. absurd (omega arith))

difference : (i j v : ℕ) → i + j ≡ v → v - i ≡ j
difference i j v e = omega arith

together : (i v : ℕ) → i ≤ v → i + (v - i) ≡ v
together i v le = omega arith

pub ahead-zero : (word k i v : ℕ) (value : Value3) → bit_at word (v - i) ≡ 0 → hidden_at word (k + 1) i v value ≡ value
ahead-zero word k i v value bit = hidden-same word (k + 1) i v value (λ j below e. ap (λ m. bit_at word m) (sym (difference i j v e)) ∙ bit)

pub ahead-shown : (word k i v : ℕ) (value : Value3) → i ≤ v → k < v - i → hidden_at word (k + 1) i v value ≡ value
ahead-shown word k i v value le lt = hidden-same word (k + 1) i v value (λ j below e. absurd (omega arith))

pub ahead-hidden : (word k i v : ℕ) (value : Value3) → i ≤ v → v - i ≤ k → bit_at word (v - i) ≡ 1 → hidden_at word (k + 1) i v value ≡ X
ahead-hidden word k i v value le lt bit = hidden-x word (k + 1) i v (v - i) value (omega arith) (together i v le) bit

-- ---- all literals in a lane

pub one-more : (values : List Value3) (keep : List ℕ) (i d : ℕ) → i < length keep → AreOne values (take i keep) → literal3_in values (get_or keep i d) ≡ One → AreOne values (take (i + 1) keep)
one-more values keep i d below all one = All-more (λ literal. literal3_in values literal ≡ One) keep i d below all one

pub one-less : (values : List Value3) (keep : List ℕ) (i : ℕ) → i < length keep → AreOne values (take (i + 1) keep) → AreOne values (take i keep)
one-less values keep i below all =
    λ k e inside.
    let low : k < i = omega (arith, length-take i keep) in
    subst (λ l. literal3_in values l ≡ One) (get_or-take (i + 1) keep k e (omega arith) ∙ sym (get_or-take i keep k e low))
    (all k e (omega (arith, length-take (i + 1) keep)))

pub one-last : (values : List Value3) (keep : List ℕ) (i d : ℕ) → i < length keep → AreOne values (take (i + 1) keep) → literal3_in values (get_or keep i d) ≡ One
one-last values keep i d below all =
    subst (λ l. literal3_in values l ≡ One) (get_or-take (i + 1) keep i d (omega arith)) (all i d (omega (arith, length-take (i + 1) keep)))

-- ---- one latch more is forgotten

forgotten-step : (word n m i : ℕ) (state : List Value3) → n + 1 ≡ m → forgotten word m i state ≡ hide (bit_at word n) (i + n) (forgotten word n i state)
forgotten-step word n m i state e = ap (λ k. forgotten word k i state) (same n m e)
  where
    same : (n m : ℕ) → n + 1 ≡ m → m ≡ suc n
    same n m e = omega arith

pub forgotten-more : (word n i : ℕ) (state : List Value3) → bit_at word n ≡ 1 → set (forgotten word n i state) (i + n) X ≡ forgotten word (n + 1) i state
forgotten-more word n i state bit =
    sym (forgotten-step word n (n + 1) i state refl ∙ ap (λ b. hide b (i + n) (forgotten word n i state)) bit)

pub forgotten-same : (word n i : ℕ) (state : List Value3) → bit_at word n ≡ 0 → forgotten word n i state ≡ forgotten word (n + 1) i state
forgotten-same word n i state bit =
    sym (forgotten-step word n (n + 1) i state refl ∙ ap (λ b. hide b (i + n) (forgotten word n i state)) bit)
