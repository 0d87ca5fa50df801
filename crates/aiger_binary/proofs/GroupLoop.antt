-- The groups of a delta, as their loop sums them.
use Rattle.std.proofs.Common.{◌≡◌, ◌≢◌, ℕ, zero, suc, ◌+◌, ◌-◌, ◌*◌, ◌%◌, ◌≤◌, ◌<◌, Bool, true, false, not, ◌&&◌, cond, eqb, leb, ltb, List, [], ◌∷◌, length, take, drop, get_or, Result, Ok, Err, refl, sym, ap, ◌∙◌, arith, inl, inr}
use Rattle.std.proofs.lemmas.Bool.{ne_eqb, le-leb, lt-leb, lt-ltb, le-ltb, ltb-true, ltb-false, cases_eq}
use Rattle.std.proofs.lemmas.List.{drop_more, drop_all, length-drop}
use Rattle.std.proofs.Math.Seq.{take-length}
use Rattle.aig_semantics.specs.declared.limits.TheConstants.{MAX_NUMBER}
use Rattle.circuit.specs.declared.faults.ModelFault.{ModelFault}
use Rattle.circuit.specs.declared.faults.ModelFault.TheVariants.{Number, Truncated}
use Rattle.aiger_binary.specs.Groups.{summed_at, next_unit}

abbrev Read : Type 0
Read = Result (ℕ × List ℕ) ModelFault

abbrev failed : ModelFault → Read
failed fault = Err fault

abbrev pub step : Bool → Bool → Bool → ℕ → ℕ → List ℕ → Read → Read
step great marked empty first value rest others = cond great (failed (Number first)) (cond marked others (cond empty (failed (Number first)) (Ok (value, rest))))

pub step_at : (first total unit so_far byte : ℕ) (bytes : List ℕ) → summed_at first total unit so_far (byte ∷ bytes)
    ≡ step (ltb MAX_NUMBER (so_far + unit * (byte % 128))) (leb 128 byte) (eqb byte 0 && not (eqb unit 1)) first (so_far + unit * (byte % 128)) bytes
    (summed_at first total (128 * unit) (so_far + unit * (byte % 128)) bytes)
unfolding summed_at
step_at first total unit so_far byte bytes = refl

-- the step at the i-th byte
stepped : (first total unit so_far i g : ℕ) (bytes : List ℕ) → i < length bytes → g ≡ get_or bytes i 0 % 128
    → summed_at first total unit so_far (drop i bytes)
    ≡ step (ltb MAX_NUMBER (so_far + unit * g)) (leb 128 (get_or bytes i 0)) (eqb (get_or bytes i 0) 0 && not (eqb unit 1)) first (so_far + unit * g) (drop (i + 1) bytes)
    (summed_at first total (128 * unit) (so_far + unit * g) (drop (i + 1) bytes))
stepped first total unit so_far i g bytes lt is =
    let b = get_or bytes i 0 in
    ap (summed_at first total unit so_far) (drop_more bytes i 0 lt)
    ∙ step_at first total unit so_far b (drop (i + 1) bytes)
    ∙ ap (λ x. step (ltb MAX_NUMBER (so_far + unit * x)) (leb 128 b) (eqb b 0 && not (eqb unit 1)) first (so_far + unit * x) (drop (i + 1) bytes)
    (summed_at first total (128 * unit) (so_far + unit * x) (drop (i + 1) bytes))) (sym is)

pub too_great : (first total unit so_far i g : ℕ) (bytes : List ℕ) (all : Read) → i < length bytes → g ≡ get_or bytes i 0 % 128 → summed_at first total unit so_far (drop i bytes) ≡ all
    → MAX_NUMBER < so_far + unit * g → all ≡ Err (Number first)
too_great first total unit so_far i g bytes all lt is so great =
    let b = get_or bytes i 0 in
    let v = so_far + unit * g in
    let rest = drop (i + 1) bytes in
    sym so ∙ stepped first total unit so_far i g bytes lt is
    ∙ ap (λ t. step t (leb 128 b) (eqb b 0 && not (eqb unit 1)) first v rest (summed_at first total (128 * unit) v rest)) (lt-ltb MAX_NUMBER v great)

-- a step whose value is not too great
small_step : (first total unit so_far i g : ℕ) (bytes : List ℕ) (all : Read) → i < length bytes → g ≡ get_or bytes i 0 % 128 → summed_at first total unit so_far (drop i bytes) ≡ all
    → so_far + unit * g ≤ MAX_NUMBER → (marked empty : Bool) → leb 128 (get_or bytes i 0) ≡ marked → (eqb (get_or bytes i 0) 0 && not (eqb unit 1)) ≡ empty
    → all ≡ step false marked empty first (so_far + unit * g) (drop (i + 1) bytes) (summed_at first total (128 * unit) (so_far + unit * g) (drop (i + 1) bytes))
small_step first total unit so_far i g bytes all lt is so small marked empty is_marked is_empty =
    let b = get_or bytes i 0 in
    let v = so_far + unit * g in
    let rest = drop (i + 1) bytes in
    let others = summed_at first total (128 * unit) v rest in
    sym so ∙ stepped first total unit so_far i g bytes lt is
    ∙ ap (λ t. step t (leb 128 b) (eqb b 0 && not (eqb unit 1)) first v rest others) (le-ltb MAX_NUMBER v small)
    ∙ ap (λ t. step false t (eqb b 0 && not (eqb unit 1)) first v rest others) is_marked
    ∙ ap (λ t. step false marked t first v rest others) is_empty

pub ends_empty : (first total unit so_far i g : ℕ) (bytes : List ℕ) (all : Read) → i < length bytes → g ≡ get_or bytes i 0 % 128 → summed_at first total unit so_far (drop i bytes) ≡ all
    → so_far + unit * g ≤ MAX_NUMBER → get_or bytes i 0 < 128 → (eqb (get_or bytes i 0) 0 && not (eqb unit 1)) ≡ true → all ≡ Err (Number first)
ends_empty first total unit so_far i g bytes all lt is so small low empty =
    small_step first total unit so_far i g bytes all lt is so small false true (lt-leb 128 (get_or bytes i 0) low) empty

rest_is : (i : ℕ) (bytes : List ℕ) → take (length bytes - (i + 1)) (drop (i + 1) bytes) ≡ drop (i + 1) bytes
rest_is i bytes = ap (λ n. take n (drop (i + 1) bytes)) (sym (length-drop (i + 1) bytes)) ∙ take-length (drop (i + 1) bytes)

pub ends : (first total unit so_far i g : ℕ) (bytes : List ℕ) (all : Read) → i < length bytes → g ≡ get_or bytes i 0 % 128 → summed_at first total unit so_far (drop i bytes) ≡ all
    → so_far + unit * g ≤ MAX_NUMBER → get_or bytes i 0 < 128 → (eqb (get_or bytes i 0) 0 && not (eqb unit 1)) ≡ false
    → all ≡ Ok (so_far + unit * g, take (length bytes - (i + 1)) (drop (i + 1) bytes))
ends first total unit so_far i g bytes all lt is so small low empty =
    small_step first total unit so_far i g bytes all lt is so small false false (lt-leb 128 (get_or bytes i 0) low) empty
    ∙ ap (λ r. Ok (so_far + unit * g, r)) (sym (rest_is i bytes))

goes : (first total unit so_far i g : ℕ) (bytes : List ℕ) (all : Read) → i < length bytes → g ≡ get_or bytes i 0 % 128 → summed_at first total unit so_far (drop i bytes) ≡ all
    → so_far + unit * g ≤ MAX_NUMBER → 128 ≤ get_or bytes i 0 → all ≡ summed_at first total (128 * unit) (so_far + unit * g) (drop (i + 1) bytes)
goes first total unit so_far i g bytes all lt is so small high =
    let b = get_or bytes i 0 in
    small_step first total unit so_far i g bytes all lt is so small true (eqb b 0 && not (eqb unit 1)) (le-leb 128 b high) refl

-- ---- units above the greatest number count alike

at_least : (u g : ℕ) → 1 ≤ g → u ≤ u * g
at_least u zero low = absurd (omega arith)
at_least u (suc g) low = omega arith

one_byte : (first total u v b g : ℕ) (bytes : List ℕ) → g ≡ b % 128 → summed_at first total u v (b ∷ bytes)
    ≡ step (ltb MAX_NUMBER (v + u * g)) (leb 128 b) (eqb b 0 && not (eqb u 1)) first (v + u * g) bytes (summed_at first total (128 * u) (v + u * g) bytes)
one_byte first total u v b g bytes is =
    step_at first total u v b bytes
    ∙ ap (λ x. step (ltb MAX_NUMBER (v + u * x)) (leb 128 b) (eqb b 0 && not (eqb u 1)) first (v + u * x) bytes (summed_at first total (128 * u) (v + u * x) bytes)) (sym is)

great_byte : (first total u v b : ℕ) (bytes : List ℕ) → MAX_NUMBER < u → b % 128 ≢ 0 → summed_at first total u v (b ∷ bytes) ≡ failed (Number first)
great_byte first total u v b bytes great some =
    let g = b % 128 in
    let w = v + u * g in
    let more : u ≤ u * g = at_least u g (positive g some) in
    step_at first total u v b bytes
    ∙ ap (λ t. step t (leb 128 b) (eqb b 0 && not (eqb u 1)) first w bytes (summed_at first total (128 * u) w bytes)) (lt-ltb MAX_NUMBER w (above u v (u * g) great more))
  where
    positive : (n : ℕ) → n ≢ 0 → 1 ≤ n
    positive zero not_zero = absurd (not_zero refl)
    positive (suc n) not_zero = omega arith

    above : (u v p : ℕ) → MAX_NUMBER < u → u ≤ p → MAX_NUMBER < v + p
    above u v p great more = omega arith

abbrev zero_step : ℕ → ℕ → List ℕ → Bool → ℕ → Read → Read
zero_step first b bytes one v others = step (ltb MAX_NUMBER v) (leb 128 b) (eqb b 0 && not one) first v bytes others

zero_byte : (first total u v b : ℕ) (bytes : List ℕ) → MAX_NUMBER < u → b % 128 ≡ 0 → summed_at first total u v (b ∷ bytes) ≡ zero_step first b bytes false v (summed_at first total (128 * u) v bytes)
zero_byte first total u v b bytes great is_zero =
    let same : v + u * 0 ≡ v = omega arith in
    one_byte first total u v b 0 bytes (sym is_zero)
    ∙ ap (λ x. zero_step first b bytes (eqb u 1) x (summed_at first total (128 * u) x bytes)) same
    ∙ ap (λ t. zero_step first b bytes t v (summed_at first total (128 * u) v bytes)) (ne_eqb u 1 (not_one u great))
  where
    not_one : (u : ℕ) → MAX_NUMBER < u → u ≢ 1
    not_one u great = λ e. absurd (omega (arith, great, e))

great_units : (first total : ℕ) (bytes : List ℕ) (u w v : ℕ) → MAX_NUMBER < u → MAX_NUMBER < w → summed_at first total u v bytes ≡ summed_at first total w v bytes
unfolding summed_at
great_units first total [] u w v great great' = refl
great_units first total (b ∷ bytes) u w v great great' =
    elim (cases_eq (b % 128) 0) [
      | inl e ↦ zero_byte first total u v b bytes great e
          ∙ ap (zero_step first b bytes false v) (great_units first total bytes (128 * u) (128 * w) v (omega arith) (omega arith))
          ∙ sym (zero_byte first total w v b bytes great' e)
      | inr ne ↦ great_byte first total u v b bytes great ne ∙ sym (great_byte first total w v b bytes great' ne)
    ]

kept_by : (first total unit value : ℕ) (rest : List ℕ) (all : Read) (great : Bool) → ltb MAX_NUMBER unit ≡ great → 1 ≤ unit → unit ≤ 128 * MAX_NUMBER → all ≡ summed_at first total (128 * unit) value rest
    → (summed_at first total (cond great unit (128 * unit)) value rest ≡ all) × (1 ≤ cond great unit (128 * unit)) × (cond great unit (128 * unit) ≤ 128 * MAX_NUMBER)
kept_by first total unit value rest all true is some bounded e =
    let great = ltb-true MAX_NUMBER unit is in
    (great_units first total rest unit (128 * unit) value great (omega (arith, great)) ∙ sym e, some, bounded)
kept_by first total unit value rest all false is some bounded e =
    let low = ltb-false MAX_NUMBER unit is in
    (sym e, omega arith, omega (arith, low))

pub goes_on : (first total unit so_far i g : ℕ) (bytes : List ℕ) (all : Read) → i < length bytes → g ≡ get_or bytes i 0 % 128 → summed_at first total unit so_far (drop i bytes) ≡ all
    → 1 ≤ unit → unit ≤ 128 * MAX_NUMBER → so_far + unit * g ≤ MAX_NUMBER → 128 ≤ get_or bytes i 0
    → (summed_at first total (next_unit unit) (so_far + unit * g) (drop (i + 1) bytes) ≡ all) × (1 ≤ next_unit unit) × (next_unit unit ≤ 128 * MAX_NUMBER)
goes_on first total unit so_far i g bytes all lt is so some bounded small high =
    kept_by first total unit (so_far + unit * g) (drop (i + 1) bytes) all (ltb MAX_NUMBER unit) refl some bounded (goes first total unit so_far i g bytes all lt is so small high)

pub cut_off : (first total unit so_far i : ℕ) (bytes : List ℕ) (all : Read) → length bytes ≤ i → summed_at first total unit so_far (drop i bytes) ≡ all → all ≡ Err (Truncated total)
unfolding summed_at
cut_off first total unit so_far i bytes all le so = sym so ∙ ap (summed_at first total unit so_far) (drop_all i bytes le)
