-- The numbers of all properties ascend, each is below their count, and they are few.
use Rattle.std.proofs.Common.{◌≡◌, ◌∙◌, ◌<◌, ◌≤◌, ◌+◌, ℕ, zero, suc, List, [], ◌∷◌, ◌++◌, length, sym, ap, arith}
use Rattle.std.specs.Prelude.{All, AllPairs}
use Rattle.std.proofs.lemmas.List.{map-id}
use Rattle.std.proofs.lemmas.List.FromFn.{length-range_with_len, map-range_with_len_more}
use Rattle.std.proofs.lemmas.List.Elements.{All-cons, All-nil}
use Rattle.std.proofs.lemmas.List.Kept.{AllPairs-cons}
use Rattle.std.specs.List.{range_with_len}
use Rattle.sheet_commands.specs.Each.{most_properties}

pub AllPairs-nil : {X : Type 0} (R : X → X → Type 0) → AllPairs R []
AllPairs-nil R i j d lt within = absurd (omega (arith, within))

pub AllPairs-one : {X : Type 0} (R : X → X → Type 0) (x : X) → AllPairs R (x ∷ [])
AllPairs-one R x = AllPairs-cons R x [] (All-nil (R x)) (AllPairs-nil R)

-- they are all above what is below the first
above : (low n count : ℕ) → low < n → All (λ j. low < j) (range_with_len n count)
above low n zero below = All-nil (λ j. low < j)
above low n (suc count) below = All-cons (λ j. low < j) n (range_with_len (n + 1) count) below (above low (n + 1) count (omega (arith, below)))

pub numbers_ascend : (n count : ℕ) → AllPairs (λ i j. i < j) (range_with_len n count)
numbers_ascend n zero = AllPairs-nil (λ i j. i < j)
numbers_ascend n (suc count) = AllPairs-cons (λ i j. i < j) n (range_with_len (n + 1) count) (above n (n + 1) count (omega arith)) (numbers_ascend (n + 1) count)

pub numbers_below : (n count high : ℕ) → n + count ≤ high → All (λ j. j < high) (range_with_len n count)
numbers_below n zero high le = All-nil (λ j. j < high)
numbers_below n (suc count) high le =
    All-cons (λ j. j < high) n (range_with_len (n + 1) count) (omega (arith, le)) (numbers_below (n + 1) count high (omega (arith, le)))

pub one_number_more : (n : ℕ) → range_with_len 0 (n + 1) ≡ range_with_len 0 n ++ n ∷ []
one_number_more n =
    sym (map-id (range_with_len 0 (n + 1))) ∙ map-range_with_len_more (λ (x : ℕ). x) 0 n n (omega arith) ∙ ap (λ (l : List ℕ). l ++ n ∷ []) (map-id (range_with_len 0 n))

pub few_numbers : (numbers : List ℕ) (count : ℕ) → numbers ≡ range_with_len 0 count → count ≤ most_properties → length numbers ≤ most_properties
few_numbers numbers count is few = let size : length numbers ≡ count = ap length is ∙ length-range_with_len 0 count in omega (arith, size, few)
