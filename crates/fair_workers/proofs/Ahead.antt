-- How many properties are ahead of a worker, and what each step leaves of that.
use Rattle.std.proofs.Common.{◌≡◌, ℕ, zero, suc, ◌+◌, ◌-◌, ◌*◌, ◌<◌, ◌≤◌, min, max, Bool, true, false, cond, ◌⊎◌, inl, inr, List, [], ◌∷◌, length, get_or, refl, sym, ap, ◌∙◌, subst, arith}
use Rattle.std.specs.Prelude.{◌==◌, ◌||◌, ◌&&◌, not, nat_le, nat_lt, Contains}
use Rattle.std.specs.List.{AllPairs}
use Rattle.std.proofs.lemmas.List.{get_or_default}
use Rattle.std.proofs.lemmas.Bool.{false≢true, both_ways, not-true, not_from_true, not_from_false, false_from_ne_true, cases_eq, cases_lt, eq-eqb, eqb-true, leb-true, le-leb, lt-leb, ltb-true, lt-ltb, or_cases, or_left, or_right, and_parts, and_from, and_left, and_right}
use Rattle.aig_semantics.specs.Circuits.{Circuit, fair_literals}
use Rattle.edge.specs.Units.{Spendings}
use Rattle.fair_semantics.proofs.States.{one-less}
use Rattle.fair_workers.specs.declared.working.Phase.{Phase}
use Rattle.fair_workers.specs.declared.working.Phase.TheVariants as phases
use Rattle.fair_workers.specs.Runs.{last_turns, most_situations}
use Rattle.shared_lists.specs.Knowing.{Known}
use Rattle.fair_workers.specs.Working.{count, is_ahead, is_running, left, searches_left, searches_in, room_of, ahead_of, left_in, searches_left_in, IsIn}

-- ---- members of a list

pub first-in : (j : ℕ) (js : List ℕ) → Contains (j ∷ js) j
first-in j js = (0, omega arith, refl)

member-at : (x : ℕ) (xs : List ℕ) (j k : ℕ) → k < length (x ∷ xs) → get_or (x ∷ xs) k j ≡ j → (x ≡ j) ⊎ Contains xs j
member-at x xs j zero below same = inl same
member-at x xs j (suc k) below same = inr (k, (omega arith), same)

pub member : (x : ℕ) (xs : List ℕ) (j : ℕ) → Contains (x ∷ xs) j → (x ≡ j) ⊎ Contains xs j
member x xs j h = member-at x xs j h.0 h.1 h.2

pub some-in : (js : List ℕ) (j : ℕ) → Contains js j → 0 < length js
some-in js j h = (let below : h.0 < length js = h.1 in omega arith)

at-zero : (xs : List ℕ) (j k : ℕ) → k < length xs → length xs ≡ 1 → get_or xs k j ≡ j → get_or xs 0 j ≡ j
at-zero xs j k below one at = (let first : k ≡ 0 = omega (arith, below, one) in subst (λ (m : ℕ). get_or xs m j ≡ j) first at)

first-same : (xs : List ℕ) (i j : ℕ) → length xs ≡ 1 → get_or xs 0 i ≡ i → get_or xs 0 j ≡ j → i ≡ j
first-same [] i j one a b = absurd (omega (arith, one))
first-same (x ∷ xs) i j one a b = sym a ∙ b

-- a list of one number has no other
pub only-in : (xs : List ℕ) (i j : ℕ) → length xs ≡ 1 → Contains xs i → Contains xs j → i ≡ j
only-in xs i j one a b = first-same xs i j one (at-zero xs i a.0 a.1 one a.2) (at-zero xs j b.0 b.1 one b.2)

-- of numbers that ascend none is above the last
last-most : (xs : List ℕ) (i k : ℕ) → AllPairs (λ a b. a < b) xs → k < length xs → get_or xs k i ≡ i → i ≤ get_or xs (length xs - 1) 0
last-most xs i k ascend below at =
    elim (cases_lt k (length xs - 1)) [
      | inl before ↦
          (let less : get_or xs k i < get_or xs (length xs - 1) i = ascend k (length xs - 1) i before (omega (arith, below)) in
          let there : get_or xs (length xs - 1) i ≡ get_or xs (length xs - 1) 0 = get_or_default xs (length xs - 1) i 0 (omega (arith, below)) in
          omega (arith, less, there, at))
      | inr behind ↦
          (let last : k ≡ length xs - 1 = omega (arith, behind, below) in
          let here : get_or xs k i ≡ get_or xs k 0 = get_or_default xs k i 0 below in
          let there : get_or xs k 0 ≡ get_or xs (length xs - 1) 0 = ap (λ (m : ℕ). get_or xs m 0) last in
          omega (arith, here, there, at))
    ]

pub none-above : (xs : List ℕ) (i : ℕ) → AllPairs (λ a b. a < b) xs → Contains xs i → i ≤ get_or xs (length xs - 1) 0
none-above xs i ascend h = last-most xs i h.0 ascend h.1 h.2

two-at : (xs : List ℕ) (j k : ℕ) → k < length xs → get_or xs k j ≡ j → j < get_or xs (length xs - 1) 0 → 2 ≤ length xs
two-at xs j k below at less =
    elim (cases_lt (length xs) 2) [
      | inl short ↦
          (let first : k ≡ length xs - 1 = omega (arith, below, short) in
          let here : get_or xs k j ≡ get_or xs k 0 = get_or_default xs k j 0 below in
          let there : get_or xs k 0 ≡ get_or xs (length xs - 1) 0 = ap (λ (m : ℕ). get_or xs m 0) first in
          absurd (omega (arith, less, at, here, there)))
      | inr two ↦ two
    ]

-- where one is not the last there are two
pub are-two : (xs : List ℕ) (j : ℕ) → Contains xs j → j < get_or xs (length xs - 1) 0 → 2 ≤ length xs
are-two xs j h less = two-at xs j h.0 h.1 h.2 less

pub last-of-two : (properties : List ℕ) → 2 ≤ length properties → last_turns properties ≡ 1
last-of-two properties two = one (length properties) two
  where
    one : (n : ℕ) → 2 ≤ n → min 1 (n - 1) ≡ 1
    one n two = grind (arith)

-- ---- counting

one-most : (a : Bool) → cond a 1 0 ≤ 1
one-most true = omega arith
one-most false = omega arith

one-more : (a b : Bool) (m n : ℕ) → a ≡ false → b ≡ true → m ≤ n → (cond a 1 0 + m) + 1 ≤ cond b 1 0 + n
one-more true b m n out within h = absurd (false≢true (sym out))
one-more false true m n out within h = omega (arith, h)
one-more false false m n out within h = absurd (false≢true within)

pub count-within : (f g : ℕ → Bool) (js : List ℕ) → ((i : ℕ) → f i ≡ true → g i ≡ true) → count f js ≤ count g js
count-within f g [] h = omega arith
count-within f g (j ∷ js) h =
    let here : cond (f j) 1 0 ≤ cond (g j) 1 0 = one-less (f j) (g j) (h j) in
    let rest : count f js ≤ count g js = count-within f g js h in
    sums (cond (f j) 1 0) (cond (g j) 1 0) (count f js) (count g js) here rest
  where
    sums : (a b m n : ℕ) → a ≤ b → m ≤ n → a + m ≤ b + n
    sums a b m n here rest = omega (arith, here, rest)

-- where one that passed passes no more it is one less
pub count-less : (f g : ℕ → Bool) (js : List ℕ) (j : ℕ) → ((i : ℕ) → f i ≡ true → g i ≡ true) → Contains js j → f j ≡ false → g j ≡ true
    → count f js + 1 ≤ count g js
count-less f g [] j h inside out within = absurd (let below : inside.0 < 0 = inside.1 in omega arith)
count-less f g (i ∷ js) j h inside out within =
    elim (member i js j inside) [
      | inl same ↦
          one-more (f i) (g i) (count f js) (count g js) (ap f same ∙ out) (ap g same ∙ within) (count-within f g js h)
      | inr there ↦
          (let here : cond (f i) 1 0 ≤ cond (g i) 1 0 = one-less (f i) (g i) (h i) in
          let rest : count f js + 1 ≤ count g js = count-less f g js j h there out within in
          sums (cond (f i) 1 0) (cond (g i) 1 0) (count f js) (count g js) here rest)
    ]
  where
    sums : (a b m n : ℕ) → a ≤ b → m + 1 ≤ n → (a + m) + 1 ≤ b + n
    sums a b m n here rest = omega (arith, here, rest)

pub count-some : (g : ℕ → Bool) (js : List ℕ) (j : ℕ) → Contains js j → g j ≡ true → 1 ≤ count g js
count-some g js j inside within =
    let h : count (λ i. false) js + 1 ≤ count g js = count-less (λ i. false) g js j (λ i e. absurd (false≢true e)) inside refl within in
    omega (arith, h)

pub count-most : (f : ℕ → Bool) (js : List ℕ) → count f js ≤ length js
count-most f [] = omega arith
count-most f (j ∷ js) =
    let here : cond (f j) 1 0 ≤ 1 = one-most (f j) in
    let rest : count f js ≤ length js = count-most f js in
    sums (cond (f j) 1 0) (count f js) (length js) here rest
  where
    sums : (a m n : ℕ) → a ≤ 1 → m ≤ n → a + m ≤ suc n
    sums a m n here rest = omega (arith, here, rest)

-- ---- what is ahead

-- what has an outcome keeps it
abbrev pub Stay : (ℕ → Bool) → (ℕ → Bool) → Type 0
Stay s t = (i : ℕ) → s i ≡ true → t i ≡ true

pub was-open : (s t : ℕ → Bool) (i : ℕ) → Stay s t → t i ≡ false → s i ≡ false
was-open s t i stay h = false_from_ne_true (s i) (λ e. both_ways (t i) h (stay i e))

still-open : (s t : ℕ → Bool) (i : ℕ) → Stay s t → not (t i) ≡ true → not (s i) ≡ true
still-open s t i stay h = not_from_false (s i) (was-open s t i stay (not-true (t i) h))

or-on : (a b c : Bool) → (b ≡ true → c ≡ true) → (a || b) ≡ true → (a || c) ≡ true
or-on true b c h e = refl
or-on false b c h e = h e

and-on : (a b c : Bool) → (b ≡ true → c ≡ true) → (a && b) ≡ true → (a && c) ≡ true
and-on true b c h e = h e
and-on false b c h e = e

pub ahead-on : (s t : ℕ → Bool) (j : ℕ) (p : Phase) → Stay s t → (i : ℕ) → is_ahead t j p i ≡ true → is_ahead s j p i ≡ true
ahead-on s t j phases.Asks stay i h = still-open s t i stay h
ahead-on s t j phases.Looks stay i h = or-on (i == j) (not (t i)) (not (s i)) (still-open s t i stay) h
ahead-on s t j phases.Searches stay i h = or-on (i == j) (not (t i)) (not (s i)) (still-open s t i stay) h
ahead-on s t j (phases.AsksLast from) stay i h = and-on (nat_le from i) (not (t i)) (not (s i)) (still-open s t i stay) h
ahead-on s t j phases.LooksLast stay i h =
    or-on (i == j) (nat_lt j i && not (t i)) (nat_lt j i && not (s i)) (and-on (nat_lt j i) (not (t i)) (not (s i)) (still-open s t i stay)) h
ahead-on s t j phases.SearchesLast stay i h =
    or-on (i == j) (nat_lt j i && not (t i)) (nat_lt j i && not (s i)) (and-on (nat_lt j i) (not (t i)) (not (s i)) (still-open s t i stay)) h
ahead-on s t j (phases.AsksDeeper after) stay i h = h
ahead-on s t j (phases.Deepens after) stay i h = h
ahead-on s t j phases.Closed stay i h = h
ahead-on s t j phases.Full stay i h = h
ahead-on s t j phases.Spent stay i h = h
ahead-on s t j phases.Deep stay i h = h
ahead-on s t j phases.Refused stay i h = h

open-here : (s t : ℕ → Bool) (i j : ℕ) → Stay s t → t j ≡ false → (i == j) ≡ true → not (s i) ≡ true
open-here s t i j stay unsettled same =
    not_from_false (s i) (was-open s t i stay (ap t (eqb-true i j same) ∙ unsettled))

-- from the question to a look
pub looks-ahead : (s t : ℕ → Bool) (m j : ℕ) → Stay s t → t j ≡ false → (i : ℕ) → is_ahead t j phases.Looks i ≡ true → is_ahead s m phases.Asks i ≡ true
looks-ahead s t m j stay unsettled i h =
    elim (or_cases (i == j) (not (t i)) h) [
      | inl same ↦ open-here s t i j stay unsettled same
      | inr other ↦ still-open s t i stay other
    ]

-- from a search to the next question
pub asks-ahead : (s t : ℕ → Bool) (j m : ℕ) → Stay s t → (i : ℕ) → is_ahead t m phases.Asks i ≡ true → is_ahead s j phases.Searches i ≡ true
asks-ahead s t j m stay i h = or_right (i == j) (not (s i)) (still-open s t i stay h)

-- to the first question of a full list
pub full-ahead : (s t : ℕ → Bool) (j m : ℕ) → Stay s t → (i : ℕ) → is_ahead t m (phases.AsksLast 0) i ≡ true → is_ahead s j phases.Searches i ≡ true
full-ahead s t j m stay i h = or_right (i == j) (not (s i)) (still-open s t i stay (and_parts (nat_le 0 i) (not (t i)) h).1)

-- from the question to a look, the list being full
pub last-looks-ahead : (s t : ℕ → Bool) (m from j : ℕ) → Stay s t → from ≤ j → t j ≡ false → (i : ℕ)
    → is_ahead t j phases.LooksLast i ≡ true → is_ahead s m (phases.AsksLast from) i ≡ true
last-looks-ahead s t m from j stay low unsettled i h =
    elim (or_cases (i == j) (nat_lt j i && not (t i)) h) [
      | inl same ↦
          (let at : i ≡ j = eqb-true i j same in
          and_from (nat_le from i) (not (s i)) (le-leb from i (omega (arith, low, at))) (open-here s t i j stay unsettled same))
      | inr behind ↦
          (let parts = and_parts (nat_lt j i) (not (t i)) behind in
          let above : j < i = ltb-true j i parts.0 in
          and_from (nat_le from i) (not (s i)) (le-leb from i (omega (arith, low, above))) (still-open s t i stay parts.1))
    ]

-- from a search to the question behind its property
pub passed-ahead : (s : ℕ → Bool) (j m : ℕ) (i : ℕ) → is_ahead s m (phases.AsksLast (j + 1)) i ≡ true → is_ahead s j phases.SearchesLast i ≡ true
passed-ahead s j m i h =
    let parts = and_parts (nat_le (j + 1) i) (not (s i)) h in
    let above : j + 1 ≤ i = leb-true (j + 1) i parts.0 in
    or_right (i == j) (nat_lt j i && not (s i)) (and_from (nat_lt j i) (not (s i)) (lt-ltb j i (omega (arith, above))) parts.1)

pub passed-out : (s : ℕ → Bool) (j m : ℕ) → is_ahead s m (phases.AsksLast (j + 1)) j ≡ false
passed-out s j m = and_left (nat_le (j + 1) j) (not (s j)) (lt-leb (j + 1) j (omega arith))

-- and behind an outcome
pub finished-ahead : (s t : ℕ → Bool) (j m : ℕ) → Stay s t → (i : ℕ) → is_ahead t m (phases.AsksLast j) i ≡ true → is_ahead s j phases.SearchesLast i ≡ true
finished-ahead s t j m stay i h =
    let parts = and_parts (nat_le j i) (not (t i)) h in
    let low : j ≤ i = leb-true j i parts.0 in
    elim (cases_eq i j) [
      | inl same ↦ or_left (i == j) (nat_lt j i && not (s i)) (eq-eqb i j same)
      | inr apart ↦
          or_right (i == j) (nat_lt j i && not (s i))
          (and_from (nat_lt j i) (not (s i)) (lt-ltb j i (above i j low apart)) (still-open s t i stay parts.1))
    ]
  where
    above : (i j : ℕ) → j ≤ i → (i ≡ j → ⊥) → j < i
    above i j low apart =
        elim (cases_lt j i) [
          | inl less ↦ less
          | inr most ↦ absurd (apart (omega (arith, low, most)))
        ]

pub finished-out : (t : ℕ → Bool) (j m : ℕ) → t j ≡ true → is_ahead t m (phases.AsksLast j) j ≡ false
finished-out t j m settled = and_right (nat_le j j) (not (t j)) (not_from_true (t j) settled)

pub settled-out : (t : ℕ → Bool) (j m : ℕ) → t j ≡ true → is_ahead t m phases.Asks j ≡ false
settled-out t j m settled = not_from_true (t j) settled

-- the property that is served is ahead
pub serves-searches : (s : ℕ → Bool) (j : ℕ) → is_ahead s j phases.Searches j ≡ true
serves-searches s j = or_left (j == j) (not (s j)) (eq-eqb j j refl)

pub serves-last : (s : ℕ → Bool) (j : ℕ) → is_ahead s j phases.SearchesLast j ≡ true
serves-last s j = or_left (j == j) (nat_lt j j && not (s j)) (eq-eqb j j refl)

-- ---- of what is known

pub ahead-within : (k l : Known) (i j : ℕ) (p q : Phase) → l.properties ≡ k.properties
    → ((m : ℕ) → is_ahead l.settled j q m ≡ true → is_ahead k.settled i p m ≡ true) → ahead_of l j q ≤ ahead_of k i p
ahead-within k l i j p q same h =
    subst (λ (ps : List ℕ). count (is_ahead l.settled j q) ps ≤ ahead_of k i p) (sym same)
    (count-within (is_ahead l.settled j q) (is_ahead k.settled i p) k.properties h)

pub ahead-less : (k l : Known) (i j m : ℕ) (p q : Phase) → l.properties ≡ k.properties
    → ((n : ℕ) → is_ahead l.settled j q n ≡ true → is_ahead k.settled i p n ≡ true) → Contains k.properties m
    → is_ahead l.settled j q m ≡ false → is_ahead k.settled i p m ≡ true → ahead_of l j q + 1 ≤ ahead_of k i p
ahead-less k l i j m p q same h inside out within =
    subst (λ (ps : List ℕ). count (is_ahead l.settled j q) ps + 1 ≤ ahead_of k i p) (sym same)
    (count-less (is_ahead l.settled j q) (is_ahead k.settled i p) k.properties m h inside out within)

pub searches-some : (k : Known) (j : ℕ) → Contains k.properties j → 1 ≤ ahead_of k j phases.Searches
searches-some k j inside = count-some (is_ahead k.settled j phases.Searches) k.properties j inside (serves-searches k.settled j)

pub looks-some : (k : Known) (j : ℕ) → Contains k.properties j → 1 ≤ ahead_of k j phases.LooksLast
looks-some k j inside = count-some (is_ahead k.settled j phases.LooksLast) k.properties j inside (serves-last k.settled j)

pub last-some : (k : Known) (j : ℕ) → Contains k.properties j → 1 ≤ ahead_of k j phases.SearchesLast
last-some k j inside = count-some (is_ahead k.settled j phases.SearchesLast) k.properties j inside (serves-last k.settled j)

-- ---- turns and searches that are left

above-one : (n : ℕ) → 0 < n + 1
above-one n = omega arith

above-two : (n : ℕ) → 0 < n + 2
above-two n = omega arith

above-three : (n : ℕ) → 0 < n + 3
above-three n = omega arith

above-last : (a m n : ℕ) → 1 ≤ a → n ≤ 2 → 0 < a * 3 + m - n
above-last a m n some few = omega (arith, some, few)

-- a worker that has not ended has a turn left
pub running-left : (k : Known) (j : ℕ) (meter : Spendings) (p : Phase) → is_running p ≡ true → IsIn j k meter p → 0 < left_in k j p
running-left k j meter phases.Asks running h = above-three ((room_of k + ahead_of k j phases.Asks) * 3 + last_turns k.properties)
running-left k j meter phases.Looks running h = above-two ((room_of k + ahead_of k j phases.Looks) * 3 + last_turns k.properties)
running-left k j meter phases.Searches running h = above-one ((room_of k + ahead_of k j phases.Searches) * 3 + last_turns k.properties)
running-left k j meter (phases.AsksLast from) running h = above-one (ahead_of k j (phases.AsksLast from) * 3 + last_turns k.properties - 1)
running-left k j meter phases.LooksLast running h = above-last (ahead_of k j phases.LooksLast) (last_turns k.properties) 1 (looks-some k j h.served) (omega arith)
running-left k j meter phases.SearchesLast running h =
    above-last (ahead_of k j phases.SearchesLast) (last_turns k.properties) 2 (last-some k j h.served) (omega arith)
running-left k j meter (phases.AsksDeeper after) running h = above-three (after * 2)
running-left k j meter (phases.Deepens after) running h = above-two (after * 2)
running-left k j meter phases.Closed running h = absurd (false≢true running)
running-left k j meter phases.Full running h = absurd (false≢true running)
running-left k j meter phases.Spent running h = absurd (false≢true running)
running-left k j meter phases.Deep running h = absurd (false≢true running)
running-left k j meter phases.Refused running h = absurd (false≢true running)

pub ended-left : (k : Known) (j : ℕ) (p : Phase) → is_running p ≡ false → left_in k j p ≡ 0
ended-left k j phases.Asks ended = absurd (false≢true (sym ended))
ended-left k j phases.Looks ended = absurd (false≢true (sym ended))
ended-left k j phases.Searches ended = absurd (false≢true (sym ended))
ended-left k j (phases.AsksLast from) ended = absurd (false≢true (sym ended))
ended-left k j phases.LooksLast ended = absurd (false≢true (sym ended))
ended-left k j phases.SearchesLast ended = absurd (false≢true (sym ended))
ended-left k j (phases.AsksDeeper after) ended = absurd (false≢true (sym ended))
ended-left k j (phases.Deepens after) ended = absurd (false≢true (sym ended))
ended-left k j phases.Closed ended = refl
ended-left k j phases.Full ended = refl
ended-left k j phases.Spent ended = refl
ended-left k j phases.Deep ended = refl
ended-left k j phases.Refused ended = refl

pub ended-searches : (k : Known) (j : ℕ) (p : Phase) → is_running p ≡ false → searches_left_in k j p ≡ 0
ended-searches k j phases.Asks ended = absurd (false≢true (sym ended))
ended-searches k j phases.Looks ended = absurd (false≢true (sym ended))
ended-searches k j phases.Searches ended = absurd (false≢true (sym ended))
ended-searches k j (phases.AsksLast from) ended = absurd (false≢true (sym ended))
ended-searches k j phases.LooksLast ended = absurd (false≢true (sym ended))
ended-searches k j phases.SearchesLast ended = absurd (false≢true (sym ended))
ended-searches k j (phases.AsksDeeper after) ended = absurd (false≢true (sym ended))
ended-searches k j (phases.Deepens after) ended = absurd (false≢true (sym ended))
ended-searches k j phases.Closed ended = refl
ended-searches k j phases.Full ended = refl
ended-searches k j phases.Spent ended = refl
ended-searches k j phases.Deep ended = refl
ended-searches k j phases.Refused ended = refl

some-more : (r a : ℕ) → 1 ≤ a → 1 ≤ r + a
some-more r a some = omega (arith, some)

none-least : (n : ℕ) → 0 ≤ n
none-least n = omega arith

-- the search of a turn is one of those that are left
pub turn-searches : (k : Known) (j : ℕ) (meter : Spendings) (p : Phase) → IsIn j k meter p → searches_in p ≤ searches_left_in k j p
turn-searches k j meter phases.Asks h = none-least (searches_left_in k j phases.Asks)
turn-searches k j meter phases.Looks h = none-least (searches_left_in k j phases.Looks)
turn-searches k j meter phases.Searches h = some-more (room_of k) (ahead_of k j phases.Searches) (searches-some k j h)
turn-searches k j meter (phases.AsksLast from) h = none-least 0
turn-searches k j meter phases.LooksLast h = none-least 0
turn-searches k j meter phases.SearchesLast h = none-least 0
turn-searches k j meter (phases.AsksDeeper after) h = none-least 0
turn-searches k j meter (phases.Deepens after) h = none-least 0
turn-searches k j meter phases.Closed h = none-least 0
turn-searches k j meter phases.Full h = none-least 0
turn-searches k j meter phases.Spent h = none-least 0
turn-searches k j meter phases.Deep h = none-least 0
turn-searches k j meter phases.Refused h = none-least 0

-- no more is left where no more may come, and no more is ahead
pub left-on : (r q a b m n : ℕ) (p : Phase) → q ≤ r → b ≤ a → n ≡ m → left q b n p ≤ left r a m p
left-on r q a b m n phases.Asks room ahead last = omega (arith, room, ahead, last)
left-on r q a b m n phases.Looks room ahead last = omega (arith, room, ahead, last)
left-on r q a b m n phases.Searches room ahead last = omega (arith, room, ahead, last)
left-on r q a b m n (phases.AsksLast from) room ahead last = omega (arith, ahead, last)
left-on r q a b m n phases.LooksLast room ahead last = omega (arith, ahead, last)
left-on r q a b m n phases.SearchesLast room ahead last = omega (arith, ahead, last)
left-on r q a b m n (phases.AsksDeeper after) room ahead last = omega arith
left-on r q a b m n (phases.Deepens after) room ahead last = omega arith
left-on r q a b m n phases.Closed room ahead last = omega arith
left-on r q a b m n phases.Full room ahead last = omega arith
left-on r q a b m n phases.Spent room ahead last = omega arith
left-on r q a b m n phases.Deep room ahead last = omega arith
left-on r q a b m n phases.Refused room ahead last = omega arith

pub searches-on : (r q a b : ℕ) (p : Phase) → q ≤ r → b ≤ a → searches_left q b p ≤ searches_left r a p
searches-on r q a b phases.Asks room ahead = omega (arith, room, ahead)
searches-on r q a b phases.Looks room ahead = omega (arith, room, ahead)
searches-on r q a b phases.Searches room ahead = omega (arith, room, ahead)
searches-on r q a b (phases.AsksLast from) room ahead = omega arith
searches-on r q a b phases.LooksLast room ahead = omega arith
searches-on r q a b phases.SearchesLast room ahead = omega arith
searches-on r q a b (phases.AsksDeeper after) room ahead = omega arith
searches-on r q a b (phases.Deepens after) room ahead = omega arith
searches-on r q a b phases.Closed room ahead = omega arith
searches-on r q a b phases.Full room ahead = omega arith
searches-on r q a b phases.Spent room ahead = omega arith
searches-on r q a b phases.Deep room ahead = omega arith
searches-on r q a b phases.Refused room ahead = omega arith

-- ---- steps of a search

first-most : (m n : ℕ) → m ≤ max m n
first-most m n = grind (arith)

later-most : (i m n : ℕ) → i ≤ n → i ≤ max m n
later-most i m n h = grind (arith)

-- a skeleton of one of the properties has no more situations
pub situations-within : (c : Circuit) (properties : List ℕ) (j : ℕ) → Contains properties j
    → max 1 (length (fair_literals c j)) ≤ most_situations c properties
situations-within c [] j inside = absurd (let below : inside.0 < 0 = inside.1 in omega arith)
situations-within c (i ∷ properties) j inside =
    elim (member i properties j inside) [
      | inl same ↦
          subst (λ (m : ℕ). max 1 (length (fair_literals c m)) ≤ most_situations c (i ∷ properties)) same
          (first-most (max 1 (length (fair_literals c i))) (most_situations c properties))
      | inr there ↦
          later-most (max 1 (length (fair_literals c j))) (max 1 (length (fair_literals c i))) (most_situations c properties)
          (situations-within c properties j there)
    ]
