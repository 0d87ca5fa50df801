-- Values of latches are forgotten one by one: what is kept, and that what is needed stays needed.
use Rattle.std.proofs.Common.{◌≡◌, ◌≢◌, ◌↔◌, ℕ, zero, suc, ◌+◌, ◌<◌, ◌≤◌, ◌⊎◌, Bool, true, false, List, [], ◌∷◌, map, length, get_or, set, refl, sym, ap, ◌∙◌, subst, inl, inr, arith}
use Rattle.std.specs.List.{All}
use Rattle.std.proofs.lemmas.Bool.{cases_eq}
use Rattle.std.proofs.lemmas.List.{get_or-set_same, get_or-set_other}
use Rattle.std.proofs.lemmas.List.Elements.{All-cons, All-nil, All-head, All-tail}
use Rattle.aig_semantics.specs.Literals.{variable_of, variable_in, literal_in}
use Rattle.aig_semantics.specs.Circuits.{Circuit}
use Rattle.aig_semantics.specs.Valuations.{valuation}
use Rattle.ternary.specs.declared.values.Value3.{Value3}
use Rattle.ternary.specs.declared.values.Value3.TheVariants.{Zero, One, X}
use Rattle.ternary.specs.Values.{known, variable3_in, literal3_in, IsCompletion}
use Rattle.ternary.specs.Simulation.{simulation}
use Rattle.ternary.specs.Lifting.{AreOne, SomeIsX, IsLiftedTo, hide, forgotten}
use Rattle.ternary.proofs.Words.{two_bits}
use Rattle.ternary.proofs.Ahead.{length-forgotten}
use Rattle.std.specs.Int.{bit_at}
use Rattle.ternary.proofs.Refined.{MayBecome, MayAllBecome, literal3-becomes, simulation-becomes, simulation-known, known-literal, completion-becomes, becomes-completion}

-- ---- lists of values that may become others

pub becomes-refl : (xs : List Value3) → MayAllBecome xs xs
becomes-refl [] = tt
becomes-refl (x ∷ xs) = (inr refl, becomes-refl xs)

pub becomes-forgets : (xs ys : List Value3) (i : ℕ) → MayAllBecome xs ys → MayAllBecome (set xs i X) ys
becomes-forgets [] [] i h = tt
becomes-forgets [] (y ∷ ys) i h = absurd h
becomes-forgets (x ∷ xs) [] i h = absurd h
becomes-forgets (x ∷ xs) (y ∷ ys) zero h = (inl refl, h.1)
becomes-forgets (x ∷ xs) (y ∷ ys) (suc i) h = (h.0, becomes-forgets xs ys i h.1)

pub becomes-forgets_both : (xs ys : List Value3) (i : ℕ) → MayAllBecome xs ys → MayAllBecome (set xs i X) (set ys i X)
becomes-forgets_both [] [] i h = tt
becomes-forgets_both [] (y ∷ ys) i h = absurd h
becomes-forgets_both (x ∷ xs) [] i h = absurd h
becomes-forgets_both (x ∷ xs) (y ∷ ys) zero h = (inl refl, h.1)
becomes-forgets_both (x ∷ xs) (y ∷ ys) (suc i) h = (h.0, becomes-forgets_both xs ys i h.1)

becomes-at : (xs ys : List Value3) → MayAllBecome xs ys → (v : ℕ) → MayBecome (get_or xs v Zero) (get_or ys v Zero)
becomes-at [] [] h v = inr refl
becomes-at [] (y ∷ ys) h v = absurd h
becomes-at (x ∷ xs) [] h v = absurd h
becomes-at (x ∷ xs) (y ∷ ys) h zero = h.0
becomes-at (x ∷ xs) (y ∷ ys) h (suc v) = becomes-at xs ys h.1 v

pub becomes-literal : (xs ys : List Value3) → MayAllBecome xs ys → (literal : ℕ) → MayBecome (literal3_in xs literal) (literal3_in ys literal)
becomes-literal xs ys h literal = literal3-becomes (variable3_in xs) (variable3_in ys) literal (becomes-at xs ys h (variable_of literal))

known-at : (bs : List Bool) (v : ℕ) → get_or (map known bs) v Zero ≡ known (get_or bs v false)
known-at [] v = refl
known-at (b ∷ bs) zero = refl
known-at (b ∷ bs) (suc v) = known-at bs v

pub known-literal_in : (bs : List Bool) (literal : ℕ) → literal3_in (map known bs) literal ≡ known (literal_in bs literal)
known-literal_in bs literal = known-literal (variable3_in (map known bs)) (variable_in bs) literal (known-at bs (variable_of literal))

pub known-completes : (bs : List Bool) → IsCompletion (map known bs) bs
known-completes [] = tt
known-completes (b ∷ bs) = (inr refl, known-completes bs)

-- ---- literals that are X stay so

some-stays : (xs ys : List Value3) (keep : List ℕ) → MayAllBecome xs ys → SomeIsX ys keep → SomeIsX xs keep
some-stays xs ys keep h (k, literal, below, at, e) = (
  k,
  literal,
  below,
  at,
  elim (becomes-literal xs ys h literal) [
    | inl x ↦ x
    | inr same ↦ same ∙ e
  ],
)

some-there : (values : List Value3) (literal : ℕ) (keep : List ℕ) → SomeIsX values keep → SomeIsX values (literal ∷ keep)
some-there values literal keep (k, x, below, at, e) = (suc k, x, omega arith, at, e)

-- where each literal is X or 1 and not all are 1, one is X
open-from_not : (values : List Value3) (keep : List ℕ) → All (λ literal. (literal3_in values literal ≡ X) ⊎ (literal3_in values literal ≡ One)) keep → (AreOne values keep → ⊥) → SomeIsX values keep
open-from_not values [] h none = absurd (none (All-nil (λ literal. literal3_in values literal ≡ One)))
open-from_not values (literal ∷ keep) h none =
    elim (All-head (λ l. (literal3_in values l ≡ X) ⊎ (literal3_in values l ≡ One)) literal keep h) [
      | inl x ↦ (0, literal, omega arith, refl, x)
      | inr one ↦
          some-there values literal keep
          (open-from_not values keep (All-tail (λ l. (literal3_in values l ≡ X) ⊎ (literal3_in values l ≡ One)) literal keep h)
          (λ all. none (All-cons (λ l. literal3_in values l ≡ One) literal keep one all)))
    ]

-- ---- the steps

module _ (c : Circuit) (latches inputs : List Bool) (keep : List ℕ) where
  abbrev sim : List Value3 → List Value3
  sim state = simulation c state (map known inputs)

  literal-known : (literal : ℕ) → literal3_in (sim (map known latches)) literal ≡ known (literal_in (valuation c latches inputs) literal)
  literal-known literal =
      ap (λ xs. literal3_in xs literal) (simulation-known c latches inputs)
      ∙ known-literal_in (valuation c latches inputs) literal

  abbrev AllTrue : Type 0
  AllTrue = All (λ literal. literal_in (valuation c latches inputs) literal ≡ true) keep

  all-one : AllTrue → AreOne (sim (map known latches)) keep
  all-one h = λ k d below. literal-known (get_or keep k d) ∙ ap known (h k d below)

  sim-becomes : (state after : List Value3) → MayAllBecome state after → MayAllBecome (sim state) (sim after)
  sim-becomes state after h = simulation-becomes c state (map known inputs) after (map known inputs) h (becomes-refl (map known inputs))

  open-or_one : AllTrue → (state : List Value3) → IsCompletion state latches → All (λ literal. (literal3_in (sim state) literal ≡ X) ⊎ (literal3_in (sim state) literal ≡ One)) keep
  open-or_one h state tells =
      λ k d below.
      elim (becomes-literal (sim state) (sim (map known latches)) (sim-becomes state (map known latches) (completion-becomes state latches tells)) (get_or keep k d)) [
        | inl x ↦ inl x
        | inr same ↦ inr (same ∙ all-one h k d below)
      ]

  pub lifted-start : AllTrue → IsLiftedTo c latches inputs keep 0 (map known latches)
  lifted-start h = record {
    tells = known-completes latches;
    keeps = all-one h;
    tight = λ j below. absurd (omega arith);
  }

  forgets-completion : (state : List Value3) (i : ℕ) → IsCompletion state latches → IsCompletion (set state i X) latches
  forgets-completion state i h = becomes-completion (set state i X) latches (becomes-forgets state (map known latches) i (completion-becomes state latches h))

  -- what is needed stays needed where more is forgotten
  needed-stays : (state : List Value3) (i j : ℕ) → SomeIsX (sim (set state j X)) keep → SomeIsX (sim (set (set state i X) j X)) keep
  needed-stays state i j h =
      some-stays (sim (set (set state i X) j X)) (sim (set state j X)) keep
      (sim-becomes (set (set state i X) j X) (set state j X)
      (becomes-forgets_both (set state i X) state j (becomes-forgets state state i (becomes-refl state))))
      h

  lifted-forgotten : (state : List Value3) (i : ℕ) → i < length state → IsLiftedTo c latches inputs keep i state → AreOne (sim (set state i X)) keep → IsLiftedTo c latches inputs keep (i + 1) (set state i X)
  lifted-forgotten state i inside h all = record {
    tells = forgets-completion state i h.tells;
    keeps = all;
    tight =
        λ j below ne.
        elim (cases_eq j i) [
          | inl e ↦ absurd (ne (ap (λ n. get_or (set state i X) n X) e ∙ get_or-set_same state i X X inside))
          | inr other ↦
              needed-stays state i j
              (h.tight j (below_other i j below other) (λ x. ne (get_or-set_other state i j X X other ∙ x)))
        ];
  }
    where
      below_other : (i j : ℕ) → j < i + 1 → j ≢ i → j < i
      below_other i j below ne = omega arith

  lifted-kept : AllTrue → (state : List Value3) (i : ℕ) → IsLiftedTo c latches inputs keep i state → (AreOne (sim (set state i X)) keep → ⊥) → IsLiftedTo c latches inputs keep (i + 1) state
  lifted-kept true_there state i h none = record {
    tells = h.tells;
    keeps = h.keeps;
    tight =
        λ j below ne.
        elim (cases_eq j i) [
          | inl e ↦
              subst (λ n. SomeIsX (sim (set state n X)) keep) (sym e)
              (open-from_not (sim (set state i X)) keep (open-or_one true_there (set state i X) (forgets-completion state i h.tells)) none)
          | inr other ↦ h.tight j (below_other i j below other) ne
        ];
  }
    where
      below_other : (i j : ℕ) → j < i + 1 → j ≢ i → j < i
      below_other i j below ne = omega arith

  -- where it is not so that all are 1, it is not so where more is known no better
  one-before : (state after : List Value3) → MayAllBecome state after → AreOne (sim state) keep → AreOne (sim after) keep
  one-before state after h all =
      λ k d below.
      elim (becomes-literal (sim state) (sim after) (sim-becomes state after h) (get_or keep k d)) [
        | inl x ↦ absurd (apart (sym (all k d below) ∙ x))
        | inr same ↦ sym same ∙ all k d below
      ]
    where
      apart : One ≡ X → ⊥
      apart e = cc

  kept-still : (state after : List Value3) (i : ℕ) → MayAllBecome state after → (AreOne (sim (set after i X)) keep → ⊥) → AreOne (sim (set state i X)) keep → ⊥
  kept-still state after i h none all = none (one-before (set state i X) (set after i X) (becomes-forgets_both state after i h) all)

  hide-becomes : (b v : ℕ) (state after : List Value3) → MayAllBecome state after → MayAllBecome (hide b v state) after
  hide-becomes zero v state after h = h
  hide-becomes (suc b) v state after h = becomes-forgets state after v h

  pub forgotten-becomes : (word n i : ℕ) (state : List Value3) → MayAllBecome (forgotten word n i state) state
  forgotten-becomes word zero i state = becomes-refl state
  forgotten-becomes word (suc n) i state = hide-becomes (bit_at word n) (i + n) (forgotten word n i state) state (forgotten-becomes word n i state)

  -- of a word whose zeros are latches that are needed alone, as many are forgotten as lanes go through
  pub lifted-ahead : AllTrue → (state : List Value3) (word i n : ℕ) → n ≤ 64 → i + n ≤ length state → IsLiftedTo c latches inputs keep i state → ((k : ℕ) → k < 64 → bit_at word k ≡ 0 → AreOne (sim (set state (i + k) X)) keep → ⊥) → ((k : ℕ) → k < n → AreOne (sim (forgotten word (k + 1) i state)) keep) → IsLiftedTo c latches inputs keep (i + n) (forgotten word n i state)
  lifted-ahead true_there state word i zero most inside h alone ahead = subst (λ m. IsLiftedTo c latches inputs keep m state) (same i) h
    where
      same : (i : ℕ) → i ≡ i + 0
      same i = omega arith
  lifted-ahead true_there state word i (suc n) most inside h alone ahead =
      let before = lifted-ahead true_there state word i n (omega arith) (omega arith) h alone (λ k below. ahead k (omega arith)) in
      let now : List Value3 = forgotten word n i state in
      let room : i + n < length now = omega (arith, length-forgotten word n i state) in
      subst (λ m. IsLiftedTo c latches inputs keep m (hide (bit_at word n) (i + n) now)) (more i n)
      (step (bit_at word n) now (i + n) (two_bits word n) room before
      (λ bit. kept-still now state (i + n) (forgotten-becomes word n i state) (alone n (omega arith) bit))
      (subst (λ m. AreOne (sim (forgotten word m i state)) keep) (one_more n) (ahead n (omega arith))))
    where
      more : (i n : ℕ) → i + n + 1 ≡ i + suc n
      more i n = omega arith

      one_more : (n : ℕ) → n + 1 ≡ suc n
      one_more n = omega arith

      step : (b : ℕ) (now : List Value3) (j : ℕ) → (b ≡ 0) ⊎ (b ≡ 1) → j < length now → IsLiftedTo c latches inputs keep j now → (b ≡ 0 → AreOne (sim (set now j X)) keep → ⊥) → AreOne (sim (hide b j now)) keep → IsLiftedTo c latches inputs keep (j + 1) (hide b j now)
      step b now j (inl e) room before none all =
          subst (λ m. IsLiftedTo c latches inputs keep (j + 1) (hide m j now)) (sym e) (lifted-kept true_there now j before (none e))
      step b now j (inr e) room before none all =
          subst (λ m. IsLiftedTo c latches inputs keep (j + 1) (hide m j now)) (sym e)
          (lifted-forgotten now j room before (subst (λ m. AreOne (sim (hide m j now)) keep) e all))

  -- and the next latch is needed where its lane does not go through
  pub lifted-behind : AllTrue → (state : List Value3) (word i n : ℕ) → n < 64 → IsLiftedTo c latches inputs keep (i + n) (forgotten word n i state) → ((k : ℕ) → k < 64 → bit_at word k ≡ 0 → AreOne (sim (set state (i + k) X)) keep → ⊥) → (AreOne (sim (forgotten word (n + 1) i state)) keep → ⊥) → IsLiftedTo c latches inputs keep (i + n + 1) (forgotten word n i state)
  lifted-behind true_there state word i n most h alone fails =
      lifted-kept true_there (forgotten word n i state) (i + n) h
      (needed (bit_at word n) (two_bits word n)
      (λ bit. kept-still (forgotten word n i state) state (i + n) (forgotten-becomes word n i state) (alone n most bit))
      (λ all. fails (subst (λ m. AreOne (sim (forgotten word m i state)) keep) (one_more n) all)))
    where
      one_more : (n : ℕ) → suc n ≡ n + 1
      one_more n = omega arith

      needed : (b : ℕ) → (b ≡ 0) ⊎ (b ≡ 1) → (b ≡ 0 → AreOne (sim (set (forgotten word n i state) (i + n) X)) keep → ⊥) → (AreOne (sim (hide b (i + n) (forgotten word n i state))) keep → ⊥) → AreOne (sim (set (forgotten word n i state) (i + n) X)) keep → ⊥
      needed b (inl e) low high = low e
      needed b (inr e) low high = λ all. high (subst (λ m. AreOne (sim (hide m (i + n) (forgotten word n i state))) keep) (sym e) all)

-- ---- what lanes tell

pub pass-tells : (c : Circuit) (ahead after inputs known_inputs : List Value3) (keep : List ℕ) (bit : ℕ) → ahead ≡ after → inputs ≡ known_inputs → (bit ≡ 1) ↔ AreOne (simulation c ahead inputs) keep → (bit ≡ 1) ↔ AreOne (simulation c after known_inputs) keep
pass-tells c ahead after inputs known_inputs keep bit e f h =
    subst (λ xs. (bit ≡ 1) ↔ AreOne (simulation c after xs) keep) f (subst (λ xs. (bit ≡ 1) ↔ AreOne (simulation c xs inputs) keep) e h)

pub clash : (b : ℕ) → b ≡ 0 → b ≡ 1 → ⊥
clash b e f = omega arith
