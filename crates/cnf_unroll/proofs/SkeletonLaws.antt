-- Where the skeleton clauses are satisfiable.
use Rattle.std.proofs.Common.{◌≡◌, ℕ, zero, suc, ◌+◌, ◌-◌, ◌<◌, ◌≤◌, ◌⊎◌, max, Bool, true, false, ◌||◌, List, [], ◌∷◌, ◌++◌, map, length, slice_index_or, get_or, refl, sym, ap, subst, ◌∙◌, inl, inr, arith}
use Rattle.std.specs.List.{All, AllByRecursion, flat_map}
use Rattle.std.proofs.lemmas.Bool.{and_parts, and_from, cases_lt}
use Rattle.std.proofs.lemmas.List.Elements.{All-from_recursion, recursion_from_All}
use Rattle.aig_semantics.specs.Literals.{variable_of}
use Rattle.aig_semantics.specs.Circuits.{Circuit, IsChecked, fair_literals}
use Rattle.aig_semantics.proofs.Lists.{All-left, All-right}
use Rattle.aig_semantics.specs.Valuations.{HasOneValuation}
use Rattle.proof_semantics.specs.Clauses.{literal_value, clauses_value}
use Rattle.fair_semantics.specs.declared.skeletons.Situation.{Situation}
use Rattle.fair_semantics.specs.declared.skeletons.Skeleton.{Skeleton}
use Rattle.fair_semantics.specs.Skeletons.{IsSituation, IsSkeleton, AreTrueInTurn, states_of, places}
use Rattle.fair_semantics.specs.Entries.{Numbered}
use Rattle.fair_semantics.specs.Allowing.{allow}
use Rattle.cnf_unroll.specs.Numbers.{block_size, literal_in_block, state_place, successor_place}
use Rattle.cnf_unroll.specs.Blocks.{block_clauses}
use Rattle.cnf_unroll.specs.Uses.{free_from, uses_clauses}
use Rattle.cnf_unroll.specs.Obligations.{blocks_clauses, blocks_places, literals_clauses, after_blocks, skeleton_clauses}
use Rattle.cnf_unroll.specs.Situations.{situations_in}
use Rattle.cnf_unroll.specs.Laws.{IsSatisfiable, AreReadable}
use Rattle.cnf_unroll.proofs.Truth.{both, together}
use Rattle.cnf_unroll.proofs.UseLaws.{states_at, read_uses}
use Rattle.cnf_unroll.proofs.UseWriting.{nothing, written}
use Rattle.cnf_unroll.proofs.BlockReading.{IsRead, nexts, sides_of, of_justice, block_read, literal_is}
use Rattle.cnf_unroll.proofs.BlockWriting.{Shows, block_value, block_shown, block_true, literal_shown, shown_latches}
use Rattle.cnf_unroll.proofs.ObligationLaws.{state_length, successor_length, state_below, successor_below}

-- the latches of the first situation
abbrev pub first_latches : List Situation → List Bool
first_latches situations = slice_index_or (map (λ s. s.position.latches) situations) 0 []

or_false : (a : Bool) → (a || false) ≡ true → a ≡ true
or_false true h = refl
or_false false h = h

unit_true : (a : Bool) → a ≡ true → (a || false) ≡ true
unit_true true e = refl
unit_true false e = e

-- ---- the literals of a property are read

property_read : (P : ℕ → Type 0) (justice : List (List ℕ)) (j : ℕ) → All P (flat_map (λ property. property) justice) → AllByRecursion P (get_or justice j [])
property_read P [] j h = tt
property_read P (property ∷ justice) zero h = recursion_from_All P property (All-left P property (flat_map (λ x. x) justice) h)
property_read P (property ∷ justice) (suc j) h = property_read P justice j (All-right P property (flat_map (λ x. x) justice) h)

all_together : (P : ℕ → Type 0) (xs ys : List ℕ) → AllByRecursion P xs → AllByRecursion P ys → AllByRecursion P (xs ++ ys)
all_together P [] ys h g = g
all_together P (x ∷ xs) ys h g = (h.0, all_together P xs ys h.1 g)

fair_read : (c : Circuit) → IsChecked c → (j : ℕ) → AllByRecursion (λ l. IsRead c (variable_of l)) (fair_literals c j)
fair_read c checked j =
    let P = λ (l : ℕ). IsRead c (variable_of l) in
    let before = nexts c ++ sides_of c ++ c.constraints in
    all_together P (get_or c.justice j []) c.fairness
    (property_read P c.justice j (All-right P before (of_justice c) (All-left P (before ++ of_justice c) c.fairness checked.used_defined)))
    (recursion_from_All P c.fairness (All-right P (before ++ of_justice c) c.fairness checked.used_defined))

-- ---- the places of blocks

blocks_long : (c : Circuit) (base n : ℕ) → AllByRecursion (λ p. length p ≡ length c.latches) (blocks_places c base n)
blocks_long c base zero = tt
blocks_long c base (suc n) = (state_length c base, (successor_length c base, blocks_long c (base + block_size c) n))

after_above : (c : Circuit) (base n : ℕ) → base ≤ after_blocks c base n
after_above c base zero = omega arith
after_above c base (suc n) = let h = after_above c (base + block_size c) n in omega arith

blocks_below : (c : Circuit) → IsChecked c → (base n free : ℕ) → after_blocks c base n < free → AllByRecursion (λ p. AllByRecursion (λ k. k < free) p) (blocks_places c base n)
blocks_below c checked base zero free room = tt
blocks_below c checked base (suc n) free room =
    let h = after_above c (base + block_size c) n in
    (state_below c checked base free (omega arith), (successor_below c checked base free (omega arith), blocks_below c checked (base + block_size c) n free room))

-- ---- reading

situations_count : (c : Circuit) (base n : ℕ) (v : ℕ → Bool) → length (situations_in c base n v) ≡ n
situations_count c base zero v = refl
situations_count c base (suc n) v = ap suc (situations_count c (base + block_size c) n v)

situations_read : (c : Circuit) → IsChecked c → HasOneValuation c → (base n : ℕ) (v : ℕ → Bool) → clauses_value v (blocks_clauses c base n) ≡ true → AllByRecursion (IsSituation c) (situations_in c base n v)
situations_read c checked law base zero v h = tt
situations_read c checked law base (suc n) v h =
    let parts = both v (block_clauses c base) (blocks_clauses c (base + block_size c) n) h in
    (block_read c checked law base v parts.0, situations_read c checked law (base + block_size c) n v parts.1)

states_read : (c : Circuit) (base n : ℕ) (v : ℕ → Bool) → states_at v (blocks_places c base n) ≡ states_of (situations_in c base n v)
states_read c base zero v = refl
states_read c base (suc n) v = ap (λ ss. map v (state_place c base) ∷ map v (successor_place c base) ∷ ss) (states_read c (base + block_size c) n v)

literals_read : (c : Circuit) → IsChecked c → HasOneValuation c → (base n : ℕ) (v : ℕ → Bool) (ls : List ℕ) → length ls ≤ n → AllByRecursion (λ l. IsRead c (variable_of l)) ls → clauses_value v (blocks_clauses c base n) ≡ true → clauses_value v (literals_clauses c base ls) ≡ true → AreTrueInTurn c ls (situations_in c base n v)
literals_read c checked law base n v [] few read h g = tt
literals_read c checked law base zero v (l ∷ ls) few read h g = absurd (omega arith)
literals_read c checked law base (suc n) v (l ∷ ls) few read h g =
    let parts = both v (block_clauses c base) (blocks_clauses c (base + block_size c) n) h in
    let true_here = and_parts (literal_value v (literal_in_block base l) || false) (clauses_value v (literals_clauses c (base + block_size c) ls)) g in (
      literal_is c checked law base v parts.0 l read.0 ∙ or_false (literal_value v (literal_in_block base l)) true_here.0,
      literals_read c checked law (base + block_size c) n v ls (omega arith) read.1 parts.1 true_here.1,
    )

-- ---- writing

-- each block shows its situation
AllShown : Circuit → ℕ → List Situation → (ℕ → Bool) → Type 0
AllShown c base [] v = Unit {0}
AllShown c base (s ∷ ss) v = Shows c base s v × AllShown c (base + block_size c) ss v

run_at : (k d : ℕ) → (k < d) ⊎ (d ≤ k) → Bool → Bool → Bool
run_at k d (inl below) first rest = first
run_at k d (inr above) first rest = rest

-- an assignment of blocks
run_value : Circuit → ℕ → List Situation → ℕ → Bool
run_value c base [] k = false
run_value c base (s ∷ ss) k = run_at k (base + block_size c + 1) (cases_lt k (base + block_size c + 1)) (block_value c base s k) (run_value c (base + block_size c) ss k)

run_at-below : (k d : ℕ) (x : (k < d) ⊎ (d ≤ k)) (first rest : Bool) → k < d → run_at k d x first rest ≡ first
unfolding run_at
run_at-below k d (inl below) first rest h = refl
run_at-below k d (inr above) first rest h = absurd (omega arith)

run_at-above : (k d : ℕ) (x : (k < d) ⊎ (d ≤ k)) (first rest : Bool) → d ≤ k → run_at k d x first rest ≡ rest
unfolding run_at
run_at-above k d (inl below) first rest h = absurd (omega arith)
run_at-above k d (inr above) first rest h = refl

run_shown : (c : Circuit) → IsChecked c → (base : ℕ) (ss : List Situation) (v : ℕ → Bool) → AllByRecursion (IsSituation c) ss → ((k : ℕ) → base + 1 ≤ k → k < after_blocks c base (length ss) + 1 → v k ≡ run_value c base ss k) → AllShown c base ss v
unfolding AllShown run_value
run_shown c checked base [] v are same = tt
run_shown c checked base (s ∷ ss) v are same =
    let d = base + block_size c + 1 in
    let more = after_above c (base + block_size c) (length ss) in (
      block_shown c checked base s are.0 v
          (λ k low high.
          same k low (omega arith)
          ∙ run_at-below k (base + block_size c + 1) (cases_lt k (base + block_size c + 1)) (block_value c base s k) (run_value c (base + block_size c) ss k) high),
      run_shown c checked (base + block_size c) ss v are.1
          (λ k low high.
          same k (omega arith) high
          ∙ run_at-above k (base + block_size c + 1) (cases_lt k (base + block_size c + 1)) (block_value c base s k) (run_value c (base + block_size c) ss k) low),
    )

module _ (c : Circuit) (checked : IsChecked c) (law : HasOneValuation c) (v : ℕ → Bool) where
  blocks_true : (base : ℕ) (ss : List Situation) → AllByRecursion (IsSituation c) ss → AllShown c base ss v → clauses_value v (blocks_clauses c base (length ss)) ≡ true
  unfolding AllShown
  blocks_true base [] are shown = refl
  blocks_true base (s ∷ ss) are shown =
      together v (block_clauses c base) (blocks_clauses c (base + block_size c) (length ss))
      (block_true c checked law base s are.0 v shown.0) (blocks_true (base + block_size c) ss are.1 shown.1)

  states_shown : (base : ℕ) (ss : List Situation) → AllByRecursion (IsSituation c) ss → AllShown c base ss v → states_at v (blocks_places c base (length ss)) ≡ states_of ss
  unfolding AllShown
  states_shown base [] are shown = refl
  states_shown base (s ∷ ss) are shown =
      ap (λ x. x ∷ map v (successor_place c base) ∷ states_at v (blocks_places c (base + block_size c) (length ss))) (shown_latches c checked law base s are.0 v shown.0)
      ∙ ap (λ x. s.position.latches ∷ x ∷ states_at v (blocks_places c (base + block_size c) (length ss))) shown.0.next
      ∙ ap (λ xs. s.position.latches ∷ s.successor ∷ xs) (states_shown (base + block_size c) ss are.1 shown.1)

  literals_true : (base : ℕ) (ls : List ℕ) (ss : List Situation) → AllByRecursion (λ l. IsRead c (variable_of l)) ls → AllByRecursion (IsSituation c) ss → AllShown c base ss v → AreTrueInTurn c ls ss → clauses_value v (literals_clauses c base ls) ≡ true
  unfolding AllShown
  literals_true base [] ss read are shown fair = refl
  literals_true base (l ∷ ls) [] read are shown fair = absurd fair
  literals_true base (l ∷ ls) (s ∷ ss) read are shown fair =
      and_from _ _
      (unit_true (literal_value v (literal_in_block base l)) (literal_shown c checked law base s are.0 v shown.0 l read.0 ∙ fair.0))
      (literals_true (base + block_size c) ls ss read.1 are.1 shown.1 fair.1)

  first_shown : (ss : List Situation) → AllByRecursion (IsSituation c) ss → AllShown c 0 ss v → 1 ≤ length ss → map v (state_place c 0) ≡ first_latches ss
  unfolding AllShown
  first_shown [] are shown some = absurd (omega arith)
  first_shown (s ∷ ss) are shown some = shown_latches c checked law 0 s are.0 v shown.0

-- the uses over some blocks, of which there is one
uses_over : (c : Circuit) → IsChecked c → (us : List Numbered) → AreReadable (length c.latches) [] [] us → (v : ℕ → Bool) (n m : ℕ) → n ≡ suc m → allow us (states_at v (blocks_places c 0 n)) ≡ true → (w : ℕ → Bool) × ((k : ℕ) → k < after_blocks c 0 n + 1 → w k ≡ v k) × (clauses_value w (uses_clauses (blocks_places c 0 n) (free_from (after_blocks c 0 n + 1)) us) ≡ true)
uses_over c checked us readable v n m e allowed =
    let Goal : ℕ → Type 0 = λ n. allow us (states_at v (blocks_places c 0 n)) ≡ true → (w : ℕ → Bool) × ((k : ℕ) → k < after_blocks c 0 n + 1 → w k ≡ v k) × (clauses_value w (uses_clauses (blocks_places c 0 n) (free_from (after_blocks c 0 n + 1)) us) ≡ true) in
    let here : Goal (suc m) =
    λ allowed.
    let w = written (length c.latches) us v (after_blocks c 0 (suc m) + 1) (state_place c 0) (successor_place c 0 ∷ blocks_places c (0 + block_size c) m) readable
    (blocks_long c 0 (suc m)) (blocks_below c checked 0 (suc m) (after_blocks c 0 (suc m) + 1) (omega arith)) allowed in
    (w.value, w.keeps, w.uses.holds)
    in
    subst Goal (sym e) here allowed

-- what an assignment of the skeleton clauses gives the blocks
pub record ReadSkeleton (c : Circuit) (j : ℕ) (us : List Numbered) (situations : List Situation) : Type 0 where
  pub skeleton : IsSkeleton c j (record { situations = situations })
  pub allowed : allow us (states_of situations) ≡ true

-- an assignment of them that gives the first block a skeleton's first state
pub record WrittenSkeleton (c : Circuit) (j : ℕ) (us : List Numbered) (skeleton : Skeleton) : Type 0 where
  pub value : ℕ → Bool
  pub holds : clauses_value value (skeleton_clauses c j us) ≡ true
  pub begins : map value (state_place c 0) ≡ first_latches skeleton.situations

module _ (c : Circuit) (checked : IsChecked c) (law : HasOneValuation c) (us : List Numbered) (j : ℕ) (readable : AreReadable (length c.latches) [] [] us) where
  abbrev literals : List ℕ
  literals = fair_literals c j

  abbrev count : ℕ
  count = max 1 (length (fair_literals c j))

  pub skeleton_of_model : j < length c.justice → (v : ℕ → Bool) → clauses_value v (skeleton_clauses c j us) ≡ true → ReadSkeleton c j us (situations_in c 0 count v)
  skeleton_of_model inside v h =
      let uses = uses_clauses (blocks_places c 0 count) (free_from (after_blocks c 0 count + 1)) us in
      let last = both v (blocks_clauses c 0 count ++ literals_clauses c 0 literals) uses h in
      let first = both v (blocks_clauses c 0 count) (literals_clauses c 0 literals) last.0 in
      let read = read_uses v (length c.latches) (λ n s. false) (free_from (after_blocks c 0 count + 1)) [] [] (blocks_places c 0 count) us readable (blocks_long c 0 count) (nothing v (blocks_places c 0 count)) last.1 in
      record {
        skeleton = record {
          property = inside;
          size = situations_count c 0 count v;
          situations = All-from_recursion (IsSituation c) (situations_in c 0 count v) (situations_read c checked law 0 count v first.0);
          fair = literals_read c checked law 0 count v literals (omega arith) (fair_read c checked j) first.0 first.1;
        };
        allowed = sym (ap (λ ss. allow us ss) (states_read c 0 count v)) ∙ read.allowed;
      }

  pub model_of_skeleton : (skeleton : Skeleton) → IsSkeleton c j skeleton → allow us (places skeleton) ≡ true → WrittenSkeleton c j us skeleton
  model_of_skeleton skeleton is allowed =
      let ss = skeleton.situations in
      let are = recursion_from_All (IsSituation c) skeleton.situations is.situations in
      let v : ℕ → Bool = run_value c 0 skeleton.situations in
      let shown = run_shown c checked 0 skeleton.situations v are (λ k low high. refl) in
      let more : length skeleton.situations ≡ suc (length skeleton.situations - 1) = omega (arith, is.size) in
      let w = uses_over c checked us readable v (length skeleton.situations) (length skeleton.situations - 1) more (ap (λ xs. allow us xs) (states_shown c checked law v 0 skeleton.situations are shown) ∙ allowed) in
      let kept = run_shown c checked 0 skeleton.situations w.0 are (λ k low high. w.1 k high) in
      let Goal : ℕ → Type 0 = λ n. clauses_value w.0 (blocks_clauses c 0 n ++ literals_clauses c 0 (fair_literals c j) ++ uses_clauses (blocks_places c 0 n) (free_from (after_blocks c 0 n + 1)) us) ≡ true in
      let here : Goal (length skeleton.situations) =
      together w.0 (blocks_clauses c 0 (length skeleton.situations) ++ literals_clauses c 0 (fair_literals c j)) (uses_clauses (blocks_places c 0 (length skeleton.situations)) (free_from (after_blocks c 0 (length skeleton.situations) + 1)) us)
      (together w.0 (blocks_clauses c 0 (length skeleton.situations)) (literals_clauses c 0 (fair_literals c j))
      (blocks_true c checked law w.0 0 skeleton.situations are kept)
      (literals_true c checked law w.0 0 (fair_literals c j) skeleton.situations (fair_read c checked j) are kept is.fair))
      w.2
      in
      record {
        value = w.0;
        holds = subst Goal is.size here;
        begins = first_shown c checked law w.0 skeleton.situations are kept (omega arith);
      }

  pub skeleton_read : j < length c.justice → IsSatisfiable (skeleton_clauses c j us) → (skeleton : Skeleton) × IsSkeleton c j skeleton × (allow us (places skeleton) ≡ true)
  skeleton_read inside (v, h) =
      let read = skeleton_of_model inside v h in
      (record { situations = situations_in c 0 count v }, read.skeleton, read.allowed)

  pub skeleton_written : (skeleton : Skeleton) × IsSkeleton c j skeleton × (allow us (places skeleton) ≡ true) → IsSatisfiable (skeleton_clauses c j us)
  skeleton_written (skeleton, is, allowed) =
      let w = model_of_skeleton skeleton is allowed in
      (w.value, w.holds)
