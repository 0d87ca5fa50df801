-- What the new gates come to, over any values that meet their equations.
use Rattle.std.proofs.Common.{◌≡◌, ℕ, zero, suc, ◌+◌, ◌-◌, ◌*◌, ◌≤◌, Bool, true, false, not, cond, ◌&&◌, ◌||◌, List, [], ◌∷◌, ◌++◌, length, replicate, refl, sym, ap, ◌∙◌, subst, arith}
use Rattle.std.specs.List.{All, list_all}
use Rattle.std.proofs.lemmas.List.Elements.{All-head, All-tail}
use Rattle.aig_semantics.specs.declared.parts.Gate.{Gate}
use Rattle.aig_semantics.specs.Literals.{literal_by, variable_in}
use Rattle.aig_semantics.specs.Valuations.{conjunction}
use Rattle.aig_semantics.proofs.Lists.{All-left, All-right}
use Rattle.circuit.specs.Following.{seen_with}
use Rattle.circuit.specs.RoundsAlong.{ends_with, seen_next}
use Rattle.live_to_safe.specs.Numbers.{negation}
use Rattle.live_to_safe.specs.Watching.{numbered, for_each}
use Rattle.live_to_safe.proofs.Lists.{cons-same}
use Rattle.live_to_safe.proofs.Valued.{not_not, both_same, positive-value, negative-value, negation-value, gate-by, chain-is}
use Rattle.round_monitor.specs.declared.sizes.Sizes.{Sizes}
use Rattle.round_monitor.specs.Numbers.{seen, counter, missing, ending, seen_gate, counter_gate}
use Rattle.round_monitor.specs.Watching.{each_of, missing_gate, all_gates, all_literal, none_missing, round_ends, next_seen_gate, later_counter_gates, counter_gates, new_gates}

-- ---- what gates come to

neither : (s l : Bool) → not (not s && not l) ≡ (s || l)
neither true l = refl
neither false l = not_not l

neither_both : (x b e : Bool) → not (not x && not (b && e)) ≡ (x || (b && e))
neither_both x b e = neither x (b && e)

-- the counters behind a position, from those at it: each stays, or is raised behind the one before
abbrev pub raised : Bool → Bool → List Bool → List Bool
raised ends before [] = []
raised ends before (x ∷ xs) = (x || (before && ends)) ∷ raised ends x xs

module _ (V : List Bool) (zero-is : variable_in V 0 ≡ false) (z : Sizes) where
  abbrev value : ℕ → Bool
  value v = variable_in V v

  abbrev Meets : Gate → Type 0
  Meets gate = value gate.var ≡ conjunction value gate

  abbrev pub seen_values : ℕ → ℕ → List Bool
  seen_values k n = numbered (λ m. value (seen z m)) k n

  abbrev pub counter_values : ℕ → ℕ → List Bool
  counter_values k n = numbered (λ i. value (counter z i)) k n

  -- ---- what is missing

  seen-now : (k : ℕ) (literals : List ℕ) → All Meets (for_each (missing_gate z) k literals)
      → numbered (λ m. not (value (missing z m))) k (length literals) ≡ seen_with V literals (seen_values k (length literals))
  seen-now k [] all = refl
  seen-now k (literal ∷ literals) all =
      let gate : Gate = record { var = missing z k; rhs0 = 2 * seen z k + 1; rhs1 = negation literal } in
      let s : Bool = value (seen z k) in
      let l : Bool = literal_by value literal in
      let here : value (missing z k) ≡ (not s && not l) =
      gate-by value (missing z k) (2 * seen z k + 1) (negation literal) (not s) (not l) (All-head Meets gate (for_each (missing_gate z) (k + 1) literals) all)
      (negative-value value (seen z k)) (negation-value value literal)
      in
      cons-same (not (value (missing z k))) (s || l) (numbered (λ m. not (value (missing z m))) (k + 1) (length literals)) (seen_with V literals (seen_values (k + 1) (length literals)))
      (ap not here ∙ neither s l)
      (seen-now (k + 1) literals (All-tail Meets gate (for_each (missing_gate z) (k + 1) literals) all))

  -- ---- the chain

  all-is : (v : ℕ) (literals : List ℕ) → All Meets (all_gates v literals) → literal_by value (all_literal v literals) ≡ list_all (literal_by value) literals
  all-is v [] all = negative-value value 0 ∙ ap not zero-is
  all-is v (literal ∷ literals) all = chain-is value v literal literals all

  none-missing : (k n : ℕ) → list_all (literal_by value) (numbered (λ m. 2 * missing z m + 1) k n) ≡ list_all (λ b. b) (numbered (λ m. not (value (missing z m))) k n)
  none-missing k zero = refl
  none-missing k (suc n) =
      both_same (literal_by value (2 * missing z k + 1)) (list_all (literal_by value) (numbered (λ m. 2 * missing z m + 1) (k + 1) n))
      (not (value (missing z k))) (list_all (λ b. b) (numbered (λ m. not (value (missing z m))) (k + 1) n))
      (negative-value value (missing z k)) (none-missing (k + 1) n)

  -- ---- what is seen next

  next-by : (e : Bool) (k n : ℕ) → numbered (λ m. not e && not (value (missing z m))) k n ≡ cond e (replicate n false) (numbered (λ m. not (value (missing z m))) k n)
  next-by true k zero = refl
  next-by true k (suc n) = ap (λ xs. false ∷ xs) (next-by true (k + 1) n)
  next-by false k zero = refl
  next-by false k (suc n) = ap (λ xs. not (value (missing z k)) ∷ xs) (next-by false (k + 1) n)

  next-of : (e : Bool) (k n : ℕ) → literal_by value (round_ends z) ≡ e → All Meets (numbered (next_seen_gate z) k n)
      → numbered (λ m. value (seen_gate z m)) k n ≡ numbered (λ m. not e && not (value (missing z m))) k n
  next-of e k zero is all = refl
  next-of e k (suc n) is all =
      let here : value (seen_gate z k) ≡ (not e && not (value (missing z k))) =
      gate-by value (seen_gate z k) (negation (round_ends z)) (2 * missing z k + 1) (not e) (not (value (missing z k)))
      (All-head Meets (next_seen_gate z k) (numbered (next_seen_gate z) (k + 1) n) all)
      (negation-value value (round_ends z) ∙ ap not is) (negative-value value (missing z k))
      in
      cons-same (value (seen_gate z k)) (not e && not (value (missing z k))) (numbered (λ m. value (seen_gate z m)) (k + 1) n) (numbered (λ m. not e && not (value (missing z m))) (k + 1) n)
      here (next-of e (k + 1) n is (All-tail Meets (next_seen_gate z k) (numbered (next_seen_gate z) (k + 1) n) all))

  -- ---- counters

  later-is : (e : Bool) (i n : ℕ) → literal_by value (round_ends z) ≡ e → All Meets (each_of (later_counter_gates z) i n)
      → numbered (λ i. not (value (counter_gate z i))) (i + 1) n ≡ raised e (value (counter z i)) (counter_values (i + 1) n)
  later-is e i zero is all = refl
  later-is e i (suc n) is all =
      let d : Gate = record { var = 0; rhs0 = 0; rhs1 = 0 } in
      let here : All Meets (later_counter_gates z i) = All-left Meets (later_counter_gates z i) (each_of (later_counter_gates z) (i + 1) n) all in
      let b : Bool = value (counter z i) in
      let x : Bool = value (counter z (i + 1)) in
      let raises : value (counter_gate z i + 1) ≡ (b && e) =
      gate-by value (counter_gate z i + 1) (2 * counter z i) (round_ends z) b e (here 0 d (omega arith)) (positive-value value (counter z i)) is
      in
      let stays : value (counter_gate z i + 2) ≡ (not x && not (b && e)) =
      gate-by value (counter_gate z i + 2) (2 * counter z (i + 1) + 1) (2 * (counter_gate z i + 1) + 1) (not x) (not (b && e)) (here 1 d (omega arith))
      (negative-value value (counter z (i + 1))) (negative-value value (counter_gate z i + 1) ∙ ap not raises)
      in
      let place : counter_gate z (i + 1) ≡ counter_gate z i + 2 = omega arith in
      cons-same (not (value (counter_gate z (i + 1)))) (x || (b && e)) (numbered (λ i. not (value (counter_gate z i))) (i + 1 + 1) n) (raised e x (counter_values (i + 1 + 1) n))
      (ap (λ v. not (value v)) place ∙ ap not stays ∙ neither_both x b e)
      (later-is e (i + 1) n is (All-right Meets (later_counter_gates z i) (each_of (later_counter_gates z) (i + 1) n) all))

  counters-is : (e : Bool) (k n : ℕ) → k ≡ suc n → z.counters ≡ k → literal_by value (round_ends z) ≡ e → All Meets (counter_gates z)
      → numbered (λ i. not (value (counter_gate z i))) 0 k ≡ raised e true (counter_values 0 k)
  counters-is e k n is size ends all =
      let less : z.counters - 1 ≡ n = omega (arith, is, size) in
      let first : Gate = record { var = counter_gate z 0; rhs0 = 2 * counter z 0 + 1; rhs1 = negation (round_ends z) } in
      let x : Bool = value (counter z 0) in
      let stays : value (counter_gate z 0) ≡ (not x && not e) =
      gate-by value (counter_gate z 0) (2 * counter z 0 + 1) (negation (round_ends z)) (not x) (not e)
      (All-head Meets first (each_of (later_counter_gates z) 0 (z.counters - 1)) all)
      (negative-value value (counter z 0)) (negation-value value (round_ends z) ∙ ap not ends)
      in
      let later : All Meets (each_of (later_counter_gates z) 0 n) =
      subst (λ m. All Meets (each_of (later_counter_gates z) 0 m)) less (All-tail Meets first (each_of (later_counter_gates z) 0 (z.counters - 1)) all)
      in
      ap (numbered (λ i. not (value (counter_gate z i))) 0) is
      ∙ cons-same (not (value (counter_gate z 0))) (x || e) (numbered (λ i. not (value (counter_gate z i))) (0 + 1) n) (raised e x (counter_values (0 + 1) n))
      (ap not stays ∙ neither x e)
      (later-is e 0 n ends later)
      ∙ ap (λ m. raised e true (counter_values 0 m)) (sym is)

  -- ---- all of them

  module _ (literals : List ℕ) (size : length literals ≡ z.literals) (some : 1 ≤ z.counters) (all : All Meets (new_gates z literals)) where
    abbrev one : List Gate
    one = for_each (missing_gate z) 0 literals

    abbrev two : List Gate
    two = all_gates (ending z) (none_missing z)

    abbrev three : List Gate
    three = numbered (next_seen_gate z) 0 z.literals

    upto_three : All Meets (one ++ two ++ three)
    upto_three = All-left Meets (one ++ two ++ three) (counter_gates z) all

    upto_two : All Meets (one ++ two)
    upto_two = All-left Meets (one ++ two) three upto_three

    abbrev seens : List Bool
    seens = seen_values 0 z.literals

    noted : numbered (λ m. not (value (missing z m))) 0 z.literals ≡ seen_with V literals seens
    noted =
        subst (λ n. numbered (λ m. not (value (missing z m))) 0 n ≡ seen_with V literals (seen_values 0 n)) size
        (seen-now 0 literals (All-left Meets one two upto_two))

    pub ends-is : literal_by value (round_ends z) ≡ ends_with V literals seens
    ends-is =
        all-is (ending z) (none_missing z) (All-right Meets one two upto_two)
        ∙ none-missing 0 z.literals ∙ ap (list_all (λ b. b)) noted

    pub seens-next : numbered (λ m. value (seen_gate z m)) 0 z.literals ≡ seen_next V literals seens
    seens-next =
        let e : Bool = ends_with V literals seens in
        next-of e 0 z.literals ends-is (All-right Meets (one ++ two) three upto_three)
        ∙ next-by e 0 z.literals
        ∙ ap (λ xs. cond e (replicate z.literals false) xs) noted
        ∙ ap (λ n. cond e (replicate n false) (seen_with V literals seens)) (sym size)

    pub counters-next : numbered (λ i. not (value (counter_gate z i))) 0 z.counters ≡ raised (ends_with V literals seens) true (counter_values 0 z.counters)
    counters-next =
        let less : z.counters ≡ suc (z.counters - 1) = omega (arith, some) in
        counters-is (ends_with V literals seens) z.counters (z.counters - 1) less refl ends-is (All-right Meets (one ++ two ++ three) (counter_gates z) all)
