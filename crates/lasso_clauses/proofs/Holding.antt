-- The parts of the clauses of a moment, each where an assignment makes it true.
use Rattle.std.proofs.Common.{◌≡◌, ℕ, zero, suc, ◌+◌, ◌<◌, ◌≤◌, Bool, true, false, not, ◌&&◌, ◌||◌, List, [], ◌∷◌, ◌++◌, length, get_or, refl, sym, ap, subst, ◌∙◌, inl, inr, arith, Option}
use Rattle.std.specs.List.{flat_map}
use Rattle.std.proofs.lemmas.Bool.{and_parts, and_from, cases_lt}
use Rattle.aig_semantics.specs.Circuits.{Circuit}
use Rattle.proof_semantics.specs.declared.literals.Lit.{Lit}
use Rattle.proof_semantics.specs.Clauses.{literal_value, clause_value, clauses_value}
use Rattle.cnf_unroll.specs.Numbers.{plus, minus, literal_in_block}
use Rattle.cnf_unroll.specs.Blocks.{block_clauses}
use Rattle.cnf_unroll.proofs.Truth.{both, together}
use Rattle.lasso_clauses.specs.Moments.{begins, inside, closes, met}
use Rattle.lasso_clauses.specs.Clauses.{same_state, loop_start, state_start, successor_start, state_clauses, inside_clause, seen_clause, met_clauses, all_met, moment_clauses, position_clauses, positions_clauses}

-- ---- truth values alone

pub implied : (a b : Bool) → (not a || b) ≡ true → a ≡ true → b ≡ true
implied true b h e = h
implied false b h e = absurd (cc)

pub implies : (a b : Bool) → (a ≡ true → b ≡ true) → (not a || b) ≡ true
implies true b f = f refl
implies false b f = refl

pub alone : (a : Bool) → (a || false) ≡ true → a ≡ true
alone true h = refl
alone false h = h

pub alone_is : (a : Bool) → a ≡ true → (a || false) ≡ true
alone_is true h = refl
alone_is false h = h

-- a clause of one literal that is false
pub denied : (a : Bool) → a ≡ true → (not a || false) ≡ false
denied true h = refl
denied false h = absurd (cc)

pub undenied : (a : Bool) → (not a || false) ≡ false → a ≡ true
undenied true h = refl
undenied false h = absurd (cc)

pub one_clause : (v : ℕ → Bool) (clause : List Lit) → clauses_value v (clause ∷ []) ≡ true → clause_value v clause ≡ true
one_clause v clause h = (and_parts (clause_value v clause) true h).0

pub one_true : (v : ℕ → Bool) (clause : List Lit) → clause_value v clause ≡ true → clauses_value v (clause ∷ []) ≡ true
one_true v clause h = and_from _ _ h refl

-- ---- the parts

pub record Holds (v : ℕ → Bool) (c : Circuit) (literals : List ℕ) (before : Option ℕ) (base : ℕ) : Type 0 where
  pub block : clauses_value v (block_clauses c base) ≡ true
  pub state : clauses_value v (state_clauses c before base) ≡ true
  pub begun : clauses_value v (same_state c (minus (begins c base) ∷ []) (state_start base) loop_start) ≡ true
  pub within : clause_value v (inside_clause c before base) ≡ true
  pub last : clause_value v (minus (closes c base) ∷ plus (inside c base) ∷ []) ≡ true
  pub closed : clauses_value v (same_state c (minus (closes c base) ∷ []) (successor_start c base) loop_start) ≡ true
  pub all : clauses_value v (all_met c before base 0 literals) ≡ true

module _ (v : ℕ → Bool) (c : Circuit) (literals : List ℕ) (before : Option ℕ) (base : ℕ) where
  abbrev block : List (List Lit)
  block = block_clauses c base

  abbrev state : List (List Lit)
  state = state_clauses c before base

  abbrev begun : List (List Lit)
  begun = same_state c (minus (begins c base) ∷ []) (state_start base) loop_start

  abbrev within : List (List Lit)
  within = inside_clause c before base ∷ []

  abbrev last : List (List Lit)
  last = (minus (closes c base) ∷ plus (inside c base) ∷ []) ∷ []

  abbrev closed : List (List Lit)
  closed = same_state c (minus (closes c base) ∷ []) (successor_start c base) loop_start

  abbrev all : List (List Lit)
  all = all_met c before base 0 literals

  pub parts_hold : clauses_value v (moment_clauses c literals before base) ≡ true → Holds v c literals before base
  parts_hold h =
      let six = both v (block ++ state ++ begun ++ within ++ last ++ closed) all h in
      let five = both v (block ++ state ++ begun ++ within ++ last) closed six.0 in
      let four = both v (block ++ state ++ begun ++ within) last five.0 in
      let three = both v (block ++ state ++ begun) within four.0 in
      let two = both v (block ++ state) begun three.0 in
      let one = both v block state two.0 in
      record {
        block = one.0;
        state = one.1;
        begun = two.1;
        within = one_clause v (inside_clause c before base) three.1;
        last = one_clause v (minus (closes c base) ∷ plus (inside c base) ∷ []) four.1;
        closed = five.1;
        all = six.1;
      }

  pub whole_holds : Holds v c literals before base → clauses_value v (moment_clauses c literals before base) ≡ true
  whole_holds h =
      together v (block ++ state ++ begun ++ within ++ last ++ closed) all
      (together v (block ++ state ++ begun ++ within ++ last) closed
      (together v (block ++ state ++ begun ++ within) last
      (together v (block ++ state ++ begun) within
      (together v (block ++ state) begun
      (together v block state h.block h.state)
      h.begun)
      (one_true v (inside_clause c before base) h.within))
      (one_true v (minus (closes c base) ∷ plus (inside c base) ∷ []) h.last))
      h.closed)
      h.all

-- ---- one literal that is asked for

pub record IsMet (v : ℕ → Bool) (c : Circuit) (before : Option ℕ) (base m literal : ℕ) : Type 0 where
  pub within : v (met c base m) ≡ true → v (inside c base) ≡ true
  pub seen : clause_value v (seen_clause c before base m literal) ≡ true
  pub last : v (closes c base) ≡ true → v (met c base m) ≡ true

met_parts : (v : ℕ → Bool) (c : Circuit) (before : Option ℕ) (base m literal : ℕ) → clauses_value v (met_clauses c before base m literal) ≡ true → IsMet v c before base m literal
met_parts v c before base m literal h =
    let first = and_parts (not (v (met c base m)) || (v (inside c base) || false)) _ h in
    let second = and_parts (clause_value v (seen_clause c before base m literal)) _ first.1 in
    let third = and_parts (not (v (closes c base)) || (v (met c base m) || false)) true second.1 in
    record {
      within = λ t. alone (v (inside c base)) (implied (v (met c base m)) (v (inside c base) || false) first.0 t);
      seen = second.0;
      last = λ t. alone (v (met c base m)) (implied (v (closes c base)) (v (met c base m) || false) third.0 t);
    }

met_whole : (v : ℕ → Bool) (c : Circuit) (before : Option ℕ) (base m literal : ℕ) → IsMet v c before base m literal → clauses_value v (met_clauses c before base m literal) ≡ true
met_whole v c before base m literal h =
    and_from _ _ (implies (v (met c base m)) (v (inside c base) || false) (λ t. alone_is (v (inside c base)) (h.within t)))
    (and_from _ _ h.seen
    (and_from _ _ (implies (v (closes c base)) (v (met c base m) || false) (λ t. alone_is (v (met c base m)) (h.last t))) refl))

module _ (v : ℕ → Bool) (c : Circuit) (before : Option ℕ) (base : ℕ) where
  pub all_parts : (m : ℕ) (literals : List ℕ) (x d q : ℕ) → q ≡ m + x → x < length literals → clauses_value v (all_met c before base m literals) ≡ true → IsMet v c before base q (get_or literals x d)
  all_parts m [] x d q e below h = absurd (omega arith)
  all_parts m (l ∷ literals) zero d q e below h =
      let here = met_parts v c before base m l (both v (met_clauses c before base m l) (all_met c before base (m + 1) literals) h).0 in
      let same : m ≡ q = omega arith in
      subst (λ k. IsMet v c before base k l) same here
  all_parts m (l ∷ literals) (suc x) d q e below h =
      all_parts (m + 1) literals x d q (omega arith) (omega arith) (both v (met_clauses c before base m l) (all_met c before base (m + 1) literals) h).1

  pub all_whole : (m : ℕ) (literals : List ℕ) → ((x q : ℕ) → q ≡ m + x → x < length literals → IsMet v c before base q (get_or literals x 0)) → clauses_value v (all_met c before base m literals) ≡ true
  all_whole m [] f = refl
  all_whole m (l ∷ literals) f =
      together v (met_clauses c before base m l) (all_met c before base (m + 1) literals)
      (met_whole v c before base m l (f 0 m (omega arith) (omega arith)))
      (all_whole (m + 1) literals (λ x q e below. f (suc x) q (omega arith) (omega arith)))

-- ---- positions

pub at_position : (v : ℕ → Bool) (c : Circuit) (literals : List ℕ) (k i : ℕ) → i < k → clauses_value v (positions_clauses c literals k) ≡ true → clauses_value v (position_clauses c literals i) ≡ true
at_position v c literals zero i below h = absurd (omega arith)
at_position v c literals (suc k) i below h =
    let parts = both v (positions_clauses c literals k) (position_clauses c literals k) h in
    elim (cases_lt i k) [
      | inl lt ↦ at_position v c literals k i lt parts.0
      | inr ge ↦ let e : k ≡ i = omega arith in subst (λ p. clauses_value v (position_clauses c literals p) ≡ true) e parts.1
    ]

pub all_positions : (v : ℕ → Bool) (c : Circuit) (literals : List ℕ) (k : ℕ) → ((i : ℕ) → i < k → clauses_value v (position_clauses c literals i) ≡ true) → clauses_value v (positions_clauses c literals k) ≡ true
all_positions v c literals zero f = refl
all_positions v c literals (suc k) f =
    together v (positions_clauses c literals k) (position_clauses c literals k)
    (all_positions v c literals k (λ i below. f i (omega arith))) (f k (omega arith))
