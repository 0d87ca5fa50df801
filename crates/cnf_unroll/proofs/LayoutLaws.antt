-- Where the parts of lists of clauses stand.
use Rattle.std.proofs.Common.{◌≡◌, ℕ, zero, suc, ◌+◌, ◌*◌, ◌≤◌, List, [], ◌∷◌, ◌++◌, map, length, get_or, take, drop, refl, sym, ap, ◌∙◌, subst, arith, append_assoc, length-append}
use Rattle.std.specs.List.{flat_map}
use Rattle.std.proofs.lemmas.List.{append-nil, take-append-drop, take_all, length-map}
use Rattle.std.proofs.lemmas.List.Concat.{flat_map-append}
use Rattle.aig_semantics.specs.declared.parts.Latch.{Latch}
use Rattle.aig_semantics.specs.declared.parts.Gate.{Gate}
use Rattle.aig_semantics.specs.Circuits.{Circuit}
use Rattle.proof_semantics.specs.declared.literals.Lit.{Lit}
use Rattle.fair_semantics.specs.Entries.{Numbered}
use Rattle.cnf_unroll.specs.Numbers.{number, minus}
use Rattle.cnf_unroll.specs.Blocks.{gate_clauses, unit_clause, latch_clauses, step_clauses}
use Rattle.cnf_unroll.specs.Uses.{Numbering, use_clauses, after_use, uses_clauses}
use Rattle.cnf_unroll.specs.Layout.{BeginWith, AreUseEnds, use_ends, before_gate, before_constraints, before_latch}

-- ---- the ends of uses

ends-count : (before : ℕ) (places : List (List ℕ)) (n : Numbering) (us : List Numbered) → length (use_ends before places n us) ≡ length us + 1
ends-count before places n [] = refl
ends-count before places n (u ∷ us) =
    let rest = ends-count (before + length (use_clauses places n u.entry u.entry.kind)) places (after_use places n u u.entry.kind) us in
    omega (arith, rest)

ends-at : (before : List (List Lit)) (places : List (List ℕ)) (n : Numbering) (us : List Numbered) (behind : List (List Lit)) (k : ℕ) → k ≤ length us
    → BeginWith ((before ++ uses_clauses places n us) ++ behind) (before ++ uses_clauses places n (take k us)) (get_or (use_ends (length before) places n us) k 0)
ends-at before places n [] behind zero below =
    record { count = ap length (sym (append-nil before)); front = (behind, refl) }
ends-at before places n [] behind (suc k) below = absurd (omega arith)
ends-at before places n (u ∷ us) behind zero below =
    let all = uses_clauses places n (u ∷ us) in
    record {
      count = ap length (sym (append-nil before));
      front = (all ++ behind, append_assoc before all behind ∙ ap (λ xs. xs ++ (all ++ behind)) (sym (append-nil before)));
    }
ends-at before places n (u ∷ us) behind (suc k) below =
    let here = use_clauses places n u.entry u.entry.kind in
    let next = after_use places n u u.entry.kind in
    let rest = ends-at (before ++ here) places next us behind k (omega (arith, below)) in
    record {
      count =
          ap (λ m. get_or (use_ends m places next us) k 0) (sym (length-append before here)) ∙ rest.count
          ∙ ap length (append_assoc before here (uses_clauses places next (take k us)));
      front = (
        rest.front.0,
        ap (λ xs. xs ++ behind) (sym (append_assoc before here (uses_clauses places next us))) ∙ rest.front.1
            ∙ ap (λ xs. xs ++ rest.front.0) (append_assoc before here (uses_clauses places next (take k us))),
      );
    }

pub use-ends : (before : List (List Lit)) (places : List (List ℕ)) (n : Numbering) (us : List Numbered) (clauses behind : List (List Lit)) (ends : List ℕ)
    → clauses ≡ (before ++ uses_clauses places n us) ++ behind → ends ≡ use_ends (length before) places n us
    → AreUseEnds (λ vs. before ++ uses_clauses places n vs) us clauses ends
use-ends before places n us clauses behind ends e f =
    record {
      count = ap length f ∙ ends-count (length before) places n us;
      each = λ k below.
          subst (λ m. BeginWith clauses (before ++ uses_clauses places n (take k us)) m) (ap (λ xs. get_or xs k 0) (sym f))
          (subst (λ cs. BeginWith cs (before ++ uses_clauses places n (take k us)) (get_or (use_ends (length before) places n us) k 0)) (sym e)
          (ends-at before places n us behind k below));
    }

-- ---- the parts of a block

flat-parts : {X Y : Type 0} (f : X → List Y) (i : ℕ) (xs : List X) → flat_map f xs ≡ flat_map f (take i xs) ++ flat_map f (drop i xs)
flat-parts f i xs = ap (flat_map f) (sym (take-append-drop i xs)) ∙ flat_map-append f (take i xs) (drop i xs)

gates-count : (gates : List Gate) (i : ℕ) → i ≤ length gates → length (flat_map (gate_clauses 0) (take i gates)) ≡ 3 * i
gates-count gates zero below = refl
gates-count [] (suc i) below = absurd (omega arith)
gates-count (gate ∷ gates) (suc i) below =
    let rest = gates-count gates i (omega (arith, below)) in
    omega (arith, rest)

latches-count : (c : Circuit) (latches : List Latch) (i : ℕ) → i ≤ length latches → length (flat_map (latch_clauses c 0) (take i latches)) ≡ 2 * i
latches-count c latches zero below = refl
latches-count c [] (suc i) below = absurd (omega arith)
latches-count c (latch ∷ latches) (suc i) below =
    let rest = latches-count c latches i (omega (arith, below)) in
    omega (arith, rest)

pub gates-front : (c : Circuit) (i n : ℕ) → i ≤ length c.gates → n ≡ 3 * i + 1 → BeginWith (step_clauses c) (before_gate c i) n
gates-front c i n below is =
    let count = gates-count c.gates i below in
    let first = (minus (number 0 0) ∷ []) ∷ [] in
    let f = gate_clauses 0 in
    let before = flat_map f (take i c.gates) in
    let rest = flat_map f (drop i c.gates) in
    let units = map (unit_clause 0) c.constraints in
    let latches = flat_map (latch_clauses c 0) c.latches in
    record {
      count = omega (arith, is, count);
      front = (
        rest ++ units ++ latches,
        ap (λ xs. first ++ xs ++ units ++ latches) (flat-parts f i c.gates)
            ∙ ap (λ xs. xs ++ units ++ latches) (sym (append_assoc first before rest))
            ∙ ap (λ xs. xs ++ latches) (append_assoc (first ++ before) rest units)
            ∙ append_assoc (first ++ before) (rest ++ units) latches,
      );
    }

pub constraints-front : (c : Circuit) (n : ℕ) → n ≡ 3 * length c.gates + 1 → BeginWith (step_clauses c) (before_constraints c) n
constraints-front c n is =
    let count : length (flat_map (gate_clauses 0) c.gates) ≡ 3 * length c.gates =
    ap (λ xs. length (flat_map (gate_clauses 0) xs)) (sym (take_all (length c.gates) c.gates (omega arith))) ∙ gates-count c.gates (length c.gates) (omega arith) in
    let before = before_constraints c in
    let units = map (unit_clause 0) c.constraints in
    let latches = flat_map (latch_clauses c 0) c.latches in
    record {
      count = omega (arith, is, count);
      front = (units ++ latches, append_assoc before units latches);
    }

pub latches-front : (c : Circuit) (i n : ℕ) → i ≤ length c.latches → n ≡ 3 * length c.gates + 1 + length c.constraints + 2 * i
    → BeginWith (step_clauses c) (before_latch c i) n
latches-front c i n below is =
    let gates = (constraints-front c (3 * length c.gates + 1) refl).count in
    let count = latches-count c c.latches i below in
    let f = latch_clauses c 0 in
    let before = before_constraints c ++ map (unit_clause 0) c.constraints in
    let here = flat_map f (take i c.latches) in
    let rest = flat_map f (drop i c.latches) in
    record {
      count =
          is ∙ omega (arith, gates, count, length-append before here, length-append (before_constraints c) (map (unit_clause 0) c.constraints), length-map c.constraints (unit_clause 0));
      front = (rest, ap (λ xs. before ++ xs) (flat-parts f i c.latches) ∙ sym (append_assoc before here rest));
    }
