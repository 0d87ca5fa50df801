-- Steps towards checked circuits: gates that read lower variables are on no cycle, and a test of defined variables.
use Rattle.std.proofs.Common.{◌≡◌, ◌≢◌, ℕ, ◌<◌, true, false, not, List, [], ◌∷◌, subst, inr, ◌⊎◌, ◌==◌, eqb-true, eq-eqb, ap, arith}
use Rattle.std.specs.List.{All, AllPairs, Contains, list_all, list_any}
use Rattle.std.proofs.lemmas.List.Elements.{All-weaker}
use Rattle.std.proofs.lemmas.List.Sums.{AllPass-from_list_all}
use Rattle.std.proofs.lemmas.List.Kept.{AllPairs-cons}
use Rattle.std.proofs.lemmas.Map.Views.{Contains-from_any}
use Rattle.aig_semantics.specs.declared.parts.Gate.{Gate}
use Rattle.aig_semantics.specs.Literals.{variable_of}
use Rattle.aig_semantics.specs.Circuits.{Circuit, defined, Reads, ReadsThrough, IsOnCycle, AreDefined}

-- the gate reads variables below its own
abbrev pub ReadsLower : Gate → Type 0
ReadsLower gate = (variable_of gate.rhs0 < gate.var) × (variable_of gate.rhs1 < gate.var)

below_of_one : (gate : Gate) (v w : ℕ) → ReadsLower gate → gate.var ≡ v
    → (variable_of gate.rhs0 ≡ w) ⊎ (variable_of gate.rhs1 ≡ w) → w < v
below_of_one gate v w lower var reads = omega arith

pub Reads-lower : (c : Circuit) (v w : ℕ) → All ReadsLower c.gates → Reads c v w → w < v
Reads-lower c v w lower (k, gate, inside, at, h) = below_of_one gate v w (subst ReadsLower at (lower k gate inside)) h.0 h.1

pub ReadsThrough-lower : (c : Circuit) (v : ℕ) (between : List ℕ) (w : ℕ) → All ReadsLower c.gates → ReadsThrough c v between w → w < v
ReadsThrough-lower c v [] w lower reads = Reads-lower c v w lower reads
ReadsThrough-lower c v (u ∷ between) w lower reads =
    let first : u < v = Reads-lower c v u lower reads.0 in
    let others : w < u = ReadsThrough-lower c u between w lower reads.1 in
    omega arith

pub acyclic-from_lower : (c : Circuit) → All ReadsLower c.gates → (v : ℕ) → IsOnCycle c v → ⊥
acyclic-from_lower c lower v (between, reads) =
    let below : v < v = ReadsThrough-lower c v between v lower reads in
    omega arith

-- each number differs from those after it, by tests that compute
abbrev pub AllDiffer : List ℕ → Type 0
AllDiffer [] = Unit {0}
AllDiffer (v ∷ vs) = (list_all (λ w. not (v == w)) vs ≡ true) × AllDiffer vs

differ-from_test : (v w : ℕ) → not (v == w) ≡ true → v ≢ w
differ-from_test v w test same =
    let equal : (v == w) ≡ true = eq-eqb v w same in
    let turned : not (v == w) ≡ false = ap not equal in
    cc

pub once-from_tests : (vs : List ℕ) → AllDiffer vs → AllPairs (λ v w. v ≢ w) vs
once-from_tests [] h = λ i j d before inside. absurd (omega arith)
once-from_tests (v ∷ vs) h =
    AllPairs-cons (λ v w. v ≢ w) v vs
    (All-weaker (λ w. not (v == w) ≡ true) (λ w. v ≢ w) (differ-from_test v) vs (AllPass-from_list_all (λ w. not (v == w)) vs h.0))
    (once-from_tests vs h.1)

pub defined-from_test : (c : Circuit) (literals : List ℕ)
    → list_all (λ literal. list_any (λ v. variable_of literal == v) (defined c)) literals ≡ true → AreDefined c literals
defined-from_test c literals test =
    let Found : ℕ → Type 0 = λ literal. list_any (λ v. variable_of literal == v) (defined c) ≡ true in
    let Defined : ℕ → Type 0 = λ literal. (variable_of literal ≡ 0) ⊎ Contains (defined c) (variable_of literal) in
    let found : (literal : ℕ) → Found literal → Defined literal = λ literal h. inr (Contains-from_any eqb-true (variable_of literal) (defined c) h) in
    All-weaker Found Defined found literals
    (AllPass-from_list_all (λ literal. list_any (λ v. variable_of literal == v) (defined c)) literals test)
