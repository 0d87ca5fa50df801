-- Where the parts of lists of clauses stand.
use Rattle.std.specs.Prelude.{◌≡◌, ℕ, ◌+◌, ◌≤◌, List, [], ◌∷◌, ◌++◌, map, take, length, slice_index_or}
use Rattle.std.specs.List.{flat_map}
use Rattle.aig_semantics.specs.Circuits.{Circuit}
use Rattle.proof_semantics.specs.declared.literals.Lit.{Lit}
use Rattle.fair_semantics.specs.declared.entries.Use.{Use}
use Rattle.fair_semantics.specs.Entries.{Numbered}
use Rattle.cnf_unroll.specs.Numbers.{number, minus}
use Rattle.cnf_unroll.specs.Blocks.{gate_clauses, unit_clause, latch_clauses}
use Rattle.cnf_unroll.specs.Uses.{Numbering, named_sides, use_clauses, after_use}
use Rattle.cnf_unroll.specs.Obligations.{units, step_with_uses, after_step}

-- The first n of the clauses are these.
pub record BeginWith (clauses : List (List Lit)) (first : List (List Lit)) (n : ℕ) : Type 0 where
  pub count : n ≡ length first
  pub front : (more : List (List Lit)) × (clauses ≡ first ++ more)

-- Number k of the ends, from 0 on, says how many clauses stand up to the end of those of the first k uses.
pub record AreUseEnds (over : List Numbered → List (List Lit)) (us : List Numbered) (clauses : List (List Lit)) (ends : List ℕ) : Type 0 where
  pub count : length ends ≡ length us + 1
  pub each : (k : ℕ) → k ≤ length us → BeginWith clauses (over (take k us)) (slice_index_or ends k 0)

-- the clauses of a block up to those of gate i, counted from 0 in the order of the file
abbrev pub before_gate : Circuit → ℕ → List (List Lit)
before_gate c i = (minus (number 0 0) ∷ []) ∷ [] ++ flat_map (gate_clauses 0) (take i c.gates)

-- up to those of the constraints
abbrev pub before_constraints : Circuit → List (List Lit)
before_constraints c = (minus (number 0 0) ∷ []) ∷ [] ++ flat_map (gate_clauses 0) c.gates

-- up to those of latch i
abbrev pub before_latch : Circuit → ℕ → List (List Lit)
before_latch c i = before_constraints c ++ map (unit_clause 0) c.constraints ++ flat_map (latch_clauses c 0) (take i c.latches)

-- the shared clauses of obligations up to those of the set
abbrev pub before_set : Circuit → List Numbered → List Use → List (List Lit)
before_set c us own = step_with_uses c us ++ units (named_sides (after_step c us).sides own)

-- how many clauses stand up to the end of each use's, where so many stand before (scaffolding)
abbrev pub use_ends : ℕ → List (List ℕ) → Numbering → List Numbered → List ℕ
use_ends before places n [] = before ∷ []
use_ends before places n (u ∷ us) =
    before ∷ use_ends (before + length (use_clauses places n u.entry u.entry.kind)) places (after_use places n u u.entry.kind) us
