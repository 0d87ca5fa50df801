-- The clauses of a block, and those behind them.
use Rattle.std.proofs.Common.{◌≡◌, ℕ, ◌+◌, ◌-◌, map, Bool, List, ◌++◌, length, take, drop, ap, ◌∙◌, arith}
use Rattle.std.specs.List.{flat_map}
use Rattle.std.proofs.lemmas.List.{length-drop, take_all}
use Rattle.aig_semantics.specs.Circuits.{Circuit}
use Rattle.proof_semantics.specs.declared.literals.Lit.{Lit}
use Rattle.proof_semantics.specs.Clauses.{clauses_value}
use Rattle.cnf_unroll.specs.Blocks.{unit_clause, latch_clauses, step_clauses}
use Rattle.cnf_unroll.specs.Layout.{BeginWith, before_constraints, before_latch}

-- those before the latch behind the last are all
pub whole_block : (c : Circuit) (i n : ℕ) → i ≡ length c.latches → BeginWith (step_clauses c) (before_latch c i) n → n ≡ length (step_clauses c)
whole_block c i n all h =
    h.count
    ∙ ap (λ latches. length (before_constraints c ++ map (unit_clause 0) c.constraints ++ flat_map (latch_clauses c 0) latches))
    (take_all i c.latches (omega (arith, all)))

-- the rest of a list as a slice
pub slice_behind : (v : ℕ → Bool) (clauses : List (List Lit)) (n : ℕ)
    → clauses_value v (take (length clauses - n) (drop n clauses)) ≡ clauses_value v (drop n clauses)
slice_behind v clauses n = ap (clauses_value v) (take_all (length clauses - n) (drop n clauses) (omega (arith, length-drop n clauses)))
