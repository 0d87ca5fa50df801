-- Lasso clauses: they hold exactly where the moments' numbers have the values of a fair lasso of so many positions. After
-- Heljanko, Junttila and Latvala (Incremental and Complete Bounded Model Checking for Full PLTL, 2005): what chooses the
-- loop does not depend on the length, so one position more is clauses more, and none goes.
use Rattle.std.specs.Prelude.{ℕ, zero, suc, ◌+◌, List, [], ◌∷◌, ◌++◌, length, Option, Some, None}
use Rattle.std.specs.List.{flat_map}
use Rattle.aig_semantics.specs.declared.parts.Latch.{Latch}
use Rattle.aig_semantics.specs.declared.parts.Reset.{Reset}
use Rattle.aig_semantics.specs.declared.parts.Reset.TheVariants.{Zero, One, Free}
use Rattle.aig_semantics.specs.Circuits.{Circuit, fair_literals}
use Rattle.proof_semantics.specs.declared.literals.Lit.{Lit}
use Rattle.cnf_unroll.specs.Numbers.{number, plus, minus, literal_in_block}
use Rattle.cnf_unroll.specs.Blocks.{block_clauses}
use Rattle.lasso_clauses.specs.Moments.{begins, inside, closes, met, moment_base, moment_before}

-- Two numbers have the same value, where no literal of `unless` is true.
abbrev pub same_value : List Lit → ℕ → ℕ → List (List Lit)
same_value unless a b = (minus a ∷ plus b ∷ unless) ∷ (plus a ∷ minus b ∷ unless) ∷ []

-- The same of two states: the latch with the variable v has the numbers a + v and b + v.
abbrev pub same_state : Circuit → List Lit → ℕ → ℕ → List (List Lit)
same_state c unless a b = flat_map (λ latch. same_value unless (a + latch.var) (b + latch.var)) c.latches

-- where the numbers of states begin: of that in which the loop begins, of a moment's, and of its successor
abbrev pub loop_start : ℕ
loop_start = 1

abbrev pub state_start : ℕ → ℕ
state_start base = base + 1

abbrev pub successor_start : Circuit → ℕ → ℕ
successor_start c base = base + c.max + 2

-- a latch with this reset may begin with the value of the number
abbrev pub reset_clauses : Reset → ℕ → List (List Lit)
reset_clauses Zero n = (minus n ∷ []) ∷ []
reset_clauses One n = (plus n ∷ []) ∷ []
reset_clauses Free n = []

-- the first state is initial, and each later one is the successor of the one before
abbrev pub state_clauses : Circuit → Option ℕ → ℕ → List (List Lit)
state_clauses c None base = flat_map (λ latch. reset_clauses latch.reset (state_start base + latch.var)) c.latches
state_clauses c (Some before) base = same_state c [] (state_start base) (successor_start c before)

-- the same number of the moment before, if there is one
abbrev pub earlier : (ℕ → ℕ) → Option ℕ → List Lit
earlier number None = []
earlier number (Some before) = plus (number before) ∷ []

-- a position lies in the loop only where the loop begins there or the position before lies in it
abbrev pub inside_clause : Circuit → Option ℕ → ℕ → List Lit
inside_clause c before base = minus (inside c base) ∷ plus (begins c base) ∷ earlier (inside c) before

-- a literal was met only where it is true at the position or was met before
abbrev pub seen_clause : Circuit → Option ℕ → ℕ → ℕ → ℕ → List Lit
seen_clause c before base m literal =
    minus (met c base m) ∷ literal_in_block base literal ∷ earlier (λ b. met c b m) before

-- it was met only where the position lies in the loop; and the position is the last one only where it was met
abbrev pub met_clauses : Circuit → Option ℕ → ℕ → ℕ → ℕ → List (List Lit)
met_clauses c before base m literal =
    (minus (met c base m) ∷ plus (inside c base) ∷ []) ∷ seen_clause c before base m literal
    ∷ (minus (closes c base) ∷ plus (met c base m) ∷ []) ∷ []

-- the same of literals with the numbers m, m + 1 and so on
abbrev pub all_met : Circuit → Option ℕ → ℕ → ℕ → List ℕ → List (List Lit)
all_met c before base m [] = []
all_met c before base m (literal ∷ literals) =
    met_clauses c before base m literal ++ all_met c before base (m + 1) literals

-- The clauses of a moment: the position meets the constraints and has its successor; its state is as it must be; where
-- the loop begins, the state is that of the loop; the position lies in the loop only behind a begin; where it is the last
-- one, it lies in the loop, and its successor is the loop's state; and each literal is met.
abbrev pub moment_clauses : Circuit → List ℕ → Option ℕ → ℕ → List (List Lit)
moment_clauses c literals before base =
    block_clauses c base
    ++ state_clauses c before base
    ++ same_state c (minus (begins c base) ∷ []) (state_start base) loop_start
    ++ inside_clause c before base ∷ []
    ++ (minus (closes c base) ∷ plus (inside c base) ∷ []) ∷ []
    ++ same_state c (minus (closes c base) ∷ []) (successor_start c base) loop_start
    ++ all_met c before base 0 literals

-- the clauses of position i, where these literals are asked for
abbrev pub position_clauses : Circuit → List ℕ → ℕ → List (List Lit)
position_clauses c literals i =
    moment_clauses c literals (moment_before c (length literals) i) (moment_base c (length literals) i)

-- the clauses of the first k positions
abbrev pub positions_clauses : Circuit → List ℕ → ℕ → List (List Lit)
positions_clauses c literals zero = []
positions_clauses c literals (suc i) = positions_clauses c literals i ++ position_clauses c literals i

-- the literal by which position i is the last one
abbrev pub closing_literal : Circuit → ℕ → ℕ → Lit
closing_literal c j i = plus (closes c (moment_base c (length (fair_literals c j)) i))

-- the last of k positions is the last one of a lasso; of none the empty clause
abbrev pub last_clause : Circuit → ℕ → ℕ → List Lit
last_clause c j zero = []
last_clause c j (suc i) = closing_literal c j i ∷ []

-- The lasso clauses of property j for k positions.
abbrev pub lasso_clauses : Circuit → ℕ → ℕ → List (List Lit)
lasso_clauses c j k = positions_clauses c (fair_literals c j) k ++ last_clause c j k ∷ []
