-- The numbers of the variables in lasso clauses. First come those of the state in which the loop begins: 1 + v for the
-- latch with the variable v. Behind them each position of the run has a moment, counted from 0: a block, and numbers
-- behind it, of which each says something of the position. A moment is named by the base of its block.
use Rattle.std.specs.Prelude.{ℕ, zero, suc, ◌+◌, ◌*◌, Option, Some, None}
use Rattle.aig_semantics.specs.Circuits.{Circuit}
use Rattle.cnf_unroll.specs.Numbers.{block_size}

-- the loop begins at the position
abbrev pub begins : Circuit → ℕ → ℕ
begins c base = base + block_size c + 1

-- the position lies in the loop
abbrev pub inside : Circuit → ℕ → ℕ
inside c base = base + block_size c + 2

-- the position is the last one: its successor is the state in which the loop begins
abbrev pub closes : Circuit → ℕ → ℕ
closes c base = base + block_size c + 3

-- literal m of those that are asked for, counted from 0, was true in the loop, at the position or before it
abbrev pub met : Circuit → ℕ → ℕ → ℕ
met c base m = base + block_size c + 4 + m

-- how many numbers a moment has, where n literals are asked for
abbrev pub moment_size : Circuit → ℕ → ℕ
moment_size c n = block_size c + 3 + n

-- the base of the moment i; the numbers of i moments are those up to it
abbrev pub moment_base : Circuit → ℕ → ℕ → ℕ
moment_base c n i = c.max + 1 + i * moment_size c n

-- the moment before it, if there is one
abbrev pub moment_before : Circuit → ℕ → ℕ → Option ℕ
moment_before c n zero = None
moment_before c n (suc i) = Some (moment_base c n i)
