-- Tables of the latches of a circuit by their variables.
use Rattle.std.specs.Prelude.{◌≡◌, ℕ, zero, suc, ◌+◌, List, Option, None, Some, slice_set, slice_index_or, if◌then◌else◌, ◌==◌}
use Rattle.aig_semantics.specs.Circuits.{Circuit}
use Rattle.entry.specs.Clauses.{latch_from}

-- what stands for the number n is n + 1, and 0 for none
abbrev pub number_by : ℕ → Option ℕ
number_by zero = None
number_by (suc n) = Some n

abbrev pub number_in : List ℕ → ℕ → Option ℕ
number_in table variable = number_by (slice_index_or table variable 0)

-- for each variable the table has the number of the latch with it, if there is one
abbrev pub AreNumbersOf : Circuit → List ℕ → Type 0
AreNumbersOf c table = (variable : ℕ) → number_in table variable ≡ latch_from 0 variable c.latches

-- the table with a latch, unless one with this variable is there
abbrev pub with_latch : List ℕ → ℕ → ℕ → List ℕ
with_latch table variable n = if slice_index_or table variable 0 == 0 then slice_set table variable (n + 1) else table
