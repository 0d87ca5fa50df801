-- Trails: the literals that are true, in the order in which they came, each assumed or forced by a clause. After
-- MiniSat (Eén, Sörensson, 2003).
use Rattle.std.specs.Prelude.{ℕ, ◌+◌, ◌-◌, Bool, true, not, ◌&&◌, List, [], ◌∷◌, map, Option, None, Some, if◌then◌else◌, ◌==◌, nat_le}
use Rattle.std.specs.List.{list_any}
use Rattle.std.specs.Option.{option_map}
use Rattle.proof_semantics.specs.declared.literals.Lit.{Lit}

-- A literal that is true, and the number of the clause that forced it; none where it was assumed.
pub record Step : Type 0 where
  pub literal : Lit
  pub reason : Option ℕ

-- what contracts see of a trail: its steps, from the first to the last
pub record Steps : Type 0 where
  pub steps : List Step

abbrev pub step : Lit → Option ℕ → Step
step a reason = record { literal = a; reason = reason }

abbrev pub assumed : Lit → Step
assumed a = step a None

abbrev pub forced : Lit → ℕ → Step
forced a number = step a (Some number)

abbrev pub literals_of : List Step → List Lit
literals_of steps = map (λ step. step.literal) steps

abbrev pub reasons_in : List Step → List (Option ℕ)
reasons_in steps = map (λ step. step.reason) steps

-- the step of a variable
abbrev pub step_of : List Step → ℕ → Option Step
step_of [] var = None
step_of (step ∷ steps) var = if step.literal.var == var then Some step else step_of steps var

-- the value of a variable, if it has one
abbrev pub value_of : List Step → ℕ → Option Bool
value_of steps var = option_map (λ step. step.literal.positive) (step_of steps var)

abbrev pub reason_in : Option Step → Option ℕ
reason_in None = None
reason_in (Some step) = step.reason

-- the number of the clause that forced a variable; none where it was assumed or has no value
abbrev pub reason_of : List Step → ℕ → Option ℕ
reason_of steps var = reason_in (step_of steps var)

-- Each assumed literal opens a level.
abbrev pub opened_by : Option ℕ → ℕ
opened_by None = 1
opened_by (Some number) = 0

-- the level: how many literals are assumed
abbrev pub level : List Step → ℕ
level [] = 0
level (step ∷ steps) = opened_by step.reason + level steps

-- the steps up to that of a variable
abbrev pub up_to_variable : List Step → ℕ → List Step
up_to_variable [] var = []
up_to_variable (step ∷ steps) var = if step.literal.var == var then step ∷ [] else step ∷ up_to_variable steps var

-- the level on which a variable got its value
abbrev pub level_of : List Step → ℕ → ℕ
level_of steps var = level (up_to_variable steps var)

-- The steps of a level and of those below it: those before the literal that opens the next one.
abbrev pub up_to_level : ℕ → List Step → List Step
up_to_level n [] = []
up_to_level n (step ∷ steps) = if nat_le (opened_by step.reason) n then step ∷ up_to_level (n - opened_by step.reason) steps else []

-- The steps of the levels below the last, where there is a level above 0.
abbrev pub lower_steps : List Step → List Step
lower_steps steps = up_to_level (level steps - 1) steps

-- No variable comes twice.
abbrev pub once : List Lit → Bool
once [] = true
once (a ∷ lits) = not (list_any (λ b. b.var == a.var) lits) && once lits
