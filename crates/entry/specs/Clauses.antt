-- Clauses of literals of a model, over latch numbers.
use Rattle.std.specs.Prelude.{ℕ, ◌+◌, ◌==◌, not, List, [], ◌∷◌, ◌++◌, Option, Some, None, Result, Ok, Err, option_map, if◌then◌else◌}
use Rattle.aig_semantics.specs.declared.parts.Latch.{Latch}
use Rattle.aig_semantics.specs.Literals.{variable_of, is_negated}
use Rattle.aig_semantics.specs.Circuits.{Circuit}
use Rattle.proof_semantics.specs.declared.literals.Lit.{Lit}
use Rattle.entry.specs.declared.faults.EntryFault.{EntryFault}
use Rattle.entry.specs.declared.faults.EntryFault.TheVariants.{NotLatch}

-- the number of the latch with this variable, where the latches are numbered from n on
abbrev pub latch_from : ℕ → ℕ → List Latch → Option ℕ
latch_from n variable [] = None
latch_from n variable (latch ∷ latches) = if latch.var == variable then Some n else latch_from (n + 1) variable latches

-- a literal of the model over the number of its latch, if it is a latch's
abbrev pub latch_literal : Circuit → ℕ → Option Lit
latch_literal c literal =
    option_map (λ n. record { var = n; positive = not (is_negated literal) }) (latch_from 0 (variable_of literal) c.latches)

abbrev pub with_literal : Option Lit → ℕ → (Lit → Result (List Lit) EntryFault) → Result (List Lit) EntryFault
with_literal None literal rest = Err (NotLatch literal)
with_literal (Some l) literal rest = rest l

-- the clause that has these in front
abbrev pub clause_behind : Circuit → List Lit → List ℕ → Result (List Lit) EntryFault
clause_behind c front [] = Ok front
clause_behind c front (literal ∷ literals) =
    with_literal (latch_literal c literal) literal (λ l. clause_behind c (front ++ l ∷ []) literals)

-- The clause of these literals, in their order, or NotLatch of the first that is no latch's.
abbrev pub clause_of : Circuit → List ℕ → Result (List Lit) EntryFault
clause_of c literals = clause_behind c [] literals
