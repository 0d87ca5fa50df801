-- Unit propagation along the hints of a proof line, as in LRAT (Cruz-Filipe, Heule, Hunt, Kaufmann, Schneider-Kamp,
-- 2017). The clauses that are held are given by a look-up from ids.
use Rattle.std.specs.Prelude.{ℕ, Bool, not, List, [], ◌∷◌, ◌++◌, Option, Some, None, if◌then◌else◌}
use Rattle.std.specs.List.{filter, list_all}
use Rattle.proof_semantics.specs.Clauses.{lit_eq, negation, has_literal}
use Rattle.proof_semantics.specs.declared.literals.Lit.{Lit}
use Rattle.proof_semantics.specs.declared.faults.LratFault.{LratFault}
use Rattle.proof_semantics.specs.declared.faults.LratFault.TheVariants.{NoClause, NotUnit, NoConflict}

-- a literal is false where its negation is assumed
abbrev pub is_false : List Lit → Lit → Bool
is_false assumed a = has_literal assumed (negation a)

-- the literals of a clause that are not false
abbrev pub open_literals : List Lit → List Lit → List Lit
open_literals assumed clause = filter (λ a. not (is_false assumed a)) clause

-- the one literal of the list, however often it stands there
abbrev pub only_literal : List Lit → Option Lit
only_literal [] = None
only_literal (a ∷ more) = if list_all (lit_eq a) more then Some a else None

-- What follows for the clause that is held under the id; the fault, where none is.
abbrev pub with_clause : Option (List Lit) → ℕ → (List Lit → Option LratFault) → Option LratFault
with_clause None id rest = Some (NoClause id)
with_clause (Some clause) id rest = rest clause

-- What follows for the literal that a clause leaves; the fault, where it doesn't leave exactly one.
abbrev pub with_unit : Option Lit → ℕ → (Lit → Option LratFault) → Option LratFault
with_unit None id rest = Some (NotUnit id)
with_unit (Some a) id rest = rest a

-- the clause must be false
abbrev pub conflict_fault : List Lit → Option LratFault
conflict_fault [] = None
conflict_fault (a ∷ more) = Some NoConflict

-- The first fault of the hints, or none. Each hint but the last names a clause with one literal that is not false,
-- which is assumed too; the last names a false clause.
abbrev pub hints_fault : (ℕ → Option (List Lit)) → List Lit → List ℕ → Option LratFault
hints_fault at assumed [] = Some NoConflict
hints_fault at assumed (id ∷ []) = with_clause (at id) id (λ clause. conflict_fault (open_literals assumed clause))
hints_fault at assumed (id ∷ next ∷ ids) =
    with_clause (at id) id (λ clause.
    with_unit (only_literal (open_literals assumed clause)) id (λ a.
    hints_fault at (assumed ++ a ∷ []) (next ∷ ids)))
