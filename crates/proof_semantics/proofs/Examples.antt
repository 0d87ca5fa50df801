-- The definitions, computed on small lines. The four clauses have no model.
use Rattle.std.specs.Prelude.{codes, List}
use Rattle.std.proofs.Common.{◌≡◌, refl, ℕ, true, false, [], ◌∷◌, Some, Err}
use Rattle.text_grammar.specs.Numerals.{number_at}
use Rattle.proof_semantics.specs.Lines.{line_of, deletion}
use Rattle.proof_semantics.specs.Proofs.{judge, start, Refutes}
use Rattle.proof_semantics.specs.declared.literals.Lit.{Lit}
use Rattle.proof_semantics.specs.declared.faults.LratFault.TheVariants.{BadLine, IdOrder, NoClause, NotUnit, NoConflict, RatRefused}

abbrev p : ℕ → Lit
p n = record { var = n; positive = true }

abbrev m : ℕ → Lit
m n = record { var = n; positive = false }

abbrev given : List (List Lit)
given = (m 1 ∷ []) ∷ (m 4 ∷ m 2 ∷ []) ∷ (p 4 ∷ p 2 ∷ []) ∷ (p 1 ∷ []) ∷ []

good : Refutes given (codes "5 0 1 4 0" ∷ [])
unfolding line_of number_at
good = refl

rat : judge (start given) (codes "5 0 -1 4 0") ≡ Err RatRefused
unfolding line_of number_at
rat = refl

order : judge (start given) (codes "4 0 1 4 0") ≡ Err IdOrder
unfolding line_of number_at
order = refl

unit2 : judge (start given) (codes "5 0 2 1 4 0") ≡ Err (NotUnit 2)
unfolding line_of number_at
unit2 = refl

no9 : judge (start given) (codes "5 0 1 9 0") ≡ Err (NoClause 9)
unfolding line_of number_at
no9 = refl

conflict : judge (start given) (codes "5 0 1 0") ≡ Err NoConflict
unfolding line_of number_at
conflict = refl

bad : judge (start given) (codes "5 x 0") ≡ Err BadLine
unfolding line_of number_at
bad = refl

del : line_of (codes "7 d 3 12 0") ≡ Some (deletion 7 (3 ∷ 12 ∷ []))
unfolding line_of number_at
del = refl
