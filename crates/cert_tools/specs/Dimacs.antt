-- Lists of clauses as texts in the DIMACS format (second DIMACS challenge, 1993): a line with the number of variables and
-- that of clauses, and a line for each clause.
use Rattle.std.specs.Prelude.{◌≡◌, ℕ, ◌<◌, ◌≤◌, All, List, ◌++◌, flat_map, length, codes, decimal}
use Rattle.proof_semantics.specs.declared.literals.Lit.{Lit}
use Rattle.proof_semantics.specs.Lines.{signed_text}

abbrev pub problem_line : ℕ → ℕ → List ℕ
problem_line variables clauses = codes "p cnf " ++ decimal variables ++ codes " " ++ decimal clauses ++ codes "\n"

-- a literal is a signed number, with a space behind it
abbrev pub literal_field : Lit → List ℕ
literal_field l = signed_text l ++ codes " "

-- a clause ends with a 0
abbrev pub clause_line : List Lit → List ℕ
clause_line clause = flat_map literal_field clause ++ codes "0\n"

abbrev pub dimacs_text : ℕ → List (List Lit) → List ℕ
dimacs_text variables clauses = problem_line variables (length clauses) ++ flat_map clause_line clauses

-- The text stands for these clauses, whose variables are numbers from 1 to the greatest.
pub record StandsForClauses (greatest : ℕ) (clauses : List (List Lit)) (text : List ℕ) : Type 0 where
  pub over : All (All (λ l. (0 < l.var) × (l.var ≤ greatest))) clauses
  pub spelled : text ≡ dimacs_text greatest clauses
