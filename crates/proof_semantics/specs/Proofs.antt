-- Which lines of a proof are accepted, and which proofs refute a list of clauses: LRAT (Cruz-Filipe, Heule, Hunt,
-- Kaufmann, Schneider-Kamp, 2017) without its RAT steps.
use Rattle.std.specs.Prelude.{◌≡◌, ℕ, ◌+◌, Bool, true, false, not, ◌||◌, List, [], ◌∷◌, ◌++◌, map, length, Option, Some, None, Result, Ok, Err, if◌then◌else◌, is_none, nat_eq, nat_le, ◌==◌, IsOkAnd}
use Rattle.std.specs.List.{filter, find, list_any, AllByRecursion}
use Rattle.proof_semantics.specs.Clauses.{negation, IsImplied, IsUnsatisfiable}
use Rattle.proof_semantics.specs.Propagation.{hints_fault}
use Rattle.proof_semantics.specs.Lines.{Line, addition, deletion, line_of}
use Rattle.proof_semantics.specs.declared.literals.Lit.{Lit}
use Rattle.proof_semantics.specs.declared.faults.LratFault.{LratFault}
use Rattle.proof_semantics.specs.declared.faults.LratFault.TheVariants.{BadLine, IdOrder, NoClause, RatRefused}

-- Where a proof stands: the clauses that were given, the clauses that are held with their ids, the greatest id that a
-- clause was given or added under, and whether an empty clause was given or added.
pub record ProofState : Type 0 where
  pub given : List (List Lit)
  pub held : List (ℕ × List Lit)
  pub last : ℕ
  pub finished : Bool

abbrev pub is_empty : List Lit → Bool
is_empty [] = true
is_empty (a ∷ more) = false

-- the clauses with the ids n, n + 1 and so on
abbrev pub numbered : ℕ → List (List Lit) → List (ℕ × List Lit)
numbered n [] = []
numbered n (clause ∷ clauses) = (n, clause) ∷ numbered (n + 1) clauses

-- before the first line: the given clauses are numbered from 1
abbrev pub start : List (List Lit) → ProofState
start given = record { given = given; held = numbered 1 given; last = length given; finished = list_any is_empty given }

-- the clause that is held under an id
abbrev pub clause_at : List (ℕ × List Lit) → ℕ → Option (List Lit)
clause_at [] id = None
clause_at (entry ∷ entries) id = if entry.0 == id then Some entry.1 else clause_at entries id

-- the clauses whose ids are not among these
abbrev pub without : List (ℕ × List Lit) → List ℕ → List (ℕ × List Lit)
without held ids = filter (λ entry. not (list_any (nat_eq entry.0) ids)) held

-- the first of the ids under which no clause is held
abbrev pub first_missing : List (ℕ × List Lit) → List ℕ → Option ℕ
first_missing held ids = find (λ id. is_none (clause_at held id)) ids

-- the state with one more clause
abbrev pub with_addition : ProofState → ℕ → List Lit → ProofState
with_addition s id clause = record s { held = s.held ++ (id, clause) ∷ []; last = id; finished = s.finished || is_empty clause }

-- the state without the clauses of these ids; which clauses were given or added stays
abbrev pub with_deletion : ProofState → List ℕ → ProofState
with_deletion s ids = record s { held = without s.held ids }

-- signed ids without their signs
abbrev pub ids_of : List Lit → List ℕ
ids_of hints = map (λ hint. hint.var) hints

abbrev pub ok_without_fault : Option LratFault → ProofState → Result ProofState LratFault
ok_without_fault None s = Ok s
ok_without_fault (Some fault) s = Err fault

-- The state after an addition, or the first fault: the id is above every earlier one, no hint is negative, and the
-- negations of the clause's literals end in a conflict along the hints.
abbrev pub judge_addition : ProofState → ℕ → List Lit → List Lit → Result ProofState LratFault
judge_addition s id clause hints =
    if nat_le id s.last then Err IdOrder
    else if list_any (λ hint. not hint.positive) hints then Err RatRefused
    else ok_without_fault (hints_fault (clause_at s.held) (map negation clause) (ids_of hints)) (with_addition s id clause)

-- The state after a deletion, or the first fault: under each of the ids a clause is held.
abbrev pub deletion_result : ProofState → List ℕ → Option ℕ → Result ProofState LratFault
deletion_result s ids None = Ok (with_deletion s ids)
deletion_result s ids (Some id) = Err (NoClause id)

abbrev pub judge_deletion : ProofState → List ℕ → Result ProofState LratFault
judge_deletion s ids = deletion_result s ids (first_missing s.held ids)

-- The state after a line, or its first fault.
abbrev pub judge_line : ProofState → Option Line → Result ProofState LratFault
judge_line s None = Err BadLine
judge_line s (Some (addition id clause hints)) = judge_addition s id clause hints
judge_line s (Some (deletion id ids)) = judge_deletion s ids

abbrev pub judge : ProofState → List ℕ → Result ProofState LratFault
judge s bytes = judge_line s (line_of bytes)

-- The state after all lines, or the first fault.
abbrev pub judge_next : Result ProofState LratFault → (ProofState → Result ProofState LratFault) → Result ProofState LratFault
judge_next (Ok s) rest = rest s
judge_next (Err fault) rest = Err fault

abbrev pub judge_all : ProofState → List (List ℕ) → Result ProofState LratFault
judge_all s [] = Ok s
judge_all s (line ∷ lines) = judge_next (judge s line) (λ t. judge_all t lines)

-- The lines are accepted in their order, and an empty clause was given or added.
abbrev pub Refutes : List (List Lit) → List (List ℕ) → Type 0
Refutes given lines = IsOkAnd (judge_all (start given) lines) (λ s. s.finished ≡ true)

-- What every state of a proof keeps: its held clauses are implied by the given ones, and these have no model once an
-- empty clause was given or added.
pub record IsSound (s : ProofState) : Type 0 where
  pub held_implied : AllByRecursion (λ entry. IsImplied s.given entry.1) s.held
  pub finished_only : s.finished ≡ true → IsUnsatisfiable s.given

-- Accepted lines keep the given clauses, and lead to a state of this kind.
abbrev pub KeepsSound : Type 0
KeepsSound =
    (given : List (List Lit)) (lines : List (List ℕ)) (s : ProofState) → judge_all (start given) lines ≡ Ok s
    → (s.given ≡ given) × IsSound s

-- Clauses that a proof refutes have no model.
abbrev pub RefutedHasNoModel : Type 0
RefutedHasNoModel = (given : List (List Lit)) (lines : List (List ℕ)) → Refutes given lines → IsUnsatisfiable given
