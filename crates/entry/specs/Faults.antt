-- The first fault of an entry or a refutation: of its uses in their order, then of its clauses, then of its proofs.
use Rattle.std.specs.Prelude.{ℕ, ◌+◌, Bool, true, false, not, ◌&&◌, ◌||◌, List, [], ◌∷◌, ◌++◌, length, Option, Some, None, Result, Ok, Err, if◌then◌else◌, ◌==◌, nat_lt, nat_le}
use Rattle.std.specs.List.{list_any, list_all}
use Rattle.aig_semantics.specs.Circuits.{Circuit}
use Rattle.proof_semantics.specs.declared.literals.Lit.{Lit}
use Rattle.proof_semantics.specs.declared.faults.LratFault.{LratFault}
use Rattle.proof_semantics.specs.declared.faults.LratFault.TheVariants.{Unfinished}
use Rattle.proof_semantics.specs.Clauses.{has_literal}
use Rattle.proof_semantics.specs.Proofs.{ProofState, start, judge}
use Rattle.fair_semantics.specs.declared.entries.Kind.{Kind}
use Rattle.fair_semantics.specs.declared.entries.Kind.TheVariants.{Reach, Wall}
use Rattle.fair_semantics.specs.declared.entries.Side.{Side}
use Rattle.fair_semantics.specs.declared.entries.Side.TheVariants as sides
use Rattle.fair_semantics.specs.declared.entries.Use.{Use}
use Rattle.fair_semantics.specs.States.{initial_cube}
use Rattle.fair_semantics.specs.Entries.{Entry, entry_at}
use Rattle.entry.specs.declared.uses.User.{User}
use Rattle.entry.specs.declared.uses.User.TheVariants as users
use Rattle.entry.specs.declared.faults.EntryFault.{EntryFault}
use Rattle.entry.specs.declared.faults.EntryFault.TheVariants.{BadUse, Base, Proof}
use Rattle.entry.specs.Proved.{obligation_of}

abbrev pub is_signed : Side → Bool
is_signed sides.Any = false
is_signed sides.In = true
is_signed sides.Out = true

-- Who may use an entry of a kind under a side: a reach entry uses reach entries alone, only a wall has a side named, and
-- a refutation names none.
abbrev pub may_use : User → Kind → Side → Bool
may_use (users.Entry Reach) Reach side = not (is_signed side)
may_use (users.Entry Reach) Wall side = false
may_use (users.Entry Wall) Reach side = not (is_signed side)
may_use (users.Entry Wall) Wall side = true
may_use users.Refutation kind side = not (is_signed side)

-- each entry of which a side is named is among the earlier uses
abbrev pub are_known : List Use → List Use → Bool
are_known earlier named = list_all (λ u. not (is_signed u.side) || list_any (λ v. v.entry == u.entry) earlier) named

-- The use may stand behind the earlier ones: its number is from `least` on, there is such an entry, the user may use it
-- under that side, and the walls of which it names sides are among the earlier uses.
abbrev pub may_stand : User → List Entry → ℕ → List Use → Use → Bool
may_stand user before least earlier u =
    nat_le least u.entry && nat_lt u.entry (length before)
    && may_use user (entry_at before u.entry).kind u.side && are_known earlier (entry_at before u.entry).uses

-- the number of the first use that may not stand where it does; each number is above the one before it
abbrev pub bad_use_behind : User → List Entry → ℕ → List Use → List Use → Option ℕ
bad_use_behind user before least earlier [] = None
bad_use_behind user before least earlier (u ∷ uses) =
    if may_stand user before least earlier u then bad_use_behind user before (u.entry + 1) (earlier ++ u ∷ []) uses
    else Some u.entry

abbrev pub first_bad_use : User → List Entry → List Use → Option ℕ
first_bad_use user before uses = bad_use_behind user before 0 [] uses

-- the number of the first clause, counted from i on, that holds no literal of the cube
abbrev pub baseless_from : ℕ → List Lit → List (List Lit) → Option ℕ
baseless_from i cube [] = None
baseless_from i cube (clause ∷ clauses) =
    if list_any (has_literal cube) clause then baseless_from (i + 1) cube clauses else Some i

-- the first clause without a base; a wall needs none
abbrev pub first_baseless : Circuit → Kind → List (List Lit) → Option ℕ
first_baseless c Reach clauses = baseless_from 0 (initial_cube c) clauses
first_baseless c Wall clauses = None

-- all lines passed: the fault is that no empty clause was given or added
abbrev pub unfinished_at : ℕ → Bool → Option (ℕ × LratFault)
unfinished_at line true = None
unfinished_at line false = Some (line, Unfinished)

abbrev pub line_fault : ℕ → Result ProofState LratFault → (ProofState → Option (ℕ × LratFault)) → Option (ℕ × LratFault)
line_fault line (Ok s) rest = rest s
line_fault line (Err fault) rest = Some (line, fault)

-- The first fault of proof lines that are numbered from a line on, and the number of its line: that of the first line
-- that is refused; or, where all pass and no empty clause was given or added, Unfinished at their number.
abbrev pub fault_from : ℕ → ProofState → List (List ℕ) → Option (ℕ × LratFault)
fault_from line s [] = unfinished_at line s.finished
fault_from line s (bytes ∷ lines) = line_fault line (judge s bytes) (λ t. fault_from (line + 1) t lines)

-- how many lines stand before the fault: all of them where there is none
abbrev pub lines_before : List (List ℕ) → Option (ℕ × LratFault) → ℕ
lines_before lines None = length lines
lines_before lines (Some (line, fault)) = line

-- the first fault of a proof of these clauses
abbrev pub proof_fault : List (List Lit) → List (List ℕ) → Option (ℕ × LratFault)
proof_fault given lines = fault_from 0 (start given) lines

abbrev pub clause_fault : ℕ → Option (ℕ × LratFault) → Option EntryFault → Option EntryFault
clause_fault i None rest = rest
clause_fault i (Some (line, fault)) rest = Some (Proof i line fault)

-- the first fault of the proofs of the clauses from i on
abbrev pub proofs_fault : (ℕ → List (List Lit)) → ℕ → List (List (List ℕ)) → Option EntryFault
proofs_fault obligation i [] = None
proofs_fault obligation i (proof ∷ proofs) =
    clause_fault i (proof_fault (obligation i) proof) (proofs_fault obligation (i + 1) proofs)

abbrev pub or_else : {X Y : Type 0} → Option X → (X → Y) → Option Y → Option Y
or_else None fault rest = rest
or_else (Some x) fault rest = Some (fault x)

-- The first fault of an entry behind these, whose clauses are over the latches, with a proof for each clause: of its uses,
-- else of its clauses, else of its proofs.
abbrev pub first_fault : Circuit → List Entry → Entry → List (List (List ℕ)) → Option EntryFault
first_fault c before e proofs =
    or_else (first_bad_use (users.Entry e.kind) before e.uses) BadUse
    (or_else (first_baseless c e.kind e.clauses) Base
    (proofs_fault (obligation_of c before e) 0 proofs))
