-- How the cone is found (scaffolding): a table of what each variable reads, and variables that wait.
use Rattle.std.specs.Prelude.{◌≡◌, ℕ, ◌+◌, ◌⊎◌, Bool, true, false, cond, List, [], ◌∷◌, ◌++◌, Option, Some, None, length, slice_set, slice_index_or, fold, sum_by, IsTrue}
use Rattle.std.specs.List.{All, Contains}
use Rattle.aig_semantics.specs.declared.parts.Gate.{Gate}
use Rattle.aig_semantics.specs.declared.parts.Latch.{Latch}
use Rattle.aig_semantics.specs.Literals.{variable_of, variable_in}
use Rattle.aig_semantics.specs.Circuits.{Circuit}
use Rattle.cone.specs.declared.tables.Reads.{Reads}
use Rattle.cone.specs.Cones.{IsClosed}

abbrev pub reads_at : List (Option Reads) → ℕ → Option Reads
reads_at table v = slice_index_or table v None

abbrev pub reads_of_gate : Gate → Reads
reads_of_gate gate = record { first = gate.rhs0; second = gate.rhs1 }

abbrev pub reads_of_latch : Latch → Reads
reads_of_latch latch = record { first = latch.next; second = latch.next }

-- the table with what gates read, and with what latches do
unfoldable pub with_gates : List (Option Reads) → List Gate → List (Option Reads)
with_gates table gates = fold (λ t gate. slice_set t gate.var (Some (reads_of_gate gate))) table gates

unfoldable pub with_latches : List (Option Reads) → List Latch → List (Option Reads)
with_latches table latches = fold (λ t latch. slice_set t latch.var (Some (reads_of_latch latch))) table latches

-- both variables are in the set
abbrev pub AreIn : (ℕ → Bool) → Reads → Type 0
AreIn set reads = IsTrue (set (variable_of reads.first)) × IsTrue (set (variable_of reads.second))

-- the table of a circuit: what stands in it every closed set keeps, and gates and latches stand in it
pub record IsTable (c : Circuit) (j : ℕ) (table : List (Option Reads)) : Type 0 where
  pub kept : (v : ℕ) (reads : Reads) → reads_at table v ≡ Some reads → (set : ℕ → Bool) → IsClosed c j set → IsTrue (set v) → AreIn set reads
  pub gates : All (λ gate. reads_at table gate.var ≡ Some (reads_of_gate gate)) c.gates
  pub latches : All (λ latch. reads_at table latch.var ≡ Some (reads_of_latch latch)) c.latches

-- what the variable reads is marked
abbrev pub IsSettled : List (Option Reads) → List Bool → ℕ → Type 0
IsSettled table marks v = (reads : Reads) → reads_at table v ≡ Some reads → AreIn (variable_in marks) reads

-- Marks, and marked variables that wait for what they read to be marked: those on the stack, and those in hand.
pub record IsSearch (c : Circuit) (j : ℕ) (table : List (Option Reads)) (marks : List Bool) (stack hand : List ℕ) : Type 0 where
  pub size : length marks ≡ c.max + 1
  pub kept : (set : ℕ → Bool) → IsClosed c j set → (v : ℕ) → IsTrue (variable_in marks v) → IsTrue (set v)
  pub waiting : All (λ v. IsTrue (variable_in marks v)) stack
  pub settled : (v : ℕ) → IsTrue (variable_in marks v) → Contains stack v ⊎ (Contains hand v ⊎ IsSettled table marks v)

-- what is marked stays marked
abbrev pub KeepsMarks : List Bool → List Bool → Type 0
KeepsMarks old new = (v : ℕ) → IsTrue (variable_in old v) → IsTrue (variable_in new v)

-- the variable is in each closed set
abbrev pub IsAsked : Circuit → ℕ → ℕ → Type 0
IsAsked c j v = (set : ℕ → Bool) → IsClosed c j set → IsTrue (set v)

-- the variable is marked, and waits where it was not marked before
abbrev pub IsPutWhere : Bool → ℕ → List Bool → List ℕ → List Bool → List ℕ → Type 0
IsPutWhere true v marks stack marks' stack' = (marks' ≡ marks) × (stack' ≡ stack)
IsPutWhere false v marks stack marks' stack' = (marks' ≡ slice_set marks v true) × (stack' ≡ stack ++ v ∷ [])

abbrev pub IsPut : ℕ → List Bool → List ℕ → List Bool → List ℕ → Type 0
IsPut v marks stack marks' stack' = IsPutWhere (variable_in marks v) v marks stack marks' stack'

-- how many steps are left: one for each variable that is not marked, and one for each that waits
abbrev pub steps_left : List Bool → List ℕ → ℕ
steps_left marks stack = sum_by (λ marked. cond marked 0 1) marks + length stack
