-- What may be wrong with the circuit of a model, and when it is said.
use Rattle.std.specs.Prelude.{◌≡◌, ◌≢◌, ℕ, ◌≤◌, ◌<◌, ◌==◌, count_by, Result, Ok, Err}
use Rattle.std.specs.List.{Any, AllPairs, Contains}
use Rattle.aig_semantics.specs.Literals.{variable_of}
use Rattle.aig_semantics.specs.Circuits.{defined, AreDefined, IsOnCycle}
use Rattle.circuit.specs.declared.parts.Parts.{Parts}
use Rattle.circuit.specs.declared.faults.ModelFault.{ModelFault}
use Rattle.circuit.specs.declared.faults.ModelFault.TheVariants.{Undefined, Twice, Cycle}
use Rattle.circuit.specs.declared.faults.ModelEnd.{ModelEnd}
use Rattle.circuit.specs.declared.faults.ModelEnd.TheVariants.{Fault, Memory}
use Rattle.circuit.specs.Sections.{circuit_of, used_by}

-- v is the least number of which the fact holds
pub record IsLeast (P : ℕ → Type 0) (v : ℕ) : Type 0 where
  pub holds : P v
  pub least : (u : ℕ) → P u → v ≤ u

-- the model defines variable v at least twice
abbrev pub IsTwice : Parts → ℕ → Type 0
IsTwice parts v = 1 < count_by (λ u. u == v) (defined (circuit_of parts))

-- the model uses variable v above 0, and defines it nowhere
pub record IsUndefined (parts : Parts) (v : ℕ) : Type 0 where
  pub positive : 1 ≤ v
  pub used : Any (λ literal. variable_of literal ≡ v) (used_by parts)
  pub nowhere : Contains (defined (circuit_of parts)) v → ⊥

-- v is the least variable that is defined twice
abbrev pub IsFirstTwice : Parts → ℕ → Type 0
IsFirstTwice parts v = IsLeast (IsTwice parts) v

-- no variable is defined twice
abbrev pub IsOnce : Parts → Type 0
IsOnce parts = AllPairs (λ v w. v ≢ w) (defined (circuit_of parts))

-- no variable is defined twice, and v is the least undefined one
pub record IsFirstUndefined (parts : Parts) (v : ℕ) : Type 0 where
  pub once : IsOnce parts
  pub first : IsLeast (IsUndefined parts) v

-- Nothing is wrong with the definitions and uses of the model: no variable is defined twice, and each variable above
-- 0 that is used is defined.
pub record IsDefined (parts : Parts) : Type 0 where
  pub once : IsOnce parts
  pub defined : AreDefined (circuit_of parts) (used_by parts)

-- nothing is wrong with the definitions and uses, and the gate of variable v depends on itself
pub record IsOnlyOnCycle (parts : Parts) (v : ℕ) : Type 0 where
  pub defined : IsDefined parts
  pub cycle : IsOnCycle (circuit_of parts) v

-- the model has this fault in its definitions and uses
abbrev pub HasFault : Parts → ModelFault → Type 0
HasFault parts (Twice v) = IsFirstTwice parts v
HasFault parts (Undefined v) = IsFirstUndefined parts v
HasFault parts _ = ⊥

-- the call answers no fault but these three
abbrev pub AnswersNoOther : {T : Type 0} → Result T ModelEnd → Type 0
AnswersNoOther (Ok c) = Unit {0}
AnswersNoOther (Err Memory) = Unit {0}
AnswersNoOther (Err (Fault (Twice v))) = Unit {0}
AnswersNoOther (Err (Fault (Undefined v))) = Unit {0}
AnswersNoOther (Err (Fault (Cycle v))) = Unit {0}
AnswersNoOther (Err (Fault _)) = ⊥
