-- What is wrong with a model, as the answer of the check of its circuit tells it.
use Rattle.std.proofs.Common.{◌≡◌, ℕ, Result, Err, refl, inl, inr}
use Rattle.aig_semantics.specs.Circuits.{AreDefined, IsChecked}
use Rattle.circuit.specs.declared.parts.Parts.{Parts}
use Rattle.circuit.specs.declared.faults.ModelFault.{ModelFault}
use Rattle.circuit.specs.declared.faults.ModelFault.TheVariants.{Undefined, Twice, Cycle}
use Rattle.circuit.specs.declared.faults.ModelEnd.{ModelEnd}
use Rattle.circuit.specs.declared.faults.ModelEnd.TheVariants.{Fault, Memory}
use Rattle.circuit.specs.Sections.{circuit_of, used_by}
use Rattle.circuit.specs.Faults.{IsFirstTwice, IsFirstUndefined, HasFault, IsOnlyOnCycle, AnswersNoOther}
use Rattle.circuit.specs.Keeping.{TellsOrder}
use Rattle.unless_memory.specs.Answers.{GivesExactlyWhere, GivesOneExactlyWhere}
use Rattle.circuit.proofs.Verdicts.{refused-faulty, refused-twice, refused-undefined, refused-cycle, cyclic-twice, cyclic-undefined, cyclic-cycle, cyclic-faulty}

pub told-faulty : (T : Type 0) (parts : Parts) (end : ModelEnd) → TellsOrder parts (Err end) → (g : ModelFault)
    → ◌≡◌ {A = Result T ModelEnd} (Err end) (Err (Fault g)) → IsChecked (circuit_of parts) → AreDefined (circuit_of parts) (used_by parts) → ⊥
told-faulty T parts Memory told g e = cc
told-faulty T parts (Fault f) (inl has) g e = refused-faulty T parts f has g e
told-faulty T parts (Fault f) (inr (v, is, on)) g e = cyclic-faulty T parts v on.defined on.cycle g (rw is at e)

pub told-twice : (T : Type 0) (parts : Parts) (end : ModelEnd) → TellsOrder parts (Err end) → (v : ℕ)
    → GivesExactlyWhere {T = Result T ModelEnd} (Err Memory) (Err (Fault (Twice v))) (IsFirstTwice parts v) (Err end)
told-twice T parts Memory told v = record { only = λ e. cc; whenever = λ first. inr refl }
told-twice T parts (Fault f) (inl has) v = refused-twice T parts f has v
told-twice T parts (Fault f) (inr (w, is, on)) v = rw is (cyclic-twice T parts w on.defined on.cycle v)

pub told-undefined : (T : Type 0) (parts : Parts) (end : ModelEnd) → TellsOrder parts (Err end) → (v : ℕ)
    → GivesExactlyWhere {T = Result T ModelEnd} (Err Memory) (Err (Fault (Undefined v))) (IsFirstUndefined parts v) (Err end)
told-undefined T parts Memory told v = record { only = λ e. cc; whenever = λ first. inr refl }
told-undefined T parts (Fault f) (inl has) v = refused-undefined T parts f has v
told-undefined T parts (Fault f) (inr (w, is, on)) v = rw is (cyclic-undefined T parts w on.defined on.cycle v)

pub told-cycle : (T : Type 0) (parts : Parts) (end : ModelEnd) → TellsOrder parts (Err end)
    → GivesOneExactlyWhere {T = Result T ModelEnd} (Err Memory) (λ v. Err (Fault (Cycle v))) (IsOnlyOnCycle parts) (Err end)
told-cycle T parts Memory told = record { only = λ v e. cc; whenever = λ v on. inr refl }
told-cycle T parts (Fault f) (inl has) = refused-cycle T parts f has
told-cycle T parts (Fault f) (inr (w, is, on)) = rw is (cyclic-cycle T parts w on.defined on.cycle)

no_other : (T : Type 0) (parts : Parts) (f : ModelFault) → HasFault parts f → AnswersNoOther {T = T} (Err (Fault f))
no_other T parts (Twice v) has = tt
no_other T parts (Undefined v) has = tt
no_other T parts _ has = absurd has

pub told-other : (T : Type 0) (parts : Parts) (end : ModelEnd) → TellsOrder parts (Err end) → AnswersNoOther {T = T} (Err end)
told-other T parts Memory told = tt
told-other T parts (Fault f) (inl has) = no_other T parts f has
told-other T parts (Fault f) (inr (w, is, on)) = rw is tt
