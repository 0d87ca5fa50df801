use Rattle.std.proofs.Common.{◌≡◌, ◌⊎◌, Bool, subst, Ok, Err}
use Rattle.std.specs.Prelude.{IfOk}
use Rattle.aiger_grammar.specs.Models.{Model}
use Rattle.circuit.specs.declared.faults.ModelEnd.TheVariants.{Fault, Memory}
use Rattle.circuit.specs.declared.faults.ModelFault.{ModelFault}
use Rattle.aiger_grammar.specs.BothForms.{SameFault}
use Rattle.plain_commands.specs.ModelTexts.{IsTextIn, HasFaultIn}
use Rattle.plain_commands.proofs.models.read_model.Goals as goal

pub returns-clause-found : goal.returns-clause-found
returns-clause-found c = subst (λ (b : Bool). IfOk c.read_in.result (λ m. IsTextIn b m c.args.bytes.now)) c.is_binary.ensures c.read_in.ensures.found

pub returns-clause-every : goal.returns-clause-every
returns-clause-every c =
    subst (λ (b : Bool). (m : Model) → IsTextIn b m c.args.bytes.now → (c.read_in.result ≡ Ok m) ⊎ (c.read_in.result ≡ Err Memory)) c.is_binary.ensures c.read_in.ensures.every

pub returns-clause-fault : goal.returns-clause-fault
returns-clause-fault c =
    subst (λ (b : Bool). (fault : ModelFault) → c.read_in.result ≡ Err (Fault fault) → HasFaultIn b c.args.bytes.now fault) c.is_binary.ensures c.read_in.ensures.fault

pub returns-clause-first : goal.returns-clause-first
returns-clause-first c =
    subst (λ (b : Bool).
    (fault : ModelFault) → HasFaultIn b c.args.bytes.now fault
    → ((found : ModelFault) × (c.read_in.result ≡ Err (Fault found)) × SameFault found fault) ⊎ (c.read_in.result ≡ Err Memory))
    c.is_binary.ensures c.read_in.ensures.first
