use Rattle.std.proofs.Common.{◌∙◌, refl}
use Rattle.plain_commands.proofs.TextsRead.{model_read, fault_given, one_given, no_fault_given, no_model_given, same_given}
use Rattle.plain_commands.proofs.models.model_of.Goals as goal

pub returns-in-Ok-clause-found : goal.returns-in-Ok-clause-found
returns-in-Ok-clause-found g c =
    model_read (g.H.Shelf.held c.args.shelf.now c.args.name.now) c.deref.result.now c.in-Ok.model
    (λ text e. c.deref.ensures.value ∙ c.in_ok-bytes.ensures.text text e) c.in-Ok.ensures.found
    (λ n form. one_given c.in-Ok.model n (c.in-Ok.ensures.every n form))
    (λ fault bad. no_fault_given c.in-Ok.model fault (c.in-Ok.ensures.first fault bad))

pub returns-in-Err-Fault-clause-ended : goal.returns-in-Err-Fault-clause-ended
returns-in-Err-Fault-clause-ended g c =
    let facts = rw c.in-Err-Fault.field-0-is at c.in-Err-Fault.ensures in
    fault_given (g.H.Shelf.held c.args.shelf.now c.args.name.now) c.deref.result.now c.in-Err-Fault.fault
    (λ text e. c.deref.ensures.value ∙ c.in_ok-bytes.ensures.text text e) (facts.fault c.in-Err-Fault.fault refl)
    (λ other bad. same_given c.in-Err-Fault.fault other (facts.first other bad))
    (λ m form. no_model_given m c.in-Err-Fault.fault (facts.every m form))
