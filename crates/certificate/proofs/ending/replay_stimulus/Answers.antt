use Rattle.std.proofs.Common.{ℕ, refl, sym, subst}
use Rattle.aig_semantics.specs.Stimuli.{StandsFor}
use Rattle.certificate.proofs.Replayed.{lasso_tells, fault_tells}
use Rattle.certificate.proofs.ending.replay_stimulus.Goals as goal

pub returns-in-Ok-clause-tells : goal.returns-in-Ok-clause-tells
returns-in-Ok-clause-tells c number =
    lasso_tells c.args.circuit.now c.args.property c.args.stimulus.now c.in-Ok.lasso c.len.result c.in-Ok.lasso.from number
    (subst (λ (k : ℕ). StandsFor c.args.circuit.now c.args.property c.args.stimulus.now k c.in-Ok.lasso.from) (sym c.len.ensures) c.in-Ok.ensures.found)
    (λ fault. (c.in-Ok.ensures.fault fault).whenever)

pub returns-in-Err-Fault-clause-tells : goal.returns-in-Err-Fault-clause-tells
returns-in-Err-Fault-clause-tells c number =
    let facts = rw c.in-Err-Fault.field-0-is at c.in-Err-Fault.ensures in
    fault_tells c.args.circuit.now c.args.property c.args.stimulus.now c.in-Err-Fault.fault number ((facts.fault c.in-Err-Fault.fault).only refl)
    (λ other. (facts.fault other).whenever) facts.every
