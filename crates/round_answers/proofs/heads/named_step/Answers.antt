use Rattle.std.proofs.Common.{rules, ◌≡◌, ℕ, Option, Some, sym, subst}
use Rattle.certificate.specs.Reading.{property_in}
use Rattle.round_answers.specs.Reading.{named_step}
use Rattle.round_answers.specs.Seen.{TellsStep}
use Rattle.round_answers.proofs.heads.named_step.Goals as goal

pub returns-in-Some-property_of : goal.returns-in-Some-property_of
returns-in-Some-property_of c =
    let e : property_in c.args.line.now ≡ Some c.in-Some-property_of.property = search rules in
    subst (λ (o : Option ℕ). TellsStep c.args.circuit.now (named_step c.args.circuit.now c.args.k c.args.number o) c.monitored.result) (sym e)
    (c.monitored.ensures c.args.number)
