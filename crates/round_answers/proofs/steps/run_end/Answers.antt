use Rattle.std.proofs.Common.{◌≡◌, ℕ, sym, subst}
use Rattle.certificate.specs.declared.state.State.{State}
use Rattle.certificate.specs.Seen.{seen}
use Rattle.round_answers.specs.Reading.{Running}
use Rattle.round_answers.specs.Telling.{TellsEnd}
use Rattle.round_answers.proofs.RunEnds.{run_tells, run_knows}
use Rattle.round_answers.proofs.steps.run_end.Goals as goal

pub returns-in-Dotted-clause-tells : goal.returns-in-Dotted-clause-tells
returns-in-Dotted-clause-tells c =
    let k : ℕ = c.args.asked.k in
    let n : ℕ = c.args.asked.property in
    subst (λ (s : State). TellsEnd c.args.circuit.now (Running k n (seen s)) c.args.number c.judge_run.result) (sym c.in-Dotted.is)
    (run_tells c.args.circuit.now k n c.in-Dotted.stimulus c.judge_run.result c.judge_run.ensures c.in-Dotted.field-0 c.args.number)

pub returns-in-Dotted-clause-knows : goal.returns-in-Dotted-clause-knows
returns-in-Dotted-clause-knows c =
    run_knows c.args.circuit.now c.args.asked.k c.args.asked.property c.in-Dotted.stimulus c.judge_run.result c.judge_run.ensures
