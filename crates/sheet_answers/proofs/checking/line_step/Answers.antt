use Rattle.std.proofs.Common.{rules, ◌≡◌, false}
use Rattle.stimulus.specs.Texts.{is_skipped}
use Rattle.sheet_answers.specs.Reading.{step}
use Rattle.sheet_answers.specs.Seen.{seen}
use Rattle.sheet_answers.proofs.Replaying.{replays_of, are_replays}
use Rattle.sheet_answers.proofs.LineSteps.{line_ok, line_fault, step_kept}
use Rattle.sheet_answers.proofs.checking.line_step.Goals as goal

pub returns-clause-ok : goal.returns-clause-ok
returns-clause-ok c replays are =
    let skip : is_skipped c.args.line.now ≡ false = search rules in
    line_ok c.args.circuit.now replays (seen c.args.state) c.args.number c.args.line.now skip c.step.result (c.step.ensures replays are)

pub returns-clause-kept : goal.returns-clause-kept
returns-clause-kept c =
    step_kept c.args.circuit.now (step c.args.circuit.now (replays_of c.args.circuit.now) (seen c.args.state) c.args.number c.args.line.now) c.step.result
    (c.step.ensures (replays_of c.args.circuit.now) (are_replays c.args.circuit.now))

pub returns-clause-fault : goal.returns-clause-fault
returns-clause-fault c replays are =
    let skip : is_skipped c.args.line.now ≡ false = search rules in
    line_fault c.args.circuit.now replays (seen c.args.state) c.args.number c.args.line.now skip c.step.result (c.step.ensures replays are)
