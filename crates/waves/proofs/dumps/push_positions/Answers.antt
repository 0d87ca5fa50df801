use Rattle.std.proofs.Common.{rules, ◌∙◌, ◌++◌, ◌+◌, ap, List, Bool, length}
use Rattle.text_grammar.specs.Lines.{ended_lines}
use Rattle.aig_semantics.specs.Stimuli.{simulated}
use Rattle.waves.specs.Dumps.{run_lines}
use Rattle.waves.proofs.Lines.{lasso_written}
use Rattle.waves.proofs.dumps.push_positions.Goals as goal

pub returns : goal.returns
returns c =
    let d = c.args.dump.now in
    let xs = c.args.inputs.now in
    let ys = c.args.again.now in
    let first = c.push_run.new.out.items in
    let second = c.push_run-2.new.out.items in
    lasso_written d.circuit.now d.from d.signals.now c.args.latches.now xs ys (length xs) (length xs + length ys)
    c.args.out.now.items first second c.push_time.new.out.items (search rules) (search rules)
    (search rules)
    (c.in_ok-push_run-2.ensures.text
    ∙ ap (λ (s : List Bool). first ++ ended_lines (run_lines d.circuit.now d.from d.signals.now (length xs) (simulated d.circuit.now s ys))) c.in_ok-push_run.ensures.next)
    c.in_ok-push_time.ensures
