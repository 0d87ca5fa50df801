use Rattle.std.proofs.Common.{◌∙◌, ◌++◌, ap, List}
use Rattle.text_grammar.specs.Lines.{ended_lines}
use Rattle.aig_semantics.specs.Circuits.{Circuit}
use Rattle.waves.specs.declared.signals.Signal.{Signal}
use Rattle.waves.specs.Signals.{signals_of}
use Rattle.waves.specs.Dumps.{header_lines, all_lines, unrolled}
use Rattle.waves.proofs.Lines.{both_written}
use Rattle.waves.proofs.dumps.write.Goals as goal

pub returns : goal.returns
returns c =
    let m = c.args.model.now in
    let lasso = c.args.lasso.now in
    let signals : List Signal = signals_of m c.args.j in
    let header = c.push_header.new.out.items in
    both_written (header_lines c.args.j signals) (all_lines m.circuit lasso.from signals (unrolled m.circuit lasso)) c.new-out.result.items header
    c.push_lasso.new.out.items c.new-out.ensures.items
    (c.in_ok-push_header.ensures
    ∙ ap (λ (x : List Signal). c.new-out.result.items ++ ended_lines (header_lines c.args.j x)) (c.deref-2.ensures.value ∙ c.in_ok-signals.ensures))
    (c.in_ok-push_lasso.ensures
    ∙ ap (λ (x : List Signal). header ++ ended_lines (all_lines c.circuit.result.now lasso.from x (unrolled c.circuit.result.now lasso))) (c.deref.ensures.value ∙ c.in_ok-signals.ensures)
    ∙ ap (λ (k : Circuit). header ++ ended_lines (all_lines k lasso.from signals (unrolled k lasso))) c.circuit.ensures.circuit)
