use Rattle.std.proofs.Common.{◌≡◌, ◌∙◌, ◌++◌, ◌+◌, ◌∷◌, Bool, List, length, sym, ap, drop, arith}
use Rattle.text_grammar.specs.Lines.{ended_lines}
use Rattle.std.proofs.lemmas.List.{drop_more, length-map}
use Rattle.aig_semantics.specs.Runs.{position_of, successor, literal_at}
use Rattle.aig_semantics.specs.Stimuli.{simulated, state_after}
use Rattle.waves.specs.Dumps.{run_lines, position_lines}
use Rattle.waves.proofs.Lines.{run_on, state_on, run_done, state_done}
use Rattle.waves.proofs.dumps.push_run.Goals as goal

pub loop-k-preserved : goal.loop-k-preserved
loop-k-preserved c =
    let d = c.args.dump.now in
    let k = c.loop-k.k in
    let s = c.loop-k.latches in
    let now = c.index-inputs-k.result in
    let later : List (List Bool) = drop (k + 1) c.args.inputs.now in
    let here : now ∷ later ≡ drop k c.args.inputs.now =
    ap (λ (x : List Bool). x ∷ later) c.index-inputs-k.is ∙ sym (drop_more c.args.inputs.now k now c.loop-k-test.true) in
    let next : c.push_position.new.latches ≡ successor d.circuit.now (position_of s now) =
    c.in_ok-push_position.ensures.next ∙ ap (λ (x : List Bool). successor d.circuit.now (position_of s x)) c.as_slice.ensures in
    let text : c.push_position.new.out.items ≡ c.loop-k.out.items ++ ended_lines (position_lines d.circuit.now d.from d.signals.now (c.args.start + k) (position_of s now)) =
    c.in_ok-push_position.ensures.text
    ∙ ap (λ (x : List Bool). c.loop-k.out.items ++ ended_lines (position_lines d.circuit.now d.from d.signals.now (c.args.start + k) (position_of s x))) c.as_slice.ensures in
    record {
      text =
          run_on d.circuit.now d.from d.signals.now (c.args.start + k) (c.args.start + (k + 1)) s now c.push_position.new.latches later c.loop-k.out.items
          c.push_position.new.out.items (omega arith) next text
          ∙ ap (λ (x : List (List Bool)). c.loop-k.out.items ++ ended_lines (run_lines d.circuit.now d.from d.signals.now (c.args.start + k) (simulated d.circuit.now s x))) here
          ∙ c.loop-k.invariant.text;
      state = state_on d.circuit.now s now c.push_position.new.latches later next ∙ ap (λ (x : List (List Bool)). state_after d.circuit.now s x) here ∙ c.loop-k.invariant.state;
      latches = ap length next ∙ length-map d.circuit.now.latches (λ latch. literal_at d.circuit.now (position_of s now) latch.next);
      values = c.in_ok-push_position.ensures.room ∙ c.loop-k.invariant.values;
    }

pub returns-clause-text : goal.returns-clause-text
returns-clause-text c =
    let d = c.args.dump.now in
    sym (run_done d.circuit.now d.from d.signals.now (c.args.start + c.loop-k.k) c.loop-k.k c.loop-k.latches c.args.inputs.now c.loop-k.out.items c.loop-k-test.false)
    ∙ c.loop-k.invariant.text

pub returns-clause-next : goal.returns-clause-next
returns-clause-next c =
    sym (state_done c.args.dump.now.circuit.now c.loop-k.k c.loop-k.latches c.args.inputs.now c.loop-k-test.false) ∙ c.loop-k.invariant.state
