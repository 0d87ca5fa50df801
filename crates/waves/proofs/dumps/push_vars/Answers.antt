use Rattle.std.proofs.Common.{◌++◌, ◌∙◌, ◌∷◌, [], ℕ, List, map, take, ap}
use Rattle.text_grammar.specs.Lines.{ended_lines}
use Rattle.waves.specs.Dumps.{var_line}
use Rattle.waves.proofs.Lines.{ended_more}
use Rattle.waves.proofs.dumps.push_vars.Goals as goal

pub loop-signal-preserved : goal.loop-signal-preserved
loop-signal-preserved c =
    ended_more var_line c.args.out.now.items c.push_var.new.out.items c.args.signals.now c.loop-signal.signal-index c.signal-item.result c.loop-signal-test.true
    (c.in_ok-push_var.ensures ∙ ap (λ (x : List ℕ). x ++ (var_line c.signal-item.result ++ 10 ∷ [])) c.loop-signal.invariant
    ∙ ap (λ s. (c.args.out.now.items ++ ended_lines (map var_line (take c.loop-signal.signal-index c.args.signals.now))) ++ (var_line s ++ 10 ∷ [])) c.signal-item.is)
