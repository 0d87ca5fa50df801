use Rattle.std.proofs.Common.{subst, ◌∙◌, ap, ◌≡◌}
use Rattle.std.specs.Prelude.{IfOk}
use Rattle.aig_semantics.specs.Circuits.{Circuit}
use Rattle.aiger_grammar.specs.Models.{Model}
use Rattle.fair_top.specs.Demo.{demo_circuit, SumsUp}
use Rattle.fair_top.proofs.Summed.{loud, unread, hidden}
use Rattle.fair_top.proofs.commands.demonstrating.demonstrate.Goals as goal

pub returns-in-Ok-clause-found : goal.returns-in-Ok-clause-found
returns-in-Ok-clause-found c =
    let is : c.into_circuit.result ≡ demo_circuit c.args.request.now = c.into_circuit.ensures ∙ ap (λ (m : Model). m.circuit) c.in-Ok.ensures.model in
    subst (λ (k : Circuit). IfOk c.summed_up.result (λ ending. SumsUp k c.args.request.now ending.status ending.text.items)) is c.summed_up.ensures.found

pub returns-in-Ok-clause-aloud : goal.returns-in-Ok-clause-aloud
returns-in-Ok-clause-aloud c = loud c.into_circuit.result c.args.request.now c.summed_up.result c.summed_up.ensures.found

pub returns-in-Ok-clause-unread : goal.returns-in-Ok-clause-unread
returns-in-Ok-clause-unread c = unread c.into_circuit.result c.args.request.now c.summed_up.result c.summed_up.ensures.found c.summed_up.ensures.ended

pub returns-in-Ok-clause-hidden : goal.returns-in-Ok-clause-hidden
returns-in-Ok-clause-hidden c = hidden c.into_circuit.result c.args.request.now c.summed_up.result c.summed_up.ensures.found c.summed_up.ensures.ended
