use Rattle.std.proofs.Common.{rules, ◌≡◌, subst}
use Rattle.std.specs.Prelude.{IfOk}
use Rattle.std.specs.Arc.{arc_value}
use Rattle.aig_semantics.specs.Circuits.{Circuit}
use Rattle.fair_top.specs.Demo.{SumsUp}
use Rattle.fair_top.proofs.commands.demonstrating.summed_up.Goals as goal

pub returns-in-Ok-clause-found : goal.returns-in-Ok-clause-found
returns-in-Ok-clause-found c =
    let is : arc_value c.in-Ok.circuit ≡ c.args.circuit = search rules in
    subst (λ (k : Circuit). IfOk c.run_for.result (λ ending. SumsUp k c.args.request.now ending.status ending.text.items)) is c.run_for.ensures.found
