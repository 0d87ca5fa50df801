use Rattle.std.proofs.Common.{rules, ◌≡◌, inl, inr, refl, subst, arith}
use Rattle.std.specs.Prelude.{IfOk}
use Rattle.std.specs.Arc.{arc_value}
use Rattle.std.proofs.lemmas.Result.{IfOk-weaker}
use Rattle.aig_semantics.specs.Circuits.{Circuit}
use Rattle.fair_top.specs.Demo.{SumsUp}
use Rattle.fair_top.proofs.Decided.{nothing_before}
use Rattle.fair_top.proofs.Begun.{one_serves}
use Rattle.fair_top.proofs.commands.demonstrating.run_for.Goals as goal

pub run_turns-requires-clause-served : goal.run_turns-requires-clause-served
run_turns-requires-clause-served c = one_serves (arc_value c.args.circuit.now) 0 (omega (arith, c.requires))

pub run_turns-requires-clause-one : goal.run_turns-requires-clause-one
run_turns-requires-clause-one c = λ some. refl

pub run_turns-requires-clause-given : goal.run_turns-requires-clause-given
run_turns-requires-clause-given c = λ before after e wrong. absurd (nothing_before before after e wrong)

pub returns-in-Ok-clause-found : goal.returns-in-Ok-clause-found
returns-in-Ok-clause-found c =
    let is : c.deref.result.now ≡ arc_value c.args.circuit.now = search rules in
    subst (λ (k : Circuit). IfOk c.answered.result (λ ending. SumsUp k c.args.request.now ending.status ending.text.items)) is
    (IfOk-weaker c.answered.result _ _ (λ ending h. inl h) c.answered.ensures.found)

pub returns-in-Err-Spent-clause-found : goal.returns-in-Err-Spent-clause-found
returns-in-Err-Spent-clause-found c =
    let is : c.deref-in-Err-Spent.result.now ≡ arc_value c.args.circuit.now = search rules in
    subst (λ (k : Circuit). IfOk c.reported.result (λ ending. SumsUp k c.args.request.now ending.status ending.text.items)) is
    (IfOk-weaker c.reported.result _ _ (λ ending h. inr h) c.reported.ensures.found)
