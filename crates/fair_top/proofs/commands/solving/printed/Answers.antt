use Rattle.std.proofs.Common.{rules, ◌≡◌, Some, subst}
use Rattle.aig_semantics.specs.Circuits.{Circuit}
use Rattle.aig_semantics.specs.Stimuli.{IsFairLassoOf}
use Rattle.entry.specs.Proved.{IsGoodRefutation}
use Rattle.wall_store.specs.Boards.{plain, outcome_of}
use Rattle.wall_store.specs.declared.outcomes.Outcome.TheVariants.{Lasso, Holds}
use Rattle.fair_top.proofs.Decided.{is_printed}
use Rattle.fair_top.proofs.commands.solving.printed.Goals.{in-Some-Lasso, in-Some-Holds}
use Rattle.fair_top.proofs.commands.solving.printed.Goals as goal

pub stimulus_text-written-requires-clause-fair : goal.stimulus_text-written-requires-clause-fair
stimulus_text-written-requires-clause-fair c =
    let j = c.args.request.now.property in
    let lasso = c.in-Some-Lasso.lasso in
    let told : outcome_of c.args.board.now.served j ≡ Some (Lasso lasso) = search rules in
    subst (λ (k : Circuit). IsFairLassoOf k j lasso) c.requires.answered.1.board.circuit
    (c.requires.answered.1.board.board.outcomes j (Lasso lasso) told)

pub certificate_text-written-requires-clause-good : goal.certificate_text-written-requires-clause-good
certificate_text-written-requires-clause-good c =
    let j = c.args.request.now.property in
    let r = c.in-Some-Holds.refutation in
    let told : outcome_of c.args.board.now.served j ≡ Some (Holds r) = search rules in
    subst (λ (k : Circuit). IsGoodRefutation k (plain c.args.board.now.entries) j r.uses r.proof) c.requires.answered.1.board.circuit
    (c.requires.answered.1.board.board.outcomes j (Holds r) told)

pub returns-in-Ok-clause-found : goal.returns-in-Ok-clause-found
returns-in-Ok-clause-found c =
    elim c.match-outcome-2.branch [
      | in-Some-Lasso w ↦
          is_printed _ c.args.circuit.now c.args.request.now c.args.board.now.limit w.stimulus_text-written.result c.match-outcome-2.written c.in-Ok.ending
          w.written-is c.in-Ok.is (w.stimulus_text-written.ensures.printed c.args.board.now.limit)
      | in-Some-Holds w ↦
          is_printed _ c.args.circuit.now c.args.request.now c.args.board.now.limit w.certificate_text-written.result c.match-outcome-2.written c.in-Ok.ending
          w.written-is c.in-Ok.is w.certificate_text-written.ensures.printed
    ]
