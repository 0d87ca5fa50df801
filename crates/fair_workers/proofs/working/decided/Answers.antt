use Rattle.std.proofs.Common.{length, max, ◌+◌, sym, ◌∙◌, subst}
use Rattle.std.specs.Prelude.{Option, IfSome}
use Rattle.std.specs.Arc.{arc_value}
use Rattle.aig_semantics.specs.Circuits.{fair_literals}
use Rattle.entry.specs.CheckedEntries.{viewed}
use Rattle.skeleton.specs.Finding.{Asking}
use Rattle.fair_workers.specs.Working.{AreRoundsOf}
use Rattle.fair_workers.proofs.Turned.{counts-none}
use Rattle.fair_workers.proofs.working.decided.Goals as goal

pub returns-in_err-rounds-clause-counted : goal.returns-in_err-rounds-clause-counted
returns-in_err-rounds-clause-counted c =
    counts-none (length (arc_value c.args.c.now).latches) (max 1 (length (fair_literals (arc_value c.args.c.now) c.args.j)) + 1) c.args.worker.now.meter

pub returns-in_err-rounds-clause-rounds : goal.returns-in_err-rounds-clause-rounds
returns-in_err-rounds-clause-rounds c =
    subst (λ (o : Option Asking). IfSome o (AreRoundsOf (arc_value c.args.c.now) c.args.j (viewed c.args.view.now))) (sym c.in_err-rounds.ensures.none) tt

pub returns-clause-rounds : goal.returns-clause-rounds
returns-clause-rounds c =
    subst (λ (o : Option Asking). IfSome o (AreRoundsOf (arc_value c.args.c.now) c.args.j (viewed c.args.view.now))) (sym c.replace.ensures.after)
    (record {
      circuit = c.decide-deed.ensures.circuit ∙ c.in_ok-rounds.ensures.rounds.circuit;
      property = c.decide-deed.ensures.property ∙ c.in_ok-rounds.ensures.rounds.property;
      on = c.decide-deed.ensures.seen;
    })
