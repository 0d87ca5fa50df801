use Rattle.std.proofs.Common.{sym, ◌∙◌, subst}
use Rattle.std.specs.Prelude.{IfSome}
use Rattle.std.specs.Arc.{arc_value}
use Rattle.entry.specs.CheckedEntries.{viewed}
use Rattle.fair_workers.specs.Working.{AreRoundsOf}
use Rattle.fair_workers.proofs.Turned.{made-rounds}
use Rattle.fair_workers.proofs.working.taken.Goals as goal

pub returns-in-Some-clause-rounds : goal.returns-in-Some-clause-rounds
returns-in-Some-clause-rounds c =
    subst (λ o. IfSome o (AreRoundsOf (arc_value c.args.c.now) c.args.j (viewed c.args._view.now))) (sym c.take.ensures.value ∙ c.in-Some.is) c.requires.rounds

pub returns-in-None-clause-rounds : goal.returns-in-None-clause-rounds
returns-in-None-clause-rounds c =
    made-rounds c.new.result (arc_value c.args.c.now) c.args.j (viewed c.args._view.now) c.new.ensures
