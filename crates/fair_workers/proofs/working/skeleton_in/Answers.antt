use Rattle.std.proofs.Common.{sym, ◌∙◌, subst, IfOk}
use Rattle.std.specs.Prelude.{Option, IfSome}
use Rattle.std.specs.Arc.{arc_value}
use Rattle.entry.specs.CheckedEntries.{viewed}
use Rattle.entry.specs.Laws.{IsGoodList}
use Rattle.skeleton.specs.Finding.{Asking, IsFound}
use Rattle.fair_workers.specs.Working.{AreRoundsOf}
use Rattle.fair_workers.proofs.working.skeleton_in.Goals as goal

pub next-found-requires-clause-good : goal.next-found-requires-clause-good
next-found-requires-clause-good c =
    subst (λ d. IsGoodList d (viewed c.args.view.now)) (sym c.in_ok-rounds.ensures.rounds.circuit) c.requires.good

pub returns-in_err-rounds-clause-rounds : goal.returns-in_err-rounds-clause-rounds
returns-in_err-rounds-clause-rounds c =
    subst (λ (o : Option Asking). IfSome o (AreRoundsOf (arc_value c.args.c.now) c.args.j (viewed c.args.view.now))) (sym c.in_err-rounds.ensures.none) tt

pub returns-clause-found : goal.returns-clause-found
returns-clause-found c =
    let r = c.in_ok-rounds.rounds in
    let xs = viewed c.args.view.now in
    subst (λ i. IfOk c.next-found.result (IsFound (arc_value c.args.c.now) i xs)) c.in_ok-rounds.ensures.rounds.property
    (subst (λ d. IfOk c.next-found.result (IsFound d r.property xs)) c.in_ok-rounds.ensures.rounds.circuit c.next-found.ensures.found)

pub returns-clause-rounds : goal.returns-clause-rounds
returns-clause-rounds c =
    subst (λ (o : Option Asking). IfSome o (AreRoundsOf (arc_value c.args.c.now) c.args.j (viewed c.args.view.now))) (sym c.replace.ensures.after)
    (record {
      circuit = c.next-found.ensures.circuit ∙ c.in_ok-rounds.ensures.rounds.circuit;
      property = c.next-found.ensures.property ∙ c.in_ok-rounds.ensures.rounds.property;
      on = c.next-found.ensures.seen;
    })
