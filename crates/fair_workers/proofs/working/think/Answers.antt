use Rattle.std.proofs.Common.{ℕ, ◌<◌, length, sym, ◌∙◌, subst, IfOk}
use Rattle.std.specs.Prelude.{IfSome}
use Rattle.std.specs.Arc.{arc_value}
use Rattle.entry.specs.CheckedEntries.{viewed}
use Rattle.entry.specs.Laws.{IsGoodList}
use Rattle.wall_store.specs.Boards.{plain}
use Rattle.fair_round.specs.Deeds.{IsDeed}
use Rattle.fair_workers.specs.Working.{AreRoundsOf}
use Rattle.fair_workers.proofs.Turned.{thought, serves-inside, serves-one}
use Rattle.fair_workers.proofs.working.think.Goals as goal

pub decided-requires-clause-property : goal.decided-requires-clause-property
decided-requires-clause-property g c =
    let k = g.L.SharedList.known c.args.shared.now in
    let w = c.args.worker.now in
    subst (λ d. w.property < length d.justice) (sym c.requires.circuit) (serves-inside k w c.requires.worker c.requires.phase)

pub decided-requires-clause-rounds : goal.decided-requires-clause-rounds
decided-requires-clause-rounds g c =
    let k = g.L.SharedList.known c.args.shared.now in
    let w = c.args.worker.now in
    subst (λ xs. IfSome w.rounds (AreRoundsOf (arc_value c.args.c.now) w.property xs)) (sym c.view.ensures.viewed)
    (subst (λ d. IfSome w.rounds (AreRoundsOf d w.property (plain k.list))) (sym c.requires.circuit) c.requires.worker.rounds)

pub decided-requires-clause-good : goal.decided-requires-clause-good
decided-requires-clause-good g c =
    subst (IsGoodList (arc_value c.args.c.now)) (sym c.view.ensures.viewed)
    (subst (λ d. IsGoodList d (plain (g.L.SharedList.known c.args.shared.now).list)) (sym c.requires.circuit) c.view.ensures.good)

pub returns-clause-deed : goal.returns-clause-deed
returns-clause-deed g c =
    let k = g.L.SharedList.known c.args.shared.now in
    let d = arc_value c.args.c.now in
    let j = c.args.worker.now.property in
    let xs = viewed c.view.result.now in
    subst (λ (m : ℕ). IfOk c.decided.result (IsDeed k.circuit (plain k.list) m k.number k.turns)) (sym c.decided.ensures.property)
    (subst (λ e. IfOk c.decided.result (IsDeed e (plain k.list) j k.number k.turns)) c.requires.circuit
    (subst (λ ys. IfOk c.decided.result (IsDeed d ys j k.number k.turns)) c.view.ensures.viewed
    (subst (λ n. IfOk c.decided.result (IsDeed d xs j n k.turns)) c.number.ensures
    (subst (λ t. IfOk c.decided.result (IsDeed d xs j c.number.result t)) c.turns.ensures c.decided.ensures.deed))))

pub returns-clause-thinks : goal.returns-clause-thinks
returns-clause-thinks g c =
    let k = g.L.SharedList.known c.args.shared.now in
    let d = arc_value c.args.c.now in
    let w = c.args.worker.now in
    let v = c.decided.new.worker in
    record {
      property = c.decided.ensures.property;
      phase = c.decided.ensures.phase;
      lasso_search = c.decided.ensures.lasso_search;
      rounds =
          subst (λ (m : ℕ). IfSome v.rounds (AreRoundsOf k.circuit m (plain k.list))) (sym c.decided.ensures.property)
          (subst (λ e. IfSome v.rounds (AreRoundsOf e w.property (plain k.list))) c.requires.circuit
          (subst (λ xs. IfSome v.rounds (AreRoundsOf d w.property xs)) c.view.ensures.viewed c.decided.ensures.rounds));
      limits = record { conflicts = c.decided.ensures.counted.conflict_limit; steps = c.decided.ensures.counted.step_limit };
      steps =
          thought v.phase w.meter.steps v.meter.steps k.circuit d w.property k.properties (c.decided.ensures.phase ∙ c.requires.phase) c.requires.circuit
          (serves-one k w c.requires.worker c.requires.phase) c.decided.ensures.counted.bound;
    }
