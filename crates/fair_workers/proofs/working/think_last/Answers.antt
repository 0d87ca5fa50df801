use Rattle.std.proofs.Common.{ℕ, ◌<◌, length, sym, subst, IfOk}
use Rattle.std.specs.Prelude.{IfSome}
use Rattle.std.specs.Arc.{arc_value}
use Rattle.entry.specs.Laws.{IsGoodList}
use Rattle.skeleton.specs.Finding.{IsFound}
use Rattle.wall_store.specs.Boards.{plain}
use Rattle.fair_workers.specs.Working.{searches_in, search_steps, AreRoundsOf}
use Rattle.fair_workers.proofs.Turned.{unthought, serves-last-inside}
use Rattle.fair_workers.proofs.working.think_last.Goals as goal

pub skeleton_in-requires-clause-property : goal.skeleton_in-requires-clause-property
skeleton_in-requires-clause-property g c =
    let k = g.L.SharedList.known c.args.shared.now in
    let w = c.args.worker.now in
    subst (λ d. w.property < length d.justice) (sym c.requires.circuit) (serves-last-inside k w c.requires.worker c.requires.phase)

pub skeleton_in-requires-clause-rounds : goal.skeleton_in-requires-clause-rounds
skeleton_in-requires-clause-rounds g c =
    let k = g.L.SharedList.known c.args.shared.now in
    let w = c.args.worker.now in
    subst (λ xs. IfSome w.rounds (AreRoundsOf (arc_value c.args.c.now) w.property xs)) (sym c.view.ensures.viewed)
    (subst (λ d. IfSome w.rounds (AreRoundsOf d w.property (plain k.list))) (sym c.requires.circuit) c.requires.worker.rounds)

pub skeleton_in-requires-clause-good : goal.skeleton_in-requires-clause-good
skeleton_in-requires-clause-good g c =
    subst (IsGoodList (arc_value c.args.c.now)) (sym c.view.ensures.viewed)
    (subst (λ d. IsGoodList d (plain (g.L.SharedList.known c.args.shared.now).list)) (sym c.requires.circuit) c.view.ensures.good)

pub returns-clause-found : goal.returns-clause-found
returns-clause-found g c =
    let k = g.L.SharedList.known c.args.shared.now in
    let j = c.args.worker.now.property in
    subst (λ (m : ℕ). IfOk c.skeleton_in.result (IsFound k.circuit m (plain k.list))) (sym c.skeleton_in.ensures.property)
    (subst (λ d. IfOk c.skeleton_in.result (IsFound d j (plain k.list))) c.requires.circuit
    (subst (λ xs. IfOk c.skeleton_in.result (IsFound (arc_value c.args.c.now) j xs)) c.view.ensures.viewed c.skeleton_in.ensures.found))

pub returns-clause-thinks : goal.returns-clause-thinks
returns-clause-thinks g c =
    let k = g.L.SharedList.known c.args.shared.now in
    let d = arc_value c.args.c.now in
    let w = c.args.worker.now in
    let v = c.skeleton_in.new.worker in
    record {
      property = c.skeleton_in.ensures.property;
      phase = c.skeleton_in.ensures.phase;
      lasso_search = c.skeleton_in.ensures.lasso_search;
      rounds =
          subst (λ (m : ℕ). IfSome v.rounds (AreRoundsOf k.circuit m (plain k.list))) (sym c.skeleton_in.ensures.property)
          (subst (λ e. IfSome v.rounds (AreRoundsOf e w.property (plain k.list))) c.requires.circuit
          (subst (λ xs. IfSome v.rounds (AreRoundsOf d w.property xs)) c.view.ensures.viewed c.skeleton_in.ensures.rounds));
      limits = record { conflicts = c.skeleton_in.ensures.counted.conflict_limit; steps = c.skeleton_in.ensures.counted.step_limit };
      steps = unthought w.meter.steps v.meter.steps (searches_in v.phase) (search_steps k.circuit k.properties) c.skeleton_in.ensures.counted.steps;
    }
