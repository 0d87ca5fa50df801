use Rattle.std.proofs.Common.{◌<◌, length, sym, ap, subst, IfOk}
use Rattle.std.specs.Prelude.{IfSome, is_some}
use Rattle.std.specs.Arc.{arc_value}
use Rattle.aig_semantics.specs.Stimuli.{IsFairLassoOf}
use Rattle.fair_workers.specs.Working.{IsBehind, UnlessFound}
use Rattle.fair_workers.proofs.LassoTurns.{searches-of, searches-inside, some-search, some-before, sought-of}
use Rattle.fair_workers.proofs.racing.search.Goals as goal

pub sought-requires-clause-property : goal.sought-requires-clause-property
sought-requires-clause-property g c =
    let k = g.L.SharedList.known c.args.shared.now in
    let w = c.args.worker.now in
    subst (λ d. w.property < length d.justice) (sym c.requires.circuit) (searches-inside k w c.args.after c.requires.worker c.requires.phase)

pub sought-requires-clause-some : goal.sought-requires-clause-some
sought-requires-clause-some g c =
    let k = g.L.SharedList.known c.args.shared.now in
    let w = c.args.worker.now in
    ap is_some (searches-of k w c.args.after c.requires.worker c.requires.phase).1

pub sought-requires-clause-search : goal.sought-requires-clause-search
sought-requires-clause-search g c =
    let k = g.L.SharedList.known c.args.shared.now in
    let w = c.args.worker.now in
    let had = searches-of k w c.args.after c.requires.worker c.requires.phase in
    some-search (arc_value c.args.c.now) w.property k w.lasso_search had.0 c.requires.circuit had.1 had.2

pub sought-requires-clause-before : goal.sought-requires-clause-before
sought-requires-clause-before g c =
    let k = g.L.SharedList.known c.args.shared.now in
    let w = c.args.worker.now in
    let had = searches-of k w c.args.after c.requires.worker c.requires.phase in
    some-before (arc_value c.args.c.now) w.property c.args.after k w.lasso_search had.0 c.requires.circuit had.1 had.3

pub returns-clause-lasso : goal.returns-clause-lasso
returns-clause-lasso g c =
    let d = arc_value c.args.c.now in
    let w = c.args.worker.now in
    subst (λ m. IfOk c.sought.result (λ found. IfSome found (IsFairLassoOf (g.L.SharedList.known c.args.shared.now).circuit m))) (sym c.sought.ensures.property)
    (subst (λ e. IfOk c.sought.result (λ found. IfSome found (IsFairLassoOf e w.property))) c.requires.circuit c.sought.ensures.lasso)

pub returns-clause-on : goal.returns-clause-on
returns-clause-on g c =
    let s = c.sought.ensures in
    sought-of (g.L.SharedList.known c.args.shared.now) c.args.worker.now c.sought.new.worker c.args.after (arc_value c.args.c.now)
    c.requires.worker c.requires.phase c.requires.circuit s.counted s.property s.rounds s.phase s.kind s.search

pub returns-clause-behind : goal.returns-clause-behind
returns-clause-behind g c =
    let w = c.args.worker.now in
    let v = c.sought.new.worker in
    subst (λ m. IfOk c.sought.result (UnlessFound (IfSome v.lasso_search (IsBehind (g.L.SharedList.known c.args.shared.now).circuit m c.args.after)))) (sym c.sought.ensures.property)
    (subst (λ e. IfOk c.sought.result (UnlessFound (IfSome v.lasso_search (IsBehind e w.property c.args.after)))) c.requires.circuit c.sought.ensures.behind)
