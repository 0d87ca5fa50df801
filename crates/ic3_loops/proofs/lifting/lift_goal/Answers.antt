use Rattle.std.proofs.Common.{◌≡◌, true, [], length, sym, subst, rules}
use Rattle.std.proofs.lemmas.List.Elements.{All-nil, All-cons}
use Rattle.std.specs.Prelude.{IsTrue}
use Rattle.aig_semantics.specs.Runs.{literal_at}
use Rattle.proof_semantics.specs.Clauses.{is_part}
use Rattle.ic3_generalise.specs.Cubes.{value_literals}
use Rattle.entry.specs.CheckedEntries.{viewed}
use Rattle.ic3_loops.specs.Lifting.{MissesEach}
use Rattle.ic3_loops.proofs.Lifted.{all-missed, goal-lifted}
use Rattle.ic3_loops.proofs.lifting.lift_goal.Goals as goal

pub lift_step-requires-clause-holds : goal.lift_step-requires-clause-holds
lift_step-requires-clause-holds c =
    All-cons (λ literal. IsTrue (literal_at c.args.c.now c.args.p.now literal)) c.args.literal [] c.requires.holds
    (All-nil (λ literal. IsTrue (literal_at c.args.c.now c.args.p.now literal)))

pub apart-requires-clause-misses : goal.apart-requires-clause-misses
apart-requires-clause-misses c =
    let is : c.in_ok-whole.whole ≡ value_literals 0 c.args.p.now.latches = search rules in
    subst (MissesEach c.args.avoid.now) (sym is)
    (all-missed (length c.args.c.now.latches) c.args.avoid.now c.args.p.now.latches c.requires.possible.position.latches c.requires.over
    c.requires.avoids)

pub apart-requires-clause-among : goal.apart-requires-clause-among
apart-requires-clause-among c =
    let is : c.in_ok-whole.whole ≡ value_literals 0 c.args.p.now.latches = search rules in
    subst (λ w. is_part c.in_ok-cube.cube w ≡ true) (sym is) c.in_ok-cube.ensures.part

pub returns : goal.returns
returns c =
    let is : c.in_ok-whole.whole ≡ value_literals 0 c.args.p.now.latches = search rules in
    goal-lifted c.args.c.now (viewed c.args.view.now) c.args.start.now c.args.avoid.now c.args.literal c.args.p.now c.in_ok-into.into c.in_ok-cube.cube
    c.in_ok-longer.longer c.in_ok-whole.whole c.in_ok-into.ensures c.in_ok-cube.ensures is c.in_ok-longer.ensures
