use Rattle.std.proofs.Common.{◌≡◌, subst, rules}
use Rattle.entry.specs.CheckedEntries.{viewed}
use Rattle.ic3_loops.specs.Lifting.{IsBreaking}
use Rattle.ic3_loops.proofs.Broken.{breaking-end}
use Rattle.ic3_loops.proofs.ending.state_end.Goals as goal

pub returns : goal.returns
returns c =
    let same : c.as_slice.result.now ≡ c.in_ok-next.next = search rules in
    breaking-end c.args.c.now (viewed c.args.view.now) c.args._start.now c.args.p.now c.in_ok-next.next c.in_ok-cube.cube c.in_ok-next.ensures
    c.requires.over (subst (λ s. IsBreaking (viewed c.args.view.now) s c.in_ok-cube.cube) same c.in_ok-cube.ensures)
