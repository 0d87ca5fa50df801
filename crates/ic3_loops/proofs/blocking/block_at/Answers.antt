use Rattle.std.proofs.Common.{◌≡◌, true, ◌-◌, length, sym, subst}
use Rattle.proof_semantics.specs.Clauses.{is_part}
use Rattle.ic3_generalise.specs.Cubes.{value_literals}
use Rattle.ic3_semantics.specs.Stepping.{IsOver}
use Rattle.ic3_loops.specs.Blocking.{TellsConsecution, state_at}
use Rattle.ic3_loops.proofs.Obliging.{node-at-is, kept-are}
use Rattle.ic3_loops.proofs.blocking.block_at.Goals as goal

pub asked_about-requires-clause-over : goal.asked_about-requires-clause-over
asked_about-requires-clause-over g c =
    let ns = c.args.obligations.now.nodes.items in
    let node = node-at-is (g.S.StepSolver.seen c.args.steps.now).question c.args.top.now.aim.now.goal.now ns c.args.at.node c.requires.obligations.nodes c.requires.due.due.node in
    subst (λ s. IsOver (length s) c.args.top.now.aim.now.starts.now) (sym c.state_at-state.ensures)
    (subst (λ n. IsOver n c.args.top.now.aim.now.starts.now) (sym node.size) c.requires.search.starts.over)

pub asked_about-requires-clause-part : goal.asked_about-requires-clause-part
asked_about-requires-clause-part g c =
    let ns = c.args.obligations.now.nodes.items in
    let node = node-at-is (g.S.StepSolver.seen c.args.steps.now).question c.args.top.now.aim.now.goal.now ns c.args.at.node c.requires.obligations.nodes c.requires.due.due.node in
    subst (λ s. is_part c.cube_at-cube.result.now (value_literals 0 s) ≡ true) (sym c.state_at-state.ensures)
    (subst (λ x. is_part x (value_literals 0 (state_at ns c.args.at.node)) ≡ true) (sym c.cube_at-cube.ensures) node.part)

pub returns-clause-obligations : goal.returns-clause-obligations
returns-clause-obligations g c =
    kept-are (g.S.StepSolver.seen c.args.steps.now).question c.args.top.now.aim.now.goal.now c.args.top.now.level (c.args.at.level - 1) c.args.frames.now c.consecution.new.frames
    c.args.obligations.now c.keep.new.obligations c.args.at c.in_ok-found.found c.in_ok-keep.field-0 c.requires.obligations
    c.requires.due.due c.in_ok-keep.ensures.due
    (subst
    (λ x. TellsConsecution (g.S.StepSolver.seen c.args.steps.now).question c.args.frames.now c.consecution.new.frames (c.args.at.level - 1) x c.in_ok-found.found)
    c.cube_at-cube.ensures c.in_ok-found.ensures.outcome)
    c.in_ok-keep.ensures.kept
