use Rattle.clap.specs.Matches.{found_of}
use Rattle.clap.specs.Walk.{rows_of}
use Rattle.command_lines.proofs.EachCommand.{no_solve}
use Rattle.command_lines.proofs.commands.solving.solve_of.Goals as goal

pub returns-in_err-property-clause-none : goal.returns-in_err-property-clause-none
returns-in_err-property-clause-none c = rw c.from_residual-in_err-property.ensures (no_solve (rows_of (found_of c.args.given.now)) (λ asks h. c.in_err-property.ensures.none asks.1.property (rw c.from.ensures h.property)))

pub returns-in_err-workers-clause-none : goal.returns-in_err-workers-clause-none
returns-in_err-workers-clause-none c = rw c.from_residual-in_err-workers.ensures (no_solve (rows_of (found_of c.args.given.now)) (λ asks h. c.in_err-workers.ensures.none asks.1.workers (rw c.from-2.ensures h.workers)))

pub returns-in_err-conflicts-clause-none : goal.returns-in_err-conflicts-clause-none
returns-in_err-conflicts-clause-none c = rw c.from_residual-in_err-conflicts.ensures (no_solve (rows_of (found_of c.args.given.now)) (λ asks h. c.in_err-conflicts.ensures.none asks.1.conflicts h.conflicts))

pub returns-in_err-steps-clause-none : goal.returns-in_err-steps-clause-none
returns-in_err-steps-clause-none c = rw c.from_residual-in_err-steps.ensures (no_solve (rows_of (found_of c.args.given.now)) (λ asks h. c.in_err-steps.ensures.none asks.1.steps h.steps))

pub returns-in_err-skeletons-clause-none : goal.returns-in_err-skeletons-clause-none
returns-in_err-skeletons-clause-none c = rw c.from_residual-in_err-skeletons.ensures (no_solve (rows_of (found_of c.args.given.now)) (λ asks h. c.in_err-skeletons.ensures.none asks.1.skeletons (rw c.from-3.ensures h.skeletons)))

pub returns-in_err-lassos-clause-none : goal.returns-in_err-lassos-clause-none
returns-in_err-lassos-clause-none c = rw c.from_residual-in_err-lassos.ensures (no_solve (rows_of (found_of c.args.given.now)) (λ asks h. c.in_err-lassos.ensures.none asks.1.lassos (rw c.from-4.ensures h.lassos)))

pub returns-in_err-depth-clause-none : goal.returns-in_err-depth-clause-none
returns-in_err-depth-clause-none c = rw c.from_residual-in_err-depth.ensures (no_solve (rows_of (found_of c.args.given.now)) (λ asks h. c.in_err-depth.ensures.none asks.1.depth (rw c.from-5.ensures h.depth)))
