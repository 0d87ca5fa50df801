use Rattle.clap.specs.Matches.{found_of}
use Rattle.clap.specs.Walk.{rows_of}
use Rattle.command_lines.proofs.EachCommand.{no_shortest}
use Rattle.command_lines.proofs.commands.bounding.shortest_of.Goals as goal

pub returns-in_err-property-clause-none : goal.returns-in_err-property-clause-none
returns-in_err-property-clause-none c = rw c.from_residual-in_err-property.ensures (no_shortest (rows_of (found_of c.args.given.now)) (λ asks h. c.in_err-property.ensures.none asks.1.property h.property))

pub returns-in_err-conflicts-clause-none : goal.returns-in_err-conflicts-clause-none
returns-in_err-conflicts-clause-none c = rw c.from_residual-in_err-conflicts.ensures (no_shortest (rows_of (found_of c.args.given.now)) (λ asks h. c.in_err-conflicts.ensures.none asks.1.conflicts h.conflicts))

pub returns-in_err-depth-clause-none : goal.returns-in_err-depth-clause-none
returns-in_err-depth-clause-none c = rw c.from_residual-in_err-depth.ensures (no_shortest (rows_of (found_of c.args.given.now)) (λ asks h. c.in_err-depth.ensures.none asks.1.depth h.depth))
