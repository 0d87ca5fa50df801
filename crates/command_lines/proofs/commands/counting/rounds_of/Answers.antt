use Rattle.clap.specs.Matches.{found_of}
use Rattle.clap.specs.Walk.{rows_of}
use Rattle.command_lines.proofs.EachCommand.{no_rounds}
use Rattle.command_lines.proofs.commands.counting.rounds_of.Goals as goal

pub returns-in_err-k-clause-none : goal.returns-in_err-k-clause-none
returns-in_err-k-clause-none c = rw c.from_residual-in_err-k.ensures (no_rounds (rows_of (found_of c.args.given.now)) (λ asks h. c.in_err-k.ensures.none asks.1.k h.rounds))

pub returns-in_err-property-clause-none : goal.returns-in_err-property-clause-none
returns-in_err-property-clause-none c = rw c.from_residual-in_err-property.ensures (no_rounds (rows_of (found_of c.args.given.now)) (λ asks h. c.in_err-property.ensures.none asks.1.property h.property))

pub returns-in_err-conflicts-clause-none : goal.returns-in_err-conflicts-clause-none
returns-in_err-conflicts-clause-none c = rw c.from_residual-in_err-conflicts.ensures (no_rounds (rows_of (found_of c.args.given.now)) (λ asks h. c.in_err-conflicts.ensures.none asks.1.conflicts h.conflicts))

pub returns-in_err-steps-clause-none : goal.returns-in_err-steps-clause-none
returns-in_err-steps-clause-none c = rw c.from_residual-in_err-steps.ensures (no_rounds (rows_of (found_of c.args.given.now)) (λ asks h. c.in_err-steps.ensures.none asks.1.steps h.steps))
