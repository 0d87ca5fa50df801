use Rattle.clap.specs.Matches.{found_of}
use Rattle.clap.specs.Walk.{rows_of}
use Rattle.command_lines.proofs.EachCommand.{no_demo}
use Rattle.command_lines.proofs.commands.demonstrating.demo_of.Goals as goal

pub returns-in_err-seed-clause-none : goal.returns-in_err-seed-clause-none
returns-in_err-seed-clause-none c = rw c.from_residual.ensures (no_demo (rows_of (found_of c.args.given.now)) (λ request h. c.in_err-seed.ensures.none request.seed h.seed_number))

pub returns-in_err-size-clause-none : goal.returns-in_err-size-clause-none
returns-in_err-size-clause-none c = rw c.from_residual-in_err-size.ensures (no_demo (rows_of (found_of c.args.given.now)) (λ request h. c.in_err-size.ensures.none request.size h.size_number))
