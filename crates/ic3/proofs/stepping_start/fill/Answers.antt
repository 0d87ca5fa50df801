use Rattle.std.proofs.Common.{subst}
use Rattle.ic3.specs.SteppingInside.{Grows}
use Rattle.ic3.proofs.stepping_start.fill.Goals as goal

pub returns : goal.returns
returns c = record {
  front = c.meet_entries.new.solver.added;
  grows = subst (λ old. Grows c.args.base.now.clauses old c.meet_entries.new.solver.added) c.requires c.meet_entries.ensures;
  all = c.in_ok-add_denials.ensures;
}
