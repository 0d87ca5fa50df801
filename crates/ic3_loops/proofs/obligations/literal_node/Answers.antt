use Rattle.std.proofs.Common.{subst}
use Rattle.ic3_loops.specs.Blocking.{IsLastFirst}
use Rattle.ic3_loops.proofs.obligations.literal_node.Goals as goal

pub returns-in_ok-last_from_start-in-Some-clause-found : goal.returns-in_ok-last_from_start-in-Some-clause-found
returns-in_ok-last_from_start-in-Some-clause-found g c =
    subst (λ st. IsLastFirst st c.args.level c.args.literal c.in_ok-last_from_start-in-Some.field-0) c.meets_goal.ensures.same
    c.in_ok-last_from_start-in-Some.ensures.first
