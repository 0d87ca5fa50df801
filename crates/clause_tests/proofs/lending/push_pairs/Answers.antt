use Rattle.clause_arena.proofs.LendingLaws.{stays_longer}
use Rattle.clause_tests.proofs.lending.push_pairs.Goals as goal

pub pushes-preserved : goal.pushes-preserved
pushes-preserved c =
    stays_longer c.args.arena.now c.pushes.arena c.push.new.self c.pushes.invariant c.push.ensures.stays

pub returns-in_err-push : goal.returns-in_err-push
returns-in_err-push c =
    stays_longer c.args.arena.now c.pushes.arena c.push.new.self c.pushes.invariant c.push.ensures.stays
