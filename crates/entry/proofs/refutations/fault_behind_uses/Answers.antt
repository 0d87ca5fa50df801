use Rattle.entry.specs.declared.uses.User.TheVariants as users
use Rattle.entry.proofs.Present.{present-from_none}
use Rattle.entry.proofs.refutations.fault_behind_uses.Goals as goal

pub judge_of-requires-clause-present : goal.judge_of-requires-clause-present
judge_of-requires-clause-present c = present-from_none users.Refutation c.args.list.now c.args.r.now.uses c.requires.uses
