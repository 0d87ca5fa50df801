use Rattle.entry.specs.declared.uses.User.TheVariants as users
use Rattle.entry.proofs.Present.{present-from_none}
use Rattle.entry.proofs.entries.fault_behind_uses.Goals as goal

pub proofs_fault-requires-clause-present : goal.proofs_fault-requires-clause-present
proofs_fault-requires-clause-present c = present-from_none (users.Entry c.args.e.now.kind) c.args.list.now c.args.e.now.uses c.requires.uses
