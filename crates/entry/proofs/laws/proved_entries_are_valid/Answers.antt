use Rattle.entry.proofs.Valid.{proved_is_valid}
use Rattle.entry.proofs.laws.proved_entries_are_valid.Goals as goal

pub returns : goal.returns
returns c = proved_is_valid c.args.c.now c.obligations_tell.ensures
