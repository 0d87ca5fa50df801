use Rattle.std.proofs.Common.{refl}
use Rattle.entry.specs.CheckedEntries.{viewed}
use Rattle.ic3.specs.SteppingStart.{stepping_of}
use Rattle.ic3.proofs.renewing.renewed.Goals as goal

pub returns-in-Ok : goal.returns-in-Ok
returns-in-Ok c =
    c.in-Ok.ensures (stepping_of c.args.c.now (viewed c.args.view.now) c.args.start.now c.args.avoid.now c.args.lemmas.now) c.args.base.now.clauses refl
    c.requires c.in_ok-made.ensures
