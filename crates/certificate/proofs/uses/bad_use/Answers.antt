use Rattle.certificate.proofs.UseLaws.{bad_in_front, bad_beyond}
use Rattle.certificate.proofs.uses.bad_use.Goals as goal

pub returns-in-Some : goal.returns-in-Some
returns-in-Some c =
    bad_in_front c.args.user c.args.list.now c.args.uses.now c.args.beyond c.first_bad_use.result c.in-Some.number c.requires c.first_bad_use.ensures
    c.in-Some.is

pub returns-in-None : goal.returns-in-None
returns-in-None c =
    bad_beyond c.args.user c.args.list.now c.args.uses.now c.args.beyond c.first_bad_use.result c.requires c.first_bad_use.ensures c.in-None.is
