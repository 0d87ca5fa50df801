use Rattle.std.proofs.Common.{sym, subst}
use Rattle.std.specs.Result.{OnOk}
use Rattle.cdcl_trail.specs.Storing.{AreListed}
use Rattle.cdcl_trail.proofs.StoreLaws.{add_keeps, keeps_then, add_ok}
use Rattle.cdcl_trail.proofs.watching.add_pair.Goals as goal

pub returns-in_err-add-clause-keeps : goal.returns-in_err-add-clause-keeps
returns-in_err-add-clause-keeps c =
    add_keeps c.add.result c.args.lists.now c.add.new.self c.in-Some.pair.first c.args.number c.add.ensures.ok c.add.ensures.err c.add.ensures.others

pub returns-clause-keeps : goal.returns-clause-keeps
returns-clause-keeps c =
    keeps_then c.args.lists.now c.add.new.self c.add-2.new.self
    (add_keeps c.add.result c.args.lists.now c.add.new.self c.in-Some.pair.first c.args.number c.add.ensures.ok c.add.ensures.err c.add.ensures.others)
    (add_keeps c.add-2.result c.add.new.self c.add-2.new.self c.in-Some.pair.second c.args.number c.add-2.ensures.ok c.add-2.ensures.err c.add-2.ensures.others)

pub returns-clause-ok : goal.returns-clause-ok
returns-clause-ok c =
    subst (λ o. OnOk c.add-2.result (AreListed c.add-2.new.self c.args.number o)) (sym c.in-Some.is)
    (add_ok c.add-2.result c.args.lists.now c.add.new.self c.add-2.new.self c.in-Some.pair c.args.number c.in_ok-add.ensures.ok c.add-2.ensures.ok c.add-2.ensures.err
    c.add-2.ensures.others)
