use Rattle.std.proofs.Common.{length}
use Rattle.lasso_join.proofs.Prefixes.{has-whole, stands-whole}
use Rattle.lasso_join.proofs.shortening.shortest_prefix.Goals as goal

pub replayed-requires : goal.replayed-requires
replayed-requires c = (length c.args.lasso.inputs, (c.args.lasso.from, has-whole c.args.c.now c.args.j c.args.lasso c.requires))

pub returns-clause-whole : goal.returns-clause-whole
returns-clause-whole c =
    let is = c.in_ok-replayed.ensures in
    stands-whole c.args.c.now c.args.j (record { latches = c.args.lasso.start; inputs = c.args.lasso.inputs }) c.in_ok-replayed.field-0
    is.found is.start is.inputs
