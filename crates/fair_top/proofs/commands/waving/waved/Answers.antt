use Rattle.std.proofs.Common.{◌≡◌}
use Rattle.certificate.specs.declared.ends.Accepted.TheVariants.{Lasso}
use Rattle.fair_top.proofs.Dumped.{lasso_is_kept}
use Rattle.fair_top.proofs.commands.waving.waved.Goals as goal

pub unreachable-requires : goal.unreachable-requires
unreachable-requires c =
    let l = c.in-Ok-Lasso in
    let found : l.field-0 ≡ Lasso l.property l.field-0-1 l.field-0-2 = rw l.is at l.field-0-is in
    lasso_is_kept c.args.model.now c.args.end c.args.kept l.field-0 l.property l.field-0-1 l.field-0-2 c.requires l.is found c.in-None.is
