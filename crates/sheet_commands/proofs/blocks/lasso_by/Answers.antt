use Rattle.std.proofs.Common.{◌≡◌}
use Rattle.certificate.specs.declared.ends.Accepted.TheVariants.{Lasso}
use Rattle.sheet_commands.proofs.CutBlocks.{lasso_kept}
use Rattle.sheet_commands.proofs.blocks.lasso_by.Goals as goal

pub unreachable-requires : goal.unreachable-requires
unreachable-requires c =
    let l = c.in-Ok-Lasso in
    let found : l.field-0 ≡ Lasso l.property l.field-0-1 l.field-0-2 = rw l.is at l.field-0-is in
    lasso_kept c.args.end c.args.kept l.field-0 l.property l.field-0-1 l.field-0-2 c.requires l.is found c.in-None.is
