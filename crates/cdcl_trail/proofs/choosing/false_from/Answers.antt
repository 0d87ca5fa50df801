use Rattle.std.proofs.Common.{sym, ◌∙◌}
use Rattle.cdcl_trail.proofs.GuardLaws.{unfalse_first}
use Rattle.cdcl_trail.proofs.choosing.false_from.Goals as goal

pub returns : goal.returns
returns c = unfalse_first c.args.assignment.now.steps 18446744073709551615 c.args.literal (sym c.is_false.ensures ∙ c.if-is_false.false)
