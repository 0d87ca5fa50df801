use Rattle.std.proofs.Common.{ap, sym, ◌∙◌}
use Rattle.cdcl_learn.specs.Walking.{count_from}
use Rattle.cdcl_learn.proofs.MarkLaws.{count_none}
use Rattle.cdcl_learn.proofs.marking.Marks.new.Goals as goal

pub invariant_of-result : goal.invariant_of-result
invariant_of-result c = sym (ap (count_from c.args.start) c.in_ok-marks.ensures ∙ count_none c.args.start c.args.length)
