use Rattle.std.proofs.Common.{sym, ◌∙◌}
use Rattle.entry.specs.CheckedEntries.{viewed}
use Rattle.ic3_questions.specs.SteppingClauses.{own_uses}
use Rattle.ic3.proofs.Singles.{of-one-literal}
use Rattle.ic3.proofs.searching.of_one.Goals as goal

pub returns-clause-one : goal.returns-clause-one
returns-clause-one c =
    of-one-literal c.args.clause (own_uses (viewed c.args.view.now) c.args.start.now) c.in_ok-close_one.field-0 (sym c.len.ensures ∙ c.if-len-ne1.false)
    c.in_ok-close_one.ensures
