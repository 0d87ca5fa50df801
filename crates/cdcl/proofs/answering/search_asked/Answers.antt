use Rattle.std.proofs.Common.{sym, subst}
use Rattle.cdcl.specs.Asking.{IsCore}
use Rattle.cdcl_log.specs.LoggedClauses.{added_of}
use Rattle.cdcl.proofs.AnswerLaws.{asked_from}
use Rattle.cdcl.proofs.OppositeLaws.{opposites_core}
use Rattle.cdcl.proofs.answering.search_asked.Goals as goal

pub returns-in-Some-clause-answer : goal.returns-in-Some-clause-answer
returns-in-Some-clause-answer c =
    subst (IsCore (added_of c.args.log.now) c.args.assumptions.now) (sym c.in_ok-core.ensures.items)
    (opposites_core (added_of c.args.log.now) c.args.assumptions.now c.in-Some.literal c.negation.result c.in-Some.ensures.one
    c.in-Some.ensures.other c.negation.ensures)

pub returns-clause-answer : goal.returns-clause-answer
returns-clause-answer c =
    asked_from c.search.new.log (added_of c.args.log.now) c.args.assumptions.now c.search.new.trail.steps c.in_ok-found.found c.in_ok-asked_of.field-0 (sym c.search.ensures.searched.added)
    c.search.ensures.log c.in_ok-found.ensures.found c.in_ok-asked_of.ensures
