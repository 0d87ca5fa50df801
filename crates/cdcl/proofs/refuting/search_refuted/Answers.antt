use Rattle.std.proofs.Common.{sym}
use Rattle.cdcl_log.specs.LoggedClauses.{added_of}
use Rattle.cdcl.proofs.AnswerLaws.{may_refuse, refuted_from}
use Rattle.cdcl.proofs.refuting.search_refuted.Goals as goal

pub refuted_of-requires-clause-refuses : goal.refuted_of-requires-clause-refuses
refuted_of-requires-clause-refuses c =
    may_refuse c.search.new.log.clauses c.args.units.now c.search.new.trail.steps c.in_ok-found.found c.in_ok-found.ensures.found

pub returns-clause-answer : goal.returns-clause-answer
returns-clause-answer c =
    refuted_from c.search.new.log (added_of c.args.log.now) c.args.units.now c.search.new.trail.steps c.in_ok-found.found c.in_ok-refuted_of.field-0
    (sym c.search.ensures.searched.added) c.in_ok-found.ensures.found c.in_ok-refuted_of.ensures
