use Rattle.std.proofs.Common.{sym, subst}
use Rattle.proof_semantics.specs.Clauses.{values_of}
use Rattle.cdcl_log.specs.LoggedClauses.{added_of}
use Rattle.cdcl.specs.Finding.{IsSearchResult}
use Rattle.cdcl.specs.Searching.{AreTrue}
use Rattle.cdcl.specs.Solving.{IsModel}
use Rattle.cdcl.proofs.AnswerLaws.{listed_model}
use Rattle.cdcl.proofs.answering.answer_of.Goals as goal

pub returns-in_ok-values-in-Satisfied : goal.returns-in_ok-values-in-Satisfied
returns-in_ok-values-in-Satisfied c =
    subst (λ vs. IsModel (added_of c.args.log.now) c.args.assumptions.now (values_of vs)) (sym c.into_vec.ensures)
    (listed_model c.args.log.now c.args.assumptions.now c.args.trail.now.steps c.in_ok-values-in-Satisfied.values (subst (IsSearchResult c.args.log.now.clauses c.args.assumptions.now c.args.trail.now.steps) c.in-Satisfied.is c.requires.found)
    (subst (λ ls. AreTrue c.in_ok-values-in-Satisfied.values ls) c.literals.ensures.value c.in_ok-values-in-Satisfied.ensures))
