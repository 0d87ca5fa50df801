use Rattle.std.proofs.Common.{◌≡◌, IfSome, subst}
use Rattle.cdcl.specs.Asking.{assigned}
use Rattle.cnf_unroll.specs.Situations.{situation_in}
use Rattle.ic3.specs.SteppingInside.{AnswersFrom, TriedInto}
use Rattle.ic3.proofs.TriedLaws.{told_from}
use Rattle.ic3.proofs.trying.found_in.Goals as goal

pub returns-in-Some-clause-found : goal.returns-in-Some-clause-found
returns-in-Some-clause-found c =
    told_from c.args.c.now c.args.s.now c.args.base.now.clauses c.args.question.level c.args.question.cube.now c.in-Some.p
    c.ask_step.new.s.solver.values c.requires.here c.requires.over
    (subst (AnswersFrom c.args.s.now c.args.question.level c.args.question.cube.now c.ask_step.new.s.solver.values) c.in-Sat.is
    c.in_ok-ask_step.ensures.answer)
    (subst (λ f. IfSome f (λ p. p ≡ (situation_in c.args.c.now 0 (assigned c.ask_step.new.s.solver.values)).position)) c.in-Some.is
    c.in_ok-p-in-Sat.ensures.told)
    (subst (λ f. IfSome f (TriedInto c.args.base.now.clauses c.args.c.now c.args.question.cube.now)) c.in-Some.is
    c.in_ok-p-in-Sat.ensures.tried)
