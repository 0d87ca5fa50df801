use Rattle.std.proofs.Common.{rules, ◌≡◌, sym, subst}
use Rattle.std.specs.Prelude.{IfOk}
use Rattle.aig_semantics.specs.Circuits.{Circuit}
use Rattle.search_reports.specs.declared.limits.Ended.{Ended}
use Rattle.fair_workers.specs.Runs.{IsAnswered, IsReport, IsEnded}
use Rattle.fair_top.specs.Solve.{task_of, HasProperty}
use Rattle.fair_top.specs.Solved.{EndsFor}
use Rattle.fair_top.specs.Beginnings.{circuit_in, given_in}
use Rattle.fair_top.proofs.commands.solving.run_for.Goals as goal

pub decided-requires-clause-answered : goal.decided-requires-clause-answered
decided-requires-clause-answered g c =
    let given = given_in c.args.beginning.now in
    let is : c.deref.result.now ≡ circuit_in c.args.beginning.now = search rules in
    (given, subst (λ (k : Circuit). IsAnswered (task_of k c.args.request.now given) c.in-Ok.report.board) (sym is) c.in-Ok.ensures.answer.answered)

pub decided-requires-clause-property : goal.decided-requires-clause-property
decided-requires-clause-property g c =
    let is : c.deref.result.now ≡ circuit_in c.args.beginning.now = search rules in
    subst (λ (k : Circuit). HasProperty k c.args.request.now) (sym is) c.requires.property

pub returns-in-Ok-clause-found : goal.returns-in-Ok-clause-found
returns-in-Ok-clause-found g c =
    let given = given_in c.args.beginning.now in
    let is : c.deref.result.now ≡ circuit_in c.args.beginning.now = search rules in
    subst (λ (k : Circuit). IfOk c.decided.result (λ ending. EndsFor k c.args.request.now given ending.status ending.text.items)) is
    (c.decided.ensures.found given
    (subst (λ (k : Circuit). IsAnswered (task_of k c.args.request.now given) c.in-Ok.report.board) (sym is) c.in-Ok.ensures.answer.answered))

pub undecided-requires : goal.undecided-requires
undecided-requires g c =
    let given = given_in c.args.beginning.now in
    let is : c.deref-in-Err-Spent.result.now ≡ circuit_in c.args.beginning.now = search rules in
    let ended : IsReport (task_of (circuit_in c.args.beginning.now) c.args.request.now given) c.in-Err-Spent.report =
    subst (λ (e : Ended). IsEnded (task_of (circuit_in c.args.beginning.now) c.args.request.now given) e) c.in-Err-Spent.field-0-is c.in-Err-Spent.ensures.ended in
    record { report = (given, subst (λ (k : Circuit). IsReport (task_of k c.args.request.now given) c.in-Err-Spent.report) (sym is) ended) }

pub returns-in-Err-Spent-clause-found : goal.returns-in-Err-Spent-clause-found
returns-in-Err-Spent-clause-found g c =
    let given = given_in c.args.beginning.now in
    let is : c.deref-in-Err-Spent.result.now ≡ circuit_in c.args.beginning.now = search rules in
    let ended : IsReport (task_of (circuit_in c.args.beginning.now) c.args.request.now given) c.in-Err-Spent.report =
    subst (λ (e : Ended). IsEnded (task_of (circuit_in c.args.beginning.now) c.args.request.now given) e) c.in-Err-Spent.field-0-is c.in-Err-Spent.ensures.ended in
    subst (λ (k : Circuit). IfOk c.undecided.result (λ ending. EndsFor k c.args.request.now given ending.status ending.text.items)) is
    (c.undecided.ensures.found given (subst (λ (k : Circuit). IsReport (task_of k c.args.request.now given) c.in-Err-Spent.report) (sym is) ended))
