use Rattle.std.proofs.Common.{ℕ, ◌+◌, List, take, sym, ap, ◌∙◌, subst}
use Rattle.entry.specs.Clauses.{clause_of}
use Rattle.certificate.specs.Certificates.{AreClausesOf}
use Rattle.cert_tools.proofs.ListedEntries.{clause_there, clauses_next, clauses_done}
use Rattle.given_entries.proofs.taking.clause_set.Goals as goal

pub clause-requires : goal.clause-requires
clause-requires c =
    let literals : List ℕ = c.literals-item.result in
    let there = clause_there c.args.c.now c.args.clauses.now c.requires.0 c.loop-literals.literals-index literals c.requires.1 c.loop-literals-test.true in
    (there.0, ap (clause_of c.args.c.now) (c.as_slice.ensures ∙ c.literals-item.is) ∙ there.1)

pub loop-literals-preserved : goal.loop-literals-preserved
loop-literals-preserved c =
    let literals : List ℕ = c.literals-item.result in
    let is = ap (clause_of c.args.c.now) (sym (c.as_slice.ensures ∙ c.literals-item.is)) ∙ c.in_ok-clause.ensures in
    subst (AreClausesOf c.args.c.now (take (c.loop-literals.literals-index + 1) c.args.clauses.now)) (sym c.in_ok-push.ensures.ok)
    (clauses_next c.args.c.now c.args.clauses.now c.loop-literals.set c.in_ok-clause.field-0 c.loop-literals.literals-index literals c.loop-literals-test.true c.loop-literals.invariant is)

pub returns : goal.returns
returns c = clauses_done c.args.c.now c.args.clauses.now c.loop-literals.set c.loop-literals.literals-index c.loop-literals-test.false c.loop-literals.invariant
