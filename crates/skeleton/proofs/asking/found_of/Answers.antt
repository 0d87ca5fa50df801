use Rattle.std.proofs.Common.{◌≡◌, true, [], subst}
use Rattle.cdcl.specs.Asking.{assigned}
use Rattle.cdcl.specs.Refuting.{IsRefuted}
use Rattle.fair_semantics.specs.Entries.{numbered}
use Rattle.cnf_unroll.specs.Obligations.{skeleton_clauses}
use Rattle.entry.specs.CheckedEntries.{viewed}
use Rattle.proof_semantics.specs.Clauses.{clauses_value}
use Rattle.proof_semantics.specs.Proofs.{Refutes}
use Rattle.skeleton.proofs.Telling.{model_allowed, refuted_none, refutation_good, without_units}
use Rattle.skeleton.proofs.asking.found_of.Goals as goal

pub returns-in_ok-skeleton_in-in-Sat : goal.returns-in_ok-skeleton_in-in-Sat
returns-in_ok-skeleton_in-in-Sat c =
    let clauses = skeleton_clauses c.args.c.now c.args.j (numbered (viewed c.args.view.now)) in
    let v = assigned c.args.solver.now.values in
    let holds = subst (λ answer. IsRefuted clauses [] c.args.solver.now.values answer) c.in-Sat.is c.requires.answer in
    model_allowed c.args.c.now c.max-limits.ensures.checked c.one_valuation.ensures c.args.j c.requires.property (viewed c.args.view.now) c.requires.good
    v c.in_ok-skeleton_in-in-Sat.field-0
    (subst (λ all. clauses_value v all ≡ true) (without_units clauses) holds)
    c.in_ok-skeleton_in-in-Sat.ensures

pub returns-in_ok-uses_of-in-Unsat : goal.returns-in_ok-uses_of-in-Unsat
returns-in_ok-uses_of-in-Unsat c =
    let clauses = skeleton_clauses c.args.c.now c.args.j (numbered (viewed c.args.view.now)) in
    let answer = subst (λ answer. IsRefuted clauses [] c.args.solver.now.values answer) c.in-Unsat.is c.requires.answer in
    let refutes : Refutes clauses c.in-Unsat.proof = subst (λ all. Refutes all c.in-Unsat.proof) (without_units clauses) answer in (
      refutation_good c.args.c.now c.max-limits.ensures.checked c.one_valuation.ensures c.args.j c.requires.property (viewed c.args.view.now) c.requires.good
          c.in_ok-uses_of-in-Unsat.field-0 c.in-Unsat.proof c.in_ok-uses_of-in-Unsat.ensures refutes,
      refuted_none c.args.c.now c.max-limits.ensures.checked c.one_valuation.ensures c.args.j c.requires.property (viewed c.args.view.now) c.requires.good
          c.in-Unsat.proof refutes,
    )
