use Rattle.std.proofs.Common.{◌≡◌, true, subst, ap, ◌∙◌}
use Rattle.cdcl.specs.Asking.{assigned, IsAsked}
use Rattle.cdcl.specs.Solving.{IsModel}
use Rattle.fair_semantics.specs.Entries.{numbered}
use Rattle.cnf_unroll.specs.Obligations.{skeleton_clauses}
use Rattle.entry.specs.CheckedEntries.{viewed}
use Rattle.proof_semantics.specs.Clauses.{cube_value}
use Rattle.skeleton.specs.Reading.{core_cube}
use Rattle.skeleton.proofs.Telling.{model_allowed, model_begins, core_never}
use Rattle.skeleton.proofs.asking.first_of.Goals as goal

pub returns-in_ok-skeleton_in-in-Sat : goal.returns-in_ok-skeleton_in-in-Sat
returns-in_ok-skeleton_in-in-Sat c =
    let clauses = skeleton_clauses c.args.c.now c.args.j (numbered (viewed c.args.view.now)) in
    let v = assigned c.args.solver.now.values in
    let model : IsModel clauses c.args.assumptions.now v = subst (λ answer. IsAsked clauses c.args.assumptions.now c.args.solver.now.values answer) c.in-Sat.is c.requires.answer in (
      model_allowed c.args.c.now c.max-limits.ensures.checked c.one_valuation.ensures c.args.j c.requires.property (viewed c.args.view.now) c.requires.good
          v c.in_ok-skeleton_in-in-Sat.field-0 model.clauses c.in_ok-skeleton_in-in-Sat.ensures,
      model_begins c.args.c.now c.max-limits.ensures.checked c.one_valuation.ensures c.args.j c.requires.property (viewed c.args.view.now) c.requires.good
          v c.in_ok-skeleton_in-in-Sat.field-0 c.args.state.now c.requires.state c.in_ok-skeleton_in-in-Sat.ensures
          (subst (λ assumptions. cube_value v assumptions ≡ true) c.requires.assumptions model.assumed),
    )

pub returns-in_ok-core_cube-in-Unsat : goal.returns-in_ok-core_cube-in-Unsat
returns-in_ok-core_cube-in-Unsat c =
    let clauses = skeleton_clauses c.args.c.now c.args.j (numbered (viewed c.args.view.now)) in
    let core = subst (λ answer. IsAsked clauses c.args.assumptions.now c.args.solver.now.values answer) c.in-Unsat.is c.requires.answer in
    core_never c.args.c.now c.max-limits.ensures.checked c.one_valuation.ensures c.args.j c.requires.property (viewed c.args.view.now) c.requires.good
    c.in-Unsat.core.items c.args.state.now c.args.assumptions.now c.in_ok-core_cube-in-Unsat.field-0 c.requires.state c.requires.assumptions
    (c.in_ok-core_cube-in-Unsat.ensures ∙ ap (λ lits. core_cube lits 0 c.args.assumptions.now) c.as_slice.ensures.value)
    core.among core.refused
