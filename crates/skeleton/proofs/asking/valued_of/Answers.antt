use Rattle.std.proofs.Common.{subst}
use Rattle.cdcl.specs.Asking.{assigned, IsAsked}
use Rattle.cdcl.specs.Solving.{IsModel}
use Rattle.fair_semantics.specs.Entries.{numbered}
use Rattle.cnf_unroll.specs.Obligations.{skeleton_clauses}
use Rattle.entry.specs.CheckedEntries.{viewed}
use Rattle.skeleton.proofs.Telling.{model_allowed}
use Rattle.skeleton.proofs.asking.valued_of.Goals as goal

pub returns-in_ok-skeleton_in-in-Sat : goal.returns-in_ok-skeleton_in-in-Sat
returns-in_ok-skeleton_in-in-Sat c =
    let clauses = skeleton_clauses c.args.c.now c.args.j (numbered (viewed c.args.view.now)) in
    let v = assigned c.args.solver.now.values in
    let model : IsModel clauses c.args.assumptions.now v = subst (λ answer. IsAsked clauses c.args.assumptions.now c.args.solver.now.values answer) c.in-Sat.is c.requires.answer in
    model_allowed c.args.c.now c.max-limits.ensures.checked c.one_valuation.ensures c.args.j c.requires.property (viewed c.args.view.now) c.requires.good
    v c.in_ok-skeleton_in-in-Sat.field-0 model.clauses c.in_ok-skeleton_in-in-Sat.ensures
