use Rattle.std.proofs.Common.{◌+◌, ◌<◌, ◌++◌, [], ◌∷◌, length, get_or, sym, ap, subst, ◌∙◌}
use Rattle.std.proofs.lemmas.List.{length-append}
use Rattle.proof_semantics.specs.Clauses.{IsUnsatisfiable}
use Rattle.proof_semantics.specs.Proofs.{Refutes}
use Rattle.edge.proofs.Ends.{counts_on}
use Rattle.cnf_unroll.specs.Obligations.{units, broken_literals}
use Rattle.certify.proofs.Ends.{learned_on}
use Rattle.certify.proofs.Unbroken.{broken_at, pushed_each}
use Rattle.certify.proofs.proving.proofs_by.Goals as goal

pub refutation_of-requires-clause-none : goal.refutation_of-requires-clause-none
refutation_of-requires-clause-none c =
    let i = c.loop-clause.clause-index in
    let same = c.as_slice-clause-items.ensures in
    let below : i < length c.args.clauses.now = subst (λ cs. i < length cs) same c.loop-clause-test.true in
    subst IsUnsatisfiable
    (sym (broken_at c.args.c.now i c.loop-clause.solver.added c.args.solver.now.added c.as_slice-clause-items.result.now c.args.clauses.now c.clause-item.result _
    c.as_slice.result.now c.loop-clause.invariant.added same c.loop-clause-test.true c.clause-item.is (c.as_slice.ensures ∙ c.in_ok-literals.ensures.value)))
    (c.requires i [] below)

pub loop-clause-preserved : goal.loop-clause-preserved
loop-clause-preserved c =
    let i = c.loop-clause.clause-index in
    let before = c.loop-clause.invariant in
    let proof = c.in_ok-proof.proof in
    let is =
    broken_at c.args.c.now i c.loop-clause.solver.added c.args.solver.now.added c.as_slice-clause-items.result.now c.args.clauses.now c.clause-item.result _
    c.as_slice.result.now before.added c.as_slice-clause-items.ensures c.loop-clause-test.true c.clause-item.is (c.as_slice.ensures ∙ c.in_ok-literals.ensures.value)
    in
    let learned =
    learned_on c.args.meter.now c.loop-clause.meter c.refutation_of.new.meter c.loop-clause.solver.added c.args.solver.now.learned c.loop-clause.solver.learned
    c.refutation_of.new.solver.learned before.longer c.in_ok-proof.ensures.learned before.counted c.in_ok-proof.ensures.counted
    in
    record {
      count = ap length c.in_ok-push.ensures.ok ∙ length-append c.loop-clause.proofs (proof ∷ []) ∙ ap (λ n. n + 1) before.count;
      each = pushed_each (λ k p. Refutes (c.args.solver.now.added ++ units (broken_literals c.args.c.now (get_or c.args.clauses.now k []))) p) c.loop-clause.proofs
          c.push.new.self proof i before.count c.in_ok-push.ensures.ok before.each (subst (λ cs. Refutes cs proof) is c.in_ok-proof.ensures.proof);
      added = c.in_ok-proof.ensures.added ∙ before.added;
      counted = learned.0;
      longer = learned.1;
      alone = counts_on c.args.meter.now c.loop-clause.meter c.refutation_of.new.meter before.alone c.in_ok-proof.ensures.alone;
    }

-- what is counted where the clause has no proof, or its proof is not kept
pub returns-in_err-proof-clause-counted : goal.returns-in_err-proof-clause-counted
returns-in_err-proof-clause-counted c =
    (learned_on c.args.meter.now c.loop-clause.meter c.refutation_of.new.meter c.loop-clause.solver.added c.args.solver.now.learned c.loop-clause.solver.learned
    c.refutation_of.new.solver.learned c.loop-clause.invariant.longer c.refutation_of.ensures.learned c.loop-clause.invariant.counted c.refutation_of.ensures.counted).0

pub returns-in_err-push-clause-counted : goal.returns-in_err-push-clause-counted
returns-in_err-push-clause-counted c =
    (learned_on c.args.meter.now c.loop-clause.meter c.refutation_of.new.meter c.loop-clause.solver.added c.args.solver.now.learned c.loop-clause.solver.learned
    c.refutation_of.new.solver.learned c.loop-clause.invariant.longer c.refutation_of.ensures.learned c.loop-clause.invariant.counted c.refutation_of.ensures.counted).0
