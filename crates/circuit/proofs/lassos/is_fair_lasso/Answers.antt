use Rattle.std.proofs.Common.{sym, ap, ◌∙◌, subst, length, arith}
use Rattle.std.proofs.lemmas.Bool.{false≢true}
use Rattle.aig_semantics.specs.Runs.{IsInitial}
use Rattle.circuit.proofs.Following.{fair-inside, fair-from, fair-exactly, length-initial}
use Rattle.circuit.proofs.lassos.is_fair_lasso.Goals as goal

pub returns-then-lasso-len : goal.returns-then-lasso-len
returns-then-lasso-len c = (
  λ yes. absurd (false≢true yes),
  λ fair.
      let lasso = c.args.lasso.now in
      let inside = fair-inside c.args.c.now lasso.start lasso.inputs lasso.from c.args.j fair in
      absurd (omega arith),
)

pub returns-then-not-is_initial : goal.returns-then-not-is_initial
returns-then-not-is_initial c = (
  λ yes. absurd (false≢true yes),
  λ fair.
      let lasso = c.args.lasso.now in
      let inside = fair-inside c.args.c.now lasso.start lasso.inputs lasso.from c.args.j fair in
      let initial = (fair-from c.args.c.now lasso.start lasso.inputs lasso.from inside c.args.j fair).0 in
      absurd (false≢true (sym c.if-not-is_initial.true ∙ c.is_initial.ensures.1 (subst (λ s. IsInitial c.args.c.now s) (sym c.as_slice-start.ensures) initial))),
)

pub follow_lasso-requires-clause-latches : goal.follow_lasso-requires-clause-latches
follow_lasso-requires-clause-latches c =
    let fit = length-initial c.args.c.now c.as_slice-start.result.now (c.is_initial.ensures.0 c.if-not-is_initial.false) in
    ap length (c.deref_mut.ensures.value ∙ c.in_ok-latches.ensures.items) ∙ fit

pub follow_lasso-requires-clause-kept : goal.follow_lasso-requires-clause-kept
follow_lasso-requires-clause-kept c =
    let fit = length-initial c.args.c.now c.as_slice-start.result.now (c.is_initial.ensures.0 c.if-not-is_initial.false) in
    ap length (c.deref_mut-2.ensures.value ∙ c.in_ok-kept.ensures.items) ∙ fit

pub returns : goal.returns
returns c =
    let lasso = c.args.lasso.now in
    fair-exactly c.args.c.now lasso.start lasso.inputs lasso.from c.args.j c.deref.result.now c.follow_lasso.result
    (omega arith) (omega arith)
    (subst (λ s. IsInitial c.args.c.now s) c.as_slice-start.ensures (c.is_initial.ensures.0 c.if-not-is_initial.false))
    (c.deref.ensures.value ∙ c.in_ok-literals.ensures)
    c.follow_lasso.ensures
