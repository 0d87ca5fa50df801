use Rattle.std.proofs.Common.{◌≡◌, ◌+◌, ◌∷◌, [], ◌++◌, length, get_or, sym, ap, ◌∙◌, subst, arith}
use Rattle.lasso_join.specs.Fitting.{IsStemTo}
use Rattle.fair_round.specs.Walks.{states}
use Rattle.fair_round.specs.Pools.{IsReachedRun}
use Rattle.fair_round.proofs.Pools.{run-on-piece, run-ends}
use Rattle.fair_round.proofs.seeking.keep_run.Goals as goal

pub loop-k-preserved : goal.loop-k-preserved
loop-k-preserved c =
    let k = c.args.c.now in
    let situations = c.args.situations.now in
    let front = c.loop-k.run.items ++ (get_or situations c.loop-k.k c.index-situations-k.result).position ∷ [] in
    let whole = c.in_ok-append.ensures ∙ ap (λ xs. xs ++ c.as_slice.result.now) c.in_ok-append_one.ensures ∙ ap (λ ys. front ++ ys) (c.as_slice.ensures ∙ c.index-pieces-k.is) in
    subst (λ xs. IsStemTo k (get_or (states situations) (c.loop-k.k + 1) []) xs) (sym whole)
    (run-on-piece k situations c.args.pieces.now c.loop-k.k c.index-situations-k.result c.index-pieces-k.result c.loop-k.run.items c.requires.situations
    (omega (arith, c.loop-k-test.true)) c.requires.some c.requires.walked c.loop-k.invariant)

pub keep-requires-clause-run : goal.keep-requires-clause-run
keep-requires-clause-run c =
    let k = c.args.c.now in
    let situations = c.args.situations.now in
    let n = length c.args.pieces.now in
    let last : c.loop-k.k ≡ length c.args.pieces.now = omega (arith, c.loop-k-test.false, c.loop-k.auto.k-end) in
    subst (λ xs. IsReachedRun k xs) (sym (c.from_vec.ensures ∙ c.in_ok-append_one-2.ensures))
    (run-ends k situations n c.index-situations-pieces.result c.loop-k.run.items c.requires.situations c.requires.some
    (subst (λ m. IsStemTo k (get_or (states situations) m []) c.loop-k.run.items) last c.loop-k.invariant))
