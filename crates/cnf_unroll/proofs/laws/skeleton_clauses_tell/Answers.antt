use Rattle.cnf_unroll.proofs.SkeletonLaws.{skeleton_read, skeleton_written}
use Rattle.cnf_unroll.proofs.laws.skeleton_clauses_tell.Goals as goal

pub returns : goal.returns
returns c =
    λ us j readable inside. (
      skeleton_read c.args.c.now c.max-limits.ensures.checked c.one_valuation.ensures us j readable inside,
      skeleton_written c.args.c.now c.max-limits.ensures.checked c.one_valuation.ensures us j readable,
    )
