use Rattle.cnf_unroll.proofs.ObligationLaws.{obligation_read, obligation_written}
use Rattle.cnf_unroll.proofs.laws.obligations_tell.Goals as goal

pub returns : goal.returns
returns c =
    λ us e i known there. (
      obligation_read c.args.c.now c.max-limits.ensures.checked c.one_valuation.ensures us e i known there,
      obligation_written c.args.c.now c.max-limits.ensures.checked c.one_valuation.ensures us e i known there,
    )
