use Rattle.cnf_unroll.proofs.BlockReading.{block_read}
use Rattle.cnf_unroll.proofs.BlockWriting.{block_value, block_shown, block_true, shown_situation}
use Rattle.cnf_unroll.proofs.laws.blocks_are_situations.Goals as goal
use Rattle.std.proofs.Common.{refl}

pub returns-clause-read : goal.returns-clause-read
returns-clause-read c = λ base v h. block_read c.args.c.now c.max-limits.ensures.checked c.one_valuation.ensures base v h

pub returns-clause-written : goal.returns-clause-written
returns-clause-written c =
    λ base s is.
    let shows = block_shown c.args.c.now c.max-limits.ensures.checked base s is (block_value c.args.c.now base s) (λ n low high. refl) in (
      block_value c.args.c.now base s,
      block_true c.args.c.now c.max-limits.ensures.checked c.one_valuation.ensures base s is (block_value c.args.c.now base s) shows,
      shown_situation c.args.c.now c.max-limits.ensures.checked c.one_valuation.ensures base s is (block_value c.args.c.now base s) shows,
    )
