use Rattle.std.proofs.Common.{sym, ◌∙◌, arith}
use Rattle.std.proofs.lemmas.Bool.{false≢true}
use Rattle.ic3_frames.proofs.Steps.{none-more}
use Rattle.ic3_frames.proofs.levels.first_empty.Goals as goal

pub loop-k-preserved : goal.loop-k-preserved
loop-k-preserved c =
    none-more c.args.levels.now c.loop-k.k c.index-levels-k.result (omega arith) c.index-levels-k.is (omega arith)
    (λ none. false≢true (sym c.if-is_empty.false ∙ c.is_empty.ensures.1 none)) c.loop-k.invariant
