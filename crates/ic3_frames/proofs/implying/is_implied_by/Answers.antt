use Rattle.std.proofs.Common.{sym, ◌∙◌, arith}
use Rattle.ic3_frames.proofs.ImplyingLaws.{implied_behind}
use Rattle.ic3_frames.proofs.implying.is_implied_by.Goals as goal

pub returns : goal.returns
returns c = λ h.
    implied_behind c.args.lemmas.now c.args.place c.args.other c.args.lemma.now c.index-lemmas-other.result
    (omega (arith, c.if-other-place.false)) (omega (arith, c.if-lemmas-other.false)) c.index-lemmas-other.is
    (sym c.implies.ensures ∙ h)
