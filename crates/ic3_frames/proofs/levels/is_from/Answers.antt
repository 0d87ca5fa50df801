use Rattle.std.proofs.Common.{ap, ◌∙◌}
use Rattle.ic3_frames.specs.Frames.{has_clause}
use Rattle.ic3_frames.proofs.Steps.{frame-slice}
use Rattle.ic3_frames.proofs.levels.is_from.Goals as goal

pub returns : goal.returns
returns c = c.is_in.ensures ∙ ap (λ clauses. has_clause clauses c.args.lemma.now) (frame-slice c.args.levels.now c.args.level)
