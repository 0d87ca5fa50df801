use Rattle.std.proofs.Common.{ap, ◌∙◌}
use Rattle.proof_semantics.specs.Clauses.{clauses_value, values_of}
use Rattle.ic3_frames.specs.Frames.{frame_at}
use Rattle.ic3_frames.specs.Kept.{keys_of}
use Rattle.ic3_frames.proofs.Steps.{frame-slice}
use Rattle.ic3_frames.proofs.frames.Frames.allow.Goals as goal

pub returns : goal.returns
returns c =
    let is = ap keys_of c.deref.ensures.value ∙ c.self.view_is in
    c.allow.ensures
    ∙ ap (clauses_value (values_of c.args.state.now)) (frame-slice c.deref.result.now c.args.level ∙ ap (λ levels. frame_at levels c.args.level) is)
