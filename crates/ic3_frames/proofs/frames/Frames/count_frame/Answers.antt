use Rattle.std.proofs.Common.{ap, ◌∙◌, subst, sym}
use Rattle.ic3_frames.specs.Frames.{AllDiffer}
use Rattle.ic3_frames.specs.Kept.{keys_of}
use Rattle.ic3_frames.proofs.frames.Frames.count_frame.Goals as goal

pub count-requires-clause-differ : goal.count-requires-clause-differ
count-requires-clause-differ c = subst AllDiffer (sym (ap keys_of c.deref.ensures.value ∙ c.self.view_is)) c.requires.differ
