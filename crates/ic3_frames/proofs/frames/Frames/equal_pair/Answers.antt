use Rattle.std.proofs.Common.{ap, ◌∙◌, subst}
use Rattle.ic3_frames.specs.Kept.{keys_of, StandOnce}
use Rattle.ic3_frames.proofs.Steps.{all-differ, all-equal}
use Rattle.ic3_frames.proofs.frames.Frames.equal_pair.Goals as goal

pub returns-clause-equal : goal.returns-clause-equal
returns-clause-equal c =
    all-equal c.deref.result.now c.args.self.now (ap keys_of c.deref.ensures.value ∙ c.self.view_is) c.first_empty.result
    c.first_empty.ensures.found c.first_empty.ensures.empty

pub returns-clause-none : goal.returns-clause-none
returns-clause-none c =
    all-differ c.deref.result.now c.args.self.now (ap keys_of c.deref.ensures.value ∙ c.self.view_is)
    (subst StandOnce c.self.view_is c.self.invariant.once) c.first_empty.result c.first_empty.ensures.none
