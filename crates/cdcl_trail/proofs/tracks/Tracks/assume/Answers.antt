use Rattle.std.proofs.Common.{[], ◌∷◌, ◌++◌, ap, ◌∙◌}
use Rattle.cdcl_trail.specs.Trails.{assumed}
use Rattle.cdcl_trail.proofs.TrailLaws.{level_assumed}
use Rattle.cdcl_trail.proofs.SoundLaws.{sound_saved, sound_assumed, sound_steps}
use Rattle.cdcl_trail.proofs.tracks.Tracks.assume.Goals as goal

pub invariant_of-self : goal.invariant_of-self
invariant_of-self c =
    let t = c.self.inside in
    sound_saved t.assignment.steps t.watching t.reached t.saved.items c.reserve.new.self.items c.reserve.ensures.items c.self.invariant

pub invariant_of-self-in_err-put : goal.invariant_of-self-in_err-put
invariant_of-self-in_err-put c =
    let t = c.self.inside in
    sound_steps t.assignment.steps c.put.new.self.steps t.watching t.reached c.reserve.new.self.items (ap (λ s. s.steps) c.in_err-put.ensures.err)
    (sound_saved t.assignment.steps t.watching t.reached t.saved.items c.reserve.new.self.items c.reserve.ensures.items c.self.invariant)

pub invariant_of-self-2 : goal.invariant_of-self-2
invariant_of-self-2 c =
    let t = c.self.inside in
    sound_assumed t.assignment.steps c.put.new.self.steps c.args.literal t.watching t.reached t.saved.items c.push_reserved.new.self.items c.in_ok-put.ensures.ok
    (c.push_reserved.ensures.items ∙ ap (λ xs. xs ++ t.reached ∷ []) c.reserve.ensures.items) c.self.invariant

pub returns-clause-level : goal.returns-clause-level
returns-clause-level c =
    level_assumed c.args.self.now.steps c.put.new.self.steps c.args.literal
    (c.in_ok-put.ensures.ok ∙ ap (λ s. s.steps ++ assumed c.args.literal ∷ []) c.self.view_is)
