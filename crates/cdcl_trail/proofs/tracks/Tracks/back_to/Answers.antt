use Rattle.std.proofs.Common.{◌≤◌, ap, sym, subst, ◌∙◌}
use Rattle.std.specs.Prelude.{slice_get}
use Rattle.std.specs.Option.{unwrap_or}
use Rattle.cdcl_trail.specs.Trails.{level}
use Rattle.cdcl_trail.specs.Watched.{TrailState}
use Rattle.cdcl_trail.proofs.SoundLaws.{sound_back}
use Rattle.cdcl_trail.proofs.tracks.Tracks.back_to.Goals as goal

pub invariant_of-self : goal.invariant_of-self
invariant_of-self c =
    let t = c.self.inside in
    sound_back t.assignment.steps c.back_to.new.self.steps t.watching t.reached c.reached_at-self-inside.result t.saved.items c.truncate.new.self.items c.args.target
    (subst (λ (s : TrailState). c.args.target ≤ level s.steps) (sym c.self.view_is) c.requires) c.back_to.ensures.steps c.back_to.ensures.level
    (c.reached_at-self-inside.ensures ∙ ap (λ xs. unwrap_or (slice_get xs c.args.target) t.reached) c.as_slice.ensures.value) c.truncate.ensures.items c.self.invariant
