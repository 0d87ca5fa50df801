use Rattle.std.proofs.Common.{ap, sym, ◌∙◌}
use Rattle.std.specs.Prelude.{slice_get}
use Rattle.cdcl_trail.proofs.TakeLaws.{lowering_start, lowering_next, lowering_end}
use Rattle.cdcl_trail.proofs.tracks.lower.Goals as goal

pub levels-init : goal.levels-init
levels-init c = lowering_start c.args.saved.now.items c.args.bound

pub levels-preserved : goal.levels-preserved
levels-preserved c =
    lowering_next c.args.saved.now.items c.levels.saved.items c.args.bound c.levels.place c.in-Some.old c.lowered.result c.levels.invariant
    (ap (λ xs. slice_get xs c.levels.place) (sym c.as_slice.ensures.value) ∙ sym c.in-Some.ensures.value) c.lowered.ensures.fewer c.lowered.ensures.under c.lowered.ensures.same

pub returns-in_default : goal.returns-in_default
returns-in_default c =
    lowering_end c.args.saved.now.items c.levels.saved.items c.args.bound c.levels.place c.levels.invariant
    (ap (λ xs. slice_get xs c.levels.place) (sym c.as_slice.ensures.value) ∙ sym c.reached_in.ensures.value ∙ c.in_default.is)
