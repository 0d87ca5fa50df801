use Rattle.std.proofs.Common.{◌∙◌}
use Rattle.entry.specs.CheckedEntries.{viewed}
use Rattle.skeleton.proofs.Growing.{added_front}
use Rattle.skeleton.proofs.known.catch_up.Goals as goal

pub add_rest-requires : goal.add_rest-requires
add_rest-requires c =
    added_front c.args.c.now c.args.j c.args.known.now (viewed c.args.view.now) c.into_vec.result.items c.requires.begun c.requires.on
    (c.into_vec.ensures ∙ c.in_ok-unrolled.ensures)
