use Rattle.std.proofs.Common.{length}
use Rattle.cdcl_trail.proofs.TakeLaws.{sound_before, sound_taken}
use Rattle.cdcl_trail.proofs.tracks.Tracks.take_one.Goals as goal

pub invariant_of-self : goal.invariant_of-self
invariant_of-self c =
    let t = c.self.inside in
    sound_before t.assignment.steps t.watching c.keep.new.self t.reached t.saved.items c.keep.ensures.stored c.keep.ensures.cover c.in_err-keep.ensures.err c.self.invariant

pub invariant_of-self-2 : goal.invariant_of-self-2
invariant_of-self-2 c =
    let t = c.self.inside in
    sound_taken t.assignment.steps t.watching c.keep.new.self t.reached c.lowered-self-inside.result t.saved.items c.lower.new.saved.items c.args.clause.now
    c.latest_pair-pair.result c.pair_false_from-bound.result (length t.watching.places.items) c.keep.ensures.stored c.keep.ensures.cover c.in_ok-keep.ensures.held
    c.in_ok-keep.ensures.pairs c.in_ok-keep.ensures.singles c.pair_false_from-bound.ensures c.lowered-self-inside.ensures.fewer
    c.lowered-self-inside.ensures.under c.lowered-self-inside.ensures.same c.lower.ensures c.self.invariant
