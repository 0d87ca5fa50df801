use Rattle.std.proofs.Common.{◌≡◌, ◌<◌, false, length, get_or, take, sym, ap, ◌∙◌, arith}
use Rattle.std.proofs.lemmas.List.{length-set}
use Rattle.fair_semantics.specs.Entries.{set_at}
use Rattle.entry.proofs.Viewed.{sides-next, take-viewed}
use Rattle.entry.proofs.sides.note_sides.Goals as goal

pub loop-i-preserved : goal.loop-i-preserved
loop-i-preserved c =
    let below : c.loop-i.i < length c.args.view.now = c.loop-i-test.true in
    let room : c.loop-i.i < length c.loop-i.scratch = omega (arith, below, c.loop-i.invariant.room) in
    record {
      within = omega (arith, below);
      room = omega (arith, c.loop-i.invariant.room, length-set c.loop-i.scratch c.loop-i.i c.is_in-inside.result);
      known = sides-next c.args.view.now c.loop-i.scratch c.args.state.now c.loop-i.i c.index-view-i.result c.is_in-inside.result
          below room c.index-view-i.is c.is_in-inside.ensures c.loop-i.invariant.known;
    }

pub returns : goal.returns
returns c = λ n.
    let same : c.loop-i.i ≡ length c.args.view.now = omega (arith, c.loop-i.invariant.within, c.loop-i-test.false) in
    ap (λ k. get_or (take k c.loop-i.scratch) n false) (sym same) ∙ c.loop-i.invariant.known n
    ∙ ap (λ entries. set_at entries n c.args.state.now) (take-viewed c.args.view.now c.loop-i.i same)
