use Rattle.entry.proofs.Viewed.{side-is}
use Rattle.entry.proofs.sides.side.Goals as goal

pub returns : goal.returns
returns c =
    side-is c.args.view.now c.note_sides.new.scratch c.args.state.now c.args.k c.index-view-k.result c.is_in.result
    c.requires.entry c.index-view-k.is c.note_sides.ensures c.is_in.ensures
