use Rattle.ic3.proofs.Anew.{held_by_itself}
use Rattle.ic3.proofs.renewing.hold_at.Goals as goal

pub returns : goal.returns
returns c = λ begun held.
    held_by_itself c.args.lemmas.now c.args.place c.index-lemmas-place.result c.as_slice.result.now begun c.args.s.now
    c.hold_clause.new.s c.requires c.index-lemmas-place.is c.as_slice.ensures c.in_ok-hold_clause.ensures.ok held
