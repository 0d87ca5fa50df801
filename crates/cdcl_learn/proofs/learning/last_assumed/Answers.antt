use Rattle.cdcl_learn.proofs.WalkLaws.{found_last, some_is_assumed}
use Rattle.cdcl_learn.proofs.learning.last_assumed.Goals as goal

pub returns-then-is_none : goal.returns-then-is_none
returns-then-is_none c =
    found_last c.args.reasons.now c.places.place c.is_none.result c.places-test.true c.places.invariant.within c.is_none.ensures c.if-is_none.true c.places.invariant.behind

pub returns : goal.returns
returns c = some_is_assumed c.args.reasons.now c.places.place c.places-test.false c.places.invariant.behind c.requires
