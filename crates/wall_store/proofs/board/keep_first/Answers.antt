use Rattle.std.proofs.Common.{sym, ap, ◌∙◌}
use Rattle.std.specs.Prelude.{is_some}
use Rattle.wall_store.specs.declared.outcomes.Served.{Served}
use Rattle.wall_store.proofs.Serving.{closed_at, won_at, set_at_place}
use Rattle.wall_store.proofs.board.keep_first.Goals as goal

pub returns-then-is_some-clause-answer : goal.returns-then-is_some-clause-answer
returns-then-is_some-clause-answer c =
    closed_at c.args.served.now c.args.property c.place_of-place.result c.index-served-place.result c.requires c.place_of-place.ensures.place
    c.index-served-place.is
    (ap (λ (s : Served). is_some s.outcome) c.index-served-place.is ∙ sym c.is_some.ensures ∙ c.if-is_some.true)

pub returns-clause-answer : goal.returns-clause-answer
returns-clause-answer c =
    won_at c.args.served.now c.args.property c.place_of-place.result c.index-served-place.result c.requires c.place_of-place.ensures.place
    c.index-served-place.is
    (ap (λ (s : Served). is_some s.outcome) c.index-served-place.is ∙ sym c.is_some.ensures ∙ c.if-is_some.false)

pub returns-clause-after : goal.returns-clause-after
returns-clause-after c = set_at_place c.args.served.now c.args.property c.place_of-place.result c.args.outcome c.requires c.place_of-place.ensures.place
