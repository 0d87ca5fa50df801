use Rattle.std.proofs.Common.{◌≡◌, true, sym, subst}
use Rattle.fair_round.proofs.Allowed.{state-among, successor-among}
use Rattle.fair_round.proofs.Steps.{state-at, successor-at}
use Rattle.fair_round.proofs.walls.state_at.Goals as goal

pub returns-then-place-clause-state : goal.returns-then-place-clause-state
returns-then-place-clause-state c = λ p h.
    subst (λ u. p u ≡ true) (sym (successor-at c.args.situations.now c.args.place.situation c.index-situations-place.result c.requires.inside))
    (successor-among c.args.situations.now c.args.place.situation c.requires.inside p h)

pub returns-else-place-clause-state : goal.returns-else-place-clause-state
returns-else-place-clause-state c = λ p h.
    subst (λ u. p u ≡ true) (sym (state-at c.args.situations.now c.args.place.situation c.index-situations-place-else-place.result c.requires.inside))
    (state-among c.args.situations.now c.args.place.situation c.requires.inside p h)
