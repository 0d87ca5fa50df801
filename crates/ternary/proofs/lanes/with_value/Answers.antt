use Rattle.std.proofs.Common.{get_or, sym, ◌∙◌, refl}
use Rattle.ternary.proofs.Words.{value-set_zero, value-set_one, value-set_x, value-kept, set-kept, cleared-kept}
use Rattle.ternary.proofs.lanes.with_value.Goals as goal

pub returns-in-Zero-clause-here : goal.returns-in-Zero-clause-here
returns-in-Zero-clause-here c = value-set_zero (get_or c.args.words 0 0) (get_or c.args.words 1 0) c.args.k c.requires ∙ sym c.in-Zero.is

pub returns-in-Zero-clause-others : goal.returns-in-Zero-clause-others
returns-in-Zero-clause-others c =
    λ i below ne.
    value-kept (get_or c.args.words 0 0) _ (get_or c.args.words 0 0) (get_or c.args.words 1 0) i refl
    (cleared-kept (get_or c.args.words 1 0) c.args.k i c.requires below ne)

pub returns-in-One-clause-here : goal.returns-in-One-clause-here
returns-in-One-clause-here c = value-set_one (get_or c.args.words 0 0) (get_or c.args.words 1 0) c.args.k c.requires ∙ sym c.in-One.is

pub returns-in-One-clause-others : goal.returns-in-One-clause-others
returns-in-One-clause-others c =
    λ i below ne.
    value-kept _ _ (get_or c.args.words 0 0) (get_or c.args.words 1 0) i
    (set-kept (get_or c.args.words 0 0) c.args.k i c.requires ne)
    (set-kept (get_or c.args.words 1 0) c.args.k i c.requires ne)

pub returns-in-X-clause-here : goal.returns-in-X-clause-here
returns-in-X-clause-here c = value-set_x (get_or c.args.words 0 0) (get_or c.args.words 1 0) c.args.k c.requires ∙ sym c.in-X.is

pub returns-in-X-clause-others : goal.returns-in-X-clause-others
returns-in-X-clause-others c =
    λ i below ne.
    value-kept _ _ (get_or c.args.words 0 0) (get_or c.args.words 1 0) i
    (cleared-kept (get_or c.args.words 0 0) c.args.k i c.requires below ne)
    (set-kept (get_or c.args.words 1 0) c.args.k i c.requires ne)
