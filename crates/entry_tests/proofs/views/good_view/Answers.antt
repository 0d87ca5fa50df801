use Rattle.std.proofs.Common.{[], ◌∷◌, sym, subst}
use Rattle.std.specs.Arc.{arc_value}
use Rattle.entry.specs.Laws.{IsGoodList}
use Rattle.entry.specs.Proved.{IsProved}
use Rattle.entry_tests.proofs.views.good_view.Goals as goal

pub returns-clause-good : goal.returns-clause-good
returns-clause-good c =
    let known = c.args.checked in
    let grown =
    c.good_lists_grow.ensures.more [] _ _ c.good_lists_grow.ensures.none
    (subst (λ circuit. IsProved circuit [] known.entry known.proofs) (sym c.deref-c.ensures) c.requires)
    in
    subst (IsGoodList (arc_value c.args.shared.now)) (sym c.in_ok-view.ensures.viewed)
    (subst (λ circuit. IsGoodList circuit (known.entry ∷ [])) c.deref-c.ensures grown)
