use Rattle.std.proofs.Common.{[], sym, subst}
use Rattle.std.specs.Arc.{arc_value}
use Rattle.fair_semantics.specs.Validity.{IsValid}
use Rattle.entry.specs.Proved.{IsProved}
use Rattle.entry_tests.proofs.checked.certified.Goals as goal

pub certify-requires-clause-valid : goal.certify-requires-clause-valid
certify-requires-clause-valid c =
    let known = c.args.known in
    subst (λ e. IsValid (arc_value c.args.shared.now) [] e) (sym c.requires.same)
    (subst (λ circuit. IsValid circuit [] known.entry) c.deref-c.ensures
    (c.proved_entries_are_valid.ensures [] known.entry known.proofs c.good_lists_grow.ensures.none
    (subst (λ circuit. IsProved circuit [] known.entry known.proofs) (sym c.deref-c.ensures) c.requires.proved)))
