use Rattle.std.proofs.Common.{[], subst}
use Rattle.fair_semantics.specs.Validity.{IsValid}
use Rattle.entry.specs.Entries.{said}
use Rattle.entry_tests.proofs.checked.checked_row.Goals as goal

pub given-requires-clause-valid : goal.given-requires-clause-valid
given-requires-clause-valid c =
    subst (λ circuit. IsValid circuit [] (said c.in_ok-e.e)) c.deref-c.ensures
    (c.proved_entries_are_valid.ensures [] _ _ c.good_lists_grow.ensures.none
    ((c.check_entry.ensures.proved c.in_ok-e.ensures.over).only c.in_ok-check_entry.was))
