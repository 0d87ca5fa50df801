use Rattle.std.proofs.Common.{[], subst}
use Rattle.aig_semantics.specs.Circuits.{Circuit}
use Rattle.fair_semantics.specs.Validity.{IsValid}
use Rattle.entry.specs.Entries.{said}
use Rattle.ledger_tests.proofs.finds.given.Goals as goal

pub given-requires-clause-valid : goal.given-requires-clause-valid
given-requires-clause-valid c =
    subst (λ (d : Circuit). IsValid d [] (said c.nothing-e.result)) c.deref-c.ensures
    (c.proved_entries_are_valid.ensures [] (said c.nothing-e.result) c.nothing-e.result.proofs c.good_lists_grow.ensures.none c.in_ok-judge_nothing.ensures)
