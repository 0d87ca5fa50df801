use Rattle.std.proofs.Common.{[], subst}
use Rattle.aig_semantics.specs.Circuits.{Circuit}
use Rattle.fair_semantics.specs.Validity.{IsValid}
use Rattle.entry.specs.Entries.{said}
use Rattle.ledger_tests.proofs.boards.checked.Goals as goal

pub new-requires-clause-valid : goal.new-requires-clause-valid
new-requires-clause-valid c =
    subst (λ (d : Circuit). IsValid d [] (said c.args.e)) c.deref-c.ensures
    (c.proved_entries_are_valid.ensures [] (said c.args.e) c.args.e.proofs c.good_lists_grow.ensures.none c.in_ok-judge.ensures)
