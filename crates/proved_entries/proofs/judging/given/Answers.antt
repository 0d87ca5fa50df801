use Rattle.std.proofs.Common.{sym, subst}
use Rattle.aig_semantics.specs.Circuits.{Circuit}
use Rattle.fair_semantics.specs.Validity.{IsValid}
use Rattle.entry.specs.CheckedEntries.{viewed}
use Rattle.entry.specs.Entries.{said}
use Rattle.entry.specs.Laws.{IsGoodList}
use Rattle.proved_entries.proofs.judging.given.Goals as goal

pub given-requires-clause-valid : goal.given-requires-clause-valid
given-requires-clause-valid c =
    subst (λ (d : Circuit). IsValid d (viewed c.args.view.now) (said c.args.e)) c.deref-c.ensures
    (c.proved_entries_are_valid.ensures (viewed c.args.view.now) (said c.args.e) c.args.e.proofs
    (subst (λ (d : Circuit). IsGoodList d (viewed c.args.view.now)) (sym c.deref-c.ensures) c.requires.view) c.in_ok-judge.ensures)
