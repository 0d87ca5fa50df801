use Rattle.std.proofs.Common.{rules, ◌≡◌, subst}
use Rattle.std.specs.Arc.{arc_value}
use Rattle.aig_semantics.specs.Circuits.{Circuit}
use Rattle.entry.specs.CheckedEntries.{viewed}
use Rattle.entry.specs.Entries.{said}
use Rattle.entry.specs.Laws.{ProvedIsValid}
use Rattle.given_entries.proofs.listing.shared.Goals as goal

pub given-requires-clause-valid : goal.given-requires-clause-valid
given-requires-clause-valid c =
    let is : c.deref.result.now ≡ arc_value c.args.circuit.now = search rules in
    subst (λ (k : Circuit). ProvedIsValid k) is c.proved_entries_are_valid.ensures (viewed c.args.before.now) (said c.args.entry) c.args.entry.proofs
    c.requires.good c.requires.proved
