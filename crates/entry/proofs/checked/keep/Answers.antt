use Rattle.std.proofs.Common.{◌≡◌, map, length, sym, ap, ◌∙◌}
use Rattle.std.proofs.lemmas.List.{length-map}
use Rattle.std.specs.Arc.{arc_value}
use Rattle.fair_semantics.specs.Entries.{Entry, used_entries}
use Rattle.entry.specs.Entries.{said}
use Rattle.entry.specs.Listing.{entry_of, numbered_of}
use Rattle.entry.specs.CheckedEntries.{entry_in, viewed}
use Rattle.entry.proofs.Standing.{kept}
use Rattle.entry.proofs.checked.keep.Goals as goal

pub invariant_of-result : goal.invariant_of-result
invariant_of-result c =
    let entry : Entry = said c.args.entry in
    let used : map numbered_of c.in_ok-used.used ≡ used_entries (viewed c.args.view.now) entry.uses =
    c.in_ok-used.ensures ∙ ap (used_entries (viewed c.args.view.now)) c.as_slice.ensures
    in
    kept (arc_value c.args.circuit.now) (arc_value c.in_ok-circuit.circuit) (viewed c.args.view.now)
    entry (entry_of (arc_value c.in_ok-entry.entry)) c.args.entry.proofs c.args.origin
    (map numbered_of c.in_ok-used.used) (length c.args.view.now)
    c.in_ok-circuit.ensures (ap entry_of c.in_ok-entry.ensures.ok) used (sym (length-map c.args.view.now entry_in))
    c.requires.valid c.requires.proved c.requires.apart
