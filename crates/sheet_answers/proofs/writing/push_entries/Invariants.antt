use Rattle.std.proofs.Common.{flat_map, map, take}
use Rattle.certificate_texts.specs.Certificates.{entry_lines}
use Rattle.certificate_texts.specs.Adding.{Adds}
use Rattle.certificate.specs.Writing.{listed, written_entry}
use Rattle.sheet_answers.proofs.writing.push_entries.Given as goal

abbrev pub invariant-loop-entry : goal.invariant-loop-entry
invariant-loop-entry l = Adds l.initial.text.items l.text.items (flat_map entry_lines (map written_entry (listed (take l.entry-index l.list))))
