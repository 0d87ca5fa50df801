use Rattle.std.proofs.Common.{[], ◌++◌, flat_map, map, take}
use Rattle.certificate_texts.specs.Certificates.{entry_lines}
use Rattle.certificate_texts.specs.Adding.{Adds, head_lines}
use Rattle.certificate.specs.Writing.{listed, written_entry}
use Rattle.certificate.proofs.writing.write.Given as goal

abbrev pub invariant-loop-entry : goal.invariant-loop-entry
invariant-loop-entry l =
    Adds [] l.text.items (head_lines l.j ++ flat_map entry_lines (map written_entry (listed (take l.entry-index l.list))))
