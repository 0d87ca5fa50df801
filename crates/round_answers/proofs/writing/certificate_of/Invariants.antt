use Rattle.std.proofs.Common.{◌≡◌, map, take}
use Rattle.round_answers.specs.Writing.{written_entry}
use Rattle.round_answers.proofs.writing.certificate_of.Given as goal

abbrev pub invariant-loop-entry : goal.invariant-loop-entry
invariant-loop-entry l = l.all ≡ map (written_entry l.t) (take l.entry-index l.entries)
