use Rattle.std.proofs.Common.{◌≡◌, length}
use Rattle.certificate_lines.specs.Fields.{number_in, read_each}
use Rattle.certificate_lines.specs.Reading.{fields_behind, behind}
use Rattle.certificate_lines.proofs.clauses.numbers_of.Given as goal

-- what the fields that are left give, behind the numbers so far, is the answer
abbrev pub invariant-loop-left : goal.invariant-loop-left
invariant-loop-left l =
    behind l.numbers.items (read_each number_in (fields_behind l.left))
    ≡ read_each number_in (fields_behind l.initial.left)

abbrev pub decreases-loop-left : goal.decreases-loop-left
decreases-loop-left l = length (fields_behind l.left)
