use Rattle.std.proofs.Common.{◌≡◌, option_map, length}
use Rattle.proof_semantics.specs.Lines.{signed_to_zero}
use Rattle.lrat.specs.Reading.{fields_behind, behind, front}
use Rattle.lrat.proofs.lines.read_signed.Given as goal

-- what the fields that are left give, behind the numbers so far, is the answer
abbrev pub invariant-loop-rest : goal.invariant-loop-rest
invariant-loop-rest l =
    option_map (front l.numbers.items) (signed_to_zero (fields_behind (behind l.rest)))
    ≡ option_map (front l.initial.numbers.items) (signed_to_zero (fields_behind (behind l.initial.rest)))

abbrev pub decreases-loop-rest : goal.decreases-loop-rest
decreases-loop-rest l = length (fields_behind (behind l.rest))
