use Rattle.std.proofs.Common.{◌≡◌, ℕ, ◌<◌, true, get_or}
use Rattle.text_grammar.specs.Numerals.{is_digit}
use Rattle.text_grammar.proofs.numbers.count_digits.Given as goal

abbrev pub invariant-loop-i : goal.invariant-loop-i
invariant-loop-i l = (k : ℕ) → k < l.i → is_digit (get_or l.bytes k 0) ≡ true
