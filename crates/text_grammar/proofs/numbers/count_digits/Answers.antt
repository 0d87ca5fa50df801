use Rattle.std.proofs.Common.{lt_irrefl, ◌≡◌, ◌≤◌, length, sym, ◌∙◌, arith}
use Rattle.std.proofs.lemmas.List.Sums.{prefix_len_is}
use Rattle.text_grammar.specs.Numerals.{is_digit}
use Rattle.text_grammar.proofs.numbers.count_digits.Goals as goal

pub returns-then-not-is_ascii_digit-clause-count : goal.returns-then-not-is_ascii_digit-clause-count
returns-then-not-is_ascii_digit-clause-count c =
    let within : c.loop-i.i ≤ length c.args.bytes.now = omega arith in
    sym (prefix_len_is is_digit c.args.bytes.now c.loop-i.i 0 within c.loop-i.invariant (λ _. sym c.is_ascii_digit.ensures.value ∙ c.if-not-is_ascii_digit.true))

pub returns-clause-count : goal.returns-clause-count
returns-clause-count c =
    let all : c.loop-i.i ≡ length c.args.bytes.now = omega (arith, c.loop-i-test.false) in
    let within : c.loop-i.i ≤ length c.args.bytes.now = omega (arith, all) in
    sym all ∙ sym (prefix_len_is is_digit c.args.bytes.now c.loop-i.i 0 within c.loop-i.invariant (λ h. absurd (lt_irrefl _ (rw all at h))))
