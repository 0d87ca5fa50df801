use Rattle.std.proofs.Common.{◌≡◌, ◌≤◌, ◌∙◌, Some, option_map, ap, sym, take, drop, subst, arith}
use Rattle.std.specs.Prelude.{take_while}
use Rattle.std.specs.Str.Parse.{AllDigits, digits_value}
use Rattle.text_grammar.specs.Numerals.{is_digit}
use Rattle.text_grammar.proofs.NumeralLaws.{front_is, reads_unplain, reads_too_great, reads_plain, none_stands, read_stands}
use Rattle.text_grammar.proofs.numbers.read_number.Goals as goal

pub returns-then-not-spells_plainly-clause-value : goal.returns-then-not-spells_plainly-clause-value
returns-then-not-spells_plainly-clause-value c =
    let front = c.split_at.ensures.front ∙ ap (λ k. take k c.args.bytes.now) c.count_digits.ensures.count in
    sym (reads_unplain _ _ c.split_at.result.0.now front (sym c.spells_plainly.ensures ∙ c.if-not-spells_plainly.true))

pub returns-then-not-spells_plainly-clause-none : goal.returns-then-not-spells_plainly-clause-none
returns-then-not-spells_plainly-clause-none c = none_stands _ _ c.requires (sym (returns-then-not-spells_plainly-clause-value c))

pub value_up_to-requires-clause-digits : goal.value_up_to-requires-clause-digits
value_up_to-requires-clause-digits c =
    let front : c.split_at.result.0.now ≡ take_while is_digit c.args.bytes.now = c.split_at.ensures.front ∙ ap (λ k. take k c.args.bytes.now) c.count_digits.ensures.count in
    subst (AllDigits 10) (sym front) (front_is c.args.bytes.now).0

pub returns-in_err-value-clause-value : goal.returns-in_err-value-clause-value
returns-in_err-value-clause-value c =
    let front = c.split_at.ensures.front ∙ ap (λ k. take k c.args.bytes.now) c.count_digits.ensures.count in
    ap (option_map (λ x. (x.0, x.1.now))) c.from_residual.ensures
    ∙ sym (reads_too_great _ _ c.split_at.result.0.now front c.in_err-value.ensures.none)

pub returns-in_err-value-clause-none : goal.returns-in_err-value-clause-none
returns-in_err-value-clause-none c =
    let front = c.split_at.ensures.front ∙ ap (λ k. take k c.args.bytes.now) c.count_digits.ensures.count in
    rw c.from_residual.ensures (none_stands _ _ c.requires (reads_too_great _ _ c.split_at.result.0.now front c.in_err-value.ensures.none))

pub returns-clause-value : goal.returns-clause-value
returns-clause-value c =
    let front = c.split_at.ensures.front ∙ ap (λ k. take k c.args.bytes.now) c.count_digits.ensures.count in
    let behind = c.split_at.ensures.back ∙ ap (λ k. drop k c.args.bytes.now) (sym c.split_at.ensures.front_len) in
    let plain = sym c.spells_plainly.ensures ∙ c.if-not-spells_plainly.false in
    let small : digits_value 10 c.split_at.result.0.now ≤ c.args.limit = omega (arith, c.in_ok-value.ensures.value.0, c.in_ok-value.ensures.value.1) in
    ap (λ n. Some (n, c.split_at.result.1.now)) c.in_ok-value.ensures.value.0
    ∙ sym (reads_plain c.args.limit c.args.bytes.now c.split_at.result.0.now c.split_at.result.1.now front behind plain small)

pub returns-clause-found : goal.returns-clause-found
returns-clause-found c = read_stands _ _ _ _ c.requires (sym (returns-clause-value c))
