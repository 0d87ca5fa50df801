use Rattle.std.proofs.Common.{sym, ◌∙◌}
use Rattle.aiger_binary.proofs.GroupLoop.{too_great, ends_empty, ends, goes_on, cut_off}
use Rattle.aiger_binary.proofs.differences.groups.Goals as goal

pub returns-then-value-gt-MAX_NUMBER : goal.returns-then-value-gt-MAX_NUMBER
returns-then-value-gt-MAX_NUMBER c =
    (too_great c.args.first c.args.total c.loop-i.unit c.loop-i.so_far c.loop-i.i c.from.result c.args.bytes.now _ c.loop-i-test.true c.from.ensures c.loop-i.invariant.0 c.if-value-gt-MAX_NUMBER.true)

pub returns-then-is_empty : goal.returns-then-is_empty
returns-then-is_empty c =
    ends_empty c.args.first c.args.total c.loop-i.unit c.loop-i.so_far c.loop-i.i c.from.result c.args.bytes.now _ c.loop-i-test.true c.from.ensures c.loop-i.invariant.0 c.if-value-gt-MAX_NUMBER.false
    c.if-byte-lt128.true (sym c.is_empty.ensures ∙ c.if-is_empty.true)

pub returns-then-byte-lt128 : goal.returns-then-byte-lt128
returns-then-byte-lt128 c =
    ends c.args.first c.args.total c.loop-i.unit c.loop-i.so_far c.loop-i.i c.from.result c.args.bytes.now _ c.loop-i-test.true c.from.ensures c.loop-i.invariant.0 c.if-value-gt-MAX_NUMBER.false
    c.if-byte-lt128.true (sym c.is_empty.ensures ∙ c.if-is_empty.false)

pub loop-i-preserved : goal.loop-i-preserved
loop-i-preserved c =
    let p = goes_on c.args.first c.args.total c.loop-i.unit c.loop-i.so_far c.loop-i.i c.from.result c.args.bytes.now _ c.loop-i-test.true c.from.ensures c.loop-i.invariant.0 c.loop-i.invariant.1 c.loop-i.invariant.2 c.if-value-gt-MAX_NUMBER.false c.if-byte-lt128.false in
    rw c.next_unit-unit.ensures (p.0, p.1, p.2, c.if-value-gt-MAX_NUMBER.false)

pub returns : goal.returns
returns c = cut_off c.args.first c.args.total c.loop-i.unit c.loop-i.so_far c.loop-i.i c.args.bytes.now _ c.loop-i-test.false c.loop-i.invariant.0
