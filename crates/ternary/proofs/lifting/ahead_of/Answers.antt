use Rattle.std.proofs.Common.{◌∙◌, sym, inl, inr, ◌-◌, arith}
use Rattle.std.proofs.lemmas.Bool.{cases_lt}
use Rattle.ternary.proofs.Words.{bit-is, bit-set}
use Rattle.ternary.proofs.Ahead.{ahead-before, ahead-past, ahead-zero, ahead-shown, ahead-hidden}
use Rattle.ternary.proofs.lifting.ahead_of.Goals as goal

pub returns-then-v-i : goal.returns-then-v-i
returns-then-v-i c = λ k below. c.splat-lanes.ensures k below ∙ sym (ahead-before c.args.word k c.args.i c.args.v c.args.value c.if-v-i.true)

pub returns-then-j-ge-LANES : goal.returns-then-j-ge-LANES
returns-then-j-ge-LANES c =
    let le = c.if-v-i.false in
    let far = c.if-j-ge-LANES.true in
    λ k below. c.splat-lanes.ensures k below ∙ sym (ahead-past c.args.word k c.args.i c.args.v c.args.value (omega arith) (omega arith) below)

pub returns-then-word-j-eq0 : goal.returns-then-word-j-eq0
returns-then-word-j-eq0 c =
    λ k below.
    c.splat-lanes.ensures k below
    ∙ sym (ahead-zero c.args.word k c.args.i c.args.v c.args.value (bit-is c.args.word (c.args.v - c.args.i) 0 c.if-word-j-eq0.true))

pub returns : goal.returns
returns c =
    let le = c.if-v-i.false in
    λ k below.
    elim (cases_lt k (c.args.v - c.args.i)) [
      | inl lt ↦
          c.unknown_from.ensures.shown k lt
          ∙ (c.splat-lanes.ensures k below ∙ sym (ahead-shown c.args.word k c.args.i c.args.v c.args.value (omega arith) lt))
      | inr ge ↦
          c.unknown_from.ensures.hidden k below (omega arith)
          ∙ sym (ahead-hidden c.args.word k c.args.i c.args.v c.args.value (omega arith) (omega arith) (bit-set c.args.word (c.args.v - c.args.i) c.if-word-j-eq0.false))
    ]
