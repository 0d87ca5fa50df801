use Rattle.std.proofs.Common.{◌%◌, ◌+◌, refl, sym, ◌∙◌}
use Rattle.std.proofs.lemmas.Bool.{ltb-true, ltb-false}
use Rattle.aiger_grammar.proofs.DeltaLaws.{number_small}
use Rattle.aiger_binary.proofs.Groups.{turn, small_turn, last, small_end}
use Rattle.aiger_binary.proofs.deltas.push_delta.Goals as goal

pub loop-init : goal.loop-init
loop-init c = record { text = refl; small = number_small c.args.n c.requires }

pub returns-then-is_last : goal.returns-then-is_last
returns-then-is_last c =
    last c.loop.counter c.loop.left c.loop.out.items c.push.new.self.items _ c.loop.left (ltb-true c.loop.left 128 (sym c.is_last.ensures ∙ c.if-is_last.true)) c.in_ok-push.ensures.items refl c.loop.invariant.text

pub loop-preserved : goal.loop-preserved
loop-preserved c = record {
  text = turn c.loop.counter c.loop.left c.loop.out.items c.push-in-loop.new.self.items _ (c.loop.left % 128 + 128) c.loop-test.true (ltb-false c.loop.left 128 (sym c.is_last.ensures ∙ c.if-is_last.false)) c.in_ok-push-2.ensures.items refl c.loop.invariant.text;
  small = small_turn c.loop.counter c.loop.left c.loop-test.true c.loop.invariant.small;
}

pub returns : goal.returns
returns c =
    last c.loop.counter c.loop.left c.loop.out.items c.push-2.new.self.items _ c.loop.left
    (small_end c.loop.counter c.loop.left c.loop-test.false c.loop.invariant.small) c.in_ok-push-3.ensures.items refl c.loop.invariant.text
