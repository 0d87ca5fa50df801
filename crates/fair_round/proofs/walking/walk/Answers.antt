use Rattle.std.proofs.Common.{◌+◌, ◌-◌, length, set, sym, ◌∙◌, subst, arith}
use Rattle.std.proofs.lemmas.List.{length-set}
use Rattle.fair_round.specs.Scopes.{entries_of}
use Rattle.fair_round.specs.Walks.{AreWalked}
use Rattle.fair_round.proofs.Counting.{asks-then}
use Rattle.fair_round.proofs.Steps.{piece-part, walked-on, first-stays}
use Rattle.fair_round.proofs.walking.walk.Goals as goal

pub loop-k-preserved : goal.loop-k-preserved
loop-k-preserved c =
    let before = c.loop-k.invariant in
    let situations = c.loop-k.situations.items in
    let k = c.loop-k.k in
    let to = c.in-Piece.to in
    let moves = piece-part c.args.scope.now.circuit.now (entries_of c.args.scope.now) c.args.scope.now.property situations c.as_slice.result.now k c.in_ok-before.field-0 c.in-Piece.before to
    c.as_slice.ensures.value c.in-Piece.is c.in_ok-before.ensures.advance
    in
    record {
      allowed = moves.allowed;
      first = first-stays situations k to (omega (arith, before.some)) ∙ before.first;
      size = length-set situations k to ∙ before.size;
      some = omega arith;
      within = omega (arith, c.loop-k-test.true);
      last = before.last;
      walked = subst (λ pieces. AreWalked c.args.scope.now.circuit.now (set situations k to) (k + 1 - 1) pieces) (sym c.in_ok-push-in-Piece.ensures.ok)
          (walked-on c.args.scope.now.circuit.now c.args.scope.now.property (entries_of c.args.scope.now) situations k (k + 1 - 1) c.loop-k.pieces c.in-Piece.before to
          (omega (arith, before.some)) (omega (arith, c.loop-k-test.true, before.last, before.size)) (omega arith) before.walked moves);
      counted = asks-then (length c.args.scope.now.circuit.now.latches) (k - 1) 1 (k + 1 - 1) c.args.meter.now c.loop-k.meter c.advance_to.new.meter before.counted
          c.advance_to.ensures.counted (omega (arith, before.some));
    }
