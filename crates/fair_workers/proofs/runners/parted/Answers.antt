use Rattle.std.proofs.Common.{◌+◌, ◌<◌, ◌++◌, [], ◌∷◌, Some, map, length, sym, ap, ◌∙◌, subst, arith}
use Rattle.std.specs.Prelude.{is_some}
use Rattle.std.specs.List.{All}
use Rattle.wall_ledger.specs.Passes.{PassState}
use Rattle.fair_workers.specs.declared.ending.WorkerEnd.{WorkerEnd}
use Rattle.fair_workers.specs.declared.runners.Runner.{Runner}
use Rattle.fair_workers.specs.OnThreads.{HasEnded}
use Rattle.fair_workers.proofs.Threaded.{moved-on, all-rest}
use Rattle.fair_workers.proofs.runners.parted.Goals as goal

pub unwrap-pass-requires : goal.unwrap-pass-requires
unwrap-pass-requires c =
    let before = c.loop-number.invariant in
    let here : 0 < length c.loop-number.rest.items = omega (arith, before.left, c.loop-number-test.true, c.args.runners.ok.0) in
    let r : Runner = c.remove-runner.result in
    let has : HasEnded r = subst HasEnded (sym c.remove-runner.ensures.value) (before.each 0 r here) in
    ap is_some has.0.1

pub unwrap-end-requires : goal.unwrap-end-requires
unwrap-end-requires c =
    let before = c.loop-number.invariant in
    let here : 0 < length c.loop-number.rest.items = omega (arith, before.left, c.loop-number-test.true, c.args.runners.ok.0) in
    let r : Runner = c.remove-runner.result in
    let has : HasEnded r = subst HasEnded (sym c.remove-runner.ensures.value) (before.each 0 r here) in
    ap is_some has.1.1

pub loop-number-preserved : goal.loop-number-preserved
loop-number-preserved c =
    let before = c.loop-number.invariant in
    let rest = c.loop-number.rest.items in
    let r : Runner = c.remove-runner.result in
    let here : 0 < length rest = omega (arith, before.left, c.loop-number-test.true, c.args.runners.ok.0) in
    let gone = c.remove-runner.ensures.len in
    record {
      passes = ap (λ ps. map Some ps ++ map (λ (q : Runner). q.pass) c.remove-runner.new.self.items) c.push_reserved.ensures.items
          ∙ ap (λ rs. map Some (c.loop-number.passes.items ++ c.unwrap-pass.result ∷ []) ++ map (λ (q : Runner). q.pass) rs) c.remove-runner.ensures.items
          ∙ moved-on (λ (q : Runner). q.pass) (λ (q : PassState). Some q) c.loop-number.passes.items rest c.unwrap-pass.result r (sym c.unwrap-pass.ensures) here
          c.remove-runner.ensures.value ∙ before.passes;
      ends = ap (λ es. map Some es ++ map (λ (q : Runner). q.end) c.remove-runner.new.self.items) c.push_reserved-in-loop-number.ensures.items
          ∙ ap (λ rs. map Some (c.loop-number.ends.items ++ c.unwrap-end.result ∷ []) ++ map (λ (q : Runner). q.end) rs) c.remove-runner.ensures.items
          ∙ moved-on (λ (q : Runner). q.end) (λ (q : WorkerEnd). Some q) c.loop-number.ends.items rest c.unwrap-end.result r (sym c.unwrap-end.ensures) here
          c.remove-runner.ensures.value ∙ before.ends;
      each = subst (All HasEnded) (sym c.remove-runner.ensures.items) (all-rest HasEnded rest before.each);
      left = omega (arith, before.left, gone, c.remove-runner.new.self.ok.0, c.loop-number.rest.ok.0);
      counts = (omega (arith, c.push_reserved.ensures.len, before.counts.0), omega (arith, c.push_reserved-in-loop-number.ensures.len, before.counts.1));
      room = (omega (arith, c.push_reserved.ensures.capacity, before.room.0), omega (arith, c.push_reserved-in-loop-number.ensures.capacity, before.room.1));
    }
