use Rattle.std.proofs.Common.{◌≡◌, ℕ, List, get_or, ◌∙◌}
use Rattle.entry.specs.Faults.{fault_from}
use Rattle.entry.proofs.Passing.{passed_more, fault_more}
use Rattle.entry.proofs.judge.Judge.proof_fault.Goals as goal

-- the line that is judged
same_line : (lines : List (List ℕ)) (k : ℕ) (line item : List ℕ) → line ≡ item → item ≡ get_or lines k item → line ≡ get_or lines k line
same_line lines k line item same at = cc

pub loop-k-preserved : goal.loop-k-preserved
loop-k-preserved c =
    let line = c.as_slice.result.now in
    let at = same_line c.args.lines.now c.loop-k.k line c.index-lines-k.result c.as_slice.ensures c.index-lines-k.is in
    let judged = c.in-Ok.ensures.judged in
    record {
      fault = fault_more c.loop-k.self.proof c.step.new.self.proof c.args.lines.now c.loop-k.k line (fault_from 0 c.args.self.now.proof c.args.lines.now) c.loop-k-test.true at judged c.loop-k.invariant.fault;
      passed = passed_more c.args.self.now.proof c.loop-k.self.proof c.step.new.self.proof c.args.lines.now c.loop-k.k line c.loop-k-test.true at judged c.loop-k.invariant.passed;
      block = c.step.ensures.block ∙ c.loop-k.invariant.block;
      shared = c.step.ensures.shared ∙ c.loop-k.invariant.shared;
    }
