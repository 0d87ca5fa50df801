use Rattle.std.proofs.Common.{◌≡◌, drop, take, Ok}
use Rattle.proof_semantics.specs.Proofs.{judge_all}
use Rattle.entry.specs.Faults.{fault_from}
use Rattle.entry.proofs.judge.Judge.proof_fault.Given as goal

abbrev pub invariant-loop-k : goal.invariant-loop-k
invariant-loop-k l = record {
  fault : fault_from l.k l.self.proof (drop l.k l.lines) ≡ fault_from 0 l.initial.self.proof l.lines;
  passed : judge_all l.initial.self.proof (take l.k l.lines) ≡ Ok l.self.proof;
  block : l.self.block ≡ l.initial.self.block;
  shared : l.self.shared ≡ l.initial.self.shared;
}
