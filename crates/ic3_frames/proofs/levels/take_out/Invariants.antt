use Rattle.std.proofs.Common.{◌≡◌, drop}
use Rattle.ic3_frames.specs.Kept.{keys_of, taken_out}
use Rattle.ic3_frames.proofs.levels.take_out.Given as goal

abbrev pub invariant-loop-k : goal.invariant-loop-k
invariant-loop-k l = record {
  keys : keys_of l.levels ≡ taken_out 0 (keys_of l.initial.levels) l.k l.lemma;
  rest : drop l.k l.levels ≡ drop l.k l.initial.levels;
}
