use Rattle.std.proofs.Common.{◌≡◌, ◌++◌, ◌+◌, drop}
use Rattle.live_to_safe.specs.Watching.{chain, chain_end}
use Rattle.round_monitor.proofs.gates.push_chain.Given as goal

abbrev pub invariant-loop-literal : goal.invariant-loop-literal
invariant-loop-literal l =
    (l.gates.items ++ chain l.var l.end (drop l.literal-index l.literals) ≡ l.initial.gates.items ++ chain l.v l.so_far l.literals)
    × (chain_end l.var l.end (drop l.literal-index l.literals) ≡ chain_end l.v l.so_far l.literals)
    × (l.var ≡ l.v + l.literal-index)
