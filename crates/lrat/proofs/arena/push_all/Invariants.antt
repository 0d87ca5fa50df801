use Rattle.std.proofs.Common.{◌≡◌, ◌+◌, ◌-◌, ◌≤◌, ◌++◌, take, length, vec_len, vec_capacity}
use Rattle.lrat.proofs.arena.push_all.Given as goal

-- the literals so far stand behind the first ones, and there is room for those that are left
abbrev pub invariant-loop-literal : goal.invariant-loop-literal
invariant-loop-literal l =
    (l.literals.items ≡ l.initial.literals.items ++ take l.literal-index l.more)
    × (vec_capacity l.literals ≡ vec_capacity l.initial.literals)
    × (vec_len l.literals + (length l.more - l.literal-index) ≤ vec_capacity l.literals)
