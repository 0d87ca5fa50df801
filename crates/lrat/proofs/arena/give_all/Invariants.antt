use Rattle.std.proofs.Common.{◌≡◌, ℕ, ◌+◌, ◌-◌, ◌<◌, ◌≤◌, ◌++◌, take, drop, length, vec_len, vec_capacity}
use Rattle.lrat.specs.ArenaOf.{clauses_in, literal_count, AreDeletedBelow, IsGiven}
use Rattle.lrat.proofs.arena.give_all.Given as goal

-- there is room for the clauses that are left, and those so far stand behind the first ones
abbrev pub invariant-loop-clause : goal.invariant-loop-clause
invariant-loop-clause l =
    (vec_len l.arena.literals + literal_count (drop l.clause-index l.clauses) ≤ vec_capacity l.arena.literals)
    × (vec_len l.arena.places + (length l.clauses - l.clause-index) ≤ vec_capacity l.arena.places)
    × IsGiven l.arena l.filled
    × (clauses_in l.arena ≡ clauses_in l.initial.arena ++ take l.clause-index l.clauses)
    × ((round : ℕ) → 0 < round → AreDeletedBelow round l.initial.arena.places.items → AreDeletedBelow round l.arena.places.items)
