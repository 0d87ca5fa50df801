use Rattle.std.proofs.Common.{◌≡◌, ◌+◌, drop}
use Rattle.lrat.specs.ArenaOf.{literal_count}
use Rattle.lrat.proofs.store.count_literals.Given as goal

-- the count so far and the literals of the clauses that are left are all
abbrev pub invariant-loop-clause : goal.invariant-loop-clause
invariant-loop-clause l = l.count + literal_count (drop l.clause-index l.clauses) ≡ literal_count l.clauses
