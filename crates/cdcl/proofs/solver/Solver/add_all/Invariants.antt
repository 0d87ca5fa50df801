use Rattle.std.proofs.Common.{◌≡◌, ◌++◌}
use Rattle.cdcl.specs.Adding.{AddsFirst}
use Rattle.cdcl.proofs.solver.Solver.add_all.Given as goal

abbrev pub invariant-loop-clause : goal.invariant-loop-clause
invariant-loop-clause l = record {
  all : l.self.added ++ l.clause-iterator.rest.items ≡ l.initial.self.added ++ l.fn.clauses.items;
  first : AddsFirst l.fn.clauses.items l.initial.self.added l.self.added;
  learned : l.self.learned ≡ l.initial.self.learned;
  values : l.self.values ≡ l.initial.self.values;
}
