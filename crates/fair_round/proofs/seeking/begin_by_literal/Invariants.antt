use Rattle.std.proofs.Common.{◌≡◌, ◌+◌, ◌≤◌}
use Rattle.ic3.specs.Searches.{steps_left}
use Rattle.ic3_semantics.specs.Searching.{CountsUpTo}
use Rattle.fair_round.specs.Scopes.{entries_of}
use Rattle.fair_round.specs.Stems.{IsFit}
use Rattle.fair_round.proofs.seeking.begin_by_literal.Given as goal

abbrev pub invariant-loop-question : goal.invariant-loop-question
invariant-loop-question l = record {
  fit : IsFit l.scope.circuit.now (entries_of l.scope) l.search;
  paid : l.meter.steps + steps_left l.search ≤ l.initial.meter.steps + steps_left l.initial.search;
  counted : CountsUpTo (steps_left l.initial.search) l.initial.meter l.meter;
  same : l.rounds ≡ l.initial.rounds;
}
