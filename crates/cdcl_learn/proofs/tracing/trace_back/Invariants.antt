use Rattle.std.proofs.Common.{◌≡◌, ◌≤◌, length, reverse}
use Rattle.cdcl_learn.specs.Walking.{IsTraced, marked, steps_with, with_last}
use Rattle.cdcl_learn.proofs.tracing.trace_back.Given as goal

abbrev pub invariant-places : goal.invariant-places
invariant-places l = record {
  traced : IsTraced l.clauses (steps_with l.literals l.reasons l.last) l.place (marked l.marks.marks (with_last l.literals l.last)) (reverse l.hints.items);
  long : length l.marks.marks ≡ length (with_last l.literals l.last);
  below : l.place ≤ length l.literals;
}

abbrev pub decreases-places : goal.decreases-places
decreases-places l = l.place
