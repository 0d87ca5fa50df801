use Rattle.std.proofs.Common.{[], ◌++◌, map, ap₂, subst, ◌∙◌}
use Rattle.entry.specs.CheckedEntries.{viewed}
use Rattle.ic3_semantics.specs.Searching.{Question}
use Rattle.ic3_questions.specs.SteppingClauses.{base_clauses, guarded, denied_at}
use Rattle.ic3.specs.SteppingInside.{Grows}
use Rattle.ic3.proofs.Holding.{begun_held}
use Rattle.ic3.proofs.stepping_start.questions_of.Goals as goal

pub returns : goal.returns
returns c =
    let q : Question = record { circuit = c.args.c.now; view = viewed c.args.view.now; start = c.args.start.now } in
    let has = c.in_ok-solver.ensures in
    let grows : Grows (base_clauses q) [] has.front = subst (λ base. Grows base [] has.front) c.requires.base has.grows in
    begun_held q c.args.avoid.now has.front
    (record {
      solver = c.in_ok-solver.solver;
      here = c.in_ok-here.here;
      next = c.in_ok-next.next;
      free = c.args.free;
      levels = 0;
      asked = 0;
      without_clause = 0;
      count = 0;
      held = 0;
      implying = c.new.result;
    })
    c.max-limits.ensures.checked c.one_valuation.ensures c.requires.view c.requires.avoid
    c.in_ok-here.ensures c.in_ok-next.ensures c.requires.free grows
    (has.all
    ∙ ap₂ (λ g place. has.front ++ map (λ cube. guarded g (denied_at place cube)) c.args.avoid.now) c.in_ok-guard.ensures
    (c.as_slice-2.ensures ∙ c.in_ok-here.ensures))
