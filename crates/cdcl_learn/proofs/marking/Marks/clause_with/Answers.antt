use Rattle.std.proofs.Common.{ap, ◌∙◌}
use Rattle.cdcl_learn.specs.Walking.{Marked}
use Rattle.cdcl_learn.proofs.LastLaws.{clause_then, clause_else}
use Rattle.cdcl_learn.proofs.marking.Marks.clause_with.Goals as goal
use Rattle.cdcl_learn.proofs.marking.Marks.clause_with.Goals.{then-is_marked+in_ok-push, else-is_marked}

pub returns : goal.returns
returns c = elim c.if-is_marked.branch [
  | then-is_marked+in_ok-push w ↦
      clause_then c.args.self.now.marks c.as_slice-2.result.now c.as_slice-3.result.now c.args.literals.now c.in-Some.last c.args.last c.in_ok-clause.clause w.push.new.self c.if-is_marked.clause w.negation.result c.is_marked.result
      c.in-Some.is c.requires (c.as_slice-2.ensures.value ∙ ap (λ (m : Marked). m.marks) c.self.view_is) (c.as_slice-3.ensures.value ∙ ap (λ (m : Marked). m.marks) c.self.view_is) c.in_ok-clause.ensures w.negation.ensures c.is_marked.ensures w.if-is_marked.true w.in_ok-push.ensures.ok w.clause-is
  | else-is_marked w ↦
      clause_else c.args.self.now.marks c.as_slice-2.result.now c.as_slice-3.result.now c.args.literals.now c.in-Some.last c.args.last c.in_ok-clause.clause c.if-is_marked.clause c.is_marked.result
      c.in-Some.is c.requires (c.as_slice-2.ensures.value ∙ ap (λ (m : Marked). m.marks) c.self.view_is) (c.as_slice-3.ensures.value ∙ ap (λ (m : Marked). m.marks) c.self.view_is) c.in_ok-clause.ensures c.is_marked.ensures w.if-is_marked.false w.clause-is
]
