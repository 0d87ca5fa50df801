use Rattle.std.proofs.Common.{◌≡◌, [], ◌∷◌, ◌++◌, ap, sym, ◌∙◌, append_assoc}
use Rattle.cdcl.proofs.AddingLaws.{adds_more}
use Rattle.cdcl.proofs.solver.Solver.add_all.Goals as goal

pub loop-clause-preserved : goal.loop-clause-preserved
loop-clause-preserved c =
    let all : c.add_sized.new.self.added ++ c.next.new.self.rest.items ≡ c.args.self.now.added ++ c.args.clauses.items =
    ap (λ xs. xs ++ c.next.new.self.rest.items) c.in_ok-add_sized.ensures.added
    ∙ append_assoc c.loop-clause.self.added (c.in-Some.clause ∷ []) c.next.new.self.rest.items
    ∙ ap (λ xs. c.loop-clause.self.added ++ xs) (sym c.in-Some.ensures.steps.0)
    ∙ c.loop-clause.invariant.all in
    record {
      all = all;
      first = adds_more c.args.clauses.items c.args.self.now.added c.loop-clause.self.added c.add_sized.new.self.added c.in-Some.clause
          c.next.new.self.rest.items c.loop-clause.invariant.first c.in_ok-add_sized.ensures.added all;
      learned = c.add_sized.ensures.learned ∙ c.loop-clause.invariant.learned;
      values = c.add_sized.ensures.values ∙ c.loop-clause.invariant.values;
    }
