use Rattle.std.proofs.Common.{◌≡◌, ◌&&◌, [], arith}
use Rattle.std.proofs.lemmas.List.{nil_from_length}
use Rattle.proof_semantics.specs.Clauses.{clauses_value}
use Rattle.lasso_bmc.proofs.Parts.{part_end, part_next}
use Rattle.lasso_bmc.proofs.parting.part.Goals as goal

pub loop-clause-preserved : goal.loop-clause-preserved
loop-clause-preserved c = record {
  parts = λ v.
      part_next (clauses_value v c.args.rest.now.items && clauses_value v c.args.clauses.items) v c.loop-clause.taken.items c.loop-clause.rest.items
      c.put.new.taken.items c.put.new.rest.items c.loop-clause.clause-iterator.rest.items c.next.new.self.rest.items c.in-Some.clause
      c.in-Some.ensures.steps.0 (c.in_ok-put.ensures v) (c.loop-clause.invariant.parts v);
}

pub returns : goal.returns
returns c =
    let left = c.loop-clause.clause-iterator.rest in
    let none : left.items ≡ [] = nil_from_length left.items (omega (arith, c.in-None.ensures.steps.0, left.ok.0)) in
    λ v.
    part_end (clauses_value v c.args.rest.now.items && clauses_value v c.args.clauses.items)
    (clauses_value v c.loop-clause.taken.items && clauses_value v c.loop-clause.rest.items) v left.items none (c.loop-clause.invariant.parts v)
