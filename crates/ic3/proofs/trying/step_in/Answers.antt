use Rattle.std.proofs.Common.{◌≡◌, true, false, map, sym, ap, ◌∙◌, rules}
use Rattle.aig_semantics.specs.Literals.{literal_in}
use Rattle.proof_semantics.specs.Clauses.{cube_value, values_of}
use Rattle.ic3.proofs.TriedLaws.{told_at, inside_at}
use Rattle.ic3.proofs.trying.step_in.Goals as goal

pub returns-then-holds_in-clause-tried : goal.returns-then-holds_in-clause-tried
returns-then-holds_in-clause-tried c =
    let outside : cube_value (values_of c.in_ok-p.p.latches) c.args.cube.now ≡ false = search rules in
    let there : cube_value (values_of c.in_ok-next.next) c.args.cube.now ≡ true = search rules in
    let same : c.as_slice-3.result.now ≡ c.as_slice-2.result.now = c.as_slice-3.ensures ∙ sym c.as_slice-2.ensures in
    record {
      told =
          told_at c.args.base.now.clauses c.args.c.now c.in_ok-p.p c.as_slice-3.result.now c.as_slice-4.result.now
          (c.as_slice-3.ensures ∙ c.in_ok-values.ensures.values)
          (c.as_slice-4.ensures
          ∙ (c.in_ok-next.ensures ∙ ap (λ xs. map (λ latch. literal_in xs latch.next) c.args.c.now.latches) (sym same)))
          (c.in_ok-is_told.ensures c.if-branch.true);
      outside = outside;
      inside =
          inside_at c.args.c.now c.in_ok-p.p c.as_slice-2.result.now c.in_ok-next.next c.args.cube.now
          (c.as_slice-2.ensures ∙ c.in_ok-values.ensures.values) c.in_ok-next.ensures there;
    }
