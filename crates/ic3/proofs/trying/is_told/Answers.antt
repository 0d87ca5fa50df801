use Rattle.std.proofs.Common.{◌≡◌, true, drop, length, map, sym, ap, subst, ◌∙◌}
use Rattle.proof_semantics.specs.Clauses.{clauses_value, values_of}
use Rattle.cnf_unroll.specs.Blocks.{step_clauses}
use Rattle.ic3.proofs.trying.is_told.Goals as goal

pub returns : goal.returns
returns c = λ h. record {
  out = c.in_ok-all.all.items;
  completes = c.in_ok-all.ensures;
  next =
      ap (map (values_of c.in_ok-all.all.items)) (sym c.requires)
      ∙ (ap (map (values_of c.in_ok-all.all.items)) (sym c.as_slice.ensures)
      ∙ (ap (λ xs. map (values_of xs) c.as_slice.result.now) (sym c.deref.ensures.value)
      ∙ (sym c.in_ok-told.ensures ∙ (sym c.as_slice-2.ensures ∙ c.stands.ensures.next h))));
  constraints = c.stands.ensures.constraints h;
  entries =
      subst (λ xs. clauses_value (values_of xs) (drop (length (step_clauses c.args.c.now)) c.args.base.now.clauses) ≡ true)
      c.deref-2.ensures.value (c.stands.ensures.entries h);
}
