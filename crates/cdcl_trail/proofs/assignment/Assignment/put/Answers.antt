use Rattle.std.proofs.Common.{◌≡◌, ◌+◌, ◌++◌, ◌∷◌, [], Some, None, length, cond, eqb, ap, sym, subst, ◌∙◌, arith}
use Rattle.packed_literals.specs.DenseOf.{told}
use Rattle.cdcl_trail.specs.Trails.{Steps, step, value_of}
use Rattle.cdcl_trail.specs.AssignmentOf.{state_of}
use Rattle.cdcl_trail.proofs.TrailLaws.{pushed, pushed_steps, level_length, length_beside, opened_small}
use Rattle.cdcl_trail.proofs.assignment.Assignment.put.Goals as goal

pub overflow_add-self : goal.overflow_add-self
overflow_add-self c =
    let t = c.self.inside in
    let deep = level_length (state_of t).steps in
    let long = length_beside t.literals.items t.reasons.items c.self.invariant.beside in
    omega (arith, deep, long, c.self.invariant.depth, c.opened_by.ensures, opened_small c.args.reason, c.in_ok-reserve.ensures.ok, c.in_ok-reserve.ensures.len, t.literals.ok.0)

pub invariant_of-self-2 : goal.invariant_of-self-2
invariant_of-self-2 c =
    let t = c.self.inside in
    let same : length c.as_slice-place.result.now ≡ length t.literals.items = ap length (c.as_slice-place.ensures.value ∙ c.in_ok-reserve.ensures.items) in
    pushed t (record { literals = c.push_reserved.new.self; reasons = c.push_reserved-2.new.self; levels = c.push_reserved-3.new.self; places = c.tell.new.places; values = c.tell.new.values; level = t.level + c.opened_by.result })
    c.args.literal c.args.reason c.self.invariant
    (subst (λ (s : Steps). value_of s.steps c.args.literal.var ≡ None) (sym c.self.view_is) c.requires)
    (c.push_reserved.ensures.items ∙ ap (λ xs. xs ++ c.args.literal ∷ []) c.in_ok-reserve.ensures.items)
    (c.push_reserved-2.ensures.items ∙ ap (λ xs. xs ++ c.args.reason ∷ []) c.in_ok-reserve-2.ensures.items)
    (λ v. c.tell.ensures.places v ∙ ap (cond (eqb c.args.literal.var v) (Some (length c.as_slice-place.result.now))) (c.reach.ensures.same_places v) ∙ ap (λ n. cond (eqb c.args.literal.var v) (Some n) (told t.places v)) same)
    (λ v. c.tell.ensures.values v ∙ ap (cond (eqb c.args.literal.var v) (Some c.args.literal.positive)) (c.reach.ensures.same_values v))
    (ap (λ n. t.level + n) c.opened_by.ensures)
    (c.push_reserved-3.ensures.items ∙ ap (λ xs. xs ++ (t.level + c.opened_by.result) ∷ []) c.in_ok-reserve-3.ensures.items)

pub returns-clause-ok : goal.returns-clause-ok
returns-clause-ok c =
    let t = c.self.inside in
    pushed_steps t (record { literals = c.push_reserved.new.self; reasons = c.push_reserved-2.new.self; levels = c.push_reserved-3.new.self; places = c.tell.new.places; values = c.tell.new.values; level = t.level + c.opened_by.result })
    c.args.literal c.args.reason c.self.invariant
    (c.push_reserved.ensures.items ∙ ap (λ xs. xs ++ c.args.literal ∷ []) c.in_ok-reserve.ensures.items)
    (c.push_reserved-2.ensures.items ∙ ap (λ xs. xs ++ c.args.reason ∷ []) c.in_ok-reserve-2.ensures.items)
    ∙ ap (λ (s : Steps). s.steps ++ step c.args.literal c.args.reason ∷ []) c.self.view_is
