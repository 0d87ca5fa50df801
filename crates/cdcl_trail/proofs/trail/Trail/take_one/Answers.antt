use Rattle.std.proofs.Common.{[], ◌∷◌, ◌++◌, length, refl, ap, sym, subst, ◌∙◌}
use Rattle.cdcl_trail.specs.Renaming.{named_clause, AreBelow}
use Rattle.cdcl_trail.specs.Watched.{TrailState}
use Rattle.cdcl_trail.proofs.NamedLaws.{on_err, named_met, named_untaken, named_taken, steps_same, clauses_same, clauses_more}
use Rattle.cdcl_trail.proofs.trail.Trail.take_one.Goals as goal

pub invariant_of-self : goal.invariant_of-self
invariant_of-self c =
    let t = c.self.inside in
    named_met t.names c.number_all.new.names t.tracks t.shown.items t.shown.items c.self.invariant c.number_all.ensures.meets refl

pub invariant_of-self-in_err-take_one : goal.invariant_of-self-in_err-take_one
invariant_of-self-in_err-take_one c =
    let t = c.self.inside in
    named_untaken t.names c.number_all.new.names t.tracks c.take_one.new.self t.shown.items c.self.invariant c.number_all.ensures.meets c.take_one.ensures.steps c.in_err-take_one.ensures.err

pub invariant_of-self-2 : goal.invariant_of-self-2
invariant_of-self-2 c =
    let t = c.self.inside in
    named_taken t.names c.number_all.new.names t.tracks c.take_one.new.self t.shown.items c.as_slice.result.now c.self.invariant c.number_all.ensures.meets c.take_one.ensures.steps
    c.in_ok-take_one.ensures.ok
    (subst (AreBelow (length c.number_all.new.names)) (sym c.as_slice.ensures.value) c.in_ok-number_all.ensures.below)

pub returns-in_err-number_all-clause-steps : goal.returns-in_err-number_all-clause-steps
returns-in_err-number_all-clause-steps c =
    let t = c.self.inside in
    steps_same t.names c.number_all.new.names t.tracks t.tracks t.shown.items c.self.invariant c.number_all.ensures.meets refl
    ∙ ap (λ (s : TrailState). s.steps) c.self.view_is

pub returns-in_err-number_all-clause-err : goal.returns-in_err-number_all-clause-err
returns-in_err-number_all-clause-err c =
    let t = c.self.inside in
    on_err c.from_residual.result
    (clauses_same t.names c.number_all.new.names t.tracks t.tracks t.shown.items c.self.invariant c.number_all.ensures.meets refl
    ∙ ap (λ (s : TrailState). s.taken) c.self.view_is)

pub returns-in_err-take_one-clause-steps : goal.returns-in_err-take_one-clause-steps
returns-in_err-take_one-clause-steps c =
    let t = c.self.inside in
    steps_same t.names c.number_all.new.names t.tracks c.take_one.new.self t.shown.items c.self.invariant c.number_all.ensures.meets c.take_one.ensures.steps
    ∙ ap (λ (s : TrailState). s.steps) c.self.view_is

pub returns-in_err-take_one-clause-err : goal.returns-in_err-take_one-clause-err
returns-in_err-take_one-clause-err c =
    let t = c.self.inside in
    on_err c.from_residual-in_err-take_one.result
    (clauses_same t.names c.number_all.new.names t.tracks c.take_one.new.self t.shown.items c.self.invariant c.number_all.ensures.meets c.in_err-take_one.ensures.err
    ∙ ap (λ (s : TrailState). s.taken) c.self.view_is)

pub returns-clause-steps : goal.returns-clause-steps
returns-clause-steps c =
    let t = c.self.inside in
    steps_same t.names c.number_all.new.names t.tracks c.take_one.new.self t.shown.items c.self.invariant c.number_all.ensures.meets c.take_one.ensures.steps
    ∙ ap (λ (s : TrailState). s.steps) c.self.view_is

pub returns-clause-ok : goal.returns-clause-ok
returns-clause-ok c =
    let t = c.self.inside in
    clauses_more t.names c.number_all.new.names t.tracks c.take_one.new.self t.shown.items c.as_slice.result.now c.args.clause.now c.self.invariant c.number_all.ensures.meets
    c.in_ok-take_one.ensures.ok
    (ap (named_clause c.number_all.new.names) c.as_slice.ensures.value ∙ c.in_ok-number_all.ensures.same)
    ∙ ap (λ (s : TrailState). s.taken ++ c.args.clause.now ∷ []) c.self.view_is
