use Rattle.std.proofs.Common.{◌≡◌, None, true, ap, sym, subst, ◌∙◌, arith}
use Rattle.std.specs.Prelude.{slice_get}
use Rattle.std.specs.Option.{unwrap_or, IsSome}
use Rattle.cdcl_trail.specs.Trails.{Steps, value_of, level_of}
use Rattle.cdcl_trail.proofs.TrailLaws.{at_place, level_read, no_level}
use Rattle.cdcl_trail.proofs.assignment.Assignment.level_of.Goals as goal

pub returns-in-Some : goal.returns-in-Some
returns-in-Some c =
    let t = c.self.inside in
    let told = at_place t.literals.items t.reasons.items c.args.number _ (record { var = 0; positive = true }) None c.self.invariant.beside
    (sym (c.in-Some.ensures ∙ c.self.invariant.places c.args.number)) in
    subst (λ (s : Steps). c.level_at.result ≡ level_of s.steps c.args.number) c.self.view_is
    (c.level_at.ensures ∙ ap (λ levels. unwrap_or (slice_get levels c.in-Some.place) 0) c.as_slice.ensures.value
    ∙ level_read t.levels.items t.reasons.items c.in-Some.place c.self.invariant.levels (omega (arith, told.below, c.self.invariant.beside)) ∙ sym told.depth)

pub returns-in-None : goal.returns-in-None
returns-in-None c =
    let t = c.self.inside in
    no_level t.literals.items t.reasons.items c.args.number (sym (c.in-None.ensures ∙ c.self.invariant.places c.args.number))
    (subst (λ (s : Steps). IsSome (value_of s.steps c.args.number)) (sym c.self.view_is) c.requires)
