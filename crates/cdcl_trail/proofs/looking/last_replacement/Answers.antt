use Rattle.std.proofs.Common.{◌≡◌, ◌+◌, ◌-◌, ◌<◌, ◌≤◌, ◌||◌, Bool, length, ap, sym, ◌∙◌, arith}
use Rattle.proof_semantics.specs.Clauses.{lit_eq, has_literal}
use Rattle.proof_semantics.specs.declared.literals.Lit.{Lit}
use Rattle.cdcl_trail.specs.Propagation.{is_false}
use Rattle.cdcl_trail.proofs.VisitLaws.{has_at, all_behind, replaces}
use Rattle.cdcl_trail.proofs.looking.last_replacement.Goals as goal

pub places-preserved : goal.places-preserved
places-preserved c =
    let passed : Lit → Bool = λ b. lit_eq c.args.other b || is_false c.args.assignment.now.steps b in
    let next : c.places.place ≡ (c.places.place - 1) + 1 = omega (arith, c.places-test.true) in
    let below : c.places.place - 1 < length c.args.clause.now = omega (arith, c.places-test.true, c.places.invariant.within) in
    let within : c.places.place - 1 ≤ length c.args.clause.now = omega (arith, below) in
    record {
      within = within;
      behind = all_behind passed c.args.clause.now (c.places.place - 1) c.places.place c.index-clause-place.result next below
          (ap passed (sym c.index-clause-place.is) ∙ sym c.is_passed.ensures ∙ c.if-not-is_passed.false)
          c.places.invariant.behind;
    }

pub returns-then-not-is_passed : goal.returns-then-not-is_passed
returns-then-not-is_passed c =
    let below : c.places.place - 1 < length c.args.clause.now = omega (arith, c.places-test.true, c.places.invariant.within) in
    replaces c.args.assignment.now.steps c.args.clause.now c.args.other c.index-clause-place.result
    (ap (has_literal c.args.clause.now) c.index-clause-place.is ∙ has_at c.args.clause.now (c.places.place - 1) c.index-clause-place.result below)
    (sym c.is_passed.ensures ∙ c.if-not-is_passed.true)
