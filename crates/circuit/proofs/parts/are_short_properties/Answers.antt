use Rattle.std.proofs.Common.{◌+◌, ◌≤◌, List, ℕ, length, subst, refl, arith}
use Rattle.std.specs.List.{All}
use Rattle.std.proofs.lemmas.List.{take_all}
use Rattle.std.proofs.lemmas.List.Elements.{All-more}
use Rattle.aig_semantics.specs.declared.limits.TheConstants.{MAX_PROPERTY_LITERALS}
use Rattle.circuit.proofs.parts.are_short_properties.Goals as goal

pub loop-property-preserved : goal.loop-property-preserved
loop-property-preserved c =
    let Short : List ℕ → Type 0 = λ property. length property + c.args.fairness ≤ MAX_PROPERTY_LITERALS in
    let short = c.is_short.ensures.0 c.if-not-is_short.false in
    let here : Short c.property-item.result = omega (arith, short, c.len.ensures) in
    All-more Short c.args.justice.now c.loop-property.property-index c.property-item.result c.loop-property-test.true c.loop-property.invariant
    (subst Short c.property-item.is here)

pub returns : goal.returns
returns c = (
  λ _. subst (λ properties. All (λ property. length property + c.args.fairness ≤ MAX_PROPERTY_LITERALS) properties)
      (take_all c.loop-property.property-index c.args.justice.now c.loop-property-test.false) c.loop-property.invariant,
  λ _. refl,
)
