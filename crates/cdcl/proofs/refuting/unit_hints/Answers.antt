use Rattle.std.proofs.Common.{◌+◌, ◌∷◌, [], ◌++◌, map, take, false, sym, ap, ◌∙◌}
use Rattle.std.proofs.lemmas.List.{map_more}
use Rattle.proof_semantics.specs.declared.literals.Lit.{Lit}
use Rattle.cdcl.specs.UnitNumbers.{unit_number}
use Rattle.cdcl.proofs.refuting.unit_hints.Goals as goal

abbrev no_literal : Lit
no_literal = record { var = 0; positive = false }

pub loop-literal-preserved : goal.loop-literal-preserved
loop-literal-preserved c =
    let f = unit_number c.args.first c.args.units.now in
    let done = map f (take c.loop-literal.literal-index c.args.literals.now) in
    c.in_ok-push.ensures.items
    ∙ ap (λ xs. xs ++ c.unit_number.result ∷ []) c.loop-literal.invariant
    ∙ ap (λ n. done ++ n ∷ []) c.unit_number.ensures
    ∙ sym (map_more f c.args.literals.now c.loop-literal.literal-index no_literal c.loop-literal-test.true)
