use Rattle.std.proofs.Common.{◌+◌, ◌∷◌, [], ◌++◌, map, take, false, sym, ap, ◌∙◌}
use Rattle.std.proofs.lemmas.List.{map_more}
use Rattle.proof_semantics.specs.Clauses.{negation}
use Rattle.proof_semantics.specs.declared.literals.Lit.{Lit}
use Rattle.cdcl.proofs.refusing.negations.Goals as goal

abbrev no_literal : Lit
no_literal = record { var = 0; positive = false }

pub loop-literal-preserved : goal.loop-literal-preserved
loop-literal-preserved c =
    let done = map negation (take c.loop-literal.literal-index c.args.literals.now) in
    c.in_ok-push.ensures.items
    ∙ ap (λ xs. xs ++ c.negation.result ∷ []) c.loop-literal.invariant
    ∙ ap (λ a. done ++ a ∷ []) c.negation.ensures
    ∙ sym (map_more negation c.args.literals.now c.loop-literal.literal-index no_literal c.loop-literal-test.true)
