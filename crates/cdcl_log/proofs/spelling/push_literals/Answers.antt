use Rattle.std.proofs.Common.{◌++◌, ◌∷◌, [], get_or, false, ap, ◌∙◌}
use Rattle.proof_semantics.specs.Lines.{signed_text}
use Rattle.proof_semantics.specs.declared.literals.Lit.{Lit}
use Rattle.cdcl_log.proofs.SpellingLaws.{field_more}
use Rattle.cdcl_log.proofs.spelling.push_literals.Goals as goal

abbrev no_literal : Lit
no_literal = record { var = 0; positive = false }

pub loop-literal-preserved : goal.loop-literal-preserved
loop-literal-preserved c =
    field_more signed_text c.args.out.now.items c.push_literal.new.out.items c.args.literals.now c.loop-literal.literal-index no_literal c.loop-literal-test.true
    (c.in_ok-push_literal.ensures
    ∙ ap (λ zs. zs ++ signed_text (get_or c.args.literals.now c.loop-literal.literal-index no_literal) ++ 32 ∷ []) c.loop-literal.invariant)
