use Rattle.std.proofs.Common.{codes, ℕ, List, subst}
use Rattle.certificate.specs.Ends.{CheckSays}
use Rattle.certificate.specs.Lassos.{KeepsLasso}
use Rattle.std.specs.Prelude.{Option, IfOk}
use Rattle.sheet_commands.proofs.CutBlocks.{carried, lasso_found, lasso_exactly, lassos_are_one, never_unread, was_found}
use Rattle.sheet_commands.proofs.blocks.held_lasso.Goals as goal

pub lasso_by-requires : goal.lasso_by-requires
lasso_by-requires c = carried c.args.circuit.now _ c.check_with_lasso-end.result c.check_with_lasso-end.new.kept c.check_with_lasso-end.ensures.lasso

pub returns-clause-found : goal.returns-clause-found
returns-clause-found c = λ answer held.
    lasso_found c.args.circuit.now answer c.check_with_lasso-end.result c.check_with_lasso-end.new.kept c.lasso_by.result c.lasso_by.ensures
    (never_unread c.check_with_lasso-end.result (codes "text") answer c.args.shelf c.check_with_lasso-end.new.shelf c.requires.steady held c.check_with_lasso-end.ensures.reads)
    (subst (λ (told : Option (List ℕ)). CheckSays c.args.circuit.now told c.check_with_lasso-end.result) held c.check_with_lasso-end.ensures.found)
    (subst (λ (told : Option (List ℕ)). IfOk c.check_with_lasso-end.result (λ accepted. KeepsLasso c.args.circuit.now told accepted c.check_with_lasso-end.new.kept)) held c.check_with_lasso-end.ensures.lasso)

pub returns-clause-exactly : goal.returns-clause-exactly
returns-clause-exactly c = λ answer verdict held.
    lasso_exactly c.args.circuit.now answer c.check_with_lasso-end.result c.check_with_lasso-end.new.kept c.lasso_by.result c.lasso_by.ensures
    (lassos_are_one c.args.circuit.now c.trimmed_answers_are_good.ensures.held c.answers_have_one_end.ensures.apart c.answers_have_one_end.ensures.refused)
    (never_unread c.check_with_lasso-end.result (codes "text") answer c.args.shelf c.check_with_lasso-end.new.shelf c.requires.steady held c.check_with_lasso-end.ensures.reads)
    (subst (λ (told : Option (List ℕ)). CheckSays c.args.circuit.now told c.check_with_lasso-end.result) held c.check_with_lasso-end.ensures.found)
    (subst (λ (told : Option (List ℕ)). IfOk c.check_with_lasso-end.result (λ accepted. KeepsLasso c.args.circuit.now told accepted c.check_with_lasso-end.new.kept)) held c.check_with_lasso-end.ensures.lasso)
    (λ v d. c.check_with_lasso-end.ensures.exactly answer v held d) verdict

pub returns-clause-unread : goal.returns-clause-unread
returns-clause-unread c =
    was_found c.check_with_lasso-end.result c.check_with_lasso-end.new.kept c.lasso_by.result c.lasso_by.ensures
    (never_unread c.check_with_lasso-end.result (codes "text") c.requires.held.0 c.args.shelf c.check_with_lasso-end.new.shelf c.requires.steady c.requires.held.1 c.check_with_lasso-end.ensures.reads)
