use Rattle.std.proofs.Common.{ap, ◌∙◌}
use Rattle.wall_store.specs.declared.outcomes.Outcome.TheVariants.{Lasso}
use Rattle.wall_store.specs.Boards.{BoardState, properties_of}
use Rattle.ledger_tests.proofs.Posting.{finished_properties}
use Rattle.ledger_tests.proofs.boards.hand_in.Goals as goal

pub returns-clause-served : goal.returns-clause-served
returns-clause-served c =
    ap (λ (b : BoardState). properties_of b.served) c.finish.ensures.after
    ∙ finished_properties c.args.board.now.served 0 (Lasso c.args.lasso) c.finish.result
    ∙ c.requires.served
