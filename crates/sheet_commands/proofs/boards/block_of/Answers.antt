use Rattle.std.proofs.Common.{rules, ◌≡◌, Some, None, sym, refl, subst}
use Rattle.std.proofs.lemmas.Result.{IfOk-weaker}
use Rattle.std.specs.Prelude.{Option, IfOk}
use Rattle.aig_semantics.specs.Circuits.{Circuit}
use Rattle.aig_semantics.specs.Stimuli.{IsFairLassoOf}
use Rattle.wall_store.specs.Boards.{outcome_of}
use Rattle.wall_store.specs.declared.outcomes.Outcome.{Outcome}
use Rattle.wall_store.specs.declared.outcomes.Outcome.TheVariants.{Lasso, Holds}
use Rattle.sheet_answers.specs.declared.blocks.Block.{Block}
use Rattle.sheet_answers.specs.declared.blocks.Block.TheVariants.{Open}
use Rattle.sheet_commands.specs.Boards.{IsBlockOf}
use Rattle.sheet_commands.proofs.boards.block_of.Goals as goal

pub lasso_block-requires : goal.lasso_block-requires
lasso_block-requires c =
    let lasso = c.in-Some-Lasso.lasso in
    let told : outcome_of c.args.board.now.served c.args.n ≡ Some (Lasso lasso) = search rules in
    subst (λ (k : Circuit). IsFairLassoOf k c.args.n lasso) c.requires (c.holds.ensures.outcomes c.args.n (Lasso lasso) told)

pub returns-in-Some-Lasso : goal.returns-in-Some-Lasso
returns-in-Some-Lasso c =
    let told : outcome_of c.args.board.now.served c.args.n ≡ Some (Lasso c.in-Some-Lasso.lasso) = search rules in
    subst (λ (o : Option Outcome). IfOk c.lasso_block.result (IsBlockOf c.args.circuit.now c.args.n o)) (sym told) c.lasso_block.ensures

pub returns-in-Some-Holds : goal.returns-in-Some-Holds
returns-in-Some-Holds c =
    let r = c.in-Some-Holds.refutation in
    let told : outcome_of c.args.board.now.served c.args.n ≡ Some (Holds r) = search rules in
    IfOk-weaker c.holds_block.result _ _
    (λ block h.
    subst (λ (o : Option Outcome). IsBlockOf c.args.circuit.now c.args.n o block) (sym told)
    (subst (λ (b : Block). IsBlockOf c.args.circuit.now c.args.n (Some (Holds r)) b) (sym h) refl)) c.holds_block.ensures

pub returns-in-None : goal.returns-in-None
returns-in-None c =
    let told : outcome_of c.args.board.now.served c.args.n ≡ None = search rules in
    subst (λ (o : Option Outcome). IsBlockOf c.args.circuit.now c.args.n o Open) (sym told) tt
