use Rattle.std.proofs.Common.{◌∷◌, [], sym, ap, length, subst, arith}
use Rattle.std.proofs.lemmas.List.{length-append}
use Rattle.sheet_commands.specs.Boards.{AreBlocksOf}
use Rattle.sheet_commands.proofs.BoardBlocks.{told_more}
use Rattle.sheet_commands.proofs.boards.push_block.Goals as goal

pub returns-clause-one : goal.returns-clause-one
returns-clause-one c =
    omega (arith, ap length c.in_ok-push.ensures.items, length-append c.args.blocks.now.items (c.in_ok-block.block ∷ []), c.requires.before)

pub returns-clause-told : goal.returns-clause-told
returns-clause-told c =
    subst (AreBlocksOf c.args.circuit.now c.args.board.now.served 0) (sym c.in_ok-push.ensures.items)
    (told_more c.args.circuit.now c.args.board.now.served c.args.n c.args.blocks.now.items c.in_ok-block.block c.requires.before c.requires.told c.in_ok-block.ensures)
