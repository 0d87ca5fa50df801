-- A good sheet is true.
use Rattle.std.proofs.Common.{◌≡◌, ℕ, ◌+◌, ◌<◌, List, [], ◌∷◌, length, take, arith}
use Rattle.aig_semantics.specs.declared.traces.Position.{Position}
use Rattle.aig_semantics.specs.Circuits.{Circuit}
use Rattle.aig_semantics.specs.Runs.{IsFairLasso}
use Rattle.aig_semantics.specs.Stimuli.{simulated}
use Rattle.fair_semantics.specs.Entries.{Entry}
use Rattle.fair_semantics.specs.Laws.{NoLassoMeansFewRounds}
use Rattle.entry.specs.Laws.{IsGoodList, GoodListsGrow, RefutedHasNoLasso}
use Rattle.certificate.proofs.GoodTrue.{proved_list}
use Rattle.sheet_answers.specs.declared.blocks.Block.TheVariants.{Lasso, Holds, Open}
use Rattle.sheet_answers.specs.Sheets.{Block, IsGoodBlock, AreGood, ShowsBlock, ShowBlocks}
use Rattle.sheet_answers.specs.Laws.{GoodSheetsAreTrue, SheetsAreTrue}

module _ (c : Circuit) (none : RefutedHasNoLasso c) (few : NoLassoMeansFewRounds) (entries : List Entry) (list : IsGoodList c entries) where
  block_shows : (n : ℕ) (block : Block) → n < length c.justice → IsGoodBlock c entries n block → ShowsBlock c n block
  block_shows n (Lasso s) below (positions, from, stands) = (simulated c s.latches (take positions s.inputs), from, stands.has.lasso)
  block_shows n (Holds r) below (sizes, signs, good) =
      let no_lasso : (run : List Position) (from : ℕ) → IsFairLasso c n run from → ⊥ = none entries n r.uses r.proof list below good in
      (no_lasso, few c n below no_lasso)
  block_shows n Open below good = tt

  blocks_show : (n : ℕ) (blocks : List Block) → n + length blocks ≡ length c.justice → AreGood c entries n blocks → ShowBlocks c n blocks
  blocks_show n [] each good = tt
  blocks_show n (block ∷ blocks) each (good, others) =
      (block_shows n block (omega (arith, each)) good, blocks_show (n + 1) blocks (omega (arith, each)) others)

pub sheets_true : (c : Circuit) → GoodListsGrow c → RefutedHasNoLasso c → NoLassoMeansFewRounds → GoodSheetsAreTrue c
sheets_true c grow none few sheet good =
    blocks_show c none few good.entries (proved_list c grow [] sheet.entries good.entries grow.none good.proved) 0 sheet.blocks (omega (arith, good.each)) good.blocks

pub texts_true : (c : Circuit) → GoodSheetsAreTrue c → SheetsAreTrue c
texts_true c shows text counts entries (sheet, (short, has, good), same, count) = (sheet.blocks, good.each, same, shows sheet good)
