-- The sheet of a board: what it has of each property of a circuit, over its entries. The format of sheets is this program's.
use Rattle.std.specs.Prelude.{◌≡◌, ℕ, ◌+◌, List, [], ◌∷◌, length, take, Option, Some, None}
use Rattle.aig_semantics.specs.declared.traces.Lasso.{Lasso as LassoOf}
use Rattle.aig_semantics.specs.declared.traces.Stimulus.{Stimulus}
use Rattle.aig_semantics.specs.Circuits.{Circuit}
use Rattle.aig_semantics.specs.Stimuli.{StandsFor}
use Rattle.wall_store.specs.declared.outcomes.Outcome.{Outcome}
use Rattle.wall_store.specs.declared.outcomes.Outcome.TheVariants as outcomes
use Rattle.wall_store.specs.declared.outcomes.Served.{Served}
use Rattle.wall_store.specs.Boards.{BoardState, outcome_of}
use Rattle.sheet_answers.specs.declared.counts.Counts.{Counts}
use Rattle.sheet_answers.specs.Sheets.{none, and_all}
use Rattle.sheet_answers.specs.declared.blocks.Block.{Block}
use Rattle.sheet_answers.specs.declared.blocks.Block.TheVariants.{Lasso, Holds, Open}
use Rattle.sheet_answers.specs.Writing.{sheet_text}

-- the stimulus is that of the lasso, cut where it first stands for a fair lasso of property n: all its positions are needed
pub record IsCutOf (c : Circuit) (n : ℕ) (lasso : LassoOf) (s : Stimulus) : Type 0 where
  pub from : ℕ
  pub latches : s.latches ≡ lasso.start
  pub inputs : s.inputs ≡ take (length s.inputs) lasso.inputs
  pub stands : StandsFor c n s (length s.inputs) from

-- The block says what is known of property n: of a lasso its stimulus, the refutation, or nothing.
abbrev pub IsBlockOf : Circuit → ℕ → Option Outcome → Block → Type 0
IsBlockOf c n (Some (outcomes.Lasso lasso)) (Lasso s) = IsCutOf c n lasso s
IsBlockOf c n (Some (outcomes.Lasso lasso)) (Holds r) = ⊥
IsBlockOf c n (Some (outcomes.Lasso lasso)) Open = ⊥
IsBlockOf c n (Some (outcomes.Holds refutation)) (Lasso s) = ⊥
IsBlockOf c n (Some (outcomes.Holds refutation)) (Holds r) = r ≡ refutation
IsBlockOf c n (Some (outcomes.Holds refutation)) Open = ⊥
IsBlockOf c n None (Lasso s) = ⊥
IsBlockOf c n None (Holds r) = ⊥
IsBlockOf c n None Open = Unit {0}

-- those of the properties from n on do
abbrev pub AreBlocksOf : Circuit → List Served → ℕ → List Block → Type 0
AreBlocksOf c served n [] = Unit {0}
AreBlocksOf c served n (block ∷ blocks) = IsBlockOf c n (outcome_of served n) block × AreBlocksOf c served (n + 1) blocks

-- The text is the sheet of the board: its entries, and a block for each property of the circuit, which is open exactly where
-- the board has no outcome of the property. So many blocks are of each kind.
pub record IsSheetOf (c : Circuit) (b : BoardState) (counts : Counts) (text : List ℕ) : Type 0 where
  pub blocks : List Block
  pub each : length blocks ≡ length c.justice
  pub told : AreBlocksOf c b.served 0 blocks
  pub counted : counts ≡ and_all none blocks
  pub spelled : text ≡ sheet_text b.entries blocks
