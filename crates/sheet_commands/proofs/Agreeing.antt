-- No two good texts say both of a property.
use Rattle.std.proofs.Common.{◌≡◌, inl, inr, ℕ, zero, suc, ◌+◌, List, [], ◌∷◌, subst, arith, Some}
use Rattle.std.specs.Prelude.{slice_get}
use Rattle.aig_semantics.specs.Circuits.{Circuit}
use Rattle.aig_semantics.specs.declared.traces.Position.{Position}
use Rattle.aig_semantics.specs.Runs.{IsFairLasso}
use Rattle.certificate.specs.declared.ends.Accepted.TheVariants as accepted
use Rattle.certificate.specs.Laws.{GoodIsTrue}
use Rattle.sheet_answers.specs.Sheets.{ShowsBlock, ShowBlocks}
use Rattle.sheet_answers.specs.declared.blocks.Block.{Block}
use Rattle.sheet_answers.specs.declared.blocks.Block.TheVariants.{Lasso, Holds}
use Rattle.sheet_answers.specs.Laws.{GoodSheetsAreTrue}
use Rattle.sheet_commands.specs.Verdicts.{SaysLasso, SaysHolds, TextsAgree}

-- a block of those that show what they say
shows_at : (c : Circuit) (n : ℕ) (blocks : List Block) (k : ℕ) (block : Block) → ShowBlocks c n blocks → slice_get blocks k ≡ Some block → ShowsBlock c (n + k) block
shows_at c n [] k block shows is = absurd (cc is)
shows_at c n (first ∷ blocks) zero block (h, shows) is =
    let one : first ≡ block = cc is in
    let place : n ≡ n + 0 = omega arith in
    subst (λ (b : Block). ShowsBlock c (n + 0) b) one (subst (λ (m : ℕ). ShowsBlock c m first) place h)
shows_at c n (first ∷ blocks) (suc k) block (h, shows) is =
    let place : n + 1 + k ≡ n + suc k = omega arith in
    subst (λ (m : ℕ). ShowsBlock c m block) place (shows_at c (n + 1) blocks k block shows is)

block_shows : (c : Circuit) (n : ℕ) (blocks : List Block) (block : Block) → ShowBlocks c 0 blocks → slice_get blocks n ≡ Some block → ShowsBlock c n block
block_shows c n blocks block shows is =
    let place : 0 + n ≡ n = omega arith in
    subst (λ (m : ℕ). ShowsBlock c m block) place (shows_at c 0 blocks n block shows is)

abbrev HasLasso : Circuit → ℕ → Type 0
HasLasso c n = (run : List Position) × (from : ℕ) × IsFairLasso c n run from

there_is : (c : Circuit) (text : List ℕ) (n : ℕ) → GoodIsTrue c → GoodSheetsAreTrue c → SaysLasso c text n → HasLasso c n
there_is c text n answers sheets (inl (positions, from, good)) =
    let shown = answers text (accepted.Lasso n positions from) good in (shown.0, from, shown.2)
there_is c text n answers sheets (inr (sheet, (short, has, good), s, is)) = block_shows c n sheet.blocks (Lasso s) (sheets sheet good) is

there_is_none : (c : Circuit) (text : List ℕ) (n : ℕ) → GoodIsTrue c → GoodSheetsAreTrue c → SaysHolds c text n → (run : List Position) (from : ℕ) → IsFairLasso c n run from → ⊥
there_is_none c text n answers sheets (inl (entries, good)) = (answers text (accepted.Holds n entries) good).0
there_is_none c text n answers sheets (inr (sheet, (short, has, good), r, is)) = (block_shows c n sheet.blocks (Holds r) (sheets sheet good) is).0

pub agree : (c : Circuit) → GoodIsTrue c → GoodSheetsAreTrue c → TextsAgree c
agree c answers sheets text other n lasso holds =
    let found = there_is c text n answers sheets lasso in
    there_is_none c other n answers sheets holds found.0 found.1 found.2
