-- Verdicts: what a good text, an answer or a block of a sheet, says of a property.
use Rattle.std.specs.Prelude.{◌≡◌, ◌⊎◌, ℕ, List, Some, slice_get}
use Rattle.aig_semantics.specs.declared.traces.Stimulus.{Stimulus}
use Rattle.aig_semantics.specs.Circuits.{Circuit}
use Rattle.entry.specs.declared.refutations.Refutation.{Refutation}
use Rattle.certificate.specs.declared.ends.Accepted.TheVariants as accepted
use Rattle.certificate.specs.Answers.{IsGood}
use Rattle.sheet_answers.specs.Sheets.{Sheet, IsTextOf}
use Rattle.sheet_answers.specs.declared.blocks.Block.TheVariants.{Lasso, Holds}

-- the text is a good answer with a stimulus for property n, or a good sheet whose block of it has one
abbrev pub SaysLasso : Circuit → List ℕ → ℕ → Type 0
SaysLasso c text n =
    ((positions : ℕ) × (from : ℕ) × IsGood c text (accepted.Lasso n positions from))
    ⊎ ((sheet : Sheet) × IsTextOf c sheet text × (s : Stimulus) × (slice_get sheet.blocks n ≡ Some (Lasso s)))

-- the text is a good certificate of property n, or a good sheet whose block of it has a refutation
abbrev pub SaysHolds : Circuit → List ℕ → ℕ → Type 0
SaysHolds c text n =
    ((entries : ℕ) × IsGood c text (accepted.Holds n entries))
    ⊎ ((sheet : Sheet) × IsTextOf c sheet text × (r : Refutation) × (slice_get sheet.blocks n ≡ Some (Holds r)))

-- No property has a lasso by one text and holds by another.
abbrev pub TextsAgree : Circuit → Type 0
TextsAgree c = (text other : List ℕ) (n : ℕ) → SaysLasso c text n → SaysHolds c other n → ⊥
