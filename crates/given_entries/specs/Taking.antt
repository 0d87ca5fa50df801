-- Scaffolding of inner functions: what becomes of an answer that is held, and of the lines of a sheet.
use Rattle.std.specs.Prelude.{◌≡◌, ◌≤◌, ℕ, All, List, [], ◌∷◌, ◌++◌, length, flat_map, Result, Ok, Err}
use Rattle.aig_semantics.specs.Circuits.{Circuit}
use Rattle.fair_semantics.specs.Entries.{Entry}
use Rattle.certificate_lines.specs.declared.words.Version.TheVariants.{Two}
use Rattle.entry.specs.declared.entries.Entry.{Entry as WithProofs}
use Rattle.certificate.specs.declared.ends.AnswerEnd.{AnswerEnd}
use Rattle.certificate.specs.declared.ends.AnswerEnd.TheVariants as ends
use Rattle.certificate.specs.declared.loaded.Loaded.{Loaded}
use Rattle.certificate.specs.declared.loaded.Loaded.TheVariants.{Lasso, Holds}
use Rattle.certificate.specs.declared.limits.TheConstants.{MAX_ENTRIES}
use Rattle.certificate_texts.specs.Certificates.{entry_lines, CanBeWritten}
use Rattle.certificate.specs.Certificates.{AreProvedBehind}
use Rattle.sheet_answers.specs.declared.ends.JudgeEnd.{JudgeEnd}
use Rattle.sheet_answers.specs.Sheets.{Sheet, all_line, version_line}
use Rattle.sheet_answers.specs.Ends.{answer_end}
use Rattle.given_entries.specs.Given.{AreEntriesOf}

-- a certificate is held
abbrev pub IsNoLasso : Loaded → Type 0
IsNoLasso (Lasso n stimulus lasso) = ⊥
IsNoLasso (Holds n certificate) = Unit {0}

-- its entries are given, or memory was refused; an end without one stays
abbrev pub IsTaken : Circuit → Result Loaded AnswerEnd → Result (List WithProofs) AnswerEnd → Type 0
IsTaken c (Ok (Holds n certificate)) (Ok entries) = AreEntriesOf c certificate.entries entries
IsTaken c (Ok (Holds n certificate)) (Err end) = end ≡ ends.Memory
IsTaken c (Ok (Lasso n stimulus lasso)) result = ⊥
IsTaken c (Err end) result = result ≡ Err end

-- the end of the loading of an answer, as that of a text
abbrev pub as_listed : Result (List WithProofs) AnswerEnd → Result (List WithProofs) JudgeEnd
as_listed (Ok entries) = Ok entries
as_listed (Err end) = Err (answer_end end)

-- the lines are those of a text that has the sheet, of which the entries, so many, within the limit, are good
pub record IsListedIn (c : Circuit) (sheet : Sheet) (count : ℕ) (lines : List (List ℕ)) : Type 0 where
  pub others : List (List ℕ)
  pub spelled : lines ≡ all_line (length sheet.blocks) ∷ version_line ∷ (flat_map entry_lines sheet.entries ++ others)
  pub form : All (CanBeWritten Two) sheet.entries
  pub many : count ≡ length sheet.entries
  pub few : count ≤ MAX_ENTRIES
  pub entries : List Entry
  pub proved : AreProvedBehind c [] sheet.entries entries
