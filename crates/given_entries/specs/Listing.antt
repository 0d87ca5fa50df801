-- The entries of a text: those of a certificate, of whatever property, or of a sheet.
use Rattle.std.specs.Prelude.{◌≡◌, ◌⊎◌, ℕ, Bool, true, false, List, Option, Result, Ok, Err}
use Rattle.aig_semantics.specs.Circuits.{Circuit}
use Rattle.edge.specs.Told.{MayBe}
use Rattle.unless_memory.specs.Answers.{GivesSome}
use Rattle.entry.specs.declared.entries.Entry.{Entry as WithProofs}
use Rattle.certificate.specs.declared.ends.AnswerFault.{AnswerFault}
use Rattle.certificate.specs.declared.ends.AnswerEnd.TheVariants as answer_ends
use Rattle.sheet_answers.specs.declared.ends.JudgeEnd.{JudgeEnd}
use Rattle.sheet_answers.specs.Sheets.{Sheet, IsTextOf}
use Rattle.sheet_answers.specs.Reading.{opens_as_sheet}
use Rattle.sheet_answers.specs.Ends.{answer_end, read_failed, refused_memory, Decides, SaysOf, EndsWith}
use Rattle.given_entries.specs.Given.{AreEntriesOf, HasEntries, HasNoEntries}

-- The text is a good sheet, and these are its entries.
abbrev pub HasSheetEntries : Circuit → List ℕ → List WithProofs → Type 0
HasSheetEntries c text entries = (sheet : Sheet) × IsTextOf c sheet text × AreEntriesOf c sheet.entries entries

-- where the first line opens a sheet the text is a sheet, or is refused as its check refuses it; else it is an answer
abbrev pub ListsAs : Bool → Circuit → List ℕ → List WithProofs → Type 0
ListsAs true c text entries = HasSheetEntries c text entries
ListsAs false c text entries = HasEntries c text entries

abbrev pub ListsNoneAs : Bool → Circuit → List ℕ → JudgeEnd → Type 0
ListsNoneAs true c text end = Decides c text (Err end)
ListsNoneAs false c text end = (fault : AnswerFault) × HasNoEntries c text fault × (end ≡ answer_end (answer_ends.Refused fault))

-- The text is good, and these are its entries.
abbrev pub Lists : Circuit → List ℕ → List WithProofs → Type 0
Lists c text entries = ListsAs (opens_as_sheet text) c text entries

-- The text gives no entries, and this is why.
abbrev pub ListsNone : Circuit → List ℕ → JudgeEnd → Type 0
ListsNone c text end = ListsNoneAs (opens_as_sheet text) c text end

-- the text decides this end
abbrev pub DecidesList : Circuit → List ℕ → Result (List WithProofs) JudgeEnd → Type 0
DecidesList c text (Ok entries) = Lists c text entries
DecidesList c text (Err end) = ListsNone c text end

-- the ends that say nothing of the text
abbrev pub unread_list : Result (List WithProofs) JudgeEnd
unread_list = Err read_failed

abbrev pub no_list : Result (List WithProofs) JudgeEnd
no_list = Err refused_memory

-- what the end says of the text that the shelf may hold
abbrev pub ListingSays : Circuit → Option (List ℕ) → Result (List WithProofs) JudgeEnd → Type 0
ListingSays c told result = SaysOf (DecidesList c) told result

-- this end comes, unless memory is refused or a read fails
abbrev pub ListingEnds : Result (List WithProofs) JudgeEnd → Result (List WithProofs) JudgeEnd → Type 0
ListingEnds result verdict = EndsWith result verdict
