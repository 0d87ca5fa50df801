-- Entries with which a search begins: those of an answer that is accepted, after the walls and reachability sets of FAIR
-- (Bradley, Somenzi, Hassan, Zhang, 2011). That a search is handed those of an earlier one is this program's.
use Rattle.std.specs.Prelude.{◌≡◌, ℕ, Bool, true, false, List, [], ◌∷◌, ◌++◌, Result, Ok, Err, codes, if◌then◌else◌}
use Rattle.std.specs.Str.{bytes_eq}
use Rattle.aig_semantics.specs.Circuits.{Circuit}
use Rattle.fair_semantics.specs.Entries.{Entry}
use Rattle.stimulus.specs.Texts.{is_skipped}
use Rattle.entry.specs.declared.entries.Entry.{Entry as WithProofs}
use Rattle.entry.specs.declared.origins.Origin.TheVariants.{Given}
use Rattle.entry.specs.Entries.{said}
use Rattle.entry.specs.Proved.{IsProved}
use Rattle.entry.specs.CheckedEntries.{CheckedEntry, checked_behind}
use Rattle.certificate.specs.declared.ends.AnswerFault.{AnswerFault}
use Rattle.certificate.specs.declared.ends.AnswerFault.TheVariants.{UnknownStatus}
use Rattle.certificate.specs.declared.ends.AnswerEnd.{AnswerEnd}
use Rattle.certificate.specs.declared.ends.AnswerEnd.TheVariants as ends
use Rattle.certificate_texts.specs.declared.certificates.Written.{Written}
use Rattle.certificate_texts.specs.declared.certificates.Certificate.{Certificate}
use Rattle.certificate.specs.declared.loaded.Loaded.TheVariants.{Holds}
use Rattle.certificate.specs.Lines.{readable}
use Rattle.certificate.specs.Certificates.{AreClausesOf}
use Rattle.certificate.specs.Loading.{HoldsAnswer}
use Rattle.certificate.specs.Ends.{IsRefused}

-- Which entries an answer gives; a text may be a sheet, too (Listing).

-- the first of these lines that is not skipped is the status of a stimulus
abbrev pub claims_lasso : List (List ℕ) → Bool
claims_lasso [] = false
claims_lasso (line ∷ lines) = if is_skipped line then claims_lasso lines else bytes_eq line (codes "1")

-- an entry of a certificate, with its clauses over the numbers of the latches
pub record IsEntryOf (c : Circuit) (written : Written) (e : WithProofs) : Type 0 where
  pub kind : e.kind ≡ written.kind
  pub set : AreClausesOf c written.clauses e.set
  pub uses : e.uses ≡ written.uses
  pub proofs : e.proofs ≡ written.proofs

-- these are those entries, in their order
abbrev pub AreEntriesOf : Circuit → List Written → List WithProofs → Type 0
AreEntriesOf c [] entries = entries ≡ []
AreEntriesOf c (written ∷ more) [] = ⊥
AreEntriesOf c (written ∷ more) (e ∷ entries) = IsEntryOf c written e × AreEntriesOf c more entries

-- The text is a good answer that is a certificate, of whatever property, and these are its entries.
abbrev pub HasEntries : Circuit → List ℕ → List WithProofs → Type 0
HasEntries c text entries =
    (n : ℕ) × (certificate : Certificate) × HoldsAnswer c text (Holds n certificate) × AreEntriesOf c certificate.entries entries

-- a stimulus, be it a good one or not, has an unknown status, and another text is refused as its check refuses it
abbrev pub IsRefusedFor : Bool → Circuit → List ℕ → AnswerFault → Type 0
IsRefusedFor true c text fault = fault ≡ UnknownStatus
IsRefusedFor false c text fault = IsRefused c text fault

-- The text gives no entries, and this is why.
abbrev pub HasNoEntries : Circuit → List ℕ → AnswerFault → Type 0
HasNoEntries c text fault = IsRefusedFor (claims_lasso (readable text)) c text fault

-- the text decides this end
abbrev pub DecidesEntries : Circuit → List ℕ → Result (List WithProofs) AnswerEnd → Type 0
DecidesEntries c text (Ok entries) = HasEntries c text entries
DecidesEntries c text (Err (ends.Refused fault)) = HasNoEntries c text fault
DecidesEntries c text (Err ends.ReadFault) = ⊥
DecidesEntries c text (Err ends.Memory) = ⊥

-- The list that they make.

-- behind the first entries each of these is proved, behind those before it
abbrev pub AreProvedInTurn : Circuit → List Entry → List WithProofs → Type 0
AreProvedInTurn c before [] = Unit {0}
AreProvedInTurn c before (e ∷ entries) = IsProved c before (said e) e.proofs × AreProvedInTurn c (before ++ said e ∷ []) entries

-- behind the first entries each of these is checked, behind those before it; none of them is a worker's
abbrev pub list_behind : Circuit → List Entry → List WithProofs → List CheckedEntry
list_behind c before [] = []
list_behind c before (e ∷ entries) =
    checked_behind c before (said e) e.proofs Given ∷ list_behind c (before ++ said e ∷ []) entries

-- The list with which a search begins that is given these entries.
abbrev pub list_of : Circuit → List WithProofs → List CheckedEntry
list_of c entries = list_behind c [] entries
