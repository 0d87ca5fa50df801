-- The list with which a search begins, where an answer may be named whose entries it is given.
use Rattle.std.specs.Prelude.{◌≡◌, ◌⊎◌, ℕ, Bool, false, List, [], map, Option, None, Some, option_map, Result, Ok, Err, Vec}
use Rattle.std.specs.Arc.{arc_value}
use Rattle.std.specs.declared.sync.Arc.{Arc}
use Rattle.aig_semantics.specs.Circuits.{Circuit}
use Rattle.edge.specs.Told.{MayBe}
use Rattle.edge.specs.Reads.{ReadsOf, Reads}
use Rattle.entry.specs.declared.entries.Entry.{Entry as WithProofs}
use Rattle.entry.specs.CheckedEntries.{CheckedEntry}
use Rattle.sheet_answers.specs.declared.ends.JudgeEnd.{JudgeEnd}
use Rattle.sheet_answers.specs.Ends.{IsUnended}
use Rattle.given_entries.specs.Given.{list_of}
use Rattle.given_entries.specs.Listing.{Lists, ListsNone}

-- what a shelf tells of the answer, where one is named
abbrev pub told_of : (List ℕ → Option (List ℕ)) → Option (List ℕ) → Option (Option (List ℕ))
told_of held answer = option_map held answer

-- The claim holds of no text where no answer is named, and else of what the answer's text may be, which is the text where it
-- is told.
abbrev pub OfClaimed : Option (Option (List ℕ)) → (Option (List ℕ) → Type 0) → Type 0
OfClaimed None Claim = Claim None
OfClaimed (Some told) Claim = (text : List ℕ) × MayBe told text × Claim (Some text)

-- no answer is named, and no text claimed; or this is its text, which is told
abbrev pub IsClaimed : Option (Option (List ℕ)) → Option (List ℕ) → Type 0
IsClaimed None claimed = claimed ≡ None
IsClaimed (Some told) claimed = (text : List ℕ) × (told ≡ Some text) × (claimed ≡ Some text)

-- The search begins with this list: with none where no answer is named, and else with the entries of the answer.
abbrev pub BeginsWith : Circuit → Option (List ℕ) → List CheckedEntry → Type 0
BeginsWith c None list = list ≡ []
BeginsWith c (Some text) list = (entries : List WithProofs) × Lists c text entries × (list ≡ list_of c entries)

-- an answer is named that gives no entries, and this is why
abbrev pub HasNoList : Circuit → Option (List ℕ) → JudgeEnd → Type 0
HasNoList c None end = ⊥
HasNoList c (Some text) end = ListsNone c text end

-- the call ended so, or unended
abbrev pub IsRefusedWith : {T : Type 0} → JudgeEnd → Result T JudgeEnd → Type 0
IsRefusedWith refusal (Ok found) = ⊥
IsRefusedWith refusal (Err end) = (end ≡ refusal) ⊎ IsUnended end

-- a shared list, as the list of what is shared
abbrev pub shared_list : {Z : Type 0} → List (Arc CheckedEntry Z) → List CheckedEntry
shared_list list = map (λ shared. arc_value {X = CheckedEntry} shared) list

-- the call gave this list, or ended unended
abbrev pub GivesList : {Z A : Type 0} → List CheckedEntry → Result (Vec (Arc CheckedEntry Z) A) JudgeEnd → Type 0
GivesList list (Ok found) = shared_list found.items ≡ list
GivesList list (Err end) = IsUnended end

-- reads of the name, where one is given, of which the last failed, or none did
abbrev pub ReadsIfNamed : {Shelf : Type 0} → ReadsOf Shelf → Option (List ℕ) → Bool → Shelf → Shelf → Type 0
ReadsIfNamed Read None failed old new = (new ≡ old) × (failed ≡ false)
ReadsIfNamed Read (Some name) failed old new = Reads Read name failed old new
