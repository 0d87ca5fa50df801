-- What a read gives of a text.
use Rattle.std.specs.Prelude.{ℕ, zero, suc, ◌≡◌, ◌+◌, ◌-◌, ◌<◌, ◌≤◌, Bool, true, false, List, Option, Result, Ok, Err, length, take, drop}
use Rattle.edge.specs.declared.reading.ReadEnd.{ReadEnd}
use Rattle.edge.specs.declared.reading.ReadEnd.TheVariants as ends

-- a read at the place `from` of a text gave n bytes, which now stand at the front of the buffer
pub record GivesBytes (text : List ℕ) (from n : ℕ) (buffer : List ℕ) : Type 0 where
  -- the text has that many left there,
  pub left : n ≤ length text - from
  -- these are the bytes,
  pub given : take n buffer ≡ take n (drop from text)
  -- and a buffer with room stays empty only at the end of the text
  pub end : 0 < length buffer → n ≡ 0 → length text ≤ from

-- what is held under each name is as before
abbrev pub KeepsTexts : (List ℕ → Option (List ℕ)) → (List ℕ → Option (List ℕ)) → Type 0
KeepsTexts old new = (name : List ℕ) → new name ≡ old name

-- What one read makes of a shelf, of a name, from a place, into so many bytes: `Read old name from room failed new` says that
-- one such read, which failed or did not, leads from one state to another.
abbrev pub ReadsOf : Type 0 → Type 1
ReadsOf Shelf = Shelf → List ℕ → ℕ → ℕ → Bool → Shelf → Type 0

-- the same of reads within the first `most` bytes of a text alone
abbrev pub Within : {Shelf : Type 0} → ℕ → ReadsOf Shelf → ReadsOf Shelf
Within most Read old name from room failed new = (from + room ≤ most) × Read old name from room failed new

-- one read of the name, at some place
abbrev pub ReadsSomewhere : {Shelf : Type 0} → ReadsOf Shelf → List ℕ → Bool → Shelf → Shelf → Type 0
ReadsSomewhere Read name failed old new = (from : ℕ) × (room : ℕ) × Read old name from room failed new

-- so many reads of the name, none of which failed
abbrev pub GoodReads : {Shelf : Type 0} → ReadsOf Shelf → List ℕ → ℕ → Shelf → Shelf → Type 0
GoodReads Read name zero old new = new ≡ old
GoodReads Read name (suc n) old new = (mid : _) × GoodReads Read name n old mid × ReadsSomewhere Read name false mid new

-- reads of the name and of no other; the last of them failed, or none did
abbrev pub Reads : {Shelf : Type 0} → ReadsOf Shelf → List ℕ → Bool → Shelf → Shelf → Type 0
Reads Read name false old new = (n : ℕ) × GoodReads Read name n old new
Reads Read name true old new = (n : ℕ) × (last : _) × GoodReads Read name n old last × ReadsSomewhere Read name true last new

-- the reading of a text ended with a failed read
abbrev pub has_failed : {T : Type 0} → Result T ReadEnd → Bool
has_failed (Ok read) = false
has_failed (Err ends.Failed) = true
has_failed (Err ends.Memory) = false
