-- The laws of the lines.
use Rattle.std.specs.Prelude.{◌≡◌, ◌↔◌, ℕ, List, Some}
use Rattle.certificate_lines.specs.declared.uses.WrittenUse.{WrittenUse}
use Rattle.certificate_lines.specs.declared.words.Version.{Version}
use Rattle.certificate_lines.specs.declared.words.WordLine.{WordLine}
use Rattle.certificate_lines.specs.Words.{IsWordLine, word_line_of}
use Rattle.certificate_lines.specs.Uses.{AreUses, uses_of}
use Rattle.certificate_lines.specs.Clauses.{IsClauseLine, clause_of}

-- What is read of a line is what it spells.

abbrev pub ReadsWordLines : Type 0
ReadsWordLines = (bytes : List ℕ) (line : WordLine) → (word_line_of bytes ≡ Some line) ↔ IsWordLine bytes line

abbrev pub ReadsUses : Type 0
ReadsUses =
    (version : Version) (bytes : List ℕ) (uses : List WrittenUse)
    → (uses_of version bytes ≡ Some uses) ↔ AreUses version bytes uses

abbrev pub ReadsClauses : Type 0
ReadsClauses = (bytes literals : List ℕ) → (clause_of bytes ≡ Some literals) ↔ IsClauseLine bytes literals

-- A line spells one thing at most, and so no line that begins with a word is of two forms.

abbrev pub OneWordLine : Type 0
OneWordLine = (bytes : List ℕ) (l m : WordLine) → IsWordLine bytes l → IsWordLine bytes m → l ≡ m

abbrev pub OneListOfUses : Type 0
OneListOfUses =
    (v w : Version) (bytes : List ℕ) (us more : List WrittenUse)
    → AreUses v bytes us → AreUses w bytes more → us ≡ more

abbrev pub OneClause : Type 0
OneClause = (bytes ls ms : List ℕ) → IsClauseLine bytes ls → IsClauseLine bytes ms → ls ≡ ms

-- No line that begins with a word is a line of uses or of a clause.

abbrev pub WordsAreNoUses : Type 0
WordsAreNoUses =
    (bytes : List ℕ) (line : WordLine) (version : Version) (uses : List WrittenUse)
    → IsWordLine bytes line → AreUses version bytes uses → ⊥

abbrev pub WordsAreNoClauses : Type 0
WordsAreNoClauses =
    (bytes : List ℕ) (line : WordLine) (literals : List ℕ) → IsWordLine bytes line → IsClauseLine bytes literals → ⊥
