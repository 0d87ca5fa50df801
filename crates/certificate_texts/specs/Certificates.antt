-- Certificates as the lines of a text spell them: entries with their proofs, and a refutation over them. Proofs are in LRAT
-- (Cruz-Filipe, Heule, Hunt, Kaufmann, Schneider-Kamp, 2017); the format is this program's own.
use Rattle.std.specs.Prelude.{ℕ, All, List, [], ◌∷◌, ◌++◌, map, length, flat_map}
use Rattle.fair_semantics.specs.declared.entries.Use.{Use}
use Rattle.certificate_lines.specs.declared.uses.WrittenUse.{WrittenUse}
use Rattle.certificate_lines.specs.declared.words.Version.{Version}
use Rattle.certificate_lines.specs.declared.words.WordLine.{WordLine}
use Rattle.certificate_lines.specs.declared.words.WordLine.TheVariants as lines
use Rattle.certificate_lines.specs.Fields.{IsNumber}
use Rattle.certificate_lines.specs.Words.{word_line_text, HasNumbers}
use Rattle.certificate_lines.specs.Uses.{uses_text, MayStand, written}
use Rattle.certificate_lines.specs.Clauses.{clause_text}
pub use Rattle.certificate_texts.specs.declared.certificates.Written.{Written}
pub use Rattle.certificate_texts.specs.declared.certificates.Certificate.{Certificate}

-- An entry as its lines spell it (`Written`) has the literals of each clause as the model numbers them, and the lines of the
-- proof of each clause. A certificate has its version, its entries, and the uses and the proof of the refutation.

abbrev pub opening_line : Written → WordLine
opening_line e = lines.Opening (record { kind = e.kind; clauses = length e.clauses; uses = length e.uses })

-- a proof's first line, which says how many follow, and its lines
abbrev pub proof_lines : List (List ℕ) → List (List ℕ)
proof_lines proof = word_line_text (lines.Proof (length proof)) ∷ proof

-- an entry's first line, its uses, its clauses and their proofs
abbrev pub entry_lines : Written → List (List ℕ)
entry_lines e =
    word_line_text (opening_line e) ∷ uses_text (map written e.uses) ∷ (map clause_text e.clauses ++ flat_map proof_lines e.proofs)

abbrev pub refuting_line : Certificate → WordLine
refuting_line certificate =
    lines.Refutation (record { uses = length certificate.uses; proof_lines = length certificate.proof })

-- the refutation's first line, its uses and its proof
abbrev pub refutation_lines : Certificate → List (List ℕ)
refutation_lines certificate =
    word_line_text (refuting_line certificate) ∷ uses_text (map written certificate.uses) ∷ certificate.proof

-- the version, the entries, the refutation and the end
abbrev pub lines_of_certificate : Certificate → List (List ℕ)
lines_of_certificate certificate =
    word_line_text (lines.Version certificate.version)
    ∷ (flat_map entry_lines certificate.entries ++ refutation_lines certificate ++ word_line_text lines.End ∷ [])

-- numbers are below 2^63, and in version 1 no use names a side
pub record CanBeWritten (version : Version) (e : Written) : Type 0 where
  pub sizes : HasNumbers (opening_line e)
  pub uses : All (MayStand version) (map written e.uses)
  pub literals : All (All IsNumber) e.clauses
  pub proofs : All (λ proof. IsNumber (length proof)) e.proofs

-- a use with its number, of whatever size
abbrev pub as_use : WrittenUse → Use
as_use u = record { entry = u.number; side = u.side }
