-- The text of an answer with a certificate. Literals are those of AIGER 1.9 (Biere, Heljanko, Wieringa, 2011), where
-- variable v has 2v and, negated, 2v + 1; the format is this program's own.
use Rattle.std.specs.Prelude.{◌+◌, ◌*◌, ℕ, List, ◌∷◌, ◌++◌, decimal, codes, Option, Some, None, slice_get, if◌then◌else◌}
use Rattle.aig_semantics.specs.declared.parts.Latch.{Latch}
use Rattle.aig_semantics.specs.Circuits.{Circuit}
use Rattle.proof_semantics.specs.declared.literals.Lit.{Lit}
use Rattle.text_grammar.specs.Lines.{ended_lines}
use Rattle.certificate_lines.specs.declared.words.Version.TheVariants.{Two}
use Rattle.certificate_texts.specs.Certificates.{Certificate, lines_of_certificate}

-- the line of property n
abbrev pub property_line : ℕ → List ℕ
property_line n = codes "j" ++ decimal n

-- the variable of a latch; 0 of none
abbrev pub variable_of_latch : Option Latch → ℕ
variable_of_latch None = 0
variable_of_latch (Some latch) = latch.var

-- a literal over the number of a latch, as the model numbers it
abbrev pub literal_in_model : Circuit → Lit → ℕ
literal_in_model c l = 2 * variable_of_latch (slice_get c.latches l.var) + (if l.positive then 0 else 1)

-- the lines of the answer of status 0 with a certificate, for property n
abbrev pub certificate_lines_of : ℕ → Certificate → List (List ℕ)
certificate_lines_of n certificate = codes "0" ∷ property_line n ∷ lines_of_certificate certificate

-- The text of that answer: each line with its line feed, and nothing else.
abbrev pub certificate_text : ℕ → Certificate → List ℕ
certificate_text n certificate = ended_lines (certificate_lines_of n certificate)

-- the same certificate in version 2
abbrev pub in_version_two : Certificate → Certificate
in_version_two certificate =
    record { version = Two; entries = certificate.entries; uses = certificate.uses; proof = certificate.proof }
