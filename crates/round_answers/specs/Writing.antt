-- What is known of the rounds of a property as code holds it, and its text. Literals are those of AIGER 1.9 (Biere, Heljanko,
-- Wieringa, 2011); the format is this program's own.
use Rattle.std.specs.Prelude.{◌≡◌, ◌≤◌, ℕ, Bool, true, false, All, List, [], ◌∷◌, ◌++◌, map, length, codes}
use Rattle.aig_semantics.specs.declared.traces.Position.{Position}
use Rattle.aig_semantics.specs.Circuits.{Circuit}
use Rattle.aig_semantics.specs.Runs.{IsInitialRun}
use Rattle.text_grammar.specs.Lines.{ended_lines}
use Rattle.fair_semantics.specs.declared.entries.Kind.TheVariants.{Reach}
use Rattle.fair_semantics.specs.Entries.{Entry}
use Rattle.fair_semantics.specs.Rounds.{HasRounds}
use Rattle.stimulus.specs.Texts.{digit_of}
use Rattle.certificate_lines.specs.declared.words.Version.TheVariants.{Two}
use Rattle.entry.specs.declared.entries.Entry.{Entry as WithProofs}
use Rattle.entry.specs.declared.refutations.Refutation.{Refutation}
use Rattle.entry.specs.Entries.{said}
use Rattle.entry.specs.Proved.{IsProved}
use Rattle.certificate.specs.declared.limits.TheConstants.{MAX_ENTRIES}
use Rattle.certificate_texts.specs.declared.certificates.Written.{Written}
use Rattle.certificate_texts.specs.declared.certificates.Certificate.{Certificate}
use Rattle.certificate_texts.specs.Certificates.{lines_of_certificate}
use Rattle.certificate_texts.specs.Writing.{property_line, literal_in_model}
use Rattle.certificate.specs.Refuted.{IsStateRefutation}
use Rattle.round_monitor.specs.Monitor.{monitor_circuit}
use Rattle.round_answers.specs.declared.rounds.KnownRounds.{KnownRounds}
use Rattle.round_answers.specs.declared.rounds.KnownRounds.TheVariants.{Fewer, Reached}
use Rattle.round_answers.specs.Texts.{rounds_line}
use Rattle.round_answers.specs.Answers.{last_latch}

-- an entry of the circuit t with its proofs, as its lines spell it
abbrev pub written_entry : Circuit → WithProofs → Written
written_entry t e = record {
  kind = e.kind;
  clauses = map (map (literal_in_model t)) e.set;
  uses = e.uses;
  proofs = e.proofs;
}

-- the certificate, of version 2, of these entries and this refutation
abbrev pub certificate_of : Circuit → List WithProofs → Refutation → Certificate
certificate_of t entries refutation = record {
  version = Two;
  entries = map (written_entry t) entries;
  uses = refutation.uses;
  proof = refutation.proof;
}

-- the latches that a run begins with; none of a run without positions
abbrev pub start_of : List Position → List Bool
start_of [] = []
start_of (p ∷ run) = p.latches

-- the lines of a run: the values of the latches and of the inputs at each position, and a dot
abbrev pub run_lines : List Position → List (List ℕ)
run_lines run = map (map digit_of) (start_of run ∷ map (λ p. p.inputs) run) ++ codes "." ∷ []

-- the lines behind that of the property
abbrev pub other_lines : Circuit → KnownRounds → List (List ℕ)
other_lines t (Fewer entries refutation) = lines_of_certificate (certificate_of t entries refutation)
other_lines t (Reached run) = codes "run" ∷ run_lines run

-- The text about k rounds of property n of a circuit: each line with its line feed, and nothing else. The entries are those of
-- the property's monitor.
abbrev pub rounds_text : Circuit → ℕ → ℕ → KnownRounds → List ℕ
rounds_text c n k rounds = ended_lines (rounds_line k ∷ property_line n ∷ other_lines (monitor_circuit c n k) rounds)

-- behind the first entries each of these is proved
abbrev pub AreProvedInOrder : Circuit → List Entry → List WithProofs → Type 0
AreProvedInOrder t before [] = Unit {0}
AreProvedInOrder t before (e ∷ more) = IsProved t before (said e) e.proofs × AreProvedInOrder t (before ++ said e ∷ []) more

-- reach entries within the limit on their number, each proved behind those before it, and over them a good refutation of the
-- states in which the last latch is true
pub record AreFull (t : Circuit) (entries : List WithProofs) (refutation : Refutation) : Type 0 where
  pub few : length entries ≤ MAX_ENTRIES
  pub reach : All (λ e. e.kind ≡ Reach) entries
  pub proved : AreProvedInOrder t [] entries
  pub refuted : IsStateRefutation t (last_latch t) (map said entries) refutation.uses refutation.proof

-- It is so of property n and k rounds: no initial run has them, by entries of the monitor; or this one has.
abbrev pub IsSo : Circuit → ℕ → ℕ → KnownRounds → Type 0
IsSo c n k (Fewer entries refutation) = AreFull (monitor_circuit c n k) entries refutation
IsSo c n k (Reached run) = IsInitialRun c run × HasRounds c n k run

-- an initial run has them
abbrev pub is_reached : KnownRounds → Bool
is_reached (Fewer entries refutation) = false
is_reached (Reached run) = true
