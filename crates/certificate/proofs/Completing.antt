-- What leads from each state of the reading to a good answer: the lines that are left, in the words of certificates.
use Rattle.std.specs.Prelude.{◌≡◌, ◌⊎◌, ◌^◌, ◌≤◌, ◌<◌, ℕ, ◌+◌, true, All, Bool, List, [], ◌∷◌, ◌++◌, map, length, flat_map, None, Ok, Err, codes}
use Rattle.aig_semantics.specs.declared.traces.Stimulus.{Stimulus}
use Rattle.aig_semantics.specs.Circuits.{Circuit}
use Rattle.proof_semantics.specs.declared.literals.Lit.{Lit}
use Rattle.fair_semantics.specs.declared.entries.Use.{Use}
use Rattle.fair_semantics.specs.Entries.{Entry, used_entries}
use Rattle.stimulus.specs.Texts.{row_values, present}
use Rattle.certificate_lines.specs.declared.words.Opening.{Opening}
use Rattle.certificate_lines.specs.declared.words.Refutation.{Refutation as Refuting}
use Rattle.certificate_lines.specs.declared.words.Version.{Version}
use Rattle.certificate_lines.specs.declared.words.WordLine.{WordLine}
use Rattle.certificate_lines.specs.declared.words.WordLine.TheVariants as lines
use Rattle.certificate_lines.specs.Fields.{IsNumber}
use Rattle.certificate_lines.specs.Words.{word_line_text, HasNumbers}
use Rattle.certificate_lines.specs.Uses.{uses_text, MayStand, written}
use Rattle.certificate_lines.specs.Clauses.{clause_text}
use Rattle.entry.specs.declared.uses.User.TheVariants as users
use Rattle.entry.specs.Faults.{first_bad_use, fault_from, proof_fault, proofs_fault}
use Rattle.entry.specs.Proved.{obligation_of}
use Rattle.certificate.specs.declared.limits.TheConstants.{MAX_ENTRIES}
use Rattle.certificate.specs.declared.ends.Accepted.{Accepted}
use Rattle.certificate_texts.specs.declared.certificates.Written.{Written}
use Rattle.certificate_texts.specs.Certificates.{proof_lines, entry_lines, CanBeWritten}
use Rattle.certificate.specs.Certificates.{AreClausesOf, AreProvedBehind}
use Rattle.certificate.specs.Refuted.{Refuted, refuted_clauses, IsRefutation, may_open}
use Rattle.certificate.specs.declared.state.Refuted.TheVariants.{Skeletons}
use Rattle.certificate_texts.specs.Writing.{property_line}
use Rattle.certificate.specs.Reading.{Body, Begun, Proving, Wanted, Start, EntryUses, EntryClause, EntryProof, EntryLine, RefutationUses, RefutationLine, Last, Claim, HasLasso, HasNone, State, Status, Property, Latches, Rows, Dotted, Versioned, Certified, Ended, Stepped, with_entry, begin_entry, has_base}
use Rattle.certificate.specs.Ends.{IsGoodAtEnd}

-- the last line of a certificate
abbrev pub end_line : List ℕ
end_line = word_line_text lines.End

abbrev pub refuting_of : List Use → List (List ℕ) → WordLine
refuting_of uses proof = lines.Refutation (record { uses = length uses; proof_lines = length proof })

-- the lines of these entries, of the refutation and of the end
abbrev pub rest_lines : List Written → List Use → List (List ℕ) → List (List ℕ)
rest_lines more uses proof =
    flat_map entry_lines more ++ (word_line_text (refuting_of uses proof) ∷ uses_text (map written uses) ∷ (proof ++ end_line ∷ []))

-- behind these entries there are the others, and a refutation over all of them
pub record FromStart (c : Circuit) (b : Body) (left : List (List ℕ)) (a : Accepted) : Type 0 where
  pub more : List Written
  pub uses : List Use
  pub proof : List (List ℕ)
  pub spelled : left ≡ rest_lines more uses proof
  pub kinds : All (λ e. may_open b.refuted e.kind ≡ true) more
  pub form : All (CanBeWritten b.version) more
  pub sizes : HasNumbers (refuting_of uses proof)
  pub signs : All (MayStand b.version) (map written uses)
  pub few : 0 < length more → length b.entries + length more ≤ MAX_ENTRIES
  pub all : List Entry
  pub proved : AreProvedBehind c b.entries more all
  pub refuted : IsRefutation c b.refuted all b.property uses proof
  pub end : IsGoodAtEnd c (Ended (record b { entries = all })) a

-- the proofs of the clauses from i on, and what follows the entry
pub record ProofsTail (c : Circuit) (b : Body) (e : Entry) (i : ℕ) (left : List (List ℕ)) (a : Accepted) : Type 0 where
  pub proofs : List (List (List ℕ))
  pub rest : List (List ℕ)
  pub spelled : left ≡ flat_map proof_lines proofs ++ rest
  pub sizes : All (λ proof. IsNumber (length proof)) proofs
  pub count : i + length proofs ≡ length e.clauses
  pub passes : proofs_fault (obligation_of c b.entries e) i proofs ≡ None
  pub others : FromStart c (with_entry b e) rest a

-- the lines of a proof from one on, and then the other proofs
pub record LinesTail (c : Circuit) (b : Body) (e : Entry) (i : ℕ) (p : Proving) (left : List (List ℕ)) (a : Accepted) : Type 0 where
  pub proof : List (List ℕ)
  pub rest : List (List ℕ)
  pub spelled : left ≡ proof ++ rest
  pub count : p.read + length proof ≡ p.count
  pub passes : fault_from p.read p.state proof ≡ None
  pub others : ProofsTail c b e (i + 1) rest a

-- the clauses that are still to come, and then all proofs
pub record ClausesTail (c : Circuit) (b : Body) (begun : Begun) (left : List (List ℕ)) (a : Accepted) : Type 0 where
  pub literals : List (List ℕ)
  pub clauses : List (List Lit)
  pub rest : List (List ℕ)
  pub spelled : left ≡ map clause_text literals ++ rest
  pub numbers : All (All IsNumber) literals
  pub are : AreClausesOf c literals clauses
  pub based : All (λ clause. has_base c begun.entry.kind clause ≡ true) clauses
  pub count : length begun.entry.clauses + length clauses ≡ begun.count
  pub proofs : ProofsTail c b (record begun.entry { clauses = begun.entry.clauses ++ clauses }) 0 rest a

-- the uses of an entry, and then its clauses
pub record FromUses (c : Circuit) (b : Body) (o : Opening) (left : List (List ℕ)) (a : Accepted) : Type 0 where
  pub uses : List Use
  pub rest : List (List ℕ)
  pub spelled : left ≡ uses_text (map written uses) ∷ rest
  pub signs : All (MayStand b.version) (map written uses)
  pub count : length uses ≡ o.uses
  pub fit : first_bad_use (users.Entry o.kind) b.entries uses ≡ None
  pub clauses : ClausesTail c b (begin_entry o uses) rest a

-- the lines of the refutation from one on, and the end
pub record RefutationTail (c : Circuit) (b : Body) (p : Proving) (left : List (List ℕ)) (a : Accepted) : Type 0 where
  pub proof : List (List ℕ)
  pub spelled : left ≡ proof ++ end_line ∷ []
  pub count : p.read + length proof ≡ p.count
  pub passes : fault_from p.read p.state proof ≡ None
  pub end : IsGoodAtEnd c (Ended b) a

-- the uses of the refutation, and then its lines
pub record FromRefuting (c : Circuit) (b : Body) (r : Refuting) (left : List (List ℕ)) (a : Accepted) : Type 0 where
  pub uses : List Use
  pub proof : List (List ℕ)
  pub spelled : left ≡ uses_text (map written uses) ∷ (proof ++ end_line ∷ [])
  pub signs : All (MayStand b.version) (map written uses)
  pub count : length uses ≡ r.uses
  pub lines : length proof ≡ r.proof_lines
  pub fit : first_bad_use users.Refutation b.entries uses ≡ None
  pub passes : proof_fault (refuted_clauses c b.refuted b.property (used_entries b.entries uses)) proof ≡ None
  pub end : IsGoodAtEnd c (Ended b) a

-- what a certificate wants next, as the text has it
abbrev pub Continues : Circuit → Body → Wanted → List (List ℕ) → Accepted → Type 0
Continues c b Start left a = FromStart c b left a
Continues c b (EntryUses o) left a = FromUses c b o left a
Continues c b (EntryClause begun) left a = ClausesTail c b begun left a × (length begun.entry.clauses ≡ begun.count → ⊥)
Continues c b (EntryProof e i) left a = ProofsTail c b e i left a × (i ≡ length e.clauses → ⊥)
Continues c b (EntryLine e i p) left a = LinesTail c b e i p left a × (p.read ≡ p.count → ⊥)
Continues c b (RefutationUses r) left a = FromRefuting c b r left a
Continues c b (RefutationLine p) left a = RefutationTail c b p left a × (p.read ≡ p.count → ⊥)
Continues c b Last left a = (left ≡ end_line ∷ []) × IsGoodAtEnd c (Ended b) a

-- the rows of the inputs from a position on, and the dot
pub record FromRows (c : Circuit) (n : ℕ) (s : Stimulus) (left : List (List ℕ)) (a : Accepted) : Type 0 where
  pub rows : List (List ℕ)
  pub inputs : List (List Bool)
  pub spelled : left ≡ rows ++ codes "." ∷ []
  pub values : row_values rows ≡ present inputs
  pub end : IsGoodAtEnd c (Dotted n (record { latches = s.latches; inputs = s.inputs ++ inputs })) a

-- the row of the latches, those of the inputs, and the dot
pub record FromLatches (c : Circuit) (n : ℕ) (left : List (List ℕ)) (a : Accepted) : Type 0 where
  pub rows : List (List ℕ)
  pub stimulus : Stimulus
  pub spelled : left ≡ rows ++ codes "." ∷ []
  pub values : row_values rows ≡ present (stimulus.latches ∷ stimulus.inputs)
  pub end : IsGoodAtEnd c (Dotted n stimulus) a

abbrev pub first_body : ℕ → Version → Body
first_body n version = record { property = n; version = version; refuted = Skeletons; entries = [] }

-- the version, and then the entries
pub record FromVersion (c : Circuit) (n : ℕ) (left : List (List ℕ)) (a : Accepted) : Type 0 where
  pub version : Version
  pub rest : List (List ℕ)
  pub spelled : left ≡ word_line_text (lines.Version version) ∷ rest
  pub others : FromStart c (first_body n version) rest a

-- what follows the line of property n
abbrev pub Claims : Circuit → Claim → ℕ → List (List ℕ) → Accepted → Type 0
Claims c HasLasso n left a = FromLatches c n left a
Claims c HasNone n left a = FromVersion c n left a

-- the line of the property, and what follows it
pub record FromProperty (c : Circuit) (claim : Claim) (left : List (List ℕ)) (a : Accepted) : Type 0 where
  pub property : ℕ
  pub rest : List (List ℕ)
  pub small : property < 2 ^ 63
  pub there : property < length c.justice
  pub spelled : left ≡ property_line property ∷ rest
  pub others : Claims c claim property rest a

-- the status, and what follows it
pub record FromStatus (c : Circuit) (status : List ℕ) (claim : Claim) (left : List (List ℕ)) (a : Accepted) : Type 0 where
  pub rest : List (List ℕ)
  pub spelled : left ≡ status ∷ rest
  pub others : FromProperty c claim rest a

-- These lines lead from the state to a good answer, which is accepted so.
abbrev pub Completes : Circuit → State → List (List ℕ) → Accepted → Type 0
Completes c Status left a = FromStatus c (codes "1") HasLasso left a ⊎ FromStatus c (codes "0") HasNone left a
Completes c (Property claim) left a = FromProperty c claim left a
Completes c (Latches n) left a = FromLatches c n left a
Completes c (Rows n s) left a = FromRows c n s left a
Completes c (Dotted n s) left a = (left ≡ []) × IsGoodAtEnd c (Dotted n s) a
Completes c (Versioned n) left a = FromVersion c n left a
Completes c (Certified b wanted) left a = Continues c b wanted left a
Completes c (Ended b) left a = (left ≡ []) × IsGoodAtEnd c (Ended b) a

-- the same behind a line, which has no fault
abbrev pub After : Circuit → Stepped → List (List ℕ) → Accepted → Type 0
After c (Ok s) left a = Completes c s left a
After c (Err fault) left a = ⊥
