-- What leads from each state of the reading of an entry or of a refutation to a place behind it, from which this holds of the
-- lines that follow: the lines that are left, in the words of certificates.
use Rattle.std.specs.Prelude.{◌≡◌, ℕ, ◌+◌, true, All, List, ◌∷◌, ◌++◌, map, length, flat_map, None, Ok, Err}
use Rattle.aig_semantics.specs.Circuits.{Circuit}
use Rattle.proof_semantics.specs.declared.literals.Lit.{Lit}
use Rattle.fair_semantics.specs.declared.entries.Use.{Use}
use Rattle.fair_semantics.specs.Entries.{Entry, used_entries}
use Rattle.certificate_lines.specs.declared.words.Opening.{Opening}
use Rattle.certificate_lines.specs.declared.words.Refutation.{Refutation as Refuting}
use Rattle.certificate_lines.specs.Fields.{IsNumber}
use Rattle.certificate_lines.specs.Uses.{uses_text, MayStand, written}
use Rattle.certificate_lines.specs.Clauses.{clause_text}
use Rattle.entry.specs.declared.uses.User.TheVariants as users
use Rattle.entry.specs.Faults.{first_bad_use, fault_from, proof_fault, proofs_fault}
use Rattle.entry.specs.Proved.{obligation_of}
use Rattle.certificate_texts.specs.Certificates.{proof_lines}
use Rattle.certificate.specs.Certificates.{AreClausesOf}
use Rattle.certificate.specs.Refuted.{refuted_clauses}
use Rattle.certificate.specs.Reading.{Body, Begun, Proving, Wanted, Start, EntryUses, EntryClause, EntryProof, EntryLine, RefutationUses, RefutationLine, Last, State, Certified, Stepped, with_entry, begin_entry, has_base}

-- the proofs of the clauses from i on, and what follows the entry
pub record ProofsTail (c : Circuit) (b : Body) (e : Entry) (i : ℕ) (left : List (List ℕ)) (K : Body → List (List ℕ) → Type 0) : Type 0 where
  pub proofs : List (List (List ℕ))
  pub rest : List (List ℕ)
  pub spelled : left ≡ flat_map proof_lines proofs ++ rest
  pub sizes : All (λ proof. IsNumber (length proof)) proofs
  pub count : i + length proofs ≡ length e.clauses
  pub passes : proofs_fault (obligation_of c b.entries e) i proofs ≡ None
  pub others : K (with_entry b e) rest

-- the lines of a proof from one on, and then the other proofs
pub record LinesTail (c : Circuit) (b : Body) (e : Entry) (i : ℕ) (p : Proving) (left : List (List ℕ)) (K : Body → List (List ℕ) → Type 0) : Type 0 where
  pub proof : List (List ℕ)
  pub rest : List (List ℕ)
  pub spelled : left ≡ proof ++ rest
  pub count : p.read + length proof ≡ p.count
  pub passes : fault_from p.read p.state proof ≡ None
  pub others : ProofsTail c b e (i + 1) rest K

-- the clauses that are still to come, and then all proofs
pub record ClausesTail (c : Circuit) (b : Body) (begun : Begun) (left : List (List ℕ)) (K : Body → List (List ℕ) → Type 0) : Type 0 where
  pub literals : List (List ℕ)
  pub clauses : List (List Lit)
  pub rest : List (List ℕ)
  pub spelled : left ≡ map clause_text literals ++ rest
  pub numbers : All (All IsNumber) literals
  pub are : AreClausesOf c literals clauses
  pub based : All (λ clause. has_base c begun.entry.kind clause ≡ true) clauses
  pub count : length begun.entry.clauses + length clauses ≡ begun.count
  pub proofs : ProofsTail c b (record begun.entry { clauses = begun.entry.clauses ++ clauses }) 0 rest K

-- the uses of an entry, and then its clauses
pub record FromUses (c : Circuit) (b : Body) (o : Opening) (left : List (List ℕ)) (K : Body → List (List ℕ) → Type 0) : Type 0 where
  pub uses : List Use
  pub rest : List (List ℕ)
  pub spelled : left ≡ uses_text (map written uses) ∷ rest
  pub signs : All (MayStand b.version) (map written uses)
  pub count : length uses ≡ o.uses
  pub fit : first_bad_use (users.Entry o.kind) b.entries uses ≡ None
  pub clauses : ClausesTail c b (begin_entry o uses) rest K

-- the lines of a refutation from one on, and what follows it
pub record RefutationTail (c : Circuit) (b : Body) (p : Proving) (left : List (List ℕ)) (K : Body → List (List ℕ) → Type 0) : Type 0 where
  pub proof : List (List ℕ)
  pub rest : List (List ℕ)
  pub spelled : left ≡ proof ++ rest
  pub count : p.read + length proof ≡ p.count
  pub passes : fault_from p.read p.state proof ≡ None
  pub others : K b rest

-- the uses of the refutation, and then its lines
pub record FromRefuting (c : Circuit) (b : Body) (r : Refuting) (left : List (List ℕ)) (K : Body → List (List ℕ) → Type 0) : Type 0 where
  pub uses : List Use
  pub proof : List (List ℕ)
  pub rest : List (List ℕ)
  pub spelled : left ≡ uses_text (map written uses) ∷ (proof ++ rest)
  pub signs : All (MayStand b.version) (map written uses)
  pub count : length uses ≡ r.uses
  pub lines : length proof ≡ r.proof_lines
  pub fit : first_bad_use users.Refutation b.entries uses ≡ None
  pub passes : proof_fault (refuted_clauses c b.refuted b.property (used_entries b.entries uses)) proof ≡ None
  pub others : K b rest

-- what an entry or a refutation wants next, as the text has it
abbrev pub Continues : Circuit → Body → Wanted → List (List ℕ) → (Body → List (List ℕ) → Type 0) → Type 0
Continues c b Start left K = K b left
Continues c b (EntryUses o) left K = FromUses c b o left K
Continues c b (EntryClause begun) left K = ClausesTail c b begun left K × (length begun.entry.clauses ≡ begun.count → ⊥)
Continues c b (EntryProof e i) left K = ProofsTail c b e i left K × (i ≡ length e.clauses → ⊥)
Continues c b (EntryLine e i p) left K = LinesTail c b e i p left K × (p.read ≡ p.count → ⊥)
Continues c b (RefutationUses r) left K = FromRefuting c b r left K
Continues c b (RefutationLine p) left K = RefutationTail c b p left K × (p.read ≡ p.count → ⊥)
Continues c b Last left K = K b left

abbrev pub Follows : Circuit → State → List (List ℕ) → (Body → List (List ℕ) → Type 0) → Type 0
Follows c (Certified b wanted) left K = Continues c b wanted left K
Follows c _ left K = ⊥

-- the same behind a line, which has no fault
abbrev pub After : Circuit → Stepped → List (List ℕ) → (Body → List (List ℕ) → Type 0) → Type 0
After c (Ok s) left K = Follows c s left K
After c (Err fault) left K = ⊥
