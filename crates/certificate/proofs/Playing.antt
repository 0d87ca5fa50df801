-- A stimulus is played only where the property is there: each state that is reached keeps it.
use Rattle.std.proofs.Common.{◌≡◌, ◌≢◌, ◌≤◌, ◌<◌, ℕ, ◌+◌, Bool, true, false, List, [], ◌∷◌, map, length, refl, sym, subst, arith, Option, Some, None, Result, Ok, Err, inl, inr}
use Rattle.std.specs.Prelude.{codes, if◌then◌else◌, ◌==◌, nat_lt}
use Rattle.std.specs.Str.{bytes_eq}
use Rattle.std.proofs.lemmas.Bool.{ltb-true}
use Rattle.aig_semantics.specs.declared.traces.Stimulus.{Stimulus}
use Rattle.aig_semantics.specs.Circuits.{Circuit}
use Rattle.proof_semantics.specs.declared.literals.Lit.{Lit}
use Rattle.proof_semantics.specs.declared.faults.LratFault.{LratFault}
use Rattle.proof_semantics.specs.declared.faults.LratFault.TheVariants.{Unfinished}
use Rattle.proof_semantics.specs.Proofs.{ProofState, judge}
use Rattle.fair_semantics.specs.declared.entries.Use.{Use}
use Rattle.fair_semantics.specs.Entries.{Entry, used_entries}
use Rattle.stimulus.specs.declared.ends.ReplayFault.{ReplayFault}
use Rattle.stimulus.specs.declared.ends.ReplayFault.TheVariants as replays
use Rattle.stimulus.specs.Faults.{HasReplayFault}
use Rattle.certificate_lines.specs.declared.uses.WrittenUse.{WrittenUse}
use Rattle.certificate_lines.specs.declared.words.WordLine.{WordLine}
use Rattle.certificate_lines.specs.declared.words.WordLine.TheVariants as lines
use Rattle.certificate_lines.specs.Words.{word_line_of}
use Rattle.certificate_lines.specs.Uses.{uses_of}
use Rattle.certificate_lines.specs.Clauses.{clause_of as literals_of}
use Rattle.entry.specs.declared.faults.EntryFault.{EntryFault}
use Rattle.entry.specs.declared.faults.EntryFault.TheVariants.{BadUse, Base, Proof}
use Rattle.entry.specs.declared.uses.User.{User}
use Rattle.entry.specs.declared.uses.User.TheVariants as users
use Rattle.entry.specs.Clauses.{clause_of}
use Rattle.entry.specs.Faults.{first_bad_use}
use Rattle.entry.specs.Proved.{obligation_of}
use Rattle.certificate.specs.declared.limits.TheConstants.{MAX_ENTRIES}
use Rattle.certificate.specs.declared.ends.AnswerFault.{AnswerFault}
use Rattle.certificate.specs.declared.ends.AnswerFault.TheVariants as faults
use Rattle.certificate.specs.Lines.{Numbered, end_of, kept_readable}
use Rattle.certificate.specs.Refuted.{refuted_clauses, may_open}
use Rattle.certificate_texts.specs.Certificates.{as_use}
use Rattle.certificate.specs.Reading.{Body, Begun, Proving, Wanted, Start, EntryUses, EntryClause, EntryProof, EntryLine, RefutationUses, RefutationLine, Last, Claim, HasLasso, HasNone, State, Status, Property, Latches, Rows, Dotted, Versioned, Certified, Ended, Stepped, with_entry, entry_fault, next_proof, next_clause, next_line, next_refuting_line, begin_proof, with_line, open_step, start_step, unless_bad, uses_step, begin_entry, with_clause, has_base, base_step, clause_step, proof_step, line_step, refuting_step, last_step, certificate_step, version_step, other_status, opens_other, status_step, property_in, claimed, property_step, values_in, latches_step, row_step, step, and_then, read_lines}
use Rattle.certificate.specs.Ends.{IsFaultAtEnd, IsFirstFault}
use Rattle.certificate.specs.Laws.{JudgedBefore}

-- the property of a stimulus is there
abbrev IsThere : Circuit → State → Type 0
IsThere c (Latches n) = n < length c.justice
IsThere c (Rows n s) = n < length c.justice
IsThere c (Dotted n s) = n < length c.justice
IsThere c _ = Unit {0}

-- the state is such a one, and the fault is not that of a stimulus
abbrev Keeps : Circuit → Stepped → Type 0
Keeps c (Ok s) = IsThere c s
Keeps c (Err (faults.Replay fault)) = ⊥
Keeps c (Err _) = Unit {0}

module _ (c : Circuit) where
  by_test : (b : Bool) (x y : Stepped) → Keeps c x → Keeps c y → Keeps c (if b then x else y)
  by_test true x y h k = h
  by_test false x y h k = k

  -- ---- certificates

  proof_keeps : (b : Body) (e : Entry) (i : ℕ) → Keeps c (next_proof b e i)
  proof_keeps b e i = by_test (i == length e.clauses) (Ok (Certified (with_entry b e) Start)) (Ok (Certified b (EntryProof e i))) tt tt

  clause_keeps : (b : Body) (begun : Begun) → Keeps c (next_clause b begun)
  clause_keeps b begun =
      by_test (length begun.entry.clauses == begun.count) (next_proof b begun.entry 0) (Ok (Certified b (EntryClause begun))) (proof_keeps b begun.entry 0) tt

  line_keeps : (b : Body) (e : Entry) (i : ℕ) (p : Proving) → Keeps c (next_line b e i p)
  line_keeps b e i p =
      by_test (p.read == p.count) (if p.state.finished then next_proof b e (i + 1) else entry_fault b (Proof i p.count Unfinished)) (Ok (Certified b (EntryLine e i p)))
      (by_test p.state.finished (next_proof b e (i + 1)) (entry_fault b (Proof i p.count Unfinished)) (proof_keeps b e (i + 1)) tt) tt

  refuting_keeps : (b : Body) (p : Proving) → Keeps c (next_refuting_line b p)
  refuting_keeps b p =
      by_test (p.read == p.count) (if p.state.finished then Ok (Certified b Last) else Err (faults.Refutation p.count Unfinished)) (Ok (Certified b (RefutationLine p)))
      (by_test p.state.finished (Ok (Certified b Last)) (Err (faults.Refutation p.count Unfinished)) tt tt) tt

  start_keeps : (b : Body) (number : ℕ) (line : Option WordLine) → Keeps c (start_step b number line)
  start_keeps b number None = tt
  start_keeps b number (Some (lines.Opening o)) =
      by_test (may_open b.refuted o.kind) (open_step b o) (Err (faults.Shape number))
      (by_test (nat_lt (length b.entries) MAX_ENTRIES) (Ok (Certified b (EntryUses o))) (Err faults.TooLong) tt tt) tt
  start_keeps b number (Some (lines.Refutation r)) = tt
  start_keeps b number (Some (lines.Version version)) = tt
  start_keeps b number (Some (lines.Proof count)) = tt
  start_keeps b number (Some lines.End) = tt

  unless_keeps : (found : Option ℕ) (bad : ℕ → Stepped) (rest : Stepped) → ((n : ℕ) → Keeps c (bad n)) → Keeps c rest → Keeps c (unless_bad found bad rest)
  unless_keeps None bad rest h k = k
  unless_keeps (Some n) bad rest h k = h n

  uses_keep : (b : Body) (user : User) (count : ℕ) (bad : ℕ → Stepped) (number : ℕ) (uses : Option (List WrittenUse)) (rest : List Use → Stepped)
      → ((n : ℕ) → Keeps c (bad n)) → ((us : List Use) → Keeps c (rest us)) → Keeps c (uses_step b user count bad number uses rest)
  uses_keep b user count bad number None rest h k = tt
  uses_keep b user count bad number (Some uses) rest h k =
      by_test (length uses == count) (unless_bad (first_bad_use user b.entries (map as_use uses)) bad (rest (map as_use uses))) (Err (faults.Shape number))
      (unless_keeps (first_bad_use user b.entries (map as_use uses)) bad (rest (map as_use uses)) h (k (map as_use uses))) tt

  base_keeps : (b : Body) (begun : Begun) (r : Result (List Lit) EntryFault) → Keeps c (base_step c b begun r)
  base_keeps b begun (Err fault) = tt
  base_keeps b begun (Ok clause) =
      by_test (has_base c begun.entry.kind clause) (next_clause b (with_clause begun clause)) (entry_fault b (Base (length begun.entry.clauses)))
      (clause_keeps b (with_clause begun clause)) tt

  literals_keep : (b : Body) (begun : Begun) (number : ℕ) (literals : Option (List ℕ)) → Keeps c (clause_step c b begun number literals)
  literals_keep b begun number None = tt
  literals_keep b begun number (Some literals) = base_keeps b begun (clause_of c literals)

  opened_keeps : (b : Body) (e : Entry) (i number : ℕ) (line : Option WordLine) → Keeps c (proof_step c b e i number line)
  opened_keeps b e i number None = tt
  opened_keeps b e i number (Some (lines.Proof count)) = line_keeps b e i (begin_proof count (obligation_of c b.entries e i))
  opened_keeps b e i number (Some (lines.Opening o)) = tt
  opened_keeps b e i number (Some (lines.Refutation r)) = tt
  opened_keeps b e i number (Some (lines.Version version)) = tt
  opened_keeps b e i number (Some lines.End) = tt

  judged_keeps : (b : Body) (e : Entry) (i : ℕ) (p : Proving) (r : Result ProofState LratFault) → Keeps c (line_step b e i p r)
  judged_keeps b e i p (Ok s) = line_keeps b e i (with_line p s)
  judged_keeps b e i p (Err fault) = tt

  refuted_keeps : (b : Body) (p : Proving) (r : Result ProofState LratFault) → Keeps c (refuting_step b p r)
  refuted_keeps b p (Ok s) = refuting_keeps b (with_line p s)
  refuted_keeps b p (Err fault) = tt

  last_keeps : (b : Body) (number : ℕ) (line : Option WordLine) → Keeps c (last_step b number line)
  last_keeps b number None = tt
  last_keeps b number (Some lines.End) = tt
  last_keeps b number (Some (lines.Opening o)) = tt
  last_keeps b number (Some (lines.Refutation r)) = tt
  last_keeps b number (Some (lines.Version version)) = tt
  last_keeps b number (Some (lines.Proof count)) = tt

  certificate_keeps : (b : Body) (wanted : Wanted) (number : ℕ) (line : List ℕ) → Keeps c (certificate_step c b wanted number line)
  certificate_keeps b Start number line = start_keeps b number (word_line_of line)
  certificate_keeps b (EntryUses o) number line =
      uses_keep b (users.Entry o.kind) o.uses (λ n. entry_fault b (BadUse n)) number (uses_of b.version line) (λ us. next_clause b (begin_entry o us))
      (λ n. tt) (λ us. clause_keeps b (begin_entry o us))
  certificate_keeps b (EntryClause begun) number line = literals_keep b begun number (literals_of line)
  certificate_keeps b (EntryProof e i) number line = opened_keeps b e i number (word_line_of line)
  certificate_keeps b (EntryLine e i p) number line = judged_keeps b e i p (judge p.state line)
  certificate_keeps b (RefutationUses r) number line =
      uses_keep b users.Refutation r.uses (λ n. Err (faults.RefuteUse n)) number (uses_of b.version line)
      (λ us. next_refuting_line b (begin_proof r.proof_lines (refuted_clauses c b.refuted b.property (used_entries b.entries us))))
      (λ n. tt) (λ us. refuting_keeps b (begin_proof r.proof_lines (refuted_clauses c b.refuted b.property (used_entries b.entries us))))
  certificate_keeps b (RefutationLine p) number line = refuted_keeps b p (judge p.state line)
  certificate_keeps b Last number line = last_keeps b number (word_line_of line)

  -- ---- the first lines

  version_keeps : (n number : ℕ) (line : Option WordLine) → Keeps c (version_step n number line)
  version_keeps n number None = tt
  version_keeps n number (Some (lines.Version version)) = tt
  version_keeps n number (Some (lines.Opening o)) = tt
  version_keeps n number (Some (lines.Refutation r)) = tt
  version_keeps n number (Some (lines.Proof count)) = tt
  version_keeps n number (Some lines.End) = tt

  other_keeps : (number : ℕ) (rounds : Bool) → Keeps c (other_status number rounds)
  other_keeps number true = tt
  other_keeps number false = tt

  status_keeps : (number : ℕ) (line : List ℕ) → Keeps c (status_step number line)
  status_keeps number line =
      let unknown : Stepped = if bytes_eq line (codes "2") then Err faults.UnknownStatus else other_status number (opens_other line) in
      let none : Stepped = if bytes_eq line (codes "0") then Ok (Property HasNone) else unknown in
      by_test (bytes_eq line (codes "1")) (Ok (Property HasLasso)) none tt
      (by_test (bytes_eq line (codes "0")) (Ok (Property HasNone)) unknown tt
      (by_test (bytes_eq line (codes "2")) (Err faults.UnknownStatus) (other_status number (opens_other line)) tt (other_keeps number (opens_other line))))

  claimed_keeps : (claim : Claim) (n : ℕ) → n < length c.justice → IsThere c (claimed claim n)
  claimed_keeps HasLasso n h = h
  claimed_keeps HasNone n h = tt

  property_by : (claim : Claim) (n : ℕ) (test : Bool) → nat_lt n (length c.justice) ≡ test
      → Keeps c (if test then Ok (claimed claim n) else Err (faults.NoProperty n))
  property_by claim n true is = claimed_keeps claim n (ltb-true n (length c.justice) is)
  property_by claim n false is = tt

  property_keeps : (claim : Claim) (number : ℕ) (named : Option ℕ) → Keeps c (property_step c claim number named)
  property_keeps claim number None = tt
  property_keeps claim number (Some n) = property_by claim n (nat_lt n (length c.justice)) refl

  latches_keep : (n number : ℕ) (values : Option (List Bool)) → n < length c.justice → Keeps c (latches_step n number values)
  latches_keep n number None h = tt
  latches_keep n number (Some values) h = h

  row_keeps : (n : ℕ) (s : Stimulus) (number : ℕ) (values : Option (List Bool)) → n < length c.justice → Keeps c (row_step n s number values)
  row_keeps n s number None h = tt
  row_keeps n s number (Some values) h = h

  step_keeps : (s : State) (number : ℕ) (line : List ℕ) → IsThere c s → Keeps c (step c s number line)
  step_keeps Status number line h = status_keeps number line
  step_keeps (Property claim) number line h = property_keeps claim number (property_in line)
  step_keeps (Latches n) number line h = latches_keep n number (values_in line) h
  step_keeps (Rows n s) number line h =
      by_test (bytes_eq line (codes ".")) (Ok (Dotted n s)) (row_step n s number (values_in line)) h (row_keeps n s number (values_in line) h)
  step_keeps (Dotted n s) number line h = tt
  step_keeps (Versioned n) number line h = version_keeps n number (word_line_of line)
  step_keeps (Certified b wanted) number line h = certificate_keeps b wanted number line
  step_keeps (Ended b) number line h = tt

  -- ---- all lines

  then_keeps : (r : Stepped) (rest : State → Stepped) → Keeps c r → ((t : State) → IsThere c t → Keeps c (rest t)) → Keeps c (and_then r rest)
  then_keeps (Ok t) rest h k = k t h
  then_keeps (Err fault) rest h k = h

  lines_keep : (s : State) (xs : List Numbered) → IsThere c s → Keeps c (read_lines c s xs)
  lines_keep s [] h = h
  lines_keep s (x ∷ xs) h = then_keeps (step c s x.0 x.1) (λ t. read_lines c t xs) (step_keeps s x.0 x.1 h) (λ t k. lines_keep t xs k)

  abbrev IsPlayed : ReplayFault → Type 0
  IsPlayed fault = (fault ≢ replays.NoProperty) × ((line : ℕ) → fault ≢ replays.Shape line)

  played : (n : ℕ) (s : Stimulus) (fault : ReplayFault) → n < length c.justice → HasReplayFault c n s fault → IsPlayed fault
  played n s replays.NoProperty below h = let few : length c.justice ≤ n = h in absurd (omega (arith, below, few))
  played n s (replays.Shape line) below h = absurd h
  played n s (replays.Width item) below h = (λ e. cc, λ line e. cc)
  played n s (replays.NotInitial latch) below h = (λ e. cc, λ line e. cc)
  played n s (replays.Constraint position) below h = (λ e. cc, λ line e. cc)
  played n s replays.NoFairLoop below h = (λ e. cc, λ line e. cc)

  wanted : (fault : ReplayFault) (number : ℕ) → faults.Replay fault ≡ faults.Shape number → IsPlayed fault
  wanted fault number e = absurd (cc)

  at_end : (s : State) (number : ℕ) (fault : ReplayFault) → IsThere c s → IsFaultAtEnd c s number (faults.Replay fault) → IsPlayed fault
  at_end (Dotted n s) number fault there h = played n s fault there h
  at_end (Ended b) number fault there h = absurd h
  at_end Status number fault there h = wanted fault number h
  at_end (Property claim) number fault there h = wanted fault number h
  at_end (Latches n) number fault there h = wanted fault number h
  at_end (Rows n s) number fault there h = wanted fault number h
  at_end (Versioned n) number fault there h = wanted fault number h
  at_end (Certified b wants) number fault there h = wanted fault number h

  too_long : (fault : ReplayFault) → faults.Replay fault ≡ faults.TooLong → IsPlayed fault
  too_long fault e = absurd (cc)

  first_played : (text : List ℕ) (r : Stepped) (fault : ReplayFault) → Keeps c r → IsFirstFault c text r (faults.Replay fault) → IsPlayed fault
  first_played text (Err first) fault keeps h = absurd (subst (λ (f : AnswerFault). Keeps c (Err f)) (sym h) keeps)
  first_played text (Ok s) fault keeps (inl h) = too_long fault h.1
  first_played text (Ok s) fault keeps (inr h) = at_end s (end_of text) fault keeps h.1

pub judged-before : (c : Circuit) → JudgedBefore c
judged-before c text fault refused =
    first_played c text (read_lines c Status (kept_readable text)) fault (lines_keep c Status (kept_readable text) tt) refused
