-- Which states a sheet is read through: the states within are those of entries, of a refutation, and of a stimulus.
use Rattle.std.proofs.Common.{◌≡◌, ℕ, ◌+◌, Bool, true, false, List, map, length, refl, Option, Some, None, Result, Ok, Err}
use Rattle.std.specs.Prelude.{if◌then◌else◌, ◌==◌, nat_lt, codes}
use Rattle.std.specs.Str.{bytes_eq}
use Rattle.aig_semantics.specs.declared.traces.Stimulus.{Stimulus}
use Rattle.aig_semantics.specs.Circuits.{Circuit}
use Rattle.proof_semantics.specs.declared.literals.Lit.{Lit}
use Rattle.proof_semantics.specs.declared.faults.LratFault.{LratFault}
use Rattle.proof_semantics.specs.declared.faults.LratFault.TheVariants.{Unfinished}
use Rattle.proof_semantics.specs.Proofs.{ProofState, judge}
use Rattle.fair_semantics.specs.declared.entries.Use.{Use}
use Rattle.fair_semantics.specs.Entries.{Entry, used_entries}
use Rattle.stimulus.specs.declared.ends.ReplayFault.{ReplayFault}
use Rattle.certificate_lines.specs.declared.uses.WrittenUse.{WrittenUse}
use Rattle.certificate_lines.specs.declared.words.Opening.{Opening}
use Rattle.certificate_lines.specs.declared.words.Version.TheVariants.{One, Two}
use Rattle.certificate_lines.specs.declared.words.WordLine.{WordLine}
use Rattle.certificate_lines.specs.declared.words.WordLine.TheVariants as lines
use Rattle.certificate_lines.specs.Words.{word_line_of}
use Rattle.certificate_lines.specs.Uses.{uses_of}
use Rattle.certificate_lines.specs.Clauses.{clause_of as literals_of}
use Rattle.entry.specs.declared.faults.EntryFault.{EntryFault}
use Rattle.entry.specs.declared.faults.EntryFault.TheVariants.{BadUse, Base, Proof}
use Rattle.entry.specs.declared.uses.User.{User}
use Rattle.entry.specs.declared.uses.User.TheVariants as users
use Rattle.entry.specs.Clauses.{clause_of}
use Rattle.entry.specs.Faults.{first_bad_use}
use Rattle.entry.specs.Proved.{obligation_of}
use Rattle.certificate.specs.declared.limits.TheConstants.{MAX_ENTRIES}
use Rattle.certificate.specs.declared.ends.AnswerFault.{AnswerFault}
use Rattle.certificate.specs.declared.ends.AnswerFault.TheVariants as faults
use Rattle.certificate.specs.Refuted.{refuted_clauses}
use Rattle.certificate_texts.specs.Certificates.{as_use}
use Rattle.certificate.specs.Reading.{Body, Begun, Proving as ProvingOf, Start, EntryUses, EntryClause, EntryProof, EntryLine, RefutationUses, RefutationLine, Last, Latches, Rows, Dotted, Certified, with_entry, entry_fault, next_proof, next_clause, next_line, next_refuting_line, begin_proof, with_line, open_step, unless_bad, uses_step, begin_entry, with_clause, has_base, base_step, clause_step, proof_step, line_step, refuting_step, entry_uses_step, values_in, latches_step, row_step}
use Rattle.certificate.specs.Reading as answers
use Rattle.sheet_answers.specs.Sheets.{Counts, none, total, lasso_line, holds_line, open_line}
use Rattle.sheet_answers.specs.Reading.{State, First, Versioned, Listing, Between, Refuting, Proving, Showing, Done, Fault, Plain, Replays, Stepped, misplaced, after_answer, count_in, first_step, version_step, end_step, block_step, between_step, entry_step, listing_step, refute_step, proved, refuting_fault, replayed, shown, step}

-- a line of an entry, or the first behind some
abbrev pub IsEntry : answers.State → Type 0
IsEntry (Certified b Start) = Unit {0}
IsEntry (Certified b (EntryUses o)) = Unit {0}
IsEntry (Certified b (EntryClause begun)) = Unit {0}
IsEntry (Certified b (EntryProof e i)) = Unit {0}
IsEntry (Certified b (EntryLine e i p)) = Unit {0}
IsEntry _ = ⊥

-- a line of a refutation behind its first
abbrev pub IsProof : answers.State → Type 0
IsProof (Certified b (RefutationUses r)) = Unit {0}
IsProof (Certified b (RefutationLine p)) = Unit {0}
IsProof _ = ⊥

-- or what stands behind it
abbrev pub IsProved : answers.State → Type 0
IsProved (Certified b (RefutationUses r)) = Unit {0}
IsProved (Certified b (RefutationLine p)) = Unit {0}
IsProved (Certified b Last) = Unit {0}
IsProved _ = ⊥

-- a line of a stimulus for property n
abbrev pub IsRow : ℕ → answers.State → Type 0
IsRow n (Latches m) = m ≡ n
IsRow n (Rows m s) = m ≡ n
IsRow n _ = ⊥

-- or what stands behind its dot
abbrev pub IsShown : ℕ → answers.State → Type 0
IsShown n (Latches m) = m ≡ n
IsShown n (Rows m s) = m ≡ n
IsShown n (Dotted m s) = m ≡ n
IsShown n _ = ⊥

abbrev pub IsWell : State → Type 0
IsWell First = Unit {0}
IsWell Versioned = Unit {0}
IsWell (Listing s) = IsEntry s
IsWell (Between t entries) = Unit {0}
IsWell (Refuting t entries) = Unit {0}
IsWell (Proving t s) = IsProof s
IsWell (Showing t entries s) = IsRow (total t) s
IsWell (Done t entries) = Unit {0}

abbrev pub WellOk : Stepped → Type 0
WellOk (Ok s) = IsWell s
WellOk (Err fault) = Unit {0}

-- the state of an answer, where there is one, is such a one
abbrev pub Within : (answers.State → Type 0) → answers.Stepped → Type 0
Within P (Ok s) = P s
Within P (Err fault) = Unit {0}

within_if : (P : answers.State → Type 0) (t : Bool) (x y : answers.Stepped) → Within P x → Within P y → Within P (if t then x else y)
within_if P true x y h k = h
within_if P false x y h k = k

well_if : (t : Bool) (x y : Stepped) → WellOk x → WellOk y → WellOk (if t then x else y)
well_if true x y h k = h
well_if false x y h k = k

-- ---- entries

proof_well : (b : Body) (e : Entry) (i : ℕ) → Within IsEntry (next_proof b e i)
proof_well b e i = within_if IsEntry (i == length e.clauses) (Ok (Certified (with_entry b e) Start)) (Ok (Certified b (EntryProof e i))) tt tt

pub clause_well : (b : Body) (begun : Begun) → Within IsEntry (next_clause b begun)
clause_well b begun =
    within_if IsEntry (length begun.entry.clauses == begun.count) (next_proof b begun.entry 0) (Ok (Certified b (EntryClause begun))) (proof_well b begun.entry 0) tt

line_well : (b : Body) (e : Entry) (i : ℕ) (p : ProvingOf) → Within IsEntry (next_line b e i p)
line_well b e i p =
    let ended : answers.Stepped = if p.state.finished then next_proof b e (i + 1) else entry_fault b (Proof i p.count Unfinished) in
    within_if IsEntry (p.read == p.count) ended (Ok (Certified b (EntryLine e i p)))
    (within_if IsEntry p.state.finished (next_proof b e (i + 1)) (entry_fault b (Proof i p.count Unfinished)) (proof_well b e (i + 1)) tt) tt

unless_well : (P : answers.State → Type 0) (o : Option ℕ) (bad : ℕ → answers.Stepped) (rest : answers.Stepped) → ((n : ℕ) → Within P (bad n)) → Within P rest
    → Within P (unless_bad o bad rest)
unless_well P None bad rest wrong right = right
unless_well P (Some n) bad rest wrong right = wrong n

uses_well : (P : answers.State → Type 0) (b : Body) (user : User) (count : ℕ) (bad : ℕ → answers.Stepped) (number : ℕ) (o : Option (List WrittenUse)) (rest : List Use → answers.Stepped)
    → ((n : ℕ) → Within P (bad n)) → ((us : List Use) → Within P (rest us)) → Within P (uses_step b user count bad number o rest)
uses_well P b user count bad number None rest wrong right = tt
uses_well P b user count bad number (Some us) rest wrong right =
    within_if P (length us == count) (unless_bad (first_bad_use user b.entries (map as_use us)) bad (rest (map as_use us))) (Err (faults.Shape number))
    (unless_well P (first_bad_use user b.entries (map as_use us)) bad (rest (map as_use us)) wrong (right (map as_use us))) tt

base_well : (c : Circuit) (b : Body) (begun : Begun) (r : Result (List Lit) EntryFault) → Within IsEntry (base_step c b begun r)
base_well c b begun (Err fault) = tt
base_well c b begun (Ok clause) =
    within_if IsEntry (has_base c begun.entry.kind clause) (next_clause b (with_clause begun clause)) (entry_fault b (Base (length begun.entry.clauses)))
    (clause_well b (with_clause begun clause)) tt

pub entry_clause_well : (c : Circuit) (b : Body) (begun : Begun) (number : ℕ) (o : Option (List ℕ)) → Within IsEntry (clause_step c b begun number o)
entry_clause_well c b begun number None = tt
entry_clause_well c b begun number (Some literals) = base_well c b begun (clause_of c literals)

pub entry_proof_well : (c : Circuit) (b : Body) (e : Entry) (i number : ℕ) (o : Option WordLine) → Within IsEntry (proof_step c b e i number o)
entry_proof_well c b e i number (Some (lines.Proof count)) = line_well b e i (begin_proof count (obligation_of c b.entries e i))
entry_proof_well c b e i number (Some (lines.Version v)) = tt
entry_proof_well c b e i number (Some (lines.Opening o)) = tt
entry_proof_well c b e i number (Some (lines.Refutation r)) = tt
entry_proof_well c b e i number (Some lines.End) = tt
entry_proof_well c b e i number None = tt

pub entry_line_well : (b : Body) (e : Entry) (i : ℕ) (p : ProvingOf) (r : Result ProofState LratFault) → Within IsEntry (line_step b e i p r)
entry_line_well b e i p (Ok s) = line_well b e i (with_line p s)
entry_line_well b e i p (Err fault) = tt

pub entry_uses_well : (b : Body) (o : Opening) (number : ℕ) (uses : Option (List WrittenUse)) → Within IsEntry (entry_uses_step b o number uses)
entry_uses_well b o number uses =
    uses_well IsEntry b (users.Entry o.kind) o.uses (λ n. entry_fault b (BadUse n)) number uses (λ us. next_clause b (begin_entry o us)) (λ n. tt) (λ us. clause_well b (begin_entry o us))

-- ---- a refutation

refuting_well : (b : Body) (p : ProvingOf) → Within IsProved (next_refuting_line b p)
refuting_well b p =
    let ended : answers.Stepped = if p.state.finished then Ok (Certified b Last) else Err (faults.Refutation p.count Unfinished) in
    within_if IsProved (p.read == p.count) ended (Ok (Certified b (RefutationLine p)))
    (within_if IsProved p.state.finished (Ok (Certified b Last)) (Err (faults.Refutation p.count Unfinished)) tt tt) tt

refuting_line_well : (b : Body) (p : ProvingOf) (r : Result ProofState LratFault) → Within IsProved (refuting_step b p r)
refuting_line_well b p (Ok s) = refuting_well b (with_line p s)
refuting_line_well b p (Err fault) = tt

pub proving_well : (c : Circuit) (s : answers.State) (number : ℕ) (line : List ℕ) → IsProof s → Within IsProved (answers.step c s number line)
proving_well c (Certified b (RefutationUses r)) number line h =
    uses_well IsProved b users.Refutation r.uses (λ n. Err (faults.RefuteUse n)) number (uses_of b.version line)
    (λ us. next_refuting_line b (begin_proof r.proof_lines (refuted_clauses c b.refuted b.property (used_entries b.entries us)))) (λ n. tt)
    (λ us. refuting_well b (begin_proof r.proof_lines (refuted_clauses c b.refuted b.property (used_entries b.entries us))))
proving_well c (Certified b (RefutationLine p)) number line h = refuting_line_well b p (judge p.state line)
proving_well c (Certified b Start) number line h = absurd h
proving_well c (Certified b (EntryUses o)) number line h = absurd h
proving_well c (Certified b (EntryClause begun)) number line h = absurd h
proving_well c (Certified b (EntryProof e i)) number line h = absurd h
proving_well c (Certified b (EntryLine e i p)) number line h = absurd h
proving_well c (Certified b Last) number line h = absurd h
proving_well c answers.Status number line h = absurd h
proving_well c (answers.Property claim) number line h = absurd h
proving_well c (Latches n) number line h = absurd h
proving_well c (Rows n s) number line h = absurd h
proving_well c (Dotted n s) number line h = absurd h
proving_well c (answers.Versioned n) number line h = absurd h
proving_well c (answers.Ended b) number line h = absurd h

proved_well : (t : Counts) (s : answers.State) → IsProved s → WellOk (proved t s)
proved_well t (Certified b Last) h = tt
proved_well t (Certified b (RefutationUses r)) h = tt
proved_well t (Certified b (RefutationLine p)) h = tt
proved_well t (Certified b Start) h = absurd h
proved_well t (Certified b (EntryUses o)) h = absurd h
proved_well t (Certified b (EntryClause begun)) h = absurd h
proved_well t (Certified b (EntryProof e i)) h = absurd h
proved_well t (Certified b (EntryLine e i p)) h = absurd h
proved_well t answers.Status h = absurd h
proved_well t (answers.Property claim) h = absurd h
proved_well t (Latches n) h = absurd h
proved_well t (Rows n s) h = absurd h
proved_well t (Dotted n s) h = absurd h
proved_well t (answers.Versioned n) h = absurd h
proved_well t (answers.Ended b) h = absurd h

-- ---- a stimulus

row_well : (n m : ℕ) (s : Stimulus) (number : ℕ) (o : Option (List Bool)) → m ≡ n → Within (IsShown n) (row_step m s number o)
row_well n m s number None same = tt
row_well n m s number (Some values) same = same

latches_well : (n m number : ℕ) (o : Option (List Bool)) → m ≡ n → Within (IsShown n) (latches_step m number o)
latches_well n m number None same = tt
latches_well n m number (Some values) same = same

pub showing_well : (c : Circuit) (n : ℕ) (s : answers.State) (number : ℕ) (line : List ℕ) → IsRow n s → Within (IsShown n) (answers.step c s number line)
showing_well c n (Latches m) number line h = latches_well n m number (values_in line) h
showing_well c n (Rows m s) number line h =
    within_if (IsShown n) (bytes_eq line (codes ".")) (Ok (Dotted m s)) (row_step m s number (values_in line)) h (row_well n m s number (values_in line) h)
showing_well c n (Dotted m s) number line h = absurd h
showing_well c n (Certified b wanted) number line h = absurd h
showing_well c n answers.Status number line h = absurd h
showing_well c n (answers.Property claim) number line h = absurd h
showing_well c n (answers.Versioned m) number line h = absurd h
showing_well c n (answers.Ended b) number line h = absurd h

replayed_well : (t : Counts) (entries : List Entry) (n : ℕ) (o : Option ReplayFault) → WellOk (replayed t entries n o)
replayed_well t entries n None = tt
replayed_well t entries n (Some fault) = tt

shown_well : (replays : Replays) (t : Counts) (entries : List Entry) (s : answers.State) → IsShown (total t) s → WellOk (shown replays t entries s)
shown_well replays t entries (Dotted n s) h = replayed_well t entries n (replays n s)
shown_well replays t entries (Latches n) h = h
shown_well replays t entries (Rows n s) h = h
shown_well replays t entries (Certified b wanted) h = absurd h
shown_well replays t entries answers.Status h = absurd h
shown_well replays t entries (answers.Property claim) h = absurd h
shown_well replays t entries (answers.Versioned n) h = absurd h
shown_well replays t entries (answers.Ended b) h = absurd h

-- ---- a line

behind_well : (P : answers.State → Type 0) (next : answers.State → Stepped) (fault : AnswerFault → Fault) (r : answers.Stepped) → ((s : answers.State) → P s → WellOk (next s)) → Within P r
    → WellOk (after_answer next fault r)
behind_well P next fault (Ok s) h inside = h s inside
behind_well P next fault (Err first) h inside = tt

end_well : (t : Counts) (entries : List Entry) (number : ℕ) (o : Option WordLine) → WellOk (end_step t entries number o)
end_well t entries number (Some lines.End) = tt
end_well t entries number (Some (lines.Version v)) = tt
end_well t entries number (Some (lines.Opening o)) = tt
end_well t entries number (Some (lines.Proof m)) = tt
end_well t entries number (Some (lines.Refutation r)) = tt
end_well t entries number None = tt

between_well : (c : Circuit) (t : Counts) (entries : List Entry) (number : ℕ) (line : List ℕ) → WellOk (between_step c t entries number line)
between_well c t entries number line =
    let n : ℕ = total t in
    let later : Stepped = Ok (Between (record t { unknown = t.unknown + 1 }) entries) in
    let open_one : Stepped = if bytes_eq line (open_line n) then later else misplaced number in
    let holds_one : Stepped = if bytes_eq line (holds_line n) then Ok (Refuting t entries) else open_one in
    well_if (total t == length c.justice) (end_step t entries number (word_line_of line)) (block_step t entries n number line) (end_well t entries number (word_line_of line))
    (well_if (bytes_eq line (lasso_line n)) (Ok (Showing t entries (Latches n))) holds_one refl
    (well_if (bytes_eq line (holds_line n)) (Ok (Refuting t entries)) open_one tt (well_if (bytes_eq line (open_line n)) later (misplaced number) tt tt)))

first_well : (c : Circuit) (number : ℕ) (o : Option ℕ) → WellOk (first_step c number o)
first_well c number None = tt
first_well c number (Some count) = well_if (count == length c.justice) (Ok Versioned) (Err (Plain (faults.NoProperty count))) tt tt

version_well : (number : ℕ) (o : Option WordLine) → WellOk (version_step number o)
version_well number (Some (lines.Version Two)) = tt
version_well number (Some (lines.Version One)) = tt
version_well number (Some (lines.Opening o)) = tt
version_well number (Some (lines.Proof m)) = tt
version_well number (Some (lines.Refutation r)) = tt
version_well number (Some lines.End) = tt
version_well number None = tt

pub opened_well : (b : Body) (o : Opening) → Within IsEntry (open_step b o)
opened_well b o = within_if IsEntry (nat_lt (length b.entries) MAX_ENTRIES) (Ok (Certified b (EntryUses o))) (Err faults.TooLong) tt tt

entry_well : (c : Circuit) (b : Body) (number : ℕ) (line : List ℕ) (o : Option WordLine) → WellOk (entry_step c b number line o)
entry_well c b number line (Some (lines.Opening o)) = behind_well IsEntry (λ s. Ok (Listing s)) Plain (open_step b o) (λ s h. h) (opened_well b o)
entry_well c b number line (Some (lines.Version v)) = between_well c none b.entries number line
entry_well c b number line (Some (lines.Proof m)) = between_well c none b.entries number line
entry_well c b number line (Some (lines.Refutation r)) = between_well c none b.entries number line
entry_well c b number line (Some lines.End) = between_well c none b.entries number line
entry_well c b number line None = between_well c none b.entries number line

further_well : (c : Circuit) (s : answers.State) (number : ℕ) (line : List ℕ) → Within IsEntry (answers.step c s number line)
    → WellOk (after_answer (λ t. Ok (Listing t)) Plain (answers.step c s number line))
further_well c s number line h = behind_well IsEntry (λ t. Ok (Listing t)) Plain (answers.step c s number line) (λ t k. k) h

listing_well : (c : Circuit) (s : answers.State) (number : ℕ) (line : List ℕ) → IsEntry s → WellOk (listing_step c s number line)
listing_well c (Certified b Start) number line h = entry_well c b number line (word_line_of line)
listing_well c (Certified b (EntryUses o)) number line h = further_well c (Certified b (EntryUses o)) number line (entry_uses_well b o number (uses_of b.version line))
listing_well c (Certified b (EntryClause begun)) number line h =
    further_well c (Certified b (EntryClause begun)) number line (entry_clause_well c b begun number (literals_of line))
listing_well c (Certified b (EntryProof e i)) number line h = further_well c (Certified b (EntryProof e i)) number line (entry_proof_well c b e i number (word_line_of line))
listing_well c (Certified b (EntryLine e i p)) number line h = further_well c (Certified b (EntryLine e i p)) number line (entry_line_well b e i p (judge p.state line))
listing_well c (Certified b (RefutationUses r)) number line h = absurd h
listing_well c (Certified b (RefutationLine p)) number line h = absurd h
listing_well c (Certified b Last) number line h = absurd h
listing_well c answers.Status number line h = absurd h
listing_well c (answers.Property claim) number line h = absurd h
listing_well c (Latches n) number line h = absurd h
listing_well c (Rows n s) number line h = absurd h
listing_well c (Dotted n s) number line h = absurd h
listing_well c (answers.Versioned n) number line h = absurd h
listing_well c (answers.Ended b) number line h = absurd h

refute_well : (t : Counts) (entries : List Entry) (number : ℕ) (o : Option WordLine) → WellOk (refute_step t entries number o)
refute_well t entries number (Some (lines.Refutation r)) = tt
refute_well t entries number (Some (lines.Version v)) = tt
refute_well t entries number (Some (lines.Opening o)) = tt
refute_well t entries number (Some (lines.Proof m)) = tt
refute_well t entries number (Some lines.End) = tt
refute_well t entries number None = tt

pub step_well : (c : Circuit) (replays : Replays) (s : State) (number : ℕ) (line : List ℕ) → IsWell s → WellOk (step c replays s number line)
step_well c replays First number line h = first_well c number (count_in line)
step_well c replays Versioned number line h = version_well number (word_line_of line)
step_well c replays (Listing s) number line h = listing_well c s number line h
step_well c replays (Between t entries) number line h = between_well c t entries number line
step_well c replays (Refuting t entries) number line h = refute_well t entries number (word_line_of line)
step_well c replays (Proving t s) number line h =
    behind_well IsProved (proved t) (refuting_fault (total t)) (answers.step c s number line) (proved_well t) (proving_well c s number line h)
step_well c replays (Showing t entries s) number line h =
    behind_well (IsShown (total t)) (shown replays t entries) Plain (answers.step c s number line) (shown_well replays t entries) (showing_well c (total t) s number line h)
step_well c replays (Done t entries) number line h = tt
