-- The states of code as those of the reading, and what code keeps of them.
use Rattle.std.specs.Prelude.{◌≡◌, ℕ, ◌<◌, ◌≤◌, List, length}
use Rattle.std.specs.List.{All}
use Rattle.aig_semantics.specs.Circuits.{Circuit}
use Rattle.proof_semantics.specs.Proofs.{ProofState}
use Rattle.fair_semantics.specs.declared.entries.Use.{Use}
use Rattle.fair_semantics.specs.Entries.{Entry, used_entries}
use Rattle.cnf_unroll.specs.Blocks.{step_clauses}
use Rattle.cnf_unroll.specs.Obligations.{shared_clauses}
use Rattle.entry.specs.declared.list.Listed.{Listed}
use Rattle.entry.specs.LatchTables.{AreNumbersOf}
use Rattle.entry.specs.Listing.{entry_of, entries_of}
use Rattle.certificate.specs.declared.limits.TheConstants.{MAX_ENTRIES}
use Rattle.certificate.specs.declared.state.Refuted.{Refuted}
use Rattle.certificate.specs.declared.state.Refuted.TheVariants.{Skeletons, States}
use Rattle.certificate.specs.declared.state.Body.{Body as BodyInCode}
use Rattle.certificate.specs.declared.state.Begun.{Begun as BegunInCode}
use Rattle.certificate.specs.declared.state.Proving.{Proving as ProvingInCode}
use Rattle.certificate.specs.declared.state.Wanted.{Wanted as WantedInCode}
use Rattle.certificate.specs.declared.state.Wanted.TheVariants as wanted
use Rattle.certificate.specs.declared.state.Claim.{Claim as ClaimInCode}
use Rattle.certificate.specs.declared.state.Claim.TheVariants as claims
use Rattle.certificate.specs.declared.state.State.{State as StateInCode}
use Rattle.certificate.specs.declared.state.State.TheVariants as states
use Rattle.certificate.specs.Reading.{Body, Begun, Proving, Wanted, Start, EntryUses, EntryClause, EntryProof, EntryLine, RefutationUses, RefutationLine, Last, Claim, HasLasso, HasNone, State, Status, Property, Latches, Rows, Dotted, Versioned, Certified, Ended}

abbrev pub seen_body : BodyInCode → Body
seen_body b = record { property = b.property; version = b.version; refuted = b.refuted; entries = entries_of b.list }

abbrev pub seen_begun : BegunInCode → Begun
seen_begun begun =
    record { entry = record { kind = begun.kind; clauses = begun.set; uses = begun.uses }; count = begun.count }

-- a proof stands where the judge does
abbrev pub seen_proving : BodyInCode → ProvingInCode → Proving
seen_proving b p = record { count = p.count; read = p.read; state = b.judge.proof }

-- or where a checker does
abbrev pub state_proving : ProofState → ProvingInCode → Proving
state_proving checker p = record { count = p.count; read = p.read; state = checker }

abbrev pub seen_wanted : BodyInCode → WantedInCode → Wanted
seen_wanted b wanted.Start = Start
seen_wanted b (wanted.EntryUses opening) = EntryUses opening
seen_wanted b (wanted.EntryClause begun) = EntryClause (seen_begun begun)
seen_wanted b (wanted.EntryProof e i) = EntryProof (entry_of e) i
seen_wanted b (wanted.EntryLine e i p) = EntryLine (entry_of e) i (seen_proving b p)
seen_wanted b (wanted.RefutationUses refuting) = RefutationUses refuting
seen_wanted b (wanted.RefutationLine p) = RefutationLine (seen_proving b p)
seen_wanted b (wanted.StateLine checker p) = RefutationLine (state_proving checker p)
seen_wanted b wanted.Last = Last

abbrev pub seen_claim : ClaimInCode → Claim
seen_claim claims.HasLasso = HasLasso
seen_claim claims.HasNone = HasNone

abbrev pub seen : StateInCode → State
seen states.Status = Status
seen (states.Property claim) = Property (seen_claim claim)
seen (states.Latches n) = Latches n
seen (states.Rows n s) = Rows n s
seen (states.Dotted n s) = Dotted n s
seen (states.Versioned n) = Versioned n
seen (states.Certified b w) = Certified (seen_body b) (seen_wanted b w)
seen (states.Ended b) = Ended (seen_body b)

-- the judge has gone to this entry
abbrev pub IsEntered : Circuit → BodyInCode → Entry → Type 0
IsEntered c b e = b.judge.shared ≡ shared_clauses c (used_entries (entries_of b.list) e.uses) e.uses e.clauses

-- each of the uses is of an entry of the list
abbrev pub ArePresent : BodyInCode → List Use → Type 0
ArePresent b uses = All (λ u. u.entry < length b.list) uses

-- a property whose skeletons are to be refuted is one of the circuit's
abbrev pub HasRefuted : Circuit → Refuted → ℕ → Type 0
HasRefuted c Skeletons n = n < length c.justice
HasRefuted c (States literal) n = Unit {0}

-- that is so, and there are no more entries than a certificate may have
pub record IsBody (c : Circuit) (b : BodyInCode) : Type 0 where
  pub property : HasRefuted c b.refuted b.property
  pub few : length b.list ≤ MAX_ENTRIES

-- and there is room for one more; the judge keeps the circuit's clauses, and the table is one of its latches
pub record IsOpen (c : Circuit) (b : BodyInCode) : Type 0 where
  pub property : HasRefuted c b.refuted b.property
  pub room : length b.list < MAX_ENTRIES
  pub block : b.judge.block ≡ step_clauses c
  pub latches : AreNumbersOf c b.latches

-- the proof of this clause of an entry comes, or is read: the judge has gone to the entry
pub record IsAtClause (c : Circuit) (b : BodyInCode) (e : Listed) (i : ℕ) : Type 0 where
  pub ready : IsOpen c b
  pub entered : IsEntered c b (entry_of e)
  pub clause : i < length e.set

-- what is kept before a line of a certificate
abbrev pub IsAhead : Circuit → BodyInCode → WantedInCode → Type 0
IsAhead c b wanted.Start = IsBody c b × (b.judge.block ≡ step_clauses c) × AreNumbersOf c b.latches
IsAhead c b (wanted.EntryUses opening) = IsOpen c b
IsAhead c b (wanted.EntryClause begun) = IsOpen c b × ArePresent b begun.uses
IsAhead c b (wanted.EntryProof e i) = IsAtClause c b e i
IsAhead c b (wanted.EntryLine e i p) = IsAtClause c b e i × (p.read < p.count)
IsAhead c b (wanted.RefutationUses refuting) = IsBody c b
IsAhead c b (wanted.RefutationLine p) = IsBody c b × (p.read < p.count)
IsAhead c b (wanted.StateLine checker p) = IsBody c b × (p.read < p.count)
IsAhead c b wanted.Last = IsBody c b

-- what the code keeps of a state; a property is one of the circuit's where skeletons of it are to be refuted
abbrev pub IsKept : Circuit → StateInCode → Type 0
IsKept c (states.Certified b w) = IsAhead c b w
IsKept c (states.Ended b) = IsBody c b
IsKept c (states.Versioned n) = n < length c.justice
IsKept c (states.Latches n) = n < length c.justice
IsKept c (states.Rows n s) = n < length c.justice
IsKept c (states.Dotted n s) = n < length c.justice
IsKept c _ = Unit {0}
