-- A certificate as it is taken out of lines that begin with one.
use Rattle.std.specs.Prelude.{◌≡◌, ℕ, zero, suc, ◌^◌, List, [], ◌∷◌, Option, Some, None, Result, Ok, Err, option_map, option_and_then, if◌then◌else◌, nat_lt}
use Rattle.fair_semantics.specs.declared.entries.Use.{Use}
use Rattle.certificate_lines.specs.declared.uses.WrittenUse.{WrittenUse}
use Rattle.certificate_lines.specs.declared.words.Opening.{Opening}
use Rattle.certificate_lines.specs.declared.words.Refutation.{Refutation}
use Rattle.certificate_lines.specs.declared.words.Version.{Version}
use Rattle.certificate_lines.specs.declared.words.WordLine.{WordLine}
use Rattle.certificate_lines.specs.declared.words.WordLine.TheVariants as lines
use Rattle.certificate_lines.specs.Words.{word_line_of}
use Rattle.certificate_lines.specs.Uses.{uses_of}
use Rattle.certificate_lines.specs.Clauses.{clause_of}
use Rattle.certificate_texts.specs.declared.taking.TakeEnd.{TakeEnd}
use Rattle.certificate_texts.specs.declared.taking.TakeEnd.TheVariants as ends
use Rattle.certificate_texts.specs.Certificates.{Written, Certificate, as_use}

-- a value and the lines behind it, if the lines begin with one
abbrev pub Taker : Type 0 → Type 0
Taker A = List (List ℕ) → Option (A × List (List ℕ))

-- what is taken next, from the value and the lines behind it
infixl 10 ◌>>=◌
abbrev pub ◌>>=◌ : {A B : Type 0} → Option (A × List (List ℕ)) → (A → List (List ℕ) → Option B) → Option B
None >>= f = None
(Some x) >>= f = f x.0 x.1

-- so many values, one behind the other
unfoldable pub many : {A : Type 0} → Taker A → ℕ → Taker (List A)
many take zero lines = Some ([], lines)
many take (suc n) lines = take lines >>= λ x after. many take n after >>= λ xs rest. Some (x ∷ xs, rest)

-- why nothing was taken: memory was refused, or there is none
abbrev pub FailsAs : {Y : Type 0} → TakeEnd → Option Y → Type 0
FailsAs ends.Memory taken = Unit {0}
FailsAs ends.Form taken = taken ≡ None

-- the call answered, seen by view, what is taken, or why nothing was
abbrev pub Takes : {X Y : Type 0} → (X → Y) → Result X TakeEnd → Option Y → Type 0
Takes view (Ok x) taken = taken ≡ Some (view x)
Takes view (Err end) taken = FailsAs end taken

-- a line
unfoldable pub line_at : Taker (List ℕ)
line_at [] = None
line_at (line ∷ lines) = Some (line, lines)

-- what a line is read as, and the lines behind it
abbrev pub with_rest : {A : Type 0} → Option A → List (List ℕ) → Option (A × List (List ℕ))
with_rest None rest = None
with_rest (Some a) rest = Some (a, rest)

abbrev pub opening_in : Option WordLine → Option Opening
opening_in (Some (lines.Opening o)) = Some o
opening_in _ = None

abbrev pub refuting_in : Option WordLine → Option Refutation
refuting_in (Some (lines.Refutation r)) = Some r
refuting_in _ = None

abbrev pub version_in : Option WordLine → Option Version
version_in (Some (lines.Version v)) = Some v
version_in _ = None

abbrev pub proof_in : Option WordLine → Option ℕ
proof_in (Some (lines.Proof n)) = Some n
proof_in _ = None

unfoldable pub opening_at : Taker Opening
opening_at ls = line_at ls >>= λ line rest. with_rest (opening_in (word_line_of line)) rest

unfoldable pub refuting_at : Taker Refutation
refuting_at ls = line_at ls >>= λ line rest. with_rest (refuting_in (word_line_of line)) rest

unfoldable pub version_at : Taker Version
version_at ls = line_at ls >>= λ line rest. with_rest (version_in (word_line_of line)) rest

unfoldable pub count_at : Taker ℕ
count_at ls = line_at ls >>= λ line rest. with_rest (proof_in (word_line_of line)) rest

unfoldable pub clause_at : Taker (List ℕ)
clause_at ls = line_at ls >>= λ line rest. with_rest (clause_of line) rest

-- the use, where its number has 32 bits
abbrev pub use_in : WrittenUse → Option Use
use_in u = if nat_lt u.number (2 ^ 32) then Some (as_use u) else None

-- all uses, where each number has
unfoldable pub named : List WrittenUse → Option (List Use)
named [] = Some []
named (u ∷ us) = option_and_then (λ first. option_map (λ more. first ∷ more) (named us)) (use_in u)

unfoldable pub uses_at : Version → Taker (List Use)
uses_at version ls = line_at ls >>= λ line rest. with_rest (option_and_then named (uses_of version line)) rest

unfoldable pub proof_at : Taker (List (List ℕ))
proof_at ls = count_at ls >>= λ n rest. many line_at n rest

unfoldable pub entry_at : Version → Taker Written
entry_at version ls =
    opening_at ls >>= λ o after.
    uses_at version after >>= λ uses behind.
    many clause_at o.clauses behind >>= λ clauses more.
    many proof_at o.clauses more >>= λ proofs rest.
    Some (record { kind = o.kind; clauses = clauses; uses = uses; proofs = proofs }, rest)

-- the certificate, of so many entries, behind the lines of the status and the property
unfoldable pub certificate_at : ℕ → Taker Certificate
certificate_at count ls =
    line_at ls >>= λ status after.
    line_at after >>= λ property behind.
    version_at behind >>= λ version others.
    many (entry_at version) count others >>= λ entries last.
    refuting_at last >>= λ r refuting.
    uses_at version refuting >>= λ uses more.
    many line_at r.proof_lines more >>= λ proof rest.
    Some (record { version = version; entries = entries; uses = uses; proof = proof }, rest)
