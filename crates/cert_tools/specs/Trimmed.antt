-- What trimming makes of a certificate: the entries that its refutation reaches through uses, in their order and renumbered,
-- each with its trimmed proofs; of a stimulus the lasso that it stands for.
use Rattle.std.specs.Prelude.{◌≡◌, ℕ, ◌+◌, List, [], ◌∷◌, map, length, filter, nat_lt, Some, slice_get}
use Rattle.std.specs.List.{Any, AllZip}
use Rattle.aig_semantics.specs.Circuits.{Circuit}
use Rattle.fair_semantics.specs.declared.entries.Use.{Use}
use Rattle.fair_semantics.specs.Entries.{Entry, entry_at, used_entries}
use Rattle.cnf_unroll.specs.Obligations.{skeleton_clauses}
use Rattle.certificate_lines.specs.declared.words.Version.TheVariants.{Two}
use Rattle.entry.specs.Proved.{obligation_of}
use Rattle.certificate.specs.declared.loaded.Loaded.{Loaded}
use Rattle.certificate.specs.declared.loaded.Loaded.TheVariants.{Lasso, Holds}
use Rattle.certificate_texts.specs.declared.certificates.Written.{Written}
use Rattle.certificate_texts.specs.declared.certificates.Certificate.{Certificate}
use Rattle.certificate.specs.Certificates.{AreProvedBehind}
use Rattle.cert_tools.specs.Kept.{Keeps, Reaches}
use Rattle.cert_tools.specs.TrimmedProofs.{IsTrimmedProof, AreTrimmedProofs}

-- an entry with its number
abbrev pub Numbered : Type 0
Numbered = ℕ × Written

-- the entries have the numbers n, n + 1 and so on
abbrev pub numbered_from : ℕ → List Written → List Numbered
numbered_from n [] = []
numbered_from n (e ∷ entries) = (n, e) ∷ numbered_from (n + 1) entries

-- entry v of these uses entry w
abbrev pub UsesEntry : List Written → ℕ → ℕ → Type 0
UsesEntry entries v w = (e : Written) × (slice_get entries v ≡ Some e) × Any (λ u. u.entry ≡ w) e.uses

-- the refutation reaches the entry through uses
abbrev pub IsReachedEntry : Certificate → Numbered → Type 0
IsReachedEntry certificate e = Any (λ u. Reaches (UsesEntry certificate.entries) u.entry e.0) certificate.uses

-- how many of the entries that are kept stand before entry n
abbrev pub place_among : List Numbered → ℕ → ℕ
place_among kept n = length (filter (λ e. nat_lt e.0 n) kept)

-- the uses, by the numbers that their entries have among those that are kept
abbrev pub renumbered : List Numbered → List Use → List Use
renumbered kept uses = map (λ u. record { entry = place_among kept u.entry; side = u.side }) uses

-- what becomes of an entry that is kept, where all entries say this: kind and clauses stay
pub record IsTrimmedEntry (c : Circuit) (entries : List Entry) (kept : List Numbered) (from : Numbered) (to : Written) : Type 0 where
  pub kind : to.kind ≡ from.1.kind
  pub clauses : to.clauses ≡ from.1.clauses
  pub uses : to.uses ≡ renumbered kept from.1.uses
  pub proofs : AreTrimmedProofs (obligation_of c entries (entry_at entries from.0)) 0 from.1.proofs to.proofs

-- what becomes of a certificate of property n, whose entries say this
pub record IsTrimmedCertificate (c : Circuit) (n : ℕ) (all : List Entry) (whole trimmed : Certificate) : Type 0 where
  pub version : trimmed.version ≡ Two
  pub kept : List Numbered
  pub reached : Keeps (IsReachedEntry whole) (numbered_from 0 whole.entries) kept
  pub entries : AllZip (IsTrimmedEntry c all kept) kept trimmed.entries
  pub uses : trimmed.uses ≡ renumbered kept whole.uses
  pub proof : IsTrimmedProof (skeleton_clauses c n (used_entries all whole.uses)) whole.proof trimmed.proof

-- what becomes of an answer that is held
abbrev pub IsTrimmed : Circuit → Loaded → Loaded → Type 0
IsTrimmed c (Lasso n stimulus lasso) (Lasso m kept same) =
    (m ≡ n) × (same ≡ lasso) × (kept ≡ record { latches = lasso.start; inputs = lasso.inputs })
IsTrimmed c (Holds n whole) (Holds m trimmed) =
    (m ≡ n) × (entries : List Entry) × AreProvedBehind c [] whole.entries entries × IsTrimmedCertificate c n entries whole trimmed
IsTrimmed c (Lasso n stimulus lasso) (Holds m trimmed) = ⊥
IsTrimmed c (Holds n whole) (Lasso m kept same) = ⊥
