-- Scaffolding of inner functions: the next free number behind uses, by how many places they are over; what is asked of
-- entries of which an obligation is spelled; and how an export ends.
use Rattle.std.specs.Prelude.{◌<◌, ◌+◌, ◌-◌, ◌*◌, ℕ, List, [], ◌∷◌, length, Result, Ok, Err}
use Rattle.std.specs.List.{All}
use Rattle.aig_semantics.specs.Circuits.{Circuit}
use Rattle.fair_semantics.specs.declared.entries.Kind.{Kind}
use Rattle.fair_semantics.specs.declared.entries.Kind.TheVariants.{Reach, Wall}
use Rattle.fair_semantics.specs.declared.entries.Use.{Use}
use Rattle.fair_semantics.specs.Entries.{Entry, Numbered, entry_at, used_entries}
use Rattle.cnf_unroll.specs.Laws.{AreOver}
use Rattle.cnf_unroll.specs.Obligations.{after_step, skeleton_clauses}
use Rattle.entry.specs.Proved.{obligation_of}
use Rattle.cert_tools.specs.declared.exporting.ExportEnd.{ExportEnd}
use Rattle.cert_tools.specs.declared.exporting.ExportEnd.TheVariants.{NoItem, Memory}
use Rattle.cert_tools.specs.Dimacs.{StandsForClauses}
use Rattle.cert_tools.specs.Exported.{after_skeleton}

-- behind the use of an entry of this kind with so many clauses
abbrev pub behind_use : ℕ → ℕ → ℕ → Kind → ℕ
behind_use places free clauses Reach = free
behind_use places free clauses Wall = free + 1 + clauses * places

-- behind all uses
abbrev pub behind_uses : ℕ → ℕ → List Numbered → ℕ
behind_uses places free [] = free
behind_uses places free (u ∷ us) = behind_uses places (behind_use places free (length u.entry.clauses) u.entry.kind) us

-- the entries are over the latches
abbrev pub EntriesAreOver : Circuit → List Entry → Type 0
EntriesAreOver c entries = All (λ (e : Entry). AreOver (length c.latches) e.clauses) entries

-- entry e of these has clause i, and uses entries that are there
pub record HasObligation (c : Circuit) (entries : List Entry) (e i : ℕ) : Type 0 where
  pub there : e < length entries
  pub clause : i < length (entry_at entries e).clauses
  pub uses : All (λ (u : Use). u.entry < length entries) (entry_at entries e).uses
  pub over : EntriesAreOver c entries

-- the text stands for the obligation of clause i of entry e of these
abbrev pub StandsForObligation : Circuit → List Entry → ℕ → ℕ → List ℕ → Type 0
StandsForObligation c entries e i text =
    StandsForClauses ((after_step c (used_entries entries (entry_at entries e).uses)).free - 1)
    (obligation_of c entries (entry_at entries e) i) text

-- the text stands for the skeleton clauses of property n with these uses
abbrev pub StandsForSkeleton : Circuit → ℕ → List Entry → List Use → List ℕ → Type 0
StandsForSkeleton c n entries uses text =
    StandsForClauses ((after_skeleton c n (used_entries entries uses)).free - 1) (skeleton_clauses c n (used_entries entries uses)) text

-- a text of which P is so, of an item that is there; no item, where it is not there; or memory was refused
abbrev pub EndsWithItem : {T : Type 0} → (T → Type 0) → Type 0 → Result T ExportEnd → Type 0
EndsWithItem P There (Ok text) = P text × There
EndsWithItem P There (Err NoItem) = There → ⊥
EndsWithItem P There (Err Memory) = Unit {0}
