-- What is exported of a certificate: an item is the obligation of a clause of an entry, or the refutation, with the proof that
-- refutes it.
use Rattle.std.specs.Prelude.{◌≡◌, ◌⊎◌, ℕ, ◌+◌, ◌-◌, ◌<◌, Bool, true, false, List, [], length, Some, slice_get}
use Rattle.text_grammar.specs.Lines.{ended_lines}
use Rattle.aig_semantics.specs.Circuits.{Circuit, fair_literals}
use Rattle.proof_semantics.specs.declared.literals.Lit.{Lit}
use Rattle.proof_semantics.specs.Proofs.{Refutes}
use Rattle.fair_semantics.specs.Entries.{Entry, Numbered, entry_at, used_entries}
use Rattle.cnf_unroll.specs.Uses.{Numbering, free_from, after_uses}
use Rattle.cnf_unroll.specs.Obligations.{after_step, blocks_places, block_count, after_blocks, skeleton_clauses}
use Rattle.entry.specs.Proved.{obligation_of}
use Rattle.certificate_texts.specs.declared.certificates.Written.{Written}
use Rattle.certificate_texts.specs.declared.certificates.Certificate.{Certificate}
use Rattle.certificate.specs.declared.loaded.Loaded.{Loaded}
use Rattle.certificate.specs.declared.loaded.Loaded.TheVariants.{Lasso, Holds}
use Rattle.certificate.specs.Certificates.{AreProvedBehind}
use Rattle.cert_tools.specs.Dimacs.{StandsForClauses}

-- the clauses of an item, the last number of the blocks and of the uses, and the lines of the proof that refutes the clauses
pub record Item : Type 0 where
  pub clauses : List (List Lit)
  pub greatest : ℕ
  pub lines : List (List ℕ)

-- the numbers of a skeleton's clauses, after the uses
abbrev pub after_skeleton : Circuit → ℕ → List Numbered → Numbering
after_skeleton c j uses =
    let n = block_count (fair_literals c j) in after_uses (blocks_places c 0 n) (free_from (after_blocks c 0 n + 1)) uses

-- the obligation of clause i of entry e of these
abbrev pub obligation_item : Circuit → List Entry → ℕ → ℕ → List (List ℕ) → Item
obligation_item c entries e i lines = record {
  clauses = obligation_of c entries (entry_at entries e) i;
  greatest = (after_step c (used_entries entries (entry_at entries e).uses)).free - 1;
  lines = lines;
}

-- the refutation of property n over these entries
abbrev pub refutation_item : Circuit → ℕ → List Entry → Certificate → Item
refutation_item c n entries certificate = record {
  clauses = skeleton_clauses c n (used_entries entries certificate.uses);
  greatest = (after_skeleton c n (used_entries entries certificate.uses)).free - 1;
  lines = certificate.proof;
}

-- The item with these numbers: of an entry and one of its clauses, counted from 0; behind the last entry, under 0, the
-- refutation.
abbrev pub IsItem : Circuit → ℕ → List Entry → Certificate → ℕ → ℕ → Item → Type 0
IsItem c n entries certificate e i item =
    ((written : Written) × (lines : List (List ℕ)) × (slice_get certificate.entries e ≡ Some written)
    × (slice_get written.proofs i ≡ Some lines) × (item ≡ obligation_item c entries e i lines))
    ⊎ ((e ≡ length certificate.entries) × (i ≡ 0) × (item ≡ refutation_item c n entries certificate))

-- the answer has an item with these numbers; a stimulus has none
abbrev pub HasItem : Loaded → ℕ → ℕ → Type 0
HasItem (Lasso n stimulus lasso) e i = ⊥
HasItem (Holds n certificate) e i =
    ((written : Written) × (slice_get certificate.entries e ≡ Some written) × (i < length written.clauses))
    ⊎ ((e ≡ length certificate.entries) × (i ≡ 0))

-- the lines of its proof, as they were read, or the text that stands for its clauses
abbrev pub IsItemText : Bool → Item → List ℕ → Type 0
IsItemText true item text = text ≡ ended_lines item.lines
IsItemText false item text = StandsForClauses item.greatest item.clauses text

-- The text is that of the item with these numbers, by what the entries say; the proof of the item refutes its clauses.
pub record IsItemOf (c : Circuit) (n : ℕ) (certificate : Certificate) (e i : ℕ) (lrat : Bool) (text : List ℕ) : Type 0 where
  pub entries : List Entry
  pub say : AreProvedBehind c [] certificate.entries entries
  pub item : Item
  pub is : IsItem c n entries certificate e i item
  pub refutes : Refutes item.clauses item.lines
  pub spelled : IsItemText lrat item text

-- what is exported of an answer that is held
abbrev pub IsExported : Circuit → Loaded → ℕ → ℕ → Bool → List ℕ → Type 0
IsExported c (Lasso n stimulus lasso) e i lrat text = ⊥
IsExported c (Holds n certificate) e i lrat text = IsItemOf c n certificate e i lrat text
