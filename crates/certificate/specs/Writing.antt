-- The certificate of checked entries and of a refutation over them.
use Rattle.std.specs.Prelude.{◌≡◌, ◌≤◌, ◌<◌, ℕ, List, [], ◌∷◌, ◌++◌, map, length}
use Rattle.std.specs.Arc.{arc_value}
use Rattle.std.specs.declared.sync.Arc.{Arc}
use Rattle.aig_semantics.specs.Circuits.{Circuit}
use Rattle.fair_semantics.specs.Entries.{Entry}
use Rattle.certificate_lines.specs.declared.words.Version.TheVariants.{Two}
use Rattle.entry.specs.declared.refutations.Refutation.{Refutation}
use Rattle.entry.specs.Proved.{IsProved, IsGoodRefutation}
use Rattle.entry.specs.CheckedEntries.{CheckedEntry}
use Rattle.certificate_texts.specs.declared.certificates.Written.{Written}
use Rattle.certificate_texts.specs.declared.certificates.Certificate.{Certificate}
use Rattle.certificate_texts.specs.Writing.{literal_in_model}
use Rattle.certificate.specs.declared.limits.TheConstants.{MAX_ENTRIES}

-- a shared list, as the list of what is shared
abbrev pub listed : {Z : Type 0} → List (Arc CheckedEntry Z) → List CheckedEntry
listed list = map (λ shared. arc_value {X = CheckedEntry} shared) list

-- an entry with its proofs, as its lines spell it
abbrev pub written_entry : CheckedEntry → Written
written_entry e = record {
  kind = e.entry.kind;
  clauses = map (map (literal_in_model e.circuit)) e.entry.clauses;
  uses = e.entry.uses;
  proofs = e.proofs;
}

-- The certificate of these entries, in their order, and of this refutation.
abbrev pub certificate_of : List CheckedEntry → Refutation → Certificate
certificate_of list refutation = record {
  version = Two;
  entries = map written_entry list;
  uses = refutation.uses;
  proof = refutation.proof;
}

-- behind the first entries each of the checked ones is proved, which are all of this circuit
abbrev pub AreProvedInOrder : Circuit → List Entry → List CheckedEntry → Type 0
AreProvedInOrder c before [] = Unit {0}
AreProvedInOrder c before (e ∷ more) =
    (e.circuit ≡ c) × IsProved c before e.entry e.proofs × AreProvedInOrder c (before ++ e.entry ∷ []) more

-- Property n of the circuit is refuted: the entries are within the limit on their number, each is proved behind those
-- before it, and the refutation over them is good.
pub record IsRefutedBy (c : Circuit) (n : ℕ) (list : List CheckedEntry) (refutation : Refutation) : Type 0 where
  pub property : n < length c.justice
  pub few : length list ≤ MAX_ENTRIES
  pub proved : AreProvedInOrder c [] list
  pub refuted : IsGoodRefutation c (map (λ e. e.entry) list) n refutation.uses refutation.proof
