-- Certificates: what entries with their proofs, and a refutation of a property over them, say of a circuit.
-- Entries are after the inductive sets of IC3 (Bradley, 2011) and the walls of FAIR (Bradley, Somenzi, Hassan, Zhang,
-- 2011), proofs are in LRAT (Cruz-Filipe, Heule, Hunt, Kaufmann, Schneider-Kamp, 2017).
use Rattle.std.specs.Prelude.{◌≡◌, ℕ, ◌≤◌, All, List, [], ◌∷◌, ◌++◌, map, length, Ok}
use Rattle.aig_semantics.specs.Circuits.{Circuit}
use Rattle.proof_semantics.specs.declared.literals.Lit.{Lit}
use Rattle.fair_semantics.specs.Entries.{Entry}
use Rattle.certificate_lines.specs.Words.{HasNumbers}
use Rattle.certificate_lines.specs.Uses.{MayStand, written}
use Rattle.entry.specs.Clauses.{clause_of}
use Rattle.entry.specs.Proved.{IsProved, IsGoodRefutation}
use Rattle.certificate_texts.specs.declared.certificates.Written.{Written}
use Rattle.certificate_texts.specs.declared.certificates.Certificate.{Certificate}
use Rattle.certificate_texts.specs.Certificates.{refuting_line, CanBeWritten}
use Rattle.certificate.specs.declared.limits.TheConstants.{MAX_ENTRIES}

-- the clauses are those of these literals, over the numbers of the latches
abbrev pub AreClausesOf : Circuit → List (List ℕ) → List (List Lit) → Type 0
AreClausesOf c literals clauses = map (clause_of c) literals ≡ map Ok clauses

-- a written entry with these clauses
abbrev pub entry_with : Written → List (List Lit) → Entry
entry_with e clauses = record { kind = e.kind; clauses = clauses; uses = e.uses }

-- behind the first entries each of the written ones is proved, and all of them together are these
abbrev pub AreProvedBehind : Circuit → List Entry → List Written → List Entry → Type 0
AreProvedBehind c before [] all = all ≡ before
AreProvedBehind c before (e ∷ more) all =
    (clauses : List (List Lit)) × AreClausesOf c e.clauses clauses × IsProved c before (entry_with e clauses) e.proofs
    × AreProvedBehind c (before ++ entry_with e clauses ∷ []) more all

-- A good certificate of property n: it can be written, its entries are within the limit, each is proved behind those
-- before it, and a good refutation of the property stands over them.
pub record IsGoodCertificate (c : Circuit) (n : ℕ) (certificate : Certificate) : Type 0 where
  pub form : All (CanBeWritten certificate.version) certificate.entries
  pub sizes : HasNumbers (refuting_line certificate)
  pub signs : All (MayStand certificate.version) (map written certificate.uses)
  pub few : length certificate.entries ≤ MAX_ENTRIES
  pub entries : List Entry
  pub proved : AreProvedBehind c [] certificate.entries entries
  pub refuted : IsGoodRefutation c entries n certificate.uses certificate.proof
