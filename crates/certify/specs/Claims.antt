-- Claims and the checked entries that they become: inductive sets as in IC3 (Bradley, SAT-based model checking without
-- unrolling, 2011), and walls as in FAIR (Bradley, Somenzi, Hassan, Zhang, 2011).
use Rattle.std.specs.Prelude.{◌≡◌, ℕ, List}
use Rattle.aig_semantics.specs.Circuits.{Circuit}
use Rattle.fair_semantics.specs.Entries.{Entry}
use Rattle.entry.specs.declared.origins.Origin.{Origin}
use Rattle.entry.specs.declared.origins.Origin.TheVariants.{Worker}
use Rattle.entry.specs.CheckedEntries.{CheckedEntry, checked_behind}
use Rattle.certify.specs.declared.claims.Claim.{Claim}

-- the entry that is claimed
abbrev pub claimed : Claim → Entry
claimed claim = record { kind = claim.kind; clauses = claim.clauses; uses = claim.uses }

-- who claims it, in which turn, and the skeleton that it excludes
abbrev pub claim_origin : Claim → Origin
claim_origin claim = Worker (record { author = claim.author; turn = claim.turn; skeleton = claim.skeleton })

-- The claimed entry of the circuit, checked behind these entries, with some proofs.
abbrev pub IsCertified : Circuit → List Entry → Claim → CheckedEntry → Type 0
IsCertified c before claim e =
    (proofs : List (List (List ℕ))) × (e ≡ checked_behind c before (claimed claim) proofs (claim_origin claim))
