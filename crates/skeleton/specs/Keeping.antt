-- Scaffolding of inner functions. What a query keeps: a solver of the skeleton clauses with the entries that were seen.
use Rattle.std.specs.Prelude.{◌≡◌, ℕ, ◌<◌, true, List, ◌++◌, length}
use Rattle.std.specs.Arc.{arc_value}
use Rattle.aig_semantics.specs.Circuits.{Circuit}
use Rattle.proof_semantics.specs.declared.literals.Lit.{Lit}
use Rattle.fair_semantics.specs.Entries.{numbered}
use Rattle.cnf_unroll.specs.Obligations.{skeleton_clauses}
use Rattle.entry.specs.CheckedEntries.{viewed}
use Rattle.skeleton.specs.declared.known.Known.{Known}
use Rattle.skeleton.specs.declared.query.Query.TheInside.{Inside}
use Rattle.skeleton.specs.Finding.{Asking}

-- the clauses begin with these
abbrev pub IsFront : List (List Lit) → List (List Lit) → Type 0
IsFront front clauses = (rest : List (List Lit)) × (clauses ≡ front ++ rest)

-- the solver has the skeleton clauses over the entries that were seen
abbrev pub IsBuilt : Circuit → ℕ → Known → Type 0
IsBuilt c j known = known.solver.added ≡ skeleton_clauses c j (numbered (viewed known.seen))

-- The solver has the first of them, and all where it is whole.
pub record IsBegun (c : Circuit) (j : ℕ) (known : Known) : Type 0 where
  pub front : IsFront known.solver.added (skeleton_clauses c j (numbered (viewed known.seen)))
  pub whole : known.whole ≡ true → IsBuilt c j known

abbrev pub seen_as : Inside → Asking
seen_as s = record { circuit = arc_value s.circuit; property = s.property; seen = viewed s.known.seen }

-- the circuit has the property, and the solver the first of its clauses
pub record IsKept (s : Inside) : Type 0 where
  pub property : s.property < length (arc_value s.circuit).justice
  pub begun : IsBegun (arc_value s.circuit) s.property s.known
