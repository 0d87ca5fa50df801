-- Scaffolding of tests. A ledger of a small circuit with its passes, and what is found of it.
use Rattle.std.specs.Prelude.{◌≡◌, ℕ, zero, suc, ◌+◌, ◌<◌, ◌==◌, Bool, true, false, List, [], ◌∷◌, map, length, slice_index_or}
use Rattle.aig_semantics.specs.declared.parts.Latch.{Latch}
use Rattle.aig_semantics.specs.declared.parts.Reset.TheVariants.{Zero}
use Rattle.aig_semantics.specs.Circuits.{Circuit}
use Rattle.proof_semantics.specs.declared.literals.Lit.{Lit}
use Rattle.fair_semantics.specs.declared.entries.Kind.TheVariants.{Reach}
use Rattle.fair_semantics.specs.declared.skeletons.Skeleton.{Skeleton}
use Rattle.fair_semantics.specs.Entries.{Entry}
use Rattle.entry.specs.declared.origins.Origin.TheVariants.{Worker}
use Rattle.entry.specs.CheckedEntries.{CheckedEntry}
use Rattle.wall_ledger.specs.Passes.{PassState, LedgerState}

-- the latch of this variable keeps its 0
abbrev pub keeps_0 : ℕ → ℕ → Latch
keeps_0 variable literal = record { var = variable; next = literal; reset = Zero }

-- six latches that stay at 0, with these properties
abbrev pub with_justice : List (List ℕ) → Circuit
with_justice js = record {
  max = 6;
  inputs = [];
  latches = keeps_0 1 2 ∷ keeps_0 2 4 ∷ keeps_0 3 6 ∷ keeps_0 4 8 ∷ keeps_0 5 10 ∷ keeps_0 6 12 ∷ [];
  gates = [];
  constraints = [];
  justice = js;
  fairness = [];
}

-- the same with one property or two, each that the first latch is 1
abbrev pub model : Bool → Circuit
model false = with_justice ((2 ∷ []) ∷ [])
model true = with_justice ((2 ∷ []) ∷ (2 ∷ []) ∷ [])

abbrev pub properties : Bool → List ℕ
properties false = 0 ∷ []
properties true = 0 ∷ 1 ∷ []

-- latch k, counted from 0, is 0 in each state that is reached
abbrev pub at_0 : ℕ → Entry
at_0 k = record { kind = Reach; clauses = (record { var = k; positive = false } ∷ []) ∷ []; uses = [] }

-- the states in which the first latch is 1, and latch k
abbrev pub raised : ℕ → List Bool
raised k = true ∷ (k == 1) ∷ (k == 2) ∷ (k == 3) ∷ (k == 4) ∷ (k == 5) ∷ []

-- the position with that state, which it keeps
abbrev pub target : ℕ → Skeleton
target k = record { situations = record { position = record { latches = raised k; inputs = [] }; successor = raised k } ∷ [] }

-- found by this worker in that turn, behind no entry: what excludes the skeleton in which latch k is 1
pub record IsFindOf (c : Circuit) (author turn k : ℕ) (e : CheckedEntry) : Type 0 where
  pub circuit : e.circuit ≡ c
  pub used : e.used ≡ []
  pub origin : e.origin ≡ Worker (record { author = author; turn = turn; skeleton = target k })

-- the numbers of these passes
abbrev pub numbers : List PassState → List ℕ
numbers passes = map (λ p. p.number) passes

-- so many numbers, from n on
abbrev pub count_up : ℕ → ℕ → List ℕ
count_up n zero = []
count_up n (suc more) = n ∷ count_up (n + 1) more

-- the ledger is of that circuit and serves its properties
pub record IsOf (two : Bool) (l : LedgerState) : Type 0 where
  pub circuit : l.circuit ≡ model two
  pub properties : l.properties ≡ properties two

-- a pass of that ledger, with the circuit in hand
pub record MayRace (two : Bool) (l : LedgerState) (c : Circuit) (p : PassState) : Type 0 where
  pub of : IsOf two l
  pub circuit : c ≡ model two
  pub home : p.home ≡ l.home

-- the pass is the same one
pub record StaysPass (p q : PassState) : Type 0 where
  pub home : q.home ≡ p.home
  pub number : q.number ≡ p.number

-- each of them is
abbrev pub StayPasses : List PassState → List PassState → Type 0
StayPasses before after =
    (length after ≡ length before)
    × ((k : ℕ) (d : PassState) → k < length before → StaysPass (slice_index_or before k d) (slice_index_or after k d))
