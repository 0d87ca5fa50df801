-- Entries of a certificate and their sets, after the walls and reachability sets of FAIR (Bradley, Somenzi, Hassan,
-- Zhang, 2011). That entries use each other by number, and name sides of walls, is this program's.
use Rattle.std.specs.Prelude.{◌≡◌, ◌≢◌, ℕ, ◌+◌, ◌<◌, ◌==◌, Bool, true, false, not, ◌&&◌, List, [], ◌∷◌, map, length, slice_index_or, if◌then◌else◌}
use Rattle.std.specs.List.{All, Any, AllPairs, list_all}
use Rattle.proof_semantics.specs.declared.literals.Lit.{Lit}
use Rattle.fair_semantics.specs.declared.entries.Kind.{Kind}
use Rattle.fair_semantics.specs.declared.entries.Kind.TheVariants.{Reach, Wall}
use Rattle.fair_semantics.specs.declared.entries.Side.{Side}
use Rattle.fair_semantics.specs.declared.entries.Side.TheVariants as sides
use Rattle.fair_semantics.specs.declared.entries.Use.{Use}
use Rattle.fair_semantics.specs.States.{meets_clauses}

-- What an entry says: its kind, its clauses, and its uses of the entries before it. Variable v of a clause is the latch
-- with the number v, from 0 on.
pub record Entry : Type 0 where
  pub kind : Kind
  pub clauses : List (List Lit)
  pub uses : List Use

-- an entry with its number
pub record Numbered : Type 0 where
  pub number : ℕ
  pub entry : Entry

-- the entries of a list have the numbers n, n + 1 and so on
abbrev pub numbered_from : ℕ → List Entry → List Numbered
numbered_from n [] = []
numbered_from n (e ∷ entries) = record { number = n; entry = e } ∷ numbered_from (n + 1) entries

abbrev pub numbered : List Entry → List Numbered
numbered entries = numbered_from 0 entries

-- the entry with a number; where there is none, a reach entry without clauses, which says nothing
abbrev pub entry_at : List Entry → ℕ → Entry
entry_at entries n = slice_index_or entries n (record { kind = Reach; clauses = []; uses = [] })

-- the entries that uses name, with their numbers
abbrev pub used_entries : List Entry → List Use → List Numbered
used_entries entries uses = map (λ u. record { number = u.entry; entry = entry_at entries u.entry }) uses

-- a state that is or is not in a set lies on this side of it
abbrev pub lies_on : Side → Bool → Bool
lies_on sides.Any inside = true
lies_on sides.In inside = inside
lies_on sides.Out inside = not inside

-- The set of an entry, from the sets of the entries before it: the states that make its clauses true and lie on the
-- side that it names of each entry that it uses.
abbrev pub set_over : (ℕ → List Bool → Bool) → Entry → List Bool → Bool
set_over sets e s = meets_clauses e.clauses s && list_all (λ u. lies_on u.side (sets u.entry s)) e.uses

-- the sets by their numbers, with one more
abbrev pub with_set : (ℕ → List Bool → Bool) → Numbered → ℕ → List Bool → Bool
with_set sets e n s = if n == e.number then set_over sets e.entry s else sets n s

abbrev pub sets_after : (ℕ → List Bool → Bool) → List Numbered → ℕ → List Bool → Bool
sets_after sets [] = sets
sets_after sets (e ∷ entries) = sets_after (with_set sets e) entries

-- The sets of these entries, by their numbers: each over those before it.
abbrev pub sets_of : List Numbered → ℕ → List Bool → Bool
sets_of entries = sets_after (λ n s. false) entries

-- the set of entry n of a list
abbrev pub set_at : List Entry → ℕ → List Bool → Bool
set_at entries n = sets_of (numbered entries) n

-- a use that names a side
abbrev pub IsSigned : Use → Type 0
IsSigned u = u.side ≢ sides.Any

-- one of the uses is of the entry n
abbrev pub Uses : List Use → ℕ → Type 0
Uses uses n = Any (λ u. u.entry ≡ n) uses

-- each entry of which entry n names a side stands among the uses, before n
abbrev pub NamesUsed : List Use → ℕ → Entry → Type 0
NamesUsed uses n e = All (λ named. IsSigned named → (named.entry < n) × Uses uses named.entry) e.uses

-- Uses of earlier entries that can be understood without further entries: numbers ascend, only walls have a side named,
-- and each entry of which a used entry names a side stands among the uses, before that one.
pub record AreClosed (entries : List Entry) (uses : List Use) : Type 0 where
  pub ascend : AllPairs (λ u v. u.entry < v.entry) uses
  pub present : All (λ u. u.entry < length entries) uses
  pub walls : All (λ u. IsSigned u → (entry_at entries u.entry).kind ≡ Wall) uses
  pub closed : All (λ u. NamesUsed uses u.entry (entry_at entries u.entry)) uses
