-- Scaffolding of inner functions. The ids that clauses have in a proof: the added clauses have those from 1 on, in the
-- order of adding, and the units behind all clauses the next ones. 0 is no id.
use Rattle.std.specs.Prelude.{◌≡◌, ℕ, ◌+◌, ◌-◌, ◌^◌, List, [], ◌∷◌, length, Option, Some, None, slice_get, nat_lt, nat_eq, if◌then◌else◌}
use Rattle.std.specs.Option.{unwrap_or}

-- the id of each clause from its source, where so many have one before; 0 for a learned clause
abbrev pub ids_from : ℕ → List (Option (List ℕ)) → List ℕ
ids_from k [] = []
ids_from k (None ∷ sources) = (k + 1) ∷ ids_from (k + 1) sources
ids_from k (Some hints ∷ sources) = 0 ∷ ids_from k sources

-- how many of the clauses were added
abbrev pub count_added : List (Option (List ℕ)) → ℕ
count_added [] = 0
count_added (None ∷ sources) = count_added sources + 1
count_added (Some hints ∷ sources) = count_added sources

-- what a log keeps beside the sources
abbrev pub AreCounted : List (Option (List ℕ)) → List ℕ → ℕ → Type 0
AreCounted sources ids added = (ids ≡ ids_from 0 sources) × (added ≡ count_added sources)

-- the id of the unit at a place
abbrev pub unit_id : ℕ → ℕ → ℕ → ℕ
unit_id added units place =
    if nat_lt place units then (if nat_lt units (2 ^ 60) then (if nat_lt added (2 ^ 60) then added + place + 1 else 0) else 0) else 0

-- the id that a clause has from the first on
abbrev pub given_id : List ℕ → ℕ → ℕ → ℕ → ℕ
given_id given added units n =
    if nat_eq n 0 then 0 else (if nat_lt (n - 1) (length given) then unwrap_or (slice_get given (n - 1)) 0 else unit_id added units (n - 1 - length given))
