-- What a write adds to the bytes that a sink took.
use Rattle.std.specs.Prelude.{ℕ, zero, suc, ◌≡◌, ◌<◌, Bool, true, false, List, Option, Some, length, take, ◌++◌}
use Rattle.edge.specs.Told.{IfTold}

-- where a sink told what it took, it now tells that and then these bytes
abbrev pub Adds : Option (List ℕ) → Option (List ℕ) → List ℕ → Type 0
Adds old new bytes = IfTold old (λ taken. new ≡ Some (taken ++ bytes))

-- the same of a proper prefix of these bytes
abbrev pub AddsPart : Option (List ℕ) → Option (List ℕ) → List ℕ → Type 0
AddsPart old new bytes = (k : ℕ) × (k < length bytes) × Adds old new (take k bytes)

-- Which writes lead from one state of a sink to another, where `Write old failed new` says that one write does, which
-- failed or did not.

-- so many writes, none of which failed
abbrev pub GoodWrites : {Sink : Type 0} → (Sink → Bool → Sink → Type 0) → ℕ → Sink → Sink → Type 0
GoodWrites Write zero old new = new ≡ old
GoodWrites Write (suc n) old new = (mid : _) × GoodWrites Write n old mid × Write mid false new

-- writes of which the last one failed, or none did
abbrev pub Writes : {Sink : Type 0} → (Sink → Bool → Sink → Type 0) → Bool → Sink → Sink → Type 0
Writes Write false old new = (n : ℕ) × GoodWrites Write n old new
Writes Write true old new = (n : ℕ) × (last : _) × GoodWrites Write n old last × Write last true new
