-- States that are packed, and the first place of each (scaffolding).
use Rattle.std.specs.Prelude.{ℕ, ◌+◌, ◌*◌, ◌==◌, Bool, List, [], ◌∷◌, Option, if◌then◌else◌}
use Rattle.std.specs.Ordering.{nat_cmp}
use Rattle.std.specs.Cmp.Lexicographic.{slice_cmp}
use Rattle.std.specs.BTreeMap.{BTreeMap, get_by}
use Rattle.std.specs.declared.vec.Vec.{Vec}
use Rattle.std.specs.declared.alloc.Global.{Global}

-- a byte with one more value at its end
abbrev pub with_bit : ℕ → Bool → ℕ
with_bit byte value = 2 * byte + (if value then 1 else 0)

-- eight values a byte, where this many of the first byte are there already; the last byte has fewer than eight
abbrev pub packed_behind : ℕ → ℕ → List Bool → List ℕ
packed_behind byte count [] = byte ∷ []
packed_behind byte count (value ∷ values) =
    if count == 7 then with_bit byte value ∷ packed_behind 0 0 values else packed_behind (with_bit byte value) (count + 1) values

abbrev pub packed : List Bool → List ℕ
packed state = packed_behind 0 0 state

-- the place that is kept for a state
abbrev pub place_at : BTreeMap (Vec ℕ Global) ℕ → List ℕ → Option ℕ
place_at places key = get_by (λ k. slice_cmp nat_cmp key k.items) places
