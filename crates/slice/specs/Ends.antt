-- Why there is no slice.
use Rattle.std.specs.Prelude.{◌≡◌, ℕ, ◌≤◌, ◌<◌, length}
use Rattle.aig_semantics.specs.Circuits.{Circuit}
use Rattle.slice.specs.declared.ends.SliceEnd.{SliceEnd}
use Rattle.slice.specs.declared.ends.SliceEnd.TheVariants.{NoProperty, Memory}

-- the property is not there; only memory is wanted where it is
abbrev pub EndsBy : Circuit → ℕ → SliceEnd → Type 0
EndsBy c j (NoProperty n) = (n ≡ j) × (length c.justice ≤ j)
EndsBy c j Memory = j < length c.justice
