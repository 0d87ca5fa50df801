-- When a property is translated, and why it is not.
use Rattle.std.specs.Prelude.{◌≡◌, ℕ, ◌≤◌, ◌<◌, length}
use Rattle.aig_semantics.specs.declared.limits.TheConstants.{MAX_VARIABLE}
use Rattle.aig_semantics.specs.Circuits.{Circuit}
use Rattle.live_to_safe.specs.declared.ends.TranslateEnd.{TranslateEnd}
use Rattle.live_to_safe.specs.declared.ends.TranslateEnd.TheVariants.{NoProperty, TooLarge, Memory}
use Rattle.live_to_safe.specs.Numbers.{sizes_of, greatest}

-- the circuit has property j, and the translation's greatest variable is within the limit
pub record IsTranslatable (c : Circuit) (j : ℕ) : Type 0 where
  pub property : j < length c.justice
  pub size : greatest (sizes_of c j) ≤ MAX_VARIABLE

-- the property is there, and the translation's greatest variable is above the limit
pub record IsTooLarge (c : Circuit) (j : ℕ) : Type 0 where
  pub property : j < length c.justice
  pub size : MAX_VARIABLE < greatest (sizes_of c j)

-- why there is no translation; only memory is wanted where there could be one
abbrev pub EndsBy : Circuit → ℕ → TranslateEnd → Type 0
EndsBy c j (NoProperty n) = (n ≡ j) × (length c.justice ≤ j)
EndsBy c j (TooLarge n) = (n ≡ greatest (sizes_of c j)) × IsTooLarge c j
EndsBy c j Memory = IsTranslatable c j
