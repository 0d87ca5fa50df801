-- When a property has a monitor, and why it has none.
use Rattle.std.specs.Prelude.{◌≡◌, ℕ, ◌≤◌, ◌<◌, length}
use Rattle.aig_semantics.specs.declared.limits.TheConstants.{MAX_VARIABLE}
use Rattle.aig_semantics.specs.Circuits.{Circuit}
use Rattle.live_to_safe.specs.declared.ends.TranslateEnd.{TranslateEnd}
use Rattle.live_to_safe.specs.declared.ends.TranslateEnd.TheVariants.{NoProperty, TooLarge, Memory}
use Rattle.round_monitor.specs.Numbers.{sizes_of, greatest}

-- the circuit has property j, and the monitor's greatest variable is within the limit
pub record IsMonitorable (c : Circuit) (j k : ℕ) : Type 0 where
  pub property : j < length c.justice
  pub size : greatest (sizes_of c j k) ≤ MAX_VARIABLE

-- the property is there, and the monitor's greatest variable is above the limit
pub record IsTooLarge (c : Circuit) (j k : ℕ) : Type 0 where
  pub property : j < length c.justice
  pub size : MAX_VARIABLE < greatest (sizes_of c j k)

-- why there is no monitor; only memory is wanted where there could be one
abbrev pub EndsBy : Circuit → ℕ → ℕ → TranslateEnd → Type 0
EndsBy c j k (NoProperty n) = (n ≡ j) × (length c.justice ≤ j)
EndsBy c j k (TooLarge n) = (n ≡ greatest (sizes_of c j k)) × IsTooLarge c j k
EndsBy c j k Memory = IsMonitorable c j k
