-- The slice has a fair lasso exactly where the circuit has one of the property.
use Rattle.std.specs.Prelude.{ℕ, ◌<◌, ◌↔◌, Bool, length}
use Rattle.aig_semantics.specs.Circuits.{Circuit}
use Rattle.aig_semantics.specs.Valuations.{HasOneValuation}
use Rattle.cone.specs.Cones.{IsClosed}
use Rattle.live_to_safe.specs.BadRuns.{HasFairLasso}
use Rattle.slice.specs.Slicing.{sliced_circuit}
use Rattle.slice.proofs.Running.{from_circuit}
use Rattle.slice.proofs.Laps.{from_slice}

pub exact : (c : Circuit) (j : ℕ) (set : ℕ → Bool) → IsClosed c j set → HasOneValuation c → HasOneValuation (sliced_circuit c j set) → j < length c.justice
    → HasFairLasso (sliced_circuit c j set) 0 ↔ HasFairLasso c j
exact c j set closed one other property = (from_slice c j set closed one other property, from_circuit c j set closed one other)
