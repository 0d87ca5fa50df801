-- Variables of latches are small.
use Rattle.std.proofs.Common.{◌≡◌, ◌≤◌, ◌<◌, ◌^◌, ℕ, get_or, subst, arith, Option, Some, None}
use Rattle.std.specs.Prelude.{slice_get}
use Rattle.std.proofs.lemmas.Option.{slice_get_within, get_or_from_slice_get}
use Rattle.aig_semantics.specs.declared.parts.Latch.{Latch}
use Rattle.aig_semantics.specs.Circuits.{Circuit, IsChecked, IsWithinLimits}
use Rattle.circuit.proofs.Evaluated.{latches_in_range}
use Rattle.certificate_texts.specs.Writing.{variable_of_latch}

module _ (c : Circuit) (checked : IsChecked c) (limits : IsWithinLimits c) where
  pub variable_small : (o : Option Latch) (v : ℕ) → slice_get c.latches v ≡ o → variable_of_latch o < 2 ^ 32
  variable_small None v at = omega arith
  variable_small (Some latch) v at =
      let range = latches_in_range c checked v latch (slice_get_within c.latches v latch at) in
      let same : get_or c.latches v latch ≡ latch = get_or_from_slice_get c.latches v latch latch at in
      let most : latch.var ≤ c.max = subst (λ (l : Latch). l.var ≤ c.max) same range.1 in
      let limit = limits.max in
      omega (arith, most, limit)
