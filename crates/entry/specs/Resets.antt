-- Whether a literal of a latch is in the initial cube, by the latch's reset (scaffolding).
use Rattle.std.specs.Prelude.{Bool, false, not, Option, Some, None}
use Rattle.aig_semantics.specs.declared.parts.Latch.{Latch}
use Rattle.aig_semantics.specs.declared.parts.Reset.{Reset}
use Rattle.aig_semantics.specs.declared.parts.Reset.TheVariants.{Zero, One, Free}

abbrev pub is_reset_to : Reset → Bool → Bool
is_reset_to Zero value = not value
is_reset_to One value = value
is_reset_to Free value = false

abbrev pub is_reset_at : Option Latch → Bool → Bool
is_reset_at None value = false
is_reset_at (Some latch) value = is_reset_to latch.reset value
