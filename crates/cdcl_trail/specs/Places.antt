-- What is told of variables, by what is told of their numbers.
use Rattle.std.specs.Prelude.{ℕ, Option, None, Some}
use Rattle.packed_literals.specs.Naming.{place_among}
use Rattle.packed_literals.specs.DenseOf as dense
use Rattle.cdcl_trail.specs.declared.places.Places.{Places}

abbrev pub told_by : (ℕ → Option ℕ) → Option ℕ → Option ℕ
told_by place None = None
told_by place (Some number) = place number

-- the place that is told of a variable
abbrev pub told : Places → ℕ → Option ℕ
told places var = told_by (dense.told places.numbered.now) (place_among places.names.now var)
