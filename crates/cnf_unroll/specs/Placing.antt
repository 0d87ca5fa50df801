-- Scaffolding of inner functions. The numbers that a place stands for.
use Rattle.std.specs.Prelude.{ℕ, ◌+◌, ◌^◌, ◌<◌, List, map}
use Rattle.std.specs.List.{All}
use Rattle.cnf_unroll.specs.declared.places.Place.TheInside.{Inside}

abbrev pub numbers_of : Inside → List ℕ
numbers_of p = map (λ latch. p.start + latch.var) p.latches.now

-- so that each of them is below 2^64
abbrev pub IsNumberedLow : Inside → Type 0
IsNumberedLow p = (p.start < 2 ^ 63) × All (λ latch. latch.var < 2 ^ 32) p.latches.now
