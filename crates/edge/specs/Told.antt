-- What an object tells of its bytes: all of them, or nothing.
use Rattle.std.specs.Prelude.{◌≡◌, ℕ, List, Option}
use Rattle.std.specs.Option.{ForSome}

-- P of the bytes, where they are told
abbrev pub IfTold : Option (List ℕ) → (List ℕ → Type 0) → Type 0
IfTold told P = ForSome told P

-- these may be the bytes: they are, where the bytes are told
abbrev pub MayBe : Option (List ℕ) → List ℕ → Type 0
MayBe told bytes = IfTold told (λ text. text ≡ bytes)
