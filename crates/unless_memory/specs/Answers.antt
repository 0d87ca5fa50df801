-- Answers, want of memory aside, for which `memory` stands.
use Rattle.std.specs.Prelude.{◌≡◌, ◌⊎◌}

-- the result is this answer
abbrev pub Gives : {T : Type 0} → T → T → T → Type 0
Gives memory answer result = (result ≡ answer) ⊎ (result ≡ memory)

-- the result is an answer of which this is so
abbrev pub GivesSome : {T : Type 0} → T → (T → Type 0) → T → Type 0
GivesSome memory P result = P result ⊎ (result ≡ memory)

-- the result is this answer exactly where the fact holds
pub record GivesExactlyWhere {T : Type 0} (memory answer : T) (P : Type 0) (result : T) : Type 0 where
  pub only : result ≡ answer → P
  pub whenever : P → Gives memory answer result

-- the result is one of these answers only where its fact holds, and is one of them wherever one of the facts holds
pub record GivesOneExactlyWhere {T X : Type 0} (memory : T) (answer : X → T) (P : X → Type 0) (result : T) : Type 0 where
  pub only : (x : X) → result ≡ answer x → P x
  pub whenever : (x : X) → P x → GivesSome memory (λ r. (y : X) × (r ≡ answer y)) result
