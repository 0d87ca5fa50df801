-- The lists of clauses that watch a literal.
use Rattle.std.specs.Prelude.{◌≡◌, ℕ, suc, ◌<◌, List, [], length, slice_get, Option, None, Some, ◌⊎◌}
use Rattle.std.specs.Global.{Vec}
use Rattle.proof_semantics.specs.declared.literals.Lit.{Lit}
use Rattle.packed_literals.specs.Packing.{code_of}
use Rattle.packed_literals.specs.declared.lists.Lists.{Lists}

-- the list has the number somewhere
abbrev pub IsIn : List ℕ → ℕ → Type 0
IsIn list n = (place : ℕ) × (slice_get list place ≡ Some n)

-- The list without what stands at a place: what stands before it stays there, and the rest in some order.
pub record IsWithout (list : List ℕ) (place : ℕ) (rest : List ℕ) : Type 0 where
  pub shorter : suc (length rest) ≡ length list
  pub below : (j : ℕ) → j < place → slice_get rest j ≡ slice_get list j
  pub kept : (n : ℕ) → IsIn list n → (slice_get list place ≡ Some n) ⊎ IsIn rest n
  pub only : (n : ℕ) → IsIn rest n → IsIn list n

abbrev pub items_of : Option (Vec ℕ) → List ℕ
items_of None = []
items_of (Some list) = list.items

-- the list at a place; an empty one past the end
abbrev pub list_at : List (Vec ℕ) → ℕ → List ℕ
list_at rows n = items_of (slice_get rows n)

-- the list of a literal
abbrev pub list_for : Lists → Lit → List ℕ
list_for lists a = list_at lists.rows.items (code_of a)
