-- Scaffolding of inner functions: numbers that are reached through nodes, each of which leads to smaller numbers.
use Rattle.std.specs.Prelude.{◌≡◌, ◌<◌, ◌≤◌, ◌+◌, ◌⊎◌, ◌↔◌, ℕ, Bool, true, List, [], ◌∷◌}
use Rattle.std.specs.List.{All, Any, Contains}
use Rattle.std.specs.Ordering.{nat_cmp}
use Rattle.std.specs.BTreeSet.{contains}
use Rattle.cert_tools.specs.declared.reaching.Node.{Node}
use Rattle.cert_tools.specs.declared.reaching.Numbers.{Numbers}
use Rattle.cert_tools.specs.Kept.{Reaches}

-- the number is one of the set
abbrev pub is_in : Numbers → ℕ → Bool
is_in numbers n = contains nat_cmp numbers.set n

-- the set has these numbers more, and no others
abbrev pub HasMore : Numbers → List ℕ → Numbers → Type 0
HasMore old more new = (n : ℕ) → (is_in new n ≡ true) ↔ (Contains more n ⊎ (is_in old n ≡ true))

-- a node with the number v leads to w
abbrev pub Links : List Node → ℕ → ℕ → Type 0
Links nodes v w = Any (λ n. (n.number ≡ v) × Contains n.further w) nodes

-- the numbers of the nodes ascend, from this one on, and each node leads to smaller ones
abbrev pub LeadDown : ℕ → List Node → Type 0
LeadDown least [] = Unit {0}
LeadDown least (n ∷ nodes) = (least ≤ n.number) × All (λ w. w < n.number) n.further × LeadDown (n.number + 1) nodes

-- one of these numbers reaches it
abbrev pub IsReachedFrom : List Node → List ℕ → ℕ → Type 0
IsReachedFrom nodes from w = Any (λ v. Reaches (Links nodes) v w) from

-- where the node's number is in the set, what it leads to is there too
abbrev pub IsFollowed : Numbers → Node → Type 0
IsFollowed numbers node = is_in numbers node.number ≡ true → (w : ℕ) → Contains node.further w → is_in numbers w ≡ true

-- what is put into the set for the node
abbrev pub Follows : Numbers → Node → Numbers → Type 0
Follows old node new =
    ((is_in old node.number ≡ true) × HasMore old node.further new)
    ⊎ ((is_in old node.number ≡ true → ⊥) × ((n : ℕ) → is_in new n ≡ is_in old n))

-- each of them is followed
abbrev pub AreFollowed : Numbers → List Node → Type 0
AreFollowed numbers [] = Unit {0}
AreFollowed numbers (n ∷ nodes) = IsFollowed numbers n × AreFollowed numbers nodes

-- The set has all of these numbers, only such as they reach, and is followed from this node on.
pub record IsMarked (nodes : List Node) (from : List ℕ) (numbers : Numbers) (rest : List Node) : Type 0 where
  pub begun : (n : ℕ) → Contains from n → is_in numbers n ≡ true
  pub sound : (n : ℕ) → is_in numbers n ≡ true → IsReachedFrom nodes from n
  pub followed : AreFollowed numbers rest
