-- The search for an order in which gates can be evaluated (scaffolding).
use Rattle.std.specs.Prelude.{◌≡◌, ◌≢◌, ℕ, suc, ◌+◌, ◌<◌, Bool, true, false, ◌&&◌, nat_lt, List, [], ◌∷◌, drop, length, slice_index_or, count_by}
use Rattle.std.specs.List.{All, AllPairs, Contains}
use Rattle.aig_semantics.specs.declared.parts.Gate.{Gate}
use Rattle.aig_semantics.specs.Literals.{variable_of}
use Rattle.aig_semantics.specs.Circuits.{Circuit, IsOnCycle}
use Rattle.circuit.specs.declared.ordering.Progress.{Progress}
use Rattle.circuit.specs.declared.ordering.Progress.TheVariants.{NoGate, Waiting, Open, Done}
use Rattle.circuit.specs.declared.ordering.Next.{Next}
use Rattle.circuit.specs.declared.ordering.Next.TheVariants.{Begin, Close, Cycle}
use Rattle.circuit.specs.declared.ordering.Ordered.{Ordered}
use Rattle.circuit.specs.declared.ordering.Order.{Order}
use Rattle.circuit.specs.declared.ordering.Order.TheVariants.{Given, Listed}
use Rattle.circuit.specs.declared.ordering.Ordered.TheVariants.{Order as InOrder, Cycle as OnCycle}
use Rattle.circuit.specs.declared.parts.Parts.{Parts}
use Rattle.circuit.specs.Sections.{circuit_of}
use Rattle.circuit.specs.Orders.{HasRightSide, variables_of, IsEvaluationOrder}

abbrev pub progress_at : List Progress → ℕ → Progress
progress_at progress v = slice_index_or progress v NoGate

-- nothing is left to be done for a variable
abbrev pub is_settled : Progress → Bool
is_settled NoGate = true
is_settled (Waiting k) = false
is_settled Open = false
is_settled Done = true

abbrev pub AreSettled : List Progress → Gate → Type 0
AreSettled progress gate =
    (is_settled (progress_at progress (variable_of gate.rhs0)) ≡ true) × (is_settled (progress_at progress (variable_of gate.rhs1)) ≡ true)

-- what comes next at a gate
abbrev pub IsNext : List Progress → Gate → Next → Type 0
IsNext progress gate (Begin k) = (w : ℕ) × HasRightSide gate w × (progress_at progress w ≡ Waiting k)
IsNext progress gate Close = AreSettled progress gate
IsNext progress gate (Cycle w) = HasRightSide gate w × (progress_at progress w ≡ Open)

-- what the search knows of a variable
abbrev pub Tells : List Gate → List Gate → List Gate → ℕ → Progress → Type 0
Tells gates path order v NoGate = Contains (variables_of gates) v → ⊥
Tells gates path order v (Waiting k) = (k < length gates) × (slice_index_or (variables_of gates) k 0 ≡ v)
Tells gates path order v Open = Contains (variables_of path) v
Tells gates path order v Done = Contains (variables_of order) v

-- a gate that is not in the order
abbrev pub is_pending : Progress → Bool
is_pending NoGate = false
is_pending (Waiting k) = true
is_pending Open = true
is_pending Done = false

-- what holds while an order is sought
pub record IsSearch (c : Circuit) (progress : List Progress) (path order : List Gate) : Type 0 where
  pub size : length progress ≡ c.max + 1
  pub tells : (v : ℕ) → Tells c.gates path order v (progress_at progress v)
  pub path_members : All (λ gate. Contains c.gates gate) path
  pub path_open : All (λ gate. progress_at progress gate.var ≡ Open) path
  pub path_apart : AllPairs (λ v w. v ≢ w) (variables_of path)
  pub path_reads : (k : ℕ) (d : Gate) → suc k < length path → HasRightSide (slice_index_or path k d) (slice_index_or path (suc k) d).var
  pub order_members : All (λ gate. Contains c.gates gate) order
  pub order_settled : All (AreSettled progress) order
  pub order_after : (k : ℕ) (d : Gate) → k < length order → (w : ℕ) → HasRightSide (slice_index_or order k d) w → Contains (variables_of (drop k order)) w → ⊥
  pub counted : count_by is_pending progress + length order ≡ length c.gates

-- whether a gate waits to be begun
abbrev pub is_waiting : Progress → Bool
is_waiting NoGate = false
is_waiting (Waiting k) = true
is_waiting Open = false
is_waiting Done = false

-- no gate that was begun waits again
abbrev pub KeepsBegun : List Progress → List Progress → Type 0
KeepsBegun old new = (v : ℕ) → is_waiting (progress_at old v) ≡ false → is_waiting (progress_at new v) ≡ false

-- the gate reads lower variables alone
abbrev pub reads_below : Gate → Bool
reads_below gate = nat_lt (variable_of gate.rhs0) gate.var && nat_lt (variable_of gate.rhs1) gate.var

-- the variables of the gates ascend from above this one, and each gate reads lower ones alone
abbrev pub ascend_from : ℕ → List Gate → Bool
ascend_from last [] = true
ascend_from last (gate ∷ gates) = nat_lt last gate.var && reads_below gate && ascend_from gate.var gates

-- these gates in an order
abbrev pub gates_in : List Gate → Order → List Gate
gates_in gates Given = gates
gates_in gates (Listed order) = order.items

-- what a search for an order comes to
abbrev pub IsOrdered : Parts → Ordered → Type 0
IsOrdered parts (InOrder order) = IsEvaluationOrder parts.gates (gates_in parts.gates order)
IsOrdered parts (OnCycle v) = IsOnCycle (circuit_of parts) v
