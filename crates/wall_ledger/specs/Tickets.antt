-- A lock that serves its turns in the order of tickets, after Lamport's bakery (1974): what it keeps, and what each of
-- its steps tells. The words are the ticket that is drawn next, the ticket that is served, and the front, which is the
-- size of the value under the lock. The slot has the value while no turn is held.
use Rattle.std.specs.Prelude.{◌≡◌, ◌≢◌, ℕ, suc, ◌+◌, ◌-◌, ◌<◌, ◌≤◌, Bool, true, false, List, [], ◌∷◌, ◌++◌, map, slice_set, Option, Some, None}
use mathlib.Core.Option as maybe
use mathlib.Core.Option.{some, none}
use lib.ListN.{get_elem?}
use Rattle.atomic_table.specs.Table.{State, Me, Step}
use Rattle.atomic_table.specs.declared.shared.Seat.{Seat}
use Rattle.wall_ledger.specs.declared.lock.Doing.{Doing}
use Rattle.wall_ledger.specs.declared.lock.Stage.{Stage}
use Rattle.wall_ledger.specs.declared.lock.Stage.TheVariants.{Idle, Waiting, Holding, Raised}

-- as many tickets are drawn in all, or fewer
abbrev pub most_tickets : ℕ
most_tickets = 274877906944

-- Where the lock stands: its words, whether a turn is held, the value that the turns so far have left, and which seat
-- drew which ticket.
pub record Plan (T : Type 0) : Type 0 where
  pub ticket : ℕ
  pub serving : ℕ
  pub front : ℕ
  pub busy : Bool
  pub value : T
  pub holder : ℕ → ℕ

-- the least ticket that still waits for its turn, if it is drawn
abbrev pub next_turn : Bool → ℕ → ℕ
next_turn true serving = suc serving
next_turn false serving = serving

-- the slot: empty while a turn is held
abbrev pub home_of : {T : Type 0} → Bool → T → List (maybe.Option (Option T))
home_of true value = none ∷ []
home_of false value = some (Some value) ∷ []

-- the tickets that these seats may still draw
abbrev pub budgets : {T V : Type 0} → List (Doing T V) → ℕ
budgets [] = 0
budgets (d ∷ ds) = d.budget + budgets ds

abbrev pub client : {T V : Type 0} → Doing T V → V
client d = d.client

-- What a seat knows of the lock. Whoever waits has a ticket of its own that was not served yet; whoever has the turn has
-- the ticket that is served.
module _ {T V : Type 0} (size : T → ℕ) (active : V → Type 0) (p : Plan T) (seat : ℕ) (v : V) where
  abbrev pub Knows : Stage T → Type 0
  Knows Idle = Unit {0}
  Knows (Waiting t) = (next_turn p.busy p.serving ≤ t) × (t < p.ticket) × (p.holder t ≡ seat) × active v
  Knows (Holding t x) =
      (p.busy ≡ true) × (t ≡ p.serving) × (p.holder t ≡ seat) × (x ≡ p.value) × (p.front ≡ size p.value)
  Knows (Raised t x) =
      (p.busy ≡ true) × (t ≡ p.serving) × (p.holder t ≡ seat) × (x ≡ p.value) × (p.front ≡ size p.value + 1)

-- the turn is held by a seat that does something
abbrev pub IsAtWork : {T : Type 0} → Stage T → Type 0
IsAtWork Idle = ⊥
IsAtWork (Waiting t) = ⊥
IsAtWork (Holding t x) = Unit {0}
IsAtWork (Raised t x) = Unit {0}

-- What the lock keeps at any time, beside what its user keeps of the number of turns, the value and what each seat knows.
pub record Queued {T V : Type 0} (size : T → ℕ) (active : V → Type 0) (holds : ℕ → T → List V → Type 0)
    (s : State (Option T) (Doing T V)) : Type 0 where
  pub plan : Plan T
  pub words : s.words ≡ plan.ticket ∷ plan.serving ∷ plan.front ∷ []
  pub homes : s.homes ≡ home_of plan.busy plan.value
  pub queue : next_turn plan.busy plan.serving ≤ plan.ticket
  pub room : plan.ticket + budgets s.views ≡ most_tickets
  pub at_front : plan.busy ≡ false → plan.front ≡ size plan.value
  pub seats : (i : ℕ) (d : Doing T V) → get_elem? s.views i ≡ some d → Knows size active plan i d.client d.stage
  pub at_work : plan.busy ≡ true → (d : Doing T V) × (get_elem? s.views (plan.holder plan.serving) ≡ some d)
      × IsAtWork d.stage × active d.client
  pub kept : holds plan.serving plan.value (map client s.views)

-- the ticket of a seat that has one
abbrev pub ticket_of : {T : Type 0} → Stage T → ℕ
ticket_of Idle = 0
ticket_of (Waiting t) = t
ticket_of (Holding t x) = t
ticket_of (Raised t x) = t

-- where a seat stands that has raised the front
abbrev pub raise_of : {T : Type 0} → Stage T → Stage T
raise_of Idle = Idle
raise_of (Waiting t) = Waiting t
raise_of (Holding t x) = Raised t x
raise_of (Raised t x) = Raised t x

module _ {T V : Type 0} where
  abbrev pub idle : ℕ → V → Doing T V
  idle budget v = record { stage = Idle; budget = budget; client = v }

  abbrev pub waiting : Doing T V → ℕ → Doing T V
  waiting d t = record { stage = Waiting t; budget = d.budget - 1; client = d.client }

  abbrev pub staged : Doing T V → Stage T → Doing T V
  staged d stage = record { stage = stage; budget = d.budget; client = d.client }

  -- the seat has drawn a ticket, and has the turn
  abbrev pub holding : Doing T V → ℕ → T → Doing T V
  holding d t x = record { stage = Holding t x; budget = d.budget - 1; client = d.client }

  -- what a seat's user knows
  abbrev pub view_of : Seat (Option T) (Doing T V) → V
  view_of s = s.me.0.client

  abbrev pub IsSameSeat : Seat (Option T) (Doing T V) → Seat (Option T) (Doing T V) → Type 0
  IsSameSeat s t = (t.table_id ≡ s.table_id) × (t.id ≡ s.id)

  -- the seat has no ticket and no slot
  abbrev pub IsIdle : Seat (Option T) (Doing T V) → Type 0
  IsIdle s = (s.me.0.stage ≡ Idle) × (s.me.1 ≡ [])

  -- the seat has the turn, and a value in its slot that is longer by one than the one that it found
  abbrev pub IsLonger : (T → ℕ) → Seat (Option T) (Doing T V) → Type 0
  IsLonger size s = (t : ℕ) × (x y : T) × (s.me.0.stage ≡ Holding t x) × (s.me.1 ≡ (0, Some y) ∷ [])
      × (size y ≡ size x + 1) × (size y < 18446744073709551616)

  -- ---- what each step tells

  abbrev pub drawn : Step (Option T) → Me (Option T) (Doing T V) → ℕ → Me (Option T) (Doing T V) → Type 0
  drawn st m n m' = (m' ≡ (waiting m.0 n, m.1)) × (n ≤ most_tickets)

  abbrev pub found : (ℕ → V → T → Type 0) → Step (Option T) → Me (Option T) (Doing T V) → ℕ → Me (Option T) (Doing T V) → Type 0
  found fact st m n m' = let t = ticket_of m.0.stage in
      (n ≡ t → (x : T) × (m' ≡ (staged m.0 (Holding t x), (0, Some x) ∷ m.1)) × fact t m.0.client x) × (n ≢ t → m' ≡ m)

  abbrev pub raised : Step (Option T) → Me (Option T) (Doing T V) → ℕ → Me (Option T) (Doing T V) → Type 0
  raised st m n m' = m' ≡ (staged m.0 (raise_of m.0.stage), m.1)

  abbrev pub passed : V → Step (Option T) → Me (Option T) (Doing T V) → ℕ → Me (Option T) (Doing T V) → Type 0
  passed after st m n m' = m' ≡ (idle m.0.budget after, [])

  abbrev pub learned : (V → V → Type 0) → Step (Option T) → Me (Option T) (Doing T V) → ℕ → Me (Option T) (Doing T V) → Type 0
  learned then st m n m' = (w : V) × then m.0.client w × (m' ≡ (record { stage = m.0.stage; budget = m.0.budget; client = w }, m.1))

-- ---- what the user of the lock shows of its own rule

module _ {T V : Type 0} (holds : ℕ → T → List V → Type 0) where
  -- what this seat knows of the value, when so many turns were taken
  abbrev pub Learns : ℕ → V → (ℕ → V → T → Type 0) → Type 0
  Learns seat v fact = (n : ℕ) (x : T) (views : List V) → holds n x views → get_elem? views seat ≡ some v → fact n v x

  -- a turn of this seat takes the value from x to y, and leaves the seat with `after`
  abbrev pub Turns : ℕ → V → ℕ → T → T → V → Type 0
  Turns seat v n x y after = (views : List V) → holds n x views → get_elem? views seat ≡ some v → holds (suc n) y (slice_set views seat after)

  -- the seat learns something of what it knows
  abbrev pub Sees : ℕ → V → (V → V → Type 0) → Type 0
  Sees seat v then = (n : ℕ) (x : T) (views : List V) → holds n x views → get_elem? views seat ≡ some v
      → (w : V) × holds n x (slice_set views seat w) × then v w

  abbrev pub Forks : ℕ → V → V → V → Type 0
  Forks seat v left right = (n : ℕ) (x : T) (views : List V) → holds n x views → get_elem? views seat ≡ some v
      → holds n x (slice_set views seat left ++ right ∷ [])

  abbrev pub Merges : ℕ → V → ℕ → V → V → V → Type 0
  Merges seat v other w both spent = (n : ℕ) (x : T) (views : List V) → holds n x views → get_elem? views seat ≡ some v
      → ¬ (other ≡ seat) → get_elem? (slice_set views seat both) other ≡ some w
      → holds n x (slice_set (slice_set views seat both) other spent)

  -- A seat with the turn hands in the value y, which is as long as the one that it found, or longer by one.
  abbrev pub IsLeaving : (T → ℕ) → V → T → Seat (Option T) (Doing T V) → Type 0
  IsLeaving size after y s = (t : ℕ) × (x : T) × (s.me.0.stage ≡ Holding t x) × (s.me.1 ≡ (0, None) ∷ [])
      × (size y ≡ size x) × Turns s.id s.me.0.client t x y after

  abbrev pub IsLeavingLonger : (T → ℕ) → V → T → Seat (Option T) (Doing T V) → Type 0
  IsLeavingLonger size after y s = (t : ℕ) × (x : T) × (s.me.0.stage ≡ Holding t x) × (s.me.1 ≡ (0, None) ∷ [])
      × (size y ≡ size x + 1) × (size y < 18446744073709551616) × Turns s.id s.me.0.client t x y after

  -- no other seat may have the turn
  abbrev pub IsAlone : (V → Type 0) → ℕ → V → Type 0
  IsAlone active seat v = (n : ℕ) (x : T) (views : List V) → holds n x views → get_elem? views seat ≡ some v
      → (i : ℕ) (w : V) → get_elem? views i ≡ some w → active w → i ≡ seat

  -- the last value, after so many turns, and what the seats knew
  abbrev pub IsLast : ℕ → V → T → Type 0
  IsLast seat v x = (n : ℕ) × (views : List V) × holds n x views × (get_elem? views seat ≡ some v)
