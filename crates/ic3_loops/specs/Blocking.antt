-- What blocking keeps (scaffolding): obligations, cubes of states from which the goal is reached, each with a level at
-- which one of its states is to be excluded (IC3: Bradley, 2011).
use Rattle.std.specs.Prelude.{◌≡◌, ℕ, ◌+◌, ◌-◌, ◌<◌, ◌≤◌, Bool, true, false, List, [], ◌∷◌, ◌++◌, length, slice_index_or, Option, Some, None}
use Rattle.std.specs.List.{All, sum_by, insert}
use Rattle.aig_semantics.specs.declared.traces.Position.{Position}
use Rattle.aig_semantics.specs.Runs.{position_of, successor, MeetsConstraints}
use Rattle.aig_semantics.specs.Circuits.{Circuit}
use Rattle.proof_semantics.specs.declared.literals.Lit.{Lit}
use Rattle.proof_semantics.specs.Clauses.{cube_value, values_of, is_part}
use Rattle.ic3_frames.specs.Frames.{frame_at}
use Rattle.ic3_frames.specs.Room.{room, allowed_by}
use Rattle.ic3_semantics.specs.declared.questions.Goal.{Goal}
use Rattle.ic3_semantics.specs.declared.questions.Goal.TheVariants as goals
use Rattle.ic3_loops.specs.declared.obligations.Node.{Node}
use Rattle.ic3_loops.specs.declared.obligations.Way.{Way}
use Rattle.ic3_loops.specs.declared.obligations.Way.TheVariants as ways
use Rattle.ic3_loops.specs.declared.obligations.Lifted.{Lifted}
use Rattle.ic3_loops.specs.declared.obligations.Obligation.{Obligation}
use Rattle.ic3_loops.specs.declared.obligations.Obligations.{Obligations}
use Rattle.ic3_loops.specs.declared.blocking.Blocked.{Blocked}
use Rattle.ic3_loops.specs.declared.blocking.Blocked.TheVariants.{Path, Missed, More}
use Rattle.ic3_loops.specs.declared.blocking.ConsecutionEnd.{ConsecutionEnd}
use Rattle.ic3_loops.specs.declared.blocking.ConsecutionEnd.TheVariants.{Start, Before, Excluded}
use Rattle.ic3_semantics.specs.Searching.{Question, IsPath, Leads, MeetsLiteral, Misses}
use Rattle.ic3_semantics.specs.Stepping.{Stepping, IsArenaStep, IsPredecessor, MeetsFrom}
use Rattle.ic3_generalise.specs.Cubes.{value_literals}
use Rattle.ic3_loops.specs.Lifting.{IsLifted, IsGoalLifted}

-- The positions lead from the state to the goal.
abbrev pub LeadsOn : Question → Goal → List Bool → List Position → Type 0
LeadsOn q (goals.State to) s positions = Leads q s positions to.now
LeadsOn q (goals.Literal literal avoid) s positions =
    (before : List Position) × (last : Position) × (positions ≡ before ++ last ∷ []) × MeetsLiteral q literal avoid.now last
    × Leads q s positions (successor q.circuit last)

-- ---- nodes

abbrev pub way_state : Way → List Bool
way_state (ways.Goal s) = s
way_state (ways.Last p) = p.latches
way_state (ways.Step p next) = p.latches

abbrev pub node_state : Node → List Bool
node_state n = way_state n.way

abbrev pub node_at : List Node → ℕ → Node
node_at ns k = slice_index_or ns k (record { cube = []; way = ways.Goal [] })

abbrev pub state_at : List Node → ℕ → List Bool
state_at ns k = node_state (node_at ns k)

abbrev pub cube_at : List Node → ℕ → List Lit
cube_at ns k = (node_at ns k).cube

-- A position that meets the literal as goal, and a cube in all of whose states its inputs do.
abbrev pub IsLastOf : Question → Goal → Position → List Lit → Type 0
IsLastOf q (goals.State to) p cube = ⊥
IsLastOf q (goals.Literal literal avoid) p cube =
    MeetsLiteral q literal avoid.now p × IsGoalLifted q.circuit q.view q.start avoid.now literal p cube

-- How states of a cube, behind the first k nodes, lead to the goal: the one state does; the inputs of a position do; or
-- those of a step of the arena lead into the cube of one of the k nodes.
abbrev pub IsWayTo : Question → Goal → ℕ → List Node → List Lit → Way → Type 0
IsWayTo q goal k ns cube (ways.Goal s) = LeadsOn q goal s [] × (cube ≡ value_literals 0 s)
IsWayTo q goal k ns cube (ways.Last p) = IsLastOf q goal p cube
IsWayTo q goal k ns cube (ways.Step p next) =
    (next < k) × IsArenaStep q p × (cube_value (values_of (successor q.circuit p)) (cube_at ns next) ≡ true)
    × IsLifted q.circuit p (cube_at ns next) [] cube

-- The node, behind the first k of these: its state has a value for each latch and lies in its cube, the states of which
-- lead to the goal.
pub record IsNode (q : Question) (goal : Goal) (k : ℕ) (ns : List Node) (n : Node) : Type 0 where
  pub size : length (node_state n) ≡ length q.circuit.latches
  pub part : is_part n.cube (value_literals 0 (node_state n)) ≡ true
  pub way : IsWayTo q goal k ns n.cube n.way

-- each node is one behind those before it
abbrev pub AreNodes : Question → Goal → List Node → Type 0
AreNodes q goal ns = (k : ℕ) (d : Node) → k < length ns → IsNode q goal k ns (slice_index_or ns k d)

-- ---- the queue

-- An obligation of one of so many nodes, for a level up to the last.
pub record IsDue (count top : ℕ) (o : Obligation) : Type 0 where
  pub node : o.node < count
  pub level : o.level ≤ top

-- An obligation whose frame allows its state.
pub record IsOpen (top : ℕ) (levels : List (List (List Lit))) (ns : List Node) (o : Obligation) : Type 0 where
  pub due : IsDue (length ns) top o
  pub frame : allowed_by (frame_at levels o.level) (state_at ns o.node) ≡ true

pub record AreObligations (q : Question) (goal : Goal) (top : ℕ) (obligations : Obligations) : Type 0 where
  pub nodes : AreNodes q goal obligations.nodes.items
  pub due : All (IsDue (length obligations.nodes.items) top) obligations.queue.items

-- the levels from that of an obligation up to the last
abbrev pub left_above : ℕ → Obligation → ℕ
left_above top o = (top + 1) - o.level

abbrev pub levels_left : ℕ → List Obligation → ℕ
levels_left top queue = sum_by (left_above top) queue

-- the obligation was put in at some place
pub record IsPutIn (o : Obligation) (old new : List Obligation) : Type 0 where
  pub place : ℕ
  pub is : new ≡ insert old place o

-- ---- where they begin

-- the goal state as node, where the frame allows it
abbrev pub IsStateFirst : List Bool → List (List Lit) → Option Node → Type 0
IsStateFirst to frame (Some node) =
    (node ≡ record { cube = value_literals 0 to; way = ways.Goal to }) × (allowed_by frame to ≡ true)
IsStateFirst to frame None = allowed_by frame to ≡ false

-- a position that meets the literal as node, with a cube
abbrev pub IsLastFirst : Stepping → ℕ → ℕ → Node → Type 0
IsLastFirst st top literal node =
    (p : Position) × (node.way ≡ ways.Last p) × MeetsFrom st top literal p
    × IsGoalLifted st.question.circuit st.question.view st.question.start st.avoid literal p node.cube

-- such a one, if the frame allows one
abbrev pub IsLiteralFirst : Stepping → ℕ → ℕ → Option Node → Type 0
IsLiteralFirst st top literal (Some node) = IsLastFirst st top literal node
IsLiteralFirst st top literal None = (p : Position) → MeetsFrom st top literal p → ⊥

-- a node that leads to the goal by itself, and that the last frame allows, or there is none
abbrev pub IsFirst : Question → Goal → List (List (List Lit)) → ℕ → Option Node → Type 0
IsFirst q goal levels top (Some node) =
    ((k : ℕ) (ns : List Node) → IsNode q goal k ns node) × (allowed_by (frame_at levels top) (node_state node) ≡ true)
IsFirst q goal levels top None = Misses q goal (allowed_by (frame_at levels top))

-- an obligation whose frame allows its state, or the last frame has no state of the goal
abbrev pub IsNext : Question → Goal → ℕ → List (List (List Lit)) → List Node → Option Obligation → Type 0
IsNext q goal top levels ns (Some o) = IsOpen top levels ns o
IsNext q goal top levels ns None = Misses q goal (allowed_by (frame_at levels top))

-- ---- ways that are gone again

-- constraints are true where a state goes on by the inputs of a way
abbrev pub CanGo : Circuit → Way → List Bool → Type 0
CanGo c (ways.Goal to) s = Unit {0}
CanGo c (ways.Last p) s = MeetsConstraints c (position_of s p.inputs)
CanGo c (ways.Step p k) s = MeetsConstraints c (position_of s p.inputs)

-- One node further on a way: by its inputs, from a state of its cube.
abbrev pub IsGoneAlong : Circuit → Way → List Bool → List Bool → List Position → List Position → Option ℕ → Type 0
IsGoneAlong c (ways.Goal to) s t old new next = (next ≡ None) × (t ≡ s) × (new ≡ old)
IsGoneAlong c (ways.Last p) s t old new next =
    let x : Position = position_of s p.inputs in (next ≡ None) × (t ≡ successor c x) × (new ≡ old ++ x ∷ [])
IsGoneAlong c (ways.Step p k) s t old new next =
    let x : Position = position_of s p.inputs in (next ≡ Some k) × (t ≡ successor c x) × (new ≡ old ++ x ∷ [])

-- ---- what becomes of one

-- A step into this cube, from a state of the frame of a level, lifted.
pub record IsBefore (q : Question) (levels : List (List (List Lit))) (level : ℕ) (cube : List Lit) (l : Lifted) : Type 0 where
  pub arena : IsArenaStep q l.position
  pub inside : cube_value (values_of (successor q.circuit l.position)) cube ≡ true
  pub frame : allowed_by (frame_at levels level) l.position.latches ≡ true
  pub lifted : IsLifted q.circuit l.position cube [] l.cube

-- the frames above a level are as before, and there is less room
pub record IsStronger (n : ℕ) (level : ℕ) (old new : List (List (List Lit))) : Type 0 where
  pub above : (k : ℕ) → level < k → frame_at new k ≡ frame_at old k
  pub room : room n new + 1 ≤ room n old

-- A step into the cube from the frame of this level, or there is less room.
abbrev pub TellsConsecution : Question → List (List (List Lit)) → List (List (List Lit)) → ℕ → List Lit → Option Lifted → Type 0
TellsConsecution q old new below cube (Some l) = IsBefore q new below cube l × (new ≡ old)
TellsConsecution q old new below cube None = room (length q.circuit.latches) new + 1 ≤ room (length q.circuit.latches) old

-- the node and the obligation of a step before an obligation
abbrev pub IsKeptWith : List Node → List Node → Obligation → ℕ → Option Lifted → ConsecutionEnd → Type 0
IsKeptWith old new at below (Some l) outcome =
    (new ≡ old ++ record { cube = l.cube; way = ways.Step l.position at.node } ∷ []) × (outcome ≡ Before (record { node = length old; level = below }))
IsKeptWith old new at below None outcome = (new ≡ old) × (outcome ≡ Excluded)

-- One level down from an obligation: its state is a start; there is one of a lower level, over the same frames; or there
-- is less room.
abbrev pub IsBlockedAt : ℕ → ℕ → List Lit → List (List (List Lit)) → List (List (List Lit)) → List Node → Obligation → ConsecutionEnd → Type 0
IsBlockedAt n top starts old new ns at Start = (at.node < length ns) × (cube_value (values_of (state_at ns at.node)) starts ≡ true)
IsBlockedAt n top starts old new ns at (Before b) = IsOpen top new ns b × (b.level < at.level) × (new ≡ old)
IsBlockedAt n top starts old new ns at Excluded = room n new + 1 ≤ room n old

-- the node of a start, or there is less room
abbrev pub IsChained : ℕ → List Lit → List (List (List Lit)) → List (List (List Lit)) → List Node → Option ℕ → Type 0
IsChained n starts old new ns (Some first) = (first < length ns) × (cube_value (values_of (state_at ns first)) starts ≡ true)
IsChained n starts old new ns None = room n new + 1 ≤ room n old

-- What blocking an obligation comes to: a path; no state of the goal is left in the last frame; or there is less room.
abbrev pub IsBlockedNext : Question → Goal → ℕ → List (List (List Lit)) → List (List (List Lit)) → Blocked → Type 0
IsBlockedNext q goal top old new (Path positions) = IsPath q goal positions
IsBlockedNext q goal top old new Missed = Misses q goal (allowed_by (frame_at new top))
IsBlockedNext q goal top old new More = room (length q.circuit.latches) new + 1 ≤ room (length q.circuit.latches) old

-- ---- lemmas against a state

-- no arena step from the frame of the level leads into the cube from outside it
abbrev pub NoneEnters : Stepping → ℕ → List Lit → Type 0
NoneEnters st level cube = (p : Position) → IsPredecessor st level cube p → ⊥
