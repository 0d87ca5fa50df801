-- What a search keeps (scaffolding): the cube of its starts, and frames that are sound for the entries of its last question.
use Rattle.std.specs.Prelude.{◌≡◌, ◌+◌, ◌-◌, ◌≤◌, max, List, length}
use Rattle.aig_semantics.specs.Circuits.{Circuit}
use Rattle.proof_semantics.specs.declared.literals.Lit.{Lit}
use Rattle.edge.specs.Units.{Spendings}
use Rattle.fair_semantics.specs.Entries.{Entry}
use Rattle.entry.specs.Laws.{IsGoodList}
use Rattle.ic3_frames.specs.Room.{room}
use Rattle.ic3_semantics.specs.declared.questions.Start.{Start}
use Rattle.ic3_semantics.specs.declared.questions.Goal.{Goal}
use Rattle.ic3_loops.specs.Propagating.{Narrows}
use Rattle.std.specs.Arc.{arc_value}
use Rattle.entry.specs.CheckedEntries.{viewed}
use Rattle.ic3_semantics.specs.Searching.{Question, IsStart, IsGoal, CountsAtLeast}
use Rattle.ic3.specs.declared.asking_again.Search.TheInside.{Inside}
use Rattle.ic3_loops.specs.Resuming.{MayGoOn}
use Rattle.ic3.specs.Searches.{Searching}
use Rattle.ic3_loops.specs.Starting.{start_cube}

abbrev pub question_of : Circuit → List Entry → Start → Question
question_of c view start = record { circuit = c; view = view; start = start }

-- A good list of entries, a start of the circuit with its cube, and a goal of the circuit.
pub record IsPosed (c : Circuit) (entries : List Entry) (from : Start) (cube : List Lit) (to : Goal) : Type 0 where
  pub view : IsGoodList c entries
  pub start : IsStart c from
  pub starts : cube ≡ start_cube c from
  pub goal : IsGoal c to

-- Frames may go on; they exclude what they excluded, and are no fewer; each step that was counted left them less room, and
-- each frame that was opened beyond the first two was counted.
pub record GoesFurther (q : Question) (starts : List Lit) (before after : List (List (List Lit))) (a b : Spendings) : Type 0 where
  pub ready : MayGoOn q starts after
  pub narrows : Narrows before after
  pub more : length before ≤ length after
  pub paid : b.steps + room (length q.circuit.latches) after ≤ a.steps + room (length q.circuit.latches) before
  pub fewest : CountsAtLeast (length after - max 2 (length before)) a b

abbrev pub searching_in : Inside → Searching
searching_in s = record {
  circuit = arc_value s.circuit;
  start = s.start;
  view = viewed s.kept.seen;
  levels = s.kept.frames;
}

pub record IsKept (s : Inside) : Type 0 where
  pub start : IsStart (arc_value s.circuit) s.start
  pub starts : s.starts ≡ start_cube (arc_value s.circuit) s.start
  pub frames : MayGoOn (record { circuit = arc_value s.circuit; view = viewed s.kept.seen; start = s.start }) s.starts s.kept.frames
