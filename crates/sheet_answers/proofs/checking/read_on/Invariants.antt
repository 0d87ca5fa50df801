use Rattle.std.proofs.Common.{◌+◌, ◌-◌, ◌≤◌, false}
use Rattle.edge.specs.Faults.{NoneFell}
use Rattle.edge.specs.Reads.{KeepsTexts, Reads}
use Rattle.answer_lines.specs.Left.{most_bytes}
use Rattle.sheet_answers.specs.Seen.{seen, IsKept}
use Rattle.sheet_answers.proofs.Reached.{Reached}
use Rattle.sheet_answers.proofs.checking.read_on.Given as goal

-- the lines that were given led to the state
abbrev pub invariant-lines : goal.invariant-lines
invariant-lines g l = record {
  reached : Reached l.circuit (g.H.Shelf.held l.fn.shelf l.name) l.lines (seen l.state) l.number;
  state : IsKept l.circuit l.state;
  below : l.number ≤ l.lines.taken + 1;
  within : l.lines.taken ≤ most_bytes;
  counts : NoneFell (g.H.Shelf.faults l.fn.shelf) (g.H.Shelf.faults l.shelf);
  kept : KeepsTexts (g.H.Shelf.held l.fn.shelf) (g.H.Shelf.held l.shelf);
  reads : Reads g.H.Shelf.reads l.name false l.fn.shelf l.shelf;
}

abbrev pub decreases-lines : goal.decreases-lines
decreases-lines g l = most_bytes - l.lines.taken
