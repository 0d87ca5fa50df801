use Rattle.std.proofs.Common.{◌≡◌, ◌+◌, ◌-◌, length, false}
use Rattle.edge.specs.Faults.{NoneFell}
use Rattle.edge.specs.Told.{IfTold}
use Rattle.edge.specs.Reads.{KeepsTexts, Reads}
use Rattle.text_grammar.specs.Pieces.{Lacks}
use Rattle.answer_lines.specs.Left.{left_of, most_bytes}
use Rattle.answer_lines.proofs.lines.Lines.next.Given as goal

-- no line is given, and what is left stays
abbrev pub invariant-loop-self : goal.invariant-loop-self
invariant-loop-self g l = record {
  taken : l.self.taken ≡ l.fn.self.taken;
  left : IfTold (g.H.Shelf.held l.fn.shelf l.name) (λ text. left_of l.self text ≡ left_of l.fn.self text);
  last : l.self.last ≡ l.fn.self.last;
  counts : NoneFell (g.H.Shelf.faults l.fn.shelf) (g.H.Shelf.faults l.shelf);
  kept : KeepsTexts (g.H.Shelf.held l.fn.shelf) (g.H.Shelf.held l.shelf);
  in_hand : ¬ (Lacks l.fn.self.ahead 10) → l.shelf ≡ l.fn.shelf;
  same : ¬ (Lacks l.fn.self.ahead 10) → l.self.ahead ≡ l.fn.self.ahead;
  reads : Reads g.H.Shelf.reads l.name false l.fn.shelf l.shelf;
}

abbrev pub decreases-loop-self : goal.decreases-loop-self
decreases-loop-self g l = most_bytes - (l.self.taken + length l.self.ahead)
