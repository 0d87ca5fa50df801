use Rattle.std.proofs.Common.{◌≡◌, ◌+◌, ◌-◌, ◌≤◌, take, vec_len, false}
use Rattle.edge.specs.Faults.{NoneFell}
use Rattle.edge.specs.Told.{IfTold}
use Rattle.edge.specs.Reads.{KeepsTexts, Within, Reads}
use Rattle.edge.proofs.reading.read_text.Given as goal

-- what was read is the text's front
abbrev pub invariant-loop-text : goal.invariant-loop-text
invariant-loop-text g l = record {
  within : vec_len l.text ≤ l.limit + 1;
  read : IfTold (g.H.Shelf.held l.fn.shelf l.name) (λ text. l.text.items ≡ take (vec_len l.text) text);
  chunk : vec_len l.chunk ≡ 65536;
  counts : NoneFell (g.H.Shelf.faults l.fn.shelf) (g.H.Shelf.faults l.shelf);
  kept : KeepsTexts (g.H.Shelf.held l.fn.shelf) (g.H.Shelf.held l.shelf);
  reads : Reads (Within (l.limit + 1) g.H.Shelf.reads) l.name false l.fn.shelf l.shelf;
}

abbrev pub decreases-loop-text : goal.decreases-loop-text
decreases-loop-text g l = l.limit + 1 - vec_len l.text
