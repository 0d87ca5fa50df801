use Rattle.std.proofs.Common.{List, sym, ap, ◌∙◌}
use Rattle.wall_ledger.specs.declared.marks.PassMark.{PassMark}
use Rattle.wall_ledger.specs.Passes.{PassState, shown_of}
use Rattle.wall_ledger.specs.Shows.{shown_at}
use Rattle.wall_ledger.specs.Hands.{face_in}
use Rattle.wall_ledger.proofs.Showing.{shown_of_marks}
use Rattle.wall_ledger.proofs.ledger.Pass.mark.Goals as goal

pub returns : goal.returns
returns c =
    c.shown_in.ensures
    ∙ (ap (λ (l : List PassMark). shown_at l c.args.property) (c.deref.ensures.value ∙ sym c.self.invariant.mirror.shown)
    ∙ (shown_of_marks (face_in c.self.inside.hand).marks c.args.property ∙ ap (λ (p : PassState). shown_of p.marks c.args.property) c.self.view_is))
