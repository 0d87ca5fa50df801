use Rattle.std.proofs.Common.{length, ap, ◌∙◌}
use Rattle.cdcl.specs.Solving.{Solving}
use Rattle.cdcl_log.proofs.IdLaws.{counted_added}
use Rattle.cdcl.proofs.solver.Solver.count_added.Goals as goal

pub returns : goal.returns
returns c =
    c.added.ensures ∙ counted_added c.self.inside.log.sources c.self.inside.log.clauses c.self.invariant.kept.log.beside
    ∙ ap (λ (s : Solving). length s.added) c.self.view_is
