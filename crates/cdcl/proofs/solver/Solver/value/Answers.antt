use Rattle.std.proofs.Common.{false, ap, ◌∙◌}
use Rattle.std.specs.Option.{unwrap_or}
use Rattle.cdcl.specs.Asking.{assigned}
use Rattle.cdcl.specs.Solving.{Solving}
use Rattle.cdcl.proofs.AnswerLaws.{assigned_is}
use Rattle.cdcl.proofs.solver.Solver.value.Goals as goal

pub returns : goal.returns
returns c =
    c.unwrap_or.ensures
    ∙ ap (λ o. unwrap_or o false) c.value.ensures
    ∙ assigned_is c.self.inside.trail.steps c.args.var
    ∙ ap (λ (s : Solving). assigned s.values c.args.var) c.self.view_is
