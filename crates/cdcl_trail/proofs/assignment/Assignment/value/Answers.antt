use Rattle.std.proofs.Common.{◌≡◌, subst, ◌∙◌}
use Rattle.cdcl_trail.specs.Trails.{Steps, value_of}
use Rattle.cdcl_trail.proofs.assignment.Assignment.value.Goals as goal

pub returns : goal.returns
returns c = subst (λ (s : Steps). c.get.result ≡ value_of s.steps c.args.number) c.self.view_is (c.get.ensures ∙ c.self.invariant.values c.args.number)
