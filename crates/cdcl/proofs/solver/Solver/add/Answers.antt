use Rattle.std.proofs.Common.{◌++◌, ◌∷◌, [], ap, sym, subst, ◌∙◌}
use Rattle.cdcl_log.specs.LoggedClauses.{learned_of}
use Rattle.cdcl.specs.Progress.{IsStanding}
use Rattle.cdcl.specs.Solving.{Solving}
use Rattle.cdcl.proofs.solver.Solver.add.Goals as goal
use Rattle.cdcl_log.proofs.LoggedLaws.{added-IsLog}
use Rattle.cdcl.proofs.WayLaws.{held_more}
use Rattle.cdcl.proofs.ProgressLaws.{on_either, on_ok, kept_added}

pub invariant_of-self : goal.invariant_of-self
invariant_of-self c =
    on_either c.add.result _ _ _ _ c.add.ensures.clauses c.add.ensures.sources c.add.ensures.err
    (λ cl so.
    let all = added-IsLog c.self.inside.log c.add.new.self c.args.clause c.self.invariant.kept.log c.requires cl so in
    record {
      kept = kept_added c.self.inside.log c.add.new.self c.self.invariant.kept all.0 all.2;
      trail = held_more c.self.inside.log.clauses c.add.new.self.clauses (c.args.clause ∷ []) c.self.inside.trail c.self.invariant.trail cl;
    })
    (λ same. subst (λ e. IsStanding e c.self.inside.trail) (sym same) c.self.invariant)

pub returns-clause-added : goal.returns-clause-added
returns-clause-added c =
    on_ok c.add.result _ _ _ c.add.ensures.clauses c.add.ensures.sources
    (λ cl so. (added-IsLog c.self.inside.log c.add.new.self c.args.clause c.self.invariant.kept.log c.requires cl so).1
    ∙ ap (λ (s : Solving). s.added ++ c.args.clause ∷ []) c.self.view_is)

pub returns-clause-learned : goal.returns-clause-learned
returns-clause-learned c =
    on_either c.add.result _ _ _ _ c.add.ensures.clauses c.add.ensures.sources c.add.ensures.err
    (λ cl so. (added-IsLog c.self.inside.log c.add.new.self c.args.clause c.self.invariant.kept.log c.requires cl so).2 ∙ ap (λ (s : Solving). s.learned) c.self.view_is)
    (λ same. ap learned_of same ∙ ap (λ (s : Solving). s.learned) c.self.view_is)
