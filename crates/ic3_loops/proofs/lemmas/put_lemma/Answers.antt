use Rattle.std.proofs.Common.{sym, subst}
use Rattle.ic3_loops.specs.Sound.{IsSearch}
use Rattle.ic3_loops.proofs.Sounds.{search-with}
use Rattle.ic3_loops.proofs.Ended.{on_ok}
use Rattle.ic3_loops.proofs.lemmas.put_lemma.Goals as goal

pub returns-clause-search : goal.returns-clause-search
returns-clause-search g c =
    on_ok c.add.result _ _
    (λ is. subst (IsSearch c.args._starts.now (g.S.StepSolver.seen c.hold.new.self)) (sym is)
    (search-with c.args._starts.now (g.S.StepSolver.seen c.args.steps.now) (g.S.StepSolver.seen c.hold.new.self) c.args.frames.now c.args.level c.args.lemma c.requires.search
    c.requires.level c.requires.over c.requires.based c.requires.relative c.in_ok-hold.ensures.ok))
    c.add.ensures.ok
