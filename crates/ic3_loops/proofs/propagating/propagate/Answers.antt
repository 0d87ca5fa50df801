use Rattle.std.proofs.Common.{sym, subst}
use Rattle.std.specs.Result.{OnOk}
use Rattle.ic3_loops.specs.Propagating.{AllStuck}
use Rattle.ic3_frames.specs.Witnessing.{AreWitnesses}
use Rattle.ic3_loops.proofs.Ended.{on_ok}
use Rattle.ic3_loops.proofs.Narrower.{narrower_on}
use Rattle.ic3_loops.proofs.propagating.propagate.Goals as goal

pub push_parts-requires-clause-known : goal.push_parts-requires-clause-known
push_parts-requires-clause-known g c = c.forget_unused.ensures (g.S.StepSolver.seen c.args.steps.now).question c.requires.known

pub push_lemmas-requires-clause-known : goal.push_lemmas-requires-clause-known
push_lemmas-requires-clause-known g c =
    subst (λ x. AreWitnesses x c.push_parts.new.known) (sym c.in_ok-push_parts.ensures.question.question) c.in_ok-push_parts.ensures.known

pub returns-clause-narrower : goal.returns-clause-narrower
returns-clause-narrower g c =
    on_ok c.push_lemmas.result _ _
    (narrower_on c.args.aim.now.starts.now (g.S.StepSolver.seen c.args.steps.now) (g.S.StepSolver.seen c.push_parts.new.steps)
    (g.S.StepSolver.seen c.push_lemmas.new.steps) c.args.frames.now c.push_parts.new.frames c.push_lemmas.new.frames
    c.in_ok-push_parts.ensures.narrower)
    c.push_lemmas.ensures.narrower

pub returns-clause-stuck : goal.returns-clause-stuck
returns-clause-stuck g c =
    subst (λ x. OnOk c.push_lemmas.result (AllStuck x c.push_lemmas.new.frames)) c.in_ok-push_parts.ensures.question.question
    c.push_lemmas.ensures.stuck

pub returns-clause-known : goal.returns-clause-known
returns-clause-known g c =
    subst (λ x. OnOk c.push_lemmas.result (AreWitnesses x c.push_lemmas.new.known)) c.in_ok-push_parts.ensures.question.question
    c.push_lemmas.ensures.known
