use Rattle.std.proofs.Common.{◌≡◌, false, length, sym, ap, subst, ◌∙◌}
use Rattle.proof_semantics.specs.Clauses.{clause_value, values_of}
use Rattle.aig_semantics.specs.Runs.{successor}
use Rattle.ic3_semantics.specs.Stepping.{Stepping, IsOver, IsFound}
use Rattle.ic3_frames.specs.Witnessing.{IsStuck, Breaks}
use Rattle.ic3_loops.proofs.Stuck.{negation_over, found_breaks, found_stuck}
use Rattle.ic3_loops.proofs.pushing.asked.Goals as goal

pub predecessor_of_excluded-requires : goal.predecessor_of_excluded-requires
predecessor_of_excluded-requires g c =
    let n = length (g.S.StepSolver.seen c.args.steps.now).question.circuit.latches in
    subst (IsOver n) (sym c.in_ok-cube.ensures) (negation_over n c.args.lemma.now.clause c.requires.over)

pub returns-in-Step-clause-told : goal.returns-in-Step-clause-told
returns-in-Step-clause-told g c =
    let st : Stepping = (g.S.StepSolver.seen c.args.steps.now) in
    found_stuck st c.args._frames.now c.args.lemma.now.level c.in_ok-cube.cube c.args.lemma.now.clause c.in-Step.step c.in_ok-cube.ensures
    (subst (IsFound st c.args.lemma.now.level c.in_ok-cube.cube) c.in-Step.is c.in_ok-step.ensures.found) c.requires.agree

pub returns-in-Step-clause-known : goal.returns-in-Step-clause-known
returns-in-Step-clause-known g c =
    let st : Stepping = (g.S.StepSolver.seen c.args.steps.now) in
    let found = subst (IsFound st c.args.lemma.now.level c.in_ok-cube.cube) c.in-Step.is c.in_ok-step.ensures.found in
    let breaks : Breaks st.question c.args.lemma.now.clause c.in-Step.step = record {
      arena = found.step;
      next = found_breaks st c.in_ok-cube.cube c.args.lemma.now.clause c.in-Step.step c.in_ok-cube.ensures found.inside;
    }
    in
    c.in_ok-keep_witness-in-Step.ensures st.question c.requires.known
    (subst (λ x. Breaks st.question x c.in-Step.step) (sym c.in_ok-clone-in-Step.ensures) breaks)
