use Rattle.std.proofs.Common.{subst, sym, length}
use Rattle.std.proofs.lemmas.Result.{IfOk-weaker}
use Rattle.ternary.specs.Cubes.{IsOverLatches, LiesIn, ShowsTrue, KeepsTrue, NeedsEachLiteral}
use Rattle.ternary.specs.Lifting.{IsLiftedTo}
use Rattle.ternary.proofs.LiftLaws.{lifted-over, lifted-holds, lifted-told, lifted-keeps, lifted-needed}
use Rattle.ternary.proofs.lifting.lift.Goals as goal

pub returns-clause-latches : goal.returns-clause-latches
returns-clause-latches c =
    let lifted : IsLiftedTo c.args.c.now c.args.at.now.latches c.args.at.now.inputs c.args.keep.now (length c.args.at.now.latches) c.deref.result.now =
    subst (λ xs. IsLiftedTo c.args.c.now c.args.at.now.latches c.args.at.now.inputs c.args.keep.now (length c.args.at.now.latches) xs) (sym c.deref.ensures.value) c.in_ok-state.ensures
    in
    IfOk-weaker c.cube_of.result _ _
    (λ cube e. subst (λ x. IsOverLatches c.args.c.now x) (sym e) (lifted-over c.args.c.now c.args.at.now c.args.keep.now c.requires.position c.deref.result.now lifted))
    c.cube_of.ensures

pub returns-clause-holds : goal.returns-clause-holds
returns-clause-holds c =
    let lifted : IsLiftedTo c.args.c.now c.args.at.now.latches c.args.at.now.inputs c.args.keep.now (length c.args.at.now.latches) c.deref.result.now =
    subst (λ xs. IsLiftedTo c.args.c.now c.args.at.now.latches c.args.at.now.inputs c.args.keep.now (length c.args.at.now.latches) xs) (sym c.deref.ensures.value) c.in_ok-state.ensures
    in
    IfOk-weaker c.cube_of.result _ _
    (λ cube e. subst (λ x. LiesIn c.args.at.now.latches x) (sym e) (lifted-holds c.args.c.now c.args.at.now c.args.keep.now c.requires.position c.deref.result.now lifted))
    c.cube_of.ensures

pub returns-clause-told : goal.returns-clause-told
returns-clause-told c =
    let lifted : IsLiftedTo c.args.c.now c.args.at.now.latches c.args.at.now.inputs c.args.keep.now (length c.args.at.now.latches) c.deref.result.now =
    subst (λ xs. IsLiftedTo c.args.c.now c.args.at.now.latches c.args.at.now.inputs c.args.keep.now (length c.args.at.now.latches) xs) (sym c.deref.ensures.value) c.in_ok-state.ensures
    in
    IfOk-weaker c.cube_of.result _ _
    (λ cube e. subst (λ x. ShowsTrue c.args.c.now c.args.at.now.inputs c.args.keep.now x) (sym e) (lifted-told c.args.c.now c.args.at.now c.args.keep.now c.requires.position c.deref.result.now lifted))
    c.cube_of.ensures

pub returns-clause-keeps : goal.returns-clause-keeps
returns-clause-keeps c =
    let lifted : IsLiftedTo c.args.c.now c.args.at.now.latches c.args.at.now.inputs c.args.keep.now (length c.args.at.now.latches) c.deref.result.now =
    subst (λ xs. IsLiftedTo c.args.c.now c.args.at.now.latches c.args.at.now.inputs c.args.keep.now (length c.args.at.now.latches) xs) (sym c.deref.ensures.value) c.in_ok-state.ensures
    in
    IfOk-weaker c.cube_of.result _ _
    (λ cube e. subst (λ x. KeepsTrue c.args.c.now c.args.at.now.inputs c.args.keep.now x) (sym e) (lifted-keeps c.args.c.now c.args.at.now c.args.keep.now c.requires.position c.deref.result.now lifted))
    c.cube_of.ensures

pub returns-clause-needed : goal.returns-clause-needed
returns-clause-needed c =
    let lifted : IsLiftedTo c.args.c.now c.args.at.now.latches c.args.at.now.inputs c.args.keep.now (length c.args.at.now.latches) c.deref.result.now =
    subst (λ xs. IsLiftedTo c.args.c.now c.args.at.now.latches c.args.at.now.inputs c.args.keep.now (length c.args.at.now.latches) xs) (sym c.deref.ensures.value) c.in_ok-state.ensures
    in
    IfOk-weaker c.cube_of.result _ _
    (λ cube e. subst (λ x. NeedsEachLiteral c.args.c.now c.args.at.now.inputs c.args.keep.now x) (sym e) (lifted-needed c.args.c.now c.args.at.now c.args.keep.now c.requires.position c.deref.result.now lifted))
    c.cube_of.ensures
