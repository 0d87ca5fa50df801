use Rattle.std.proofs.Common.{◌≡◌, Bool, List, [], ◌∷◌, ◌++◌, sym, ap, ◌∙◌, subst}
use Rattle.aig_semantics.specs.declared.traces.Position.{Position}
use Rattle.aig_semantics.specs.Runs.{position_of, successor}
use Rattle.lasso_join.specs.Fitting.{IsStemTo}
use Rattle.simulation.proofs.Runs.{longer_stem}
use Rattle.simulation.proofs.judging.step.Goals as goal

pub returns-clause-stem : goal.returns-clause-stem
returns-clause-stem c =
    let k = c.args._c.now in
    let t = c.args.stem.now.state in
    let u = c.args.inputs.now in
    let e : position_of c.replace-latches.result c.in_ok-inputs.inputs ≡ position_of c.args.stem.now.state c.args.inputs.now =
    ap (λ (x : List Bool). position_of x c.in_ok-inputs.inputs) c.replace-latches.ensures.value
    ∙ ap (λ (y : List Bool). position_of c.args.stem.now.state y) c.in_ok-inputs.ensures
    in
    let run : c.push.new.self ≡ c.args.stem.now.positions ++ position_of c.args.stem.now.state c.args.inputs.now ∷ [] =
    c.in_ok-push.ensures.ok ∙ ap (λ (p : Position). c.args.stem.now.positions ++ p ∷ []) e
    in
    let next : c.replace-latches.new.dest ≡ successor c.args._c.now (position_of c.args.stem.now.state c.args.inputs.now) =
    c.replace-latches.ensures.after ∙ c.requires.next
    in
    subst (λ xs. IsStemTo k c.replace-latches.new.dest xs) (sym run)
    (subst (λ v. IsStemTo k v (c.args.stem.now.positions ++ position_of t u ∷ [])) (sym next)
    (longer_stem k t u c.args.stem.now.positions c.requires.stem c.requires.possible))
