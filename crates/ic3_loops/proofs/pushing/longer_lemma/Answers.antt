use Rattle.std.proofs.Common.{◌≡◌, true, sym, subst}
use Rattle.std.proofs.lemmas.Result.{IfOk-weaker}
use Rattle.proof_semantics.specs.Clauses.{is_part}
use Rattle.ic3_generalise.specs.Cubes.{misses_starts, IsBased}
use Rattle.ic3_loops.proofs.Narrower.{misses-lemma}
use Rattle.ic3_loops.proofs.pushing.longer_lemma.Goals as goal

pub based-requires-clause-misses : goal.based-requires-clause-misses
based-requires-clause-misses c =
    subst (λ x. misses_starts c.args.starts.now x ≡ true) (sym c.in_ok-cube.ensures)
    (misses-lemma c.args.starts.now c.args.lemma.now c.requires.based)

pub based-requires-clause-among : goal.based-requires-clause-among
based-requires-clause-among c = subst (λ x. is_part c.args.part x ≡ true) (sym c.in_ok-cube.ensures) c.requires.among

pub returns : goal.returns
returns c =
    let longer = c.in_ok-longer.longer in
    let is = subst (λ whole. IsBased c.args.starts.now whole c.args.part longer) c.in_ok-cube.ensures c.in_ok-longer.ensures in
    IfOk-weaker c.negation.result _ _ (λ clause made. (longer, is, made)) c.negation.ensures
