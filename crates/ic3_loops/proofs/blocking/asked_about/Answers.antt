use Rattle.std.proofs.Common.{◌≡◌, true, sym, subst}
use Rattle.std.specs.Prelude.{IfOk}
use Rattle.proof_semantics.specs.Clauses.{is_part}
use Rattle.ic3_generalise.specs.Cubes.{value_literals, misses_starts, IsBased}
use Rattle.ic3_loops.proofs.Excluded.{state-misses}
use Rattle.ic3_loops.proofs.blocking.asked_about.Goals as goal

pub based-requires-clause-misses : goal.based-requires-clause-misses
based-requires-clause-misses c =
    subst (λ cube. misses_starts c.args.starts.now cube ≡ true) (sym c.in_ok-whole.ensures)
    (state-misses c.args.starts.now c.args.state.now c.requires.over c.requires.outside)

pub based-requires-clause-among : goal.based-requires-clause-among
based-requires-clause-among c =
    subst (λ whole. is_part c.in_ok-copy.copy whole ≡ true) (sym c.in_ok-whole.ensures)
    (subst (λ x. is_part x (value_literals 0 c.args.state.now) ≡ true) (sym c.in_ok-copy.ensures) c.requires.part)

pub returns : goal.returns
returns c =
    subst (λ whole. IfOk c.based.result (IsBased c.args.starts.now whole c.args.cube.now)) c.in_ok-whole.ensures
    (subst (λ x. IfOk c.based.result (IsBased c.args.starts.now c.in_ok-whole.whole x)) c.in_ok-copy.ensures c.based.ensures)
