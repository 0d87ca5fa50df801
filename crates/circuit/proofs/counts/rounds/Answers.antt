use Rattle.std.proofs.Common.{rules, ◌≡◌, ◌∙◌, length, replicate, false}
use Rattle.circuit.proofs.RoundsAlong.{told}
use Rattle.circuit.proofs.counts.rounds.Goals as goal

pub returns : goal.returns
returns c =
    let none : c.deref_mut.result.now ≡ replicate (length c.deref.result.now) false = search rules in
    told c.args.c.now c.args.j c.args.run.now c.deref.result.now c.deref_mut.result.now c.rounds_along.result c.rounds_along.ensures
    (c.deref.ensures.value ∙ c.in_ok-literals.ensures) none
