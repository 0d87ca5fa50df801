use Rattle.std.proofs.Common.{ℕ, ◌+◌, sym, subst}
use Rattle.aig_semantics.specs.declared.traces.Stimulus.{Stimulus}
use Rattle.aig_semantics.specs.Stimuli.{HasLasso}
use Rattle.lasso_bmc.proofs.Telling.{shortest_of}
use Rattle.lasso_bmc.proofs.deepening.lasso_in.Goals as goal

pub replayed-requires : goal.replayed-requires
replayed-requires c =
    (c.args.last + 1, subst (λ (s : Stimulus). (from : ℕ) × HasLasso c.args.c.now c.args.j s (c.args.last + 1) from) (sym c.in_ok-stimulus.ensures) c.requires.some)

pub returns-clause-shortest : goal.returns-clause-shortest
returns-clause-shortest c =
    let is = c.in_ok-replayed.ensures in
    shortest_of c.args.c.now c.args.j c.args.last c.in_ok-stimulus.stimulus c.in_ok-replayed.field-0 c.requires.none
    (subst (λ (s : Stimulus). (from : ℕ) × HasLasso c.args.c.now c.args.j s (c.args.last + 1) from) (sym c.in_ok-stimulus.ensures) c.requires.some)
    is.found is.start is.inputs

pub returns-clause-within : goal.returns-clause-within
returns-clause-within c =
    let has = subst (λ (s : Stimulus). (from : ℕ) × HasLasso c.args.c.now c.args.j s (c.args.last + 1) from) (sym c.in_ok-stimulus.ensures) c.requires.some in
    c.in_ok-replayed.ensures.found.shortest (c.args.last + 1) has.0 has.1
