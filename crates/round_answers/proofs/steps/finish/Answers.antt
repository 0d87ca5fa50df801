use Rattle.std.proofs.Common.{◌≡◌, sym, subst}
use Rattle.round_answers.specs.declared.state.State.{State}
use Rattle.round_answers.specs.Seen.{seen}
use Rattle.round_answers.specs.Telling.{TellsEnd}
use Rattle.round_answers.proofs.steps.finish.Goals as goal

pub returns-in-Running-clause-tells : goal.returns-in-Running-clause-tells
returns-in-Running-clause-tells c =
    subst (λ (s : State). TellsEnd c.args.circuit.now (seen s) c.args.number c.run_end.result) (sym c.in-Running.is) c.run_end.ensures.tells

pub returns-in-Listing-clause-tells : goal.returns-in-Listing-clause-tells
returns-in-Listing-clause-tells c =
    subst (λ (s : State). TellsEnd c.args.circuit.now (seen s) c.args.number c.listed_end.result) (sym c.in-Listing.is) c.listed_end.ensures.tells
