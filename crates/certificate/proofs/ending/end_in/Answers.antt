use Rattle.std.proofs.Common.{◌≡◌, refl, sym, subst, Ok}
use Rattle.certificate.specs.declared.state.State.{State}
use Rattle.certificate.specs.Seen.{seen}
use Rattle.certificate.specs.Steps.{TellsEnd}
use Rattle.certificate.proofs.Kept.{in_any_case}
use Rattle.certificate.proofs.ending.end_in.Goals as goal

pub returns-in-Dotted-clause-tells : goal.returns-in-Dotted-clause-tells
returns-in-Dotted-clause-tells c =
    subst (λ (s : State). TellsEnd c.args.circuit.now (seen s) c.args.number c.replay_stimulus.result) (sym c.in-Dotted.is)
    (c.replay_stimulus.ensures.tells c.args.number)

pub returns-in-Ended-clause-tells : goal.returns-in-Ended-clause-tells
returns-in-Ended-clause-tells c =
    subst (λ (s : State). TellsEnd c.args.circuit.now (seen s) c.args.number (Ok c.held.result)) (sym c.in-Ended.is)
    (c.held.ensures c.args.number)

pub returns-in-Ended-clause-untouched : goal.returns-in-Ended-clause-untouched
returns-in-Ended-clause-untouched c = in_any_case (Ok c.held.result) (c.args.kept.now ≡ c.args.kept.now) refl
