use Rattle.std.proofs.Common.{◌≡◌, ℕ, Ok, sym, subst}
use Rattle.certificate.specs.declared.state.State.{State}
use Rattle.certificate.specs.declared.state.State.TheVariants.{Ended}
use Rattle.certificate.specs.Seen.{seen, seen_body}
use Rattle.round_answers.specs.declared.ends.Judged.{Judged}
use Rattle.round_answers.specs.Reading.{Listing}
use Rattle.round_answers.specs.Telling.{TellsEnd, KnowsMonitor}
use Rattle.round_answers.proofs.RunEnds.{listed_tells}
use Rattle.round_answers.proofs.steps.listed_end.Goals as goal

pub returns-in-Ended-clause-tells : goal.returns-in-Ended-clause-tells
returns-in-Ended-clause-tells c =
    let k : ℕ = c.args.asked.k in
    let n : ℕ = c.args.asked.property in
    subst (λ (s : State). TellsEnd c.args._circuit.now (Listing k n (seen s)) c.args.number (Ok c.shown.result)) (sym c.in-Ended.is)
    (subst (λ (j : Judged). TellsEnd c.args._circuit.now (Listing k n (seen (Ended c.in-Ended.field-0))) c.args.number (Ok j)) (sym c.shown.ensures)
    (listed_tells c.args._circuit.now k n c.args.number (seen_body c.in-Ended.field-0)))

pub returns-in-Ended-clause-knows : goal.returns-in-Ended-clause-knows
returns-in-Ended-clause-knows c = subst (KnowsMonitor c.args._circuit.now) (sym c.shown.ensures) (c.requires.asked, c.requires.tells)
