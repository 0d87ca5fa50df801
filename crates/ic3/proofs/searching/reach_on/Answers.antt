use Rattle.std.proofs.Common.{sym, subst}
use Rattle.entry.specs.CheckedEntries.{viewed}
use Rattle.ic3_semantics.specs.Searching.{Question}
use Rattle.ic3_semantics.specs.Stepping.{Stepping}
use Rattle.ic3_loops.specs.Sound.{AvoidsAsked}
use Rattle.ic3.proofs.Singles.{kept-none}
use Rattle.ic3.proofs.searching.reach_on.Goals as goal

pub reach_by-reached-requires-clause-avoids : goal.reach_by-reached-requires-clause-avoids
reach_by-reached-requires-clause-avoids c = subst (λ (s : Stepping). AvoidsAsked s.avoid c.args.asked.now.goal.now) (sym c.in_ok-steps.ensures) c.avoided.ensures

pub reach_by-reached-requires-clause-steps : goal.reach_by-reached-requires-clause-steps
reach_by-reached-requires-clause-steps c =
    let q : Question = record { circuit = c.args.asked.now.c.now; view = viewed c.args.asked.now.view.now; start = c.args.asked.now.start.now } in
    kept-none q c.avoided.result.now c.in_ok-steps.steps c.in_ok-steps.ensures
