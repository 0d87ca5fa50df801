use Rattle.std.proofs.Common.{◌≡◌, ◌≤◌, length, map, sym, subst, IfOk}
use Rattle.std.specs.List.{All}
use Rattle.round_monitor.specs.Counting.{own_position}
use Rattle.round_answers.specs.declared.rounds.KnownRounds.TheVariants.{Reached}
use Rattle.k_live.specs.Asking.{AnswersSearch}
use Rattle.k_live.proofs.Counts.{no-conflicts}
use Rattle.k_live.proofs.Telling.{some-of, latches-told, run-so, run-decided, claim-told, set-so, set-decided, memory-told}
use Rattle.k_live.proofs.deciding.told.Goals as goal

pub reached-requires : goal.reached-requires
reached-requires c =
    subst (λ ps. All (λ p. length c.args.w.now.c.now.latches ≤ length p.latches) ps) (sym c.as_slice.ensures)
    (latches-told c.args.w.now.c.now c.args.w.now.j c.args.w.now.k c.args.w.now.t.now c.in-Path.positions c.requires.monitor
    (subst (AnswersSearch c.args.w.now.t.now) c.in-Path.is c.requires.answered))

pub fewer-requires-clause-some : goal.fewer-requires-clause-some
fewer-requires-clause-some c = some-of c.args.w.now.c.now c.args.w.now.j c.args.w.now.k c.args.w.now.t.now c.requires.monitor

pub fewer-requires-clause-claim : goal.fewer-requires-clause-claim
fewer-requires-clause-claim c =
    claim-told c.args.w.now.c.now c.args.w.now.j c.args.w.now.k c.args.w.now.t.now c.in-Closed.clauses c.in-Closed._uses
    c.steps_and_initial_states.ensures.clauses c.requires.monitor (subst (AnswersSearch c.args.w.now.t.now) c.in-Closed.is c.requires.answered)

pub returns-in-Path-clause-so : goal.returns-in-Path-clause-so
returns-in-Path-clause-so c =
    run-so c.args.w.now.c.now c.args.w.now.j c.args.w.now.k c.args.w.now.t.now c.in-Path.positions c.reached.result c.requires.monitor
    (subst (AnswersSearch c.args.w.now.t.now) c.in-Path.is c.requires.answered)
    (subst (λ ps. IfOk c.reached.result (λ r. r ≡ Reached (map (own_position c.args.w.now.c.now) ps))) c.as_slice.ensures c.reached.ensures.answer)

pub returns-in-Path-clause-decided : goal.returns-in-Path-clause-decided
returns-in-Path-clause-decided c =
    run-decided c.args.w.now.c.now c.args.w.now.j c.args.w.now.k c.args.w.now.t.now c.in-Path.positions c.reached.result c.requires.monitor
    (subst (AnswersSearch c.args.w.now.t.now) c.in-Path.is c.requires.answered)
    (subst (λ ps. IfOk c.reached.result (λ r. r ≡ Reached (map (own_position c.args.w.now.c.now) ps))) c.as_slice.ensures c.reached.ensures.answer)

pub returns-in-Path-clause-end : goal.returns-in-Path-clause-end
returns-in-Path-clause-end c = memory-told c.args.meter.now c.reached.result c.reached.ensures.end

pub returns-in-Path-clause-counted : goal.returns-in-Path-clause-counted
returns-in-Path-clause-counted c = no-conflicts c.args.meter.now

pub returns-in-Closed-clause-so : goal.returns-in-Closed-clause-so
returns-in-Closed-clause-so c =
    set-so c.args.w.now.c.now c.args.w.now.j c.args.w.now.k c.args.w.now.t.now c.fewer.result c.requires.monitor c.fewer.ensures.shown

pub returns-in-Closed-clause-decided : goal.returns-in-Closed-clause-decided
returns-in-Closed-clause-decided c =
    set-decided c.args.w.now.c.now c.args.w.now.j c.args.w.now.k c.args.w.now.t.now c.in-Closed.clauses c.in-Closed._uses c.fewer.result c.requires.monitor
    (subst (AnswersSearch c.args.w.now.t.now) c.in-Closed.is c.requires.answered) c.fewer.ensures.shown
