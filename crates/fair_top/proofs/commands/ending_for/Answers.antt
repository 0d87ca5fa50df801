use Rattle.std.proofs.Common.{◌≡◌, subst, sym, refl}
use Rattle.std.specs.Prelude.{IfOk}
use Rattle.command_lines.specs.declared.commands.Request.{Request as RequestInCode}
use Rattle.command_lines.specs.Commands.{meant, names_in}
use Rattle.fair_top.specs.Commands.{CommandGives, Decides, ShownBy}
use Rattle.plain_commands.specs.declared.status.Status.TheVariants as statuses
use Rattle.plain_commands.specs.Answering.{FailedOf, ReadsModelFirst}
use Rattle.fair_top.specs.Headline.{MayHaveFailed}
use Rattle.fair_top.specs.Solved.{SolvesAsked}
use Rattle.plain_commands.specs.Statuses.{status_in, is_read_fault}
use Rattle.fair_top.proofs.Ending.{still_answered, check_gives, read_of_status}
use Rattle.fair_top.proofs.commands.ending_for.Goals as goal

pub returns-in-Check-clause-exactly : goal.returns-in-Check-clause-exactly
returns-in-Check-clause-exactly g c = λ verdict d.
    still_answered verdict c.check.result (status_in c.with_text.result) c.with_text.ensures.status
    (c.check.ensures.exactly verdict (subst (λ (a : RequestInCode). Decides (g.H.Shelf.held c.args.shelf.now) (meant a) verdict) c.in-Check.is d))

pub returns-in-Check-clause-found : goal.returns-in-Check-clause-found
returns-in-Check-clause-found g c =
    let held = g.H.Shelf.held c.args.shelf.now in
    subst (λ (a : RequestInCode). IfOk c.with_text.result (λ ending. CommandGives held (meant a) ending.status ending.text.items)) (sym c.in-Check.is)
    (check_gives (held c.in-Check.model.now) (held c.in-Check.answer.now) c.check.result c.with_text.result c.check.ensures.found c.with_text.ensures.text c.with_text.ensures.aloud)

pub returns-in-Check-clause-read : goal.returns-in-Check-clause-read
returns-in-Check-clause-read g c = λ e.
    subst (λ (a : RequestInCode). FailedOf (g.H.Shelf.held c.args.shelf.now) (names_in (meant a)) (g.H.Shelf.faults c.args.shelf.now) (g.H.Shelf.faults c.check.new.shelf))
    (sym c.in-Check.is) (c.check.ensures.read (read_of_status c.check.result (status_in c.with_text.result) c.with_text.ensures.status e))

pub returns-in-Wave-clause-found : goal.returns-in-Wave-clause-found
returns-in-Wave-clause-found g c =
    subst (λ (a : RequestInCode). IfOk c.wave.result (λ ending. CommandGives (g.H.Shelf.held c.args.shelf.now) (meant a) ending.status ending.text.items))
    (sym c.in-Wave.is) c.wave.ensures.found

pub returns-in-Solve-clause-exactly : goal.returns-in-Solve-clause-exactly
returns-in-Solve-clause-exactly g c = λ verdict d.
    c.solve.ensures.exactly verdict (subst (λ (a : RequestInCode). Decides (g.H.Shelf.held c.args.shelf.now) (meant a) verdict) c.in-Solve.is d)

pub returns-in-Solve-clause-found : goal.returns-in-Solve-clause-found
returns-in-Solve-clause-found g c =
    subst (λ (a : RequestInCode). IfOk c.solve.result (λ ending. CommandGives (g.H.Shelf.held c.args.shelf.now) (meant a) ending.status ending.text.items))
    (sym c.in-Solve.is) c.solve.ensures.found

pub returns-in-Solve-clause-shown : goal.returns-in-Solve-clause-shown
returns-in-Solve-clause-shown g c = λ accepted e.
    subst (λ (a : RequestInCode). ShownBy (g.H.Shelf.held c.args.shelf.now) (meant a) accepted) (sym c.in-Solve.is) (c.solve.ensures.shown accepted e)

pub returns-in-Solve-clause-solved : goal.returns-in-Solve-clause-solved
returns-in-Solve-clause-solved g c =
    subst (λ (a : RequestInCode). SolvesAsked (g.H.Shelf.held c.args.shelf.now) (meant a) (status_in c.solve.result)) (sym c.in-Solve.is) c.solve.ensures.solved

pub returns-in-Solve-clause-reads : goal.returns-in-Solve-clause-reads
returns-in-Solve-clause-reads g c =
    subst (λ (a : RequestInCode).
    ReadsModelFirst g.H.Shelf.reads (g.H.Shelf.held c.args.shelf.now) (names_in (meant a)) (is_read_fault (status_in c.solve.result)) c.args.shelf.now c.solve.new.shelf)
    (sym c.in-Solve.is) c.solve.ensures.reads

pub returns-in-Demo-clause-exactly : goal.returns-in-Demo-clause-exactly
returns-in-Demo-clause-exactly g c = λ verdict d.
    absurd (subst (λ (a : RequestInCode). Decides (g.H.Shelf.held c.args.shelf.now) (meant a) verdict) c.in-Demo.is d)

pub returns-in-Demo-clause-found : goal.returns-in-Demo-clause-found
returns-in-Demo-clause-found g c =
    subst (λ (a : RequestInCode). IfOk c.demonstrate.result (λ ending. CommandGives (g.H.Shelf.held c.args.shelf.now) (meant a) ending.status ending.text.items))
    (sym c.in-Demo.is) c.demonstrate.ensures.found

pub returns-in-Demo-clause-shown : goal.returns-in-Demo-clause-shown
returns-in-Demo-clause-shown g c = λ accepted e. absurd (c.demonstrate.ensures.hidden accepted e)

pub returns-in-Demo-clause-solved : goal.returns-in-Demo-clause-solved
returns-in-Demo-clause-solved g c =
    subst (λ (a : RequestInCode). SolvesAsked (g.H.Shelf.held c.args.shelf.now) (meant a) (status_in c.demonstrate.result)) (sym c.in-Demo.is) tt

pub returns-in-Demo-clause-reads : goal.returns-in-Demo-clause-reads
returns-in-Demo-clause-reads g c =
    subst (λ (a : RequestInCode).
    ReadsModelFirst g.H.Shelf.reads (g.H.Shelf.held c.args.shelf.now) (names_in (meant a)) (is_read_fault (status_in c.demonstrate.result)) c.args.shelf.now c.args.shelf.now)
    (sym c.in-Demo.is) (refl, c.demonstrate.ensures.unread)

pub returns-in-Wave-clause-exactly : goal.returns-in-Wave-clause-exactly
returns-in-Wave-clause-exactly g c = λ verdict d.
    c.wave.ensures.exactly verdict (subst (λ (a : RequestInCode). Decides (g.H.Shelf.held c.args.shelf.now) (meant a) verdict) c.in-Wave.is d)

pub returns-in-Convert-clause-exactly : goal.returns-in-Convert-clause-exactly
returns-in-Convert-clause-exactly g c = λ verdict d.
    c.remake.ensures.exactly verdict (subst (λ (a : RequestInCode). Decides (g.H.Shelf.held c.args.shelf.now) (meant a) verdict) c.in-Convert.is d)

pub returns-in-Safety-clause-exactly : goal.returns-in-Safety-clause-exactly
returns-in-Safety-clause-exactly g c = λ verdict d.
    c.safety.ensures.exactly verdict (subst (λ (a : RequestInCode). Decides (g.H.Shelf.held c.args.shelf.now) (meant a) verdict) c.in-Safety.is d)

pub returns-in-Slice-clause-exactly : goal.returns-in-Slice-clause-exactly
returns-in-Slice-clause-exactly g c = λ verdict d.
    c.write_slice.ensures.exactly verdict (subst (λ (a : RequestInCode). Decides (g.H.Shelf.held c.args.shelf.now) (meant a) verdict) c.in-Slice.is d)

pub returns-in-Rounds-clause-exactly : goal.returns-in-Rounds-clause-exactly
returns-in-Rounds-clause-exactly g c = λ verdict d.
    c.count_rounds.ensures.exactly verdict (subst (λ (a : RequestInCode). Decides (g.H.Shelf.held c.args.shelf.now) (meant a) verdict) c.in-Rounds.is d)

pub returns-in-Rounds-clause-found : goal.returns-in-Rounds-clause-found
returns-in-Rounds-clause-found g c =
    subst (λ (a : RequestInCode). IfOk c.count_rounds.result (λ ending. CommandGives (g.H.Shelf.held c.args.shelf.now) (meant a) ending.status ending.text.items))
    (sym c.in-Rounds.is) c.count_rounds.ensures.found

pub returns-in-Rounds-clause-shown : goal.returns-in-Rounds-clause-shown
returns-in-Rounds-clause-shown g c = λ accepted e.
    subst (λ (a : RequestInCode). ShownBy (g.H.Shelf.held c.args.shelf.now) (meant a) accepted) (sym c.in-Rounds.is) (c.count_rounds.ensures.shown accepted e)

pub returns-in-Rounds-clause-solved : goal.returns-in-Rounds-clause-solved
returns-in-Rounds-clause-solved g c =
    subst (λ (a : RequestInCode). SolvesAsked (g.H.Shelf.held c.args.shelf.now) (meant a) (status_in c.count_rounds.result)) (sym c.in-Rounds.is) tt

pub returns-in-Rounds-clause-reads : goal.returns-in-Rounds-clause-reads
returns-in-Rounds-clause-reads g c =
    subst (λ (a : RequestInCode).
    ReadsModelFirst g.H.Shelf.reads (g.H.Shelf.held c.args.shelf.now) (names_in (meant a)) (is_read_fault (status_in c.count_rounds.result)) c.args.shelf.now c.count_rounds.new.shelf)
    (sym c.in-Rounds.is) c.count_rounds.ensures.reads

pub returns-in-Shortest-clause-exactly : goal.returns-in-Shortest-clause-exactly
returns-in-Shortest-clause-exactly g c = λ verdict d.
    c.find_shortest.ensures.exactly verdict (subst (λ (a : RequestInCode). Decides (g.H.Shelf.held c.args.shelf.now) (meant a) verdict) c.in-Shortest.is d)

pub returns-in-Shortest-clause-found : goal.returns-in-Shortest-clause-found
returns-in-Shortest-clause-found g c =
    subst (λ (a : RequestInCode). IfOk c.find_shortest.result (λ ending. CommandGives (g.H.Shelf.held c.args.shelf.now) (meant a) ending.status ending.text.items))
    (sym c.in-Shortest.is) c.find_shortest.ensures.found

pub returns-in-Shortest-clause-shown : goal.returns-in-Shortest-clause-shown
returns-in-Shortest-clause-shown g c = λ accepted e.
    subst (λ (a : RequestInCode). ShownBy (g.H.Shelf.held c.args.shelf.now) (meant a) accepted) (sym c.in-Shortest.is) (c.find_shortest.ensures.shown accepted e)

pub returns-in-Shortest-clause-solved : goal.returns-in-Shortest-clause-solved
returns-in-Shortest-clause-solved g c =
    subst (λ (a : RequestInCode). SolvesAsked (g.H.Shelf.held c.args.shelf.now) (meant a) (status_in c.find_shortest.result)) (sym c.in-Shortest.is) tt

pub returns-in-Shortest-clause-reads : goal.returns-in-Shortest-clause-reads
returns-in-Shortest-clause-reads g c =
    subst (λ (a : RequestInCode).
    ReadsModelFirst g.H.Shelf.reads (g.H.Shelf.held c.args.shelf.now) (names_in (meant a)) (is_read_fault (status_in c.find_shortest.result)) c.args.shelf.now c.find_shortest.new.shelf)
    (sym c.in-Shortest.is) c.find_shortest.ensures.reads

pub returns-in-Trim-clause-exactly : goal.returns-in-Trim-clause-exactly
returns-in-Trim-clause-exactly g c = λ verdict d.
    c.remake-in-Trim.ensures.exactly verdict (subst (λ (a : RequestInCode). Decides (g.H.Shelf.held c.args.shelf.now) (meant a) verdict) c.in-Trim.is d)

pub returns-in-Export-clause-exactly : goal.returns-in-Export-clause-exactly
returns-in-Export-clause-exactly g c = λ verdict d.
    c.export_item.ensures.exactly verdict (subst (λ (a : RequestInCode). Decides (g.H.Shelf.held c.args.shelf.now) (meant a) verdict) c.in-Export.is d)

pub returns-in-Export-clause-found : goal.returns-in-Export-clause-found
returns-in-Export-clause-found g c =
    subst (λ (a : RequestInCode). IfOk c.export_item.result (λ ending. CommandGives (g.H.Shelf.held c.args.shelf.now) (meant a) ending.status ending.text.items))
    (sym c.in-Export.is) c.export_item.ensures.found

pub returns-in-Export-clause-read : goal.returns-in-Export-clause-read
returns-in-Export-clause-read g c =
    subst (λ (a : RequestInCode). status_in c.export_item.result ≡ statuses.ReadFault
    → FailedOf (g.H.Shelf.held c.args.shelf.now) (names_in (meant a)) (g.H.Shelf.faults c.args.shelf.now) (g.H.Shelf.faults c.export_item.new.shelf))
    (sym c.in-Export.is) c.export_item.ensures.read

pub returns-in-Solve-clause-there : goal.returns-in-Solve-clause-there
returns-in-Solve-clause-there g c = λ e.
    subst (λ (a : RequestInCode). MayHaveFailed (g.H.Shelf.held c.args.shelf.now) (meant a) (g.H.Shelf.faults c.args.shelf.now) (g.H.Shelf.faults c.solve.new.shelf))
    (sym c.in-Solve.is) (c.solve.ensures.there e)

pub returns-in-Check-clause-there : goal.returns-in-Check-clause-there
returns-in-Check-clause-there g c = λ e.
    subst (λ (a : RequestInCode). MayHaveFailed (g.H.Shelf.held c.args.shelf.now) (meant a) (g.H.Shelf.faults c.args.shelf.now) (g.H.Shelf.faults c.check.new.shelf))
    (sym c.in-Check.is) tt

pub returns-in-Gen-clause-there : goal.returns-in-Gen-clause-there
returns-in-Gen-clause-there g c = λ e.
    subst (λ (a : RequestInCode). MayHaveFailed (g.H.Shelf.held c.args.shelf.now) (meant a) (g.H.Shelf.faults c.args.shelf.now) (g.H.Shelf.faults c.args.shelf.now))
    (sym c.in-Gen.is) tt

pub returns-in-Demo-clause-there : goal.returns-in-Demo-clause-there
returns-in-Demo-clause-there g c = λ e.
    subst (λ (a : RequestInCode). MayHaveFailed (g.H.Shelf.held c.args.shelf.now) (meant a) (g.H.Shelf.faults c.args.shelf.now) (g.H.Shelf.faults c.args.shelf.now))
    (sym c.in-Demo.is) tt

pub returns-in-Wave-clause-there : goal.returns-in-Wave-clause-there
returns-in-Wave-clause-there g c = λ e.
    subst (λ (a : RequestInCode). MayHaveFailed (g.H.Shelf.held c.args.shelf.now) (meant a) (g.H.Shelf.faults c.args.shelf.now) (g.H.Shelf.faults c.wave.new.shelf))
    (sym c.in-Wave.is) tt

pub returns-in-Slice-clause-there : goal.returns-in-Slice-clause-there
returns-in-Slice-clause-there g c = λ e.
    subst (λ (a : RequestInCode). MayHaveFailed (g.H.Shelf.held c.args.shelf.now) (meant a) (g.H.Shelf.faults c.args.shelf.now) (g.H.Shelf.faults c.write_slice.new.shelf))
    (sym c.in-Slice.is) tt

pub returns-in-Convert-clause-there : goal.returns-in-Convert-clause-there
returns-in-Convert-clause-there g c = λ e.
    subst (λ (a : RequestInCode). MayHaveFailed (g.H.Shelf.held c.args.shelf.now) (meant a) (g.H.Shelf.faults c.args.shelf.now) (g.H.Shelf.faults c.remake.new.shelf))
    (sym c.in-Convert.is) tt

pub returns-in-Safety-clause-there : goal.returns-in-Safety-clause-there
returns-in-Safety-clause-there g c = λ e.
    subst (λ (a : RequestInCode). MayHaveFailed (g.H.Shelf.held c.args.shelf.now) (meant a) (g.H.Shelf.faults c.args.shelf.now) (g.H.Shelf.faults c.safety.new.shelf))
    (sym c.in-Safety.is) tt

pub returns-in-Rounds-clause-there : goal.returns-in-Rounds-clause-there
returns-in-Rounds-clause-there g c = λ e.
    subst (λ (a : RequestInCode). MayHaveFailed (g.H.Shelf.held c.args.shelf.now) (meant a) (g.H.Shelf.faults c.args.shelf.now) (g.H.Shelf.faults c.count_rounds.new.shelf))
    (sym c.in-Rounds.is) tt

pub returns-in-Shortest-clause-there : goal.returns-in-Shortest-clause-there
returns-in-Shortest-clause-there g c = λ e.
    subst (λ (a : RequestInCode). MayHaveFailed (g.H.Shelf.held c.args.shelf.now) (meant a) (g.H.Shelf.faults c.args.shelf.now) (g.H.Shelf.faults c.find_shortest.new.shelf))
    (sym c.in-Shortest.is) tt

pub returns-in-Trim-clause-there : goal.returns-in-Trim-clause-there
returns-in-Trim-clause-there g c = λ e.
    subst (λ (a : RequestInCode). MayHaveFailed (g.H.Shelf.held c.args.shelf.now) (meant a) (g.H.Shelf.faults c.args.shelf.now) (g.H.Shelf.faults c.remake-in-Trim.new.shelf))
    (sym c.in-Trim.is) tt

pub returns-in-Export-clause-there : goal.returns-in-Export-clause-there
returns-in-Export-clause-there g c = λ e.
    subst (λ (a : RequestInCode). MayHaveFailed (g.H.Shelf.held c.args.shelf.now) (meant a) (g.H.Shelf.faults c.args.shelf.now) (g.H.Shelf.faults c.export_item.new.shelf))
    (sym c.in-Export.is) tt
