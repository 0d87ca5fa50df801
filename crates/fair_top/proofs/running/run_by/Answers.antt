use Rattle.std.proofs.Common.{refl, inl, inr}
use Rattle.command_lines.specs.Words.{bytes_of}
use Rattle.command_lines.specs.Commands.Request.{Solve}
use Rattle.fair_top.proofs.Ending.{is_printed, demo_sums_up, demo_is_silent, read_before, written, part_written, good_writes, silent_writes, not_a_write}
use Rattle.fair_top.proofs.running.run_by.Goals as goal

pub returns-in-Ok-write_all-clause-printed : goal.returns-in-Ok-write_all-clause-printed
returns-in-Ok-write_all-clause-printed g c = λ request asks.
    is_printed (g.H.Shelf.held c.args.shelf.now) (bytes_of c.args.words.now) (g.H.Shelf.faults c.args.shelf.now) (g.H.Shelf.faults c.ending_of.new.shelf)
    request c.in-Ok.field-0.status asks c.in-Ok.ensures.exactly c.in-Ok.ensures.read

pub returns-in-Ok-write_all-clause-text : goal.returns-in-Ok-write_all-clause-text
returns-in-Ok-write_all-clause-text g c =
    written (g.H.Shelf.held c.args.shelf.now) (bytes_of c.args.words.now) (g.O.Sink.taken c.args.out.now) (g.O.Sink.taken c.write_all.new.sink)
    c.in-Ok.field-0.status c.in-Ok.field-0.text.items c.deref.result.now c.deref.ensures.value c.in-Ok.ensures.found c.in-Ok-write_all.ensures.all

pub returns-in-Err-write_all-clause-text : goal.returns-in-Err-write_all-clause-text
returns-in-Err-write_all-clause-text g c =
    part_written (g.H.Shelf.held c.args.shelf.now) (bytes_of c.args.words.now) (g.O.Sink.taken c.args.out.now) (g.O.Sink.taken c.write_all.new.sink)
    c.in-Ok.field-0.status c.in-Ok.field-0.text.items c.deref.result.now c.deref.ensures.value c.in-Ok.ensures.found c.in-Err-write_all.ensures.part

pub returns-in-Err-write_all-clause-reads : goal.returns-in-Err-write_all-clause-reads
returns-in-Err-write_all-clause-reads g c =
    read_before g.H.Shelf.reads (g.H.Shelf.held c.args.shelf.now) (bytes_of c.args.words.now) c.in-Ok.field-0.status c.args.shelf.now c.ending_of.new.shelf
    c.in-Ok.ensures.aloud c.in-Ok.ensures.reads

pub returns-in-Ok-write_all-clause-written : goal.returns-in-Ok-write_all-clause-written
returns-in-Ok-write_all-clause-written g c =
    good_writes g.O.Sink.writes (g.H.Shelf.held c.args.shelf.now) (bytes_of c.args.words.now) c.in-Ok.field-0.status c.in-Ok.field-0.text.items
    c.args.out.now c.write_all.new.sink c.in-Ok.ensures.found c.in-Ok-write_all.ensures.writes

pub returns-in-Ok-write_all-clause-silent : goal.returns-in-Ok-write_all-clause-silent
returns-in-Ok-write_all-clause-silent g c = λ silent.
    silent_writes g.O.Sink.writes c.in-Ok.field-0.status c.args.out.now c.write_all.new.sink
    (good_writes g.O.Sink.writes (g.H.Shelf.held c.args.shelf.now) (bytes_of c.args.words.now) c.in-Ok.field-0.status c.in-Ok.field-0.text.items
    c.args.out.now c.write_all.new.sink c.in-Ok.ensures.found c.in-Ok-write_all.ensures.writes) silent

pub returns-in-Ok-write_all-clause-write : goal.returns-in-Ok-write_all-clause-write
returns-in-Ok-write_all-clause-write g c = λ e.
    absurd (not_a_write (g.H.Shelf.held c.args.shelf.now) (bytes_of c.args.words.now) c.in-Ok.field-0.status c.in-Ok.field-0.text.items c.in-Ok.ensures.found e)

pub returns-in-Ok-write_all-clause-solved : goal.returns-in-Ok-write_all-clause-solved
returns-in-Ok-write_all-clause-solved g c = λ model request resume asks. c.in-Ok.ensures.solved (Solve model request resume) asks

pub returns-in-Err-write_all-clause-solved : goal.returns-in-Err-write_all-clause-solved
returns-in-Err-write_all-clause-solved g c = λ model request resume asks has. inl (inr (inr refl))

pub returns-in-Err-clause-solved : goal.returns-in-Err-clause-solved
returns-in-Err-clause-solved g c = λ model request resume asks. c.in-Err.ensures.solved (Solve model request resume) asks

pub returns-in-Ok-write_all-clause-summed : goal.returns-in-Ok-write_all-clause-summed
returns-in-Ok-write_all-clause-summed g c = λ request asks.
    demo_sums_up (g.H.Shelf.held c.args.shelf.now) (bytes_of c.args.words.now) request c.in-Ok.field-0.status c.in-Ok.field-0.text.items
    asks c.in-Ok.ensures.found

pub returns-in-Err-write_all-clause-summed : goal.returns-in-Err-write_all-clause-summed
returns-in-Err-write_all-clause-summed g c = λ request asks. inl (inr refl)

pub returns-in-Err-clause-summed : goal.returns-in-Err-clause-summed
returns-in-Err-clause-summed g c = λ request asks.
    demo_is_silent (g.H.Shelf.held c.args.shelf.now) (bytes_of c.args.words.now) (g.H.Shelf.faults c.args.shelf.now) (g.H.Shelf.faults c.ending_of.new.shelf)
    request c.in-Err.status asks c.in-Err.ensures.silent c.in-Err.ensures.read
