use Rattle.std.proofs.Common.{ℕ, false, arith, ◌≤◌, ◌-◌, length, length-take, length-drop}
use Rattle.edge.proofs.Pieces.{Adds-append, take_next}
use Rattle.edge.proofs.Writings.{one_more_write}
use Rattle.edge.proofs.writing.write_all.Goals as goal

pub loop-done-preserved : goal.loop-done-preserved
loop-done-preserved g c =
    let fits : c.in_ok-done.field-0 ≤ length c.args.bytes.now - c.loop-done.done = omega (arith, c.in_ok-done.ensures.bound, length-take {A = ℕ}, length-drop {A = ℕ}) in
    record {
      within = omega (arith, fits);
      written = rw (← take_next c.args.bytes.now c.loop-done.done c.in_ok-done.field-0 fits) (Adds-append _ _ _ _ _ c.loop-done.invariant.written c.in_ok-done.ensures.taken);
      writes = one_more_write g.O.Sink.writes false c.args.sink.now c.loop-done.sink c.write.new.self c.loop-done.invariant.writes c.in_ok-done.ensures.step;
      later = omega arith;
    }
