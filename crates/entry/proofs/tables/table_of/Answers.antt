use Rattle.std.proofs.Common.{◌≡◌, ◌+◌, length, take, ap, sym, ◌∙◌}
use Rattle.entry.specs.Clauses.{latch_from}
use Rattle.entry.specs.LatchTables.{number_in}
use Rattle.entry.proofs.TableLaws.{latch_fits, number-taken, with_latch-size}
use Rattle.entry.proofs.tables.table_of.Goals as goal

pub note-requires-clause-room : goal.note-requires-clause-room
note-requires-clause-room c =
    let size : c.loop-n.table.len ≡ c.args.c.now.max + 1 = c.loop-n.table.ok.0 ∙ c.loop-n.invariant.size in
    latch_fits c.args.c.now c.max.ensures.checked c.latches-latch-items.result.now c.latches-latch-items.ensures c.loop-n.n _
    c.loop-n-test.true c.loop-n.table.len size

pub loop-n-preserved : goal.loop-n-preserved
loop-n-preserved c =
    let same = c.latches-latch-items.ensures in
    let room = latch_fits c.args.c.now c.max.ensures.checked c.latches-latch-items.result.now same c.loop-n.n _
    c.loop-n-test.true (length c.loop-n.table.items) c.loop-n.invariant.size in
    record {
      size = ap length c.note.ensures ∙ with_latch-size c.loop-n.table.items _ c.loop-n.n ∙ c.loop-n.invariant.size;
      numbers = λ v.
          ap (λ t. number_in t v) c.note.ensures
          ∙ number-taken c.loop-n.table.items c.latches-latch-items.result.now c.loop-n.n _ v c.loop-n-test.true room
          (λ w. c.loop-n.invariant.numbers w ∙ ap (λ ls. latch_from 0 w (take c.loop-n.n ls)) (sym same))
          ∙ ap (λ ls. latch_from 0 v (take (c.loop-n.n + 1) ls)) same;
    }
