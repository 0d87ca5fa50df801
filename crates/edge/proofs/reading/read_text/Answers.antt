use Rattle.std.proofs.Common.{ℕ, rules, Bool, false, subst, ◌≡◌, ◌+◌, ◌<◌, ◌++◌, length, take, Some, vec_len, arith, ◌∙◌, sym, ap, length-take, length-append}
use Rattle.edge.proofs.Pieces.{front_next, front_end}
use Rattle.edge.specs.Reads.{Within, Reads, ReadsSomewhere, has_failed}
use Rattle.edge.proofs.Readings.{one_more_read}
use Rattle.edge.proofs.reading.read_text.Goals as goal
use Rattle.edge.proofs.reading.read_text.Goals.{else-loop-text-test, then-loop-text-test+in_ok-count+then-count-eq0}

pub loop-text-preserved : goal.loop-text-preserved
loop-text-preserved g c =
    let added : c.read_more.new.front.items ≡ c.loop-text.text.items ++ take c.in_ok-count.count c.read_more.new.room = c.in_ok-count.ensures.added in
    let bound = c.in_ok-count.ensures.bound in
    let len : vec_len c.read_more.new.front ≡ vec_len c.loop-text.text + c.in_ok-count.count = omega (arith, c.loop-text.text.ok.0, c.read_more.new.front.ok.0, ap length added, bound, length-take {A = ℕ}, length-append {A = ℕ}) in
    record {
      within = omega (arith, bound, length-take {A = ℕ});
      read = λ x told.
          let held_now : g.H.Shelf.held c.loop-text.shelf c.args.name.now ≡ Some x = c.loop-text.invariant.kept c.args.name.now ∙ told in
          let next = front_next x _ _ _ _ (c.loop-text.invariant.read x told) (c.in_ok-count.ensures.bytes x held_now) in
          added ∙ next ∙ ap (λ n. take n x) (sym len);
      chunk = c.loop-text.invariant.chunk;
      counts = λ name. omega (arith, c.loop-text.invariant.counts name, c.in_ok-count.ensures.counts name);
      kept = λ name. c.in_ok-count.ensures.kept name ∙ c.loop-text.invariant.kept name;
      reads = one_more_read (Within (c.args.limit + 1) g.H.Shelf.reads) c.args.name.now false c.args.shelf.now c.loop-text.shelf c.read_more.new.shelf c.loop-text.invariant.reads
          (_, _, (omega (arith, c.min-room.ensures, c.loop-text.invariant.within, length-take {A = ℕ}), c.in_ok-count.ensures.step));
    }

pub returns-clause-text : goal.returns-clause-text
returns-clause-text g c x told =
    elim c.loop-text-test.branch [
      | else-loop-text-test w ↦
          let len : vec_len c.loop-text.text ≡ c.args.limit + 1 = omega arith in
          ap (λ v. v.items) w.text-is ∙ c.loop-text.invariant.read x told ∙ ap (λ n. take n x) len
      | then-loop-text-test+in_ok-count+then-count-eq0 w ↦
          let held_now : g.H.Shelf.held c.loop-text.shelf c.args.name.now ≡ Some x = c.loop-text.invariant.kept c.args.name.now ∙ told in
          let room : 0 < length w.read_more.new.room = omega (arith, w.min-room.ensures, w.deref_mut.ensures.len, length-take {A = ℕ}) in
          let whole = front_end x _ _ _ _ (c.args.limit + 1) (c.loop-text.invariant.read x told) (w.in_ok-count.ensures.bytes x held_now) room w.if-count-eq0.true (omega arith) in
          ap (λ v. v.items) w.text-is ∙ w.in_ok-count.ensures.added ∙ whole
    ]

pub returns-in_err-count-clause-reads : goal.returns-in_err-count-clause-reads
returns-in_err-count-clause-reads g c =
    let step = c.in_err-count.ensures.step in
    one_more_read (Within (c.args.limit + 1) g.H.Shelf.reads) c.args.name.now (has_failed c.from_residual-in_err-count.result) c.args.shelf.now c.loop-text.shelf c.read_more.new.shelf c.loop-text.invariant.reads
    (subst (λ (failed : Bool). ReadsSomewhere (Within (c.args.limit + 1) g.H.Shelf.reads) c.args.name.now failed c.loop-text.shelf c.read_more.new.shelf) (search rules) (_, _, (omega (arith, c.min-room.ensures, c.loop-text.invariant.within, length-take {A = ℕ}), step)))

pub returns-clause-reads : goal.returns-clause-reads
returns-clause-reads g c =
    elim c.loop-text-test.branch [
      | else-loop-text-test w ↦
          subst (λ shelf. Reads (Within (c.args.limit + 1) g.H.Shelf.reads) c.args.name.now false c.args.shelf.now shelf) (sym w.shelf-is) c.loop-text.invariant.reads
      | then-loop-text-test+in_ok-count+then-count-eq0 w ↦
          subst (λ shelf. Reads (Within (c.args.limit + 1) g.H.Shelf.reads) c.args.name.now false c.args.shelf.now shelf) (sym w.shelf-is)
          (one_more_read (Within (c.args.limit + 1) g.H.Shelf.reads) c.args.name.now false c.args.shelf.now c.loop-text.shelf w.read_more.new.shelf c.loop-text.invariant.reads (_, _, (omega (arith, w.min-room.ensures, c.loop-text.invariant.within, length-take {A = ℕ}), w.in_ok-count.ensures.step)))
    ]
