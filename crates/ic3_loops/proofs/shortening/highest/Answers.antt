use Rattle.std.proofs.Common.{length, refl, sym, subst, ◌∙◌, rules, arith}
use Rattle.edge.proofs.Ends.{counts_on}
use Rattle.ic3_semantics.specs.Stepping.{Stepping, IsOver}
use Rattle.ic3_loops.specs.Blocking.{NoneEnters}
use Rattle.ic3_loops.proofs.shortening.highest.Goals as goal

pub none_enters-requires : goal.none_enters-requires
none_enters-requires g c =
    let before = c.loop-next.invariant in
    subst (λ (st : Stepping). IsOver (length st.question.circuit.latches) c.args.cube.now) (sym before.same) before.held.excluded.over

pub loop-next-preserved : goal.loop-next-preserved
loop-next-preserved g c =
    let before = c.loop-next.invariant in
    let says = c.in_ok-none.ensures in
    record {
      held = record {
        least = omega (arith, before.held.least, before.next);
        inside = omega arith;
        excluded = record {
          over = before.held.excluded.over;
          misses = before.held.excluded.misses;
          none = subst (λ st. NoneEnters st c.loop-next.next c.args.cube.now) before.same (says.none.0 (search rules));
        };
      };
      next = refl;
      same = says.same ∙ before.same;
      counted = counts_on c.args.meter.now c.loop-next.meter c.none_enters.new.meter before.counted says.counted;
    }
