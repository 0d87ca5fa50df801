use Rattle.std.proofs.Common.{refl, sym, subst}
use Rattle.ic3.specs.SteppingStart.{HoldsAll}
use Rattle.ic3.proofs.Anew.{renewed_held}
use Rattle.ic3.proofs.renewing.hold_anew.Goals as goal

pub returns : goal.returns
returns c = λ st base same held begun.
    renewed_held st base c.args.old.now c.args.made.now c.hold_all.new.s
    (record {
      solver = c.hold_all.new.s.solver;
      here = c.hold_all.new.s.here;
      next = c.hold_all.new.s.next;
      free = c.hold_all.new.s.free;
      levels = c.hold_all.new.s.levels;
      asked = c.hold_all.new.s.asked;
      without_clause = c.hold_all.new.s.without_clause;
      count = c.args.old.now.count;
      held = c.hold_all.new.s.held;
      implying = c.in_ok-others.others;
    })
    held begun (subst (λ ls. HoldsAll ls c.args.made.now c.hold_all.new.s) (sym same) c.in_ok-hold_all.ensures) refl refl refl refl refl refl
