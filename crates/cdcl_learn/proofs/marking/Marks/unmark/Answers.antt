use Rattle.std.proofs.Common.{◌≡◌, true, sym, subst, arith}
use Rattle.cdcl_learn.specs.Walking.{Marked, is_marked}
use Rattle.cdcl_learn.proofs.marking.Marks.unmark.Goals as goal

pub clear-requires : goal.clear-requires
clear-requires c = subst (λ (s : Marked). is_marked s.marks c.args.place ≡ true) (sym c.self.view_is) c.requires

pub overflow_sub-self : goal.overflow_sub-self
overflow_sub-self c = omega (arith, c.self.invariant, c.clear.ensures.count)

pub invariant_of-self : goal.invariant_of-self
invariant_of-self c = omega (arith, c.self.invariant, c.clear.ensures.count)
