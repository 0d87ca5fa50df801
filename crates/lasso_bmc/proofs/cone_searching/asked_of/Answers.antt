use Rattle.std.proofs.Common.{ℕ, sym, subst}
use Rattle.lasso_bmc.specs.Searching.{HasNoneWithin}
use Rattle.lasso_bmc.proofs.cone_searching.asked_of.Goals as goal

pub deepen-answer-requires-clause-none : goal.deepen-answer-requires-clause-none
deepen-answer-requires-clause-none c =
    subst (λ (n : ℕ). HasNoneWithin c.args.part.now 0 n) (sym c.requires.taken.positions) c.requires.taken.none
