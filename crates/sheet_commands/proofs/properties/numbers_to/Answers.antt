use Rattle.std.proofs.Common.{ℕ, List, [], ◌∷◌, ◌++◌, ◌∙◌, sym, ap}
use Rattle.sheet_commands.proofs.Numbers.{one_number_more}
use Rattle.sheet_commands.proofs.properties.numbers_to.Goals as goal

pub loop-n-preserved : goal.loop-n-preserved
loop-n-preserved c = c.in_ok-push.ensures.items ∙ ap (λ (l : List ℕ). l ++ c.loop-n.n ∷ []) c.loop-n.invariant ∙ sym (one_number_more c.loop-n.n)
