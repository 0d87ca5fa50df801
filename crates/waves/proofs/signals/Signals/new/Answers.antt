use Rattle.std.proofs.Common.{List, ◌∙◌, ap, sym}
use Rattle.waves.specs.declared.signals.Signal.{Signal}
use Rattle.waves.specs.Names.{has_name}
use Rattle.waves.proofs.KeptLaws.{no_keys}
use Rattle.waves.proofs.signals.Signals.new.Goals as goal

pub invariant_of-result : goal.invariant_of-result
invariant_of-result c name = no_keys c.new-2.result c.new-2.ensures.empty name ∙ ap (λ (signals : List Signal). has_name signals name) (sym c.new.ensures.items)
