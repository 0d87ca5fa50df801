use Rattle.std.specs.Arc.{arc_value}
use Rattle.fair_round.proofs.Kept.{new-fits}
use Rattle.fair_round.proofs.rounds.new_search.Goals as goal

pub returns : goal.returns
returns c = new-fits (arc_value c.args.c.now) c.new.result c.new.ensures.new c.new.ensures.left
