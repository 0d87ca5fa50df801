use Rattle.std.proofs.Common.{rules}
use Rattle.std.proofs.lemmas.Fn.{filter_same}
use Rattle.ic3_frames.specs.Frames.{stays}
use Rattle.ic3_frames.proofs.levels.take_from.Goals as goal

pub returns-clause-keys : goal.returns-clause-keys
returns-clause-keys c = filter_same _ (stays c.args.level c.args.lemma.now) _ (λ x b f call. search rules) _ _ c.retain.ensures.filtered
