use Rattle.ic3_frames.proofs.Steps.{put-behind}
use Rattle.ic3_frames.proofs.levels.put_last.Goals as goal

pub returns : goal.returns
returns c =
    put-behind c.args.level c.args.lemma c.args.own.now.keys c.take_from.new.own.keys c.insert.new.self.keys c.take_from.ensures.keys
    c.in-Ok.ensures.keys
