use Rattle.clap.specs.Simple.{new_app}
use Rattle.command_lines.proofs.words.for_value.Goals as goal

pub returns : goal.returns
returns c = c.with_wanted.ensures (new_app c.args.name.now) (record { shape = c.new.ensures.app; local = c.new.ensures.local })
