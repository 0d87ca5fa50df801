use Rattle.command_lines.specs.Words.{bytes_of}
use Rattle.command_lines.proofs.Taken.{no_request}
use Rattle.command_lines.proofs.commands.read_words.Goals as goal

pub returns-in-None : goal.returns-in-None
returns-in-None c = no_request (bytes_of c.args.words.now) _ c.in-Ok.ensures.kinds c.in-Ok.ensures.found c.in-None.ensures.none
