use Rattle.command_lines.specs.Words.{bytes_of}
use Rattle.command_lines.proofs.Taken.{taken_or_usage, found_read, told_read, ended_read}
use Rattle.command_lines.proofs.commands.asked_of.Goals as goal

pub returns-clause-found : goal.returns-clause-found
returns-clause-found c = found_read (bytes_of c.args.words.now) c.read_words.result c.read_words.ensures

pub returns-clause-exactly : goal.returns-clause-exactly
returns-clause-exactly c = told_read (bytes_of c.args.words.now) c.read_words.result c.read_words.ensures

pub returns-clause-either : goal.returns-clause-either
returns-clause-either c = taken_or_usage (bytes_of c.args.words.now)

pub returns-clause-ended : goal.returns-clause-ended
returns-clause-ended c = ended_read (bytes_of c.args.words.now) c.read_words.result c.read_words.ensures
