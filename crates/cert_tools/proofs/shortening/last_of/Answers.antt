use Rattle.std.proofs.Common.{sym, ◌∙◌}
use Rattle.cert_tools.proofs.TrimmingLaws.{empty_there}
use Rattle.cert_tools.proofs.shortening.last_of.Goals as goal

pub unreachable-requires : goal.unreachable-requires
unreachable-requires c = empty_there c.requires.0 c.args.lines.now c.requires.1 c.requires.2 (sym c.in_ok-last.ensures ∙ c.in-None.is)
