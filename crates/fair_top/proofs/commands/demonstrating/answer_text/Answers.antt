use Rattle.std.proofs.Common.{[]}
use Rattle.fair_top.proofs.commands.demonstrating.answer_text.Goals as goal

pub printed-requires-clause-answered : goal.printed-requires-clause-answered
printed-requires-clause-answered c = ([], c.requires.answered)

pub returns-in-Ok-clause-text : goal.returns-in-Ok-clause-text
returns-in-Ok-clause-text c = c.in-Ok.ensures.text

pub returns-in-Ok-clause-good : goal.returns-in-Ok-clause-good
returns-in-Ok-clause-good c = (c.in-Ok.ensures.found.0, c.in-Ok.ensures.found.4)
