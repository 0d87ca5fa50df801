use Rattle.text_grammar.proofs.PieceLaws.{cuts_first, cuts_none}
use Rattle.text_grammar.proofs.pieces.next_field.Goals as goal

pub returns-in-Some-clause-more : goal.returns-in-Some-clause-more
returns-in-Some-clause-more c = cuts_first 32 _ _ _ c.in-Some.ensures.found

pub returns-in-None-clause-last : goal.returns-in-None-clause-last
returns-in-None-clause-last c = cuts_none 32 _ c.in-None.ensures.none
