use Rattle.std.proofs.Common.{get_or}
use Rattle.ternary.proofs.Words.{value-hidden, value-shown}
use Rattle.ternary.proofs.lanes.unknown_words.Goals as goal

pub returns-clause-hidden : goal.returns-clause-hidden
returns-clause-hidden c = λ k below le. value-hidden (get_or c.args.words 0 0) (get_or c.args.words 1 0) c.args.from k c.requires le below

pub returns-clause-shown : goal.returns-clause-shown
returns-clause-shown c = λ k below. value-shown (get_or c.args.words 0 0) (get_or c.args.words 1 0) c.args.from k c.requires below
