use Rattle.std.proofs.Common.{take}
use Rattle.cert_tools.specs.Reaching.{HasMore}
use Rattle.cert_tools.proofs.reaching.put_all.Given as goal

abbrev pub invariant-loop-number : goal.invariant-loop-number
invariant-loop-number l = HasMore l.initial.numbers (take l.number-index l.more) l.numbers
