use Rattle.std.proofs.Common.{◌≡◌, take, true}
use Rattle.cdcl_log.specs.Variables.{is_over}
use Rattle.cdcl_log.proofs.cover.Cover.has_all.Given as goal

abbrev pub invariant-loop-literal : goal.invariant-loop-literal
invariant-loop-literal l = is_over l.self (take l.literal-index l.lits) ≡ true
