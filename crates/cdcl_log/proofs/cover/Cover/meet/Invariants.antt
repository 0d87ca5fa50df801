use Rattle.std.proofs.Common.{◌≡◌, take, true}
use Rattle.cdcl_log.specs.Variables.{is_over, HasAll}
use Rattle.cdcl_log.proofs.cover.Cover.meet.Given as goal

abbrev pub invariant-loop-literal : goal.invariant-loop-literal
invariant-loop-literal l = record {
  over : is_over l.self (take l.literal-index l.clause) ≡ true;
  stays : HasAll l.initial.self l.self;
}
