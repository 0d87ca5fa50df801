use Rattle.std.proofs.Common.{◌≡◌, [], fold, length, take}
use Rattle.waves.specs.Names.{identifier}
use Rattle.waves.specs.Signals.{with_signal}
use Rattle.waves.proofs.signals.named.Given as goal

abbrev pub invariant-loop-variable : goal.invariant-loop-variable
invariant-loop-variable l = record {
  signals : l.signals ≡ fold with_signal [] (take l.variable-index l.variables);
  code : l.code.items ≡ identifier (length l.signals);
}
