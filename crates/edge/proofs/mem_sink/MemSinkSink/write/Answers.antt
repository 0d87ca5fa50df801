use Rattle.std.proofs.Common.{rules, take}
use Rattle.edge.proofs.mem_sink.MemSinkSink.write.Goals as goal

pub returns-then-is_ok-clause-step : goal.returns-then-is_ok-clause-step
returns-then-is_ok-clause-step c = (take c.min-count.result c.args.piece.now, search rules)
