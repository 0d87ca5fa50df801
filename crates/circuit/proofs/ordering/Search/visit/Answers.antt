use Rattle.std.proofs.Common.{sym}
use Rattle.circuit.specs.Sections.{circuit_of}
use Rattle.circuit.proofs.Searching.{begins-first}
use Rattle.circuit.proofs.ordering.Search.visit.Goals as goal

pub finish-requires : goal.finish-requires
finish-requires c = record {
  search =
      begins-first (circuit_of c.args.parts.now) c.args.self.now.progress.items c.args.self.now.path.items c.args.self.now.order.items
      c.args.gate c.in-Waiting.field-0 c.requires.search c.requires.path c.requires.member (sym c.in-Waiting.ensures)
      c.begin.new.self.progress.items c.begin.new.self.path.items c.begin.new.self.order.items
      c.in_ok-begin.ensures.progress c.in_ok-begin.ensures.path c.in_ok-begin.ensures.order;
}
