use Rattle.std.proofs.Common.{arith}
use Rattle.lrat.proofs.StoreLaws.{search_low, search_high}
use Rattle.lrat.proofs.arena.search.Goals as goal

pub loop-low-preserved-then-here-id-2 : goal.loop-low-preserved-then-here-id-2
loop-low-preserved-then-here-id-2 c = (
  c.loop-low.invariant.0,
  search_low c.args.places.now _ c.args.id _ c.requires (omega (arith, c.loop-low.invariant.0)) c.if-here-id-2.true,
  c.loop-low.invariant.2,
)

pub loop-low-preserved : goal.loop-low-preserved
loop-low-preserved c = (
  omega (arith, c.loop-low.invariant.0),
  c.loop-low.invariant.1,
  search_high c.args.places.now _ c.args.id _ c.requires (omega (arith, c.loop-low.invariant.0)) c.if-here-id-2.false c.if-here-id.false,
)
