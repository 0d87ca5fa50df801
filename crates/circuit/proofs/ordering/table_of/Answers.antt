use Rattle.std.proofs.Common.{arith}
use Rattle.circuit.proofs.Tables.{place-inside, fills-more, fills-all}
use Rattle.circuit.proofs.ordering.table_of.Goals as goal

pub index_mut-requires : goal.index_mut-requires
index_mut-requires c =
    let inside =
    place-inside c.args.parts.now c.requires.in_range c.requires.once c.as_slice-gate-items.result.now c.as_slice-gate-items.ensures
    c.loop-k.table.items c.loop-k.k c.loop-k.invariant (record { var = 0; rhs0 = 0; rhs1 = 0 }) c.loop-k-test.true
    in
    omega (arith, inside, c.loop-k.table.ok.0)

pub loop-k-preserved : goal.loop-k-preserved
loop-k-preserved c =
    fills-more c.args.parts.now c.requires.in_range c.requires.once c.as_slice-gate-items.result.now c.as_slice-gate-items.ensures
    c.loop-k.table.items c.loop-k.k c.loop-k.invariant _ c.loop-k-test.true

pub returns : goal.returns
returns c =
    fills-all c.args.parts.now c.requires.in_range c.requires.once c.as_slice-gate-items.result.now c.as_slice-gate-items.ensures
    c.loop-k.table.items c.loop-k.k c.loop-k.invariant c.loop-k-test.false c.loop-k.auto.k-end
