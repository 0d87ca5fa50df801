use Rattle.std.proofs.Common.{ap}
use Rattle.std.proofs.Math.ListN.{drop_of_length-le}
use Rattle.proof_semantics.specs.Proofs.{ids_of}
use Rattle.lrat.proofs.ArenaLaws.{drop_first}
use Rattle.lrat.proofs.StoreLaws.{delete_step, delete_end}
use Rattle.lrat.proofs.store.Store.delete.Goals as goal

pub loop-id-preserved : goal.loop-id-preserved
loop-id-preserved c =
    delete_step c.loop-id.self _ _ _ _ _ c.delete_one.ensures c.loop-id.invariant (ap ids_of (drop_first c.args.ids.now c.loop-id.id-index _ c.loop-id-test.true))

pub returns : goal.returns
returns c = delete_end c.loop-id.self _ _ c.loop-id.invariant (ap ids_of (drop_of_length-le c.args.ids.now c.loop-id-test.false))
