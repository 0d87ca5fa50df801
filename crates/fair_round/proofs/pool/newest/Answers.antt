use Rattle.std.proofs.Common.{◌-◌, arith}
use Rattle.fair_round.proofs.Pools.{place-size}
use Rattle.fair_round.proofs.pool.newest.Goals as goal

pub tried-requires-clause-state : goal.tried-requires-clause-state
tried-requires-clause-state c =
    place-size c.args.scope.now.circuit.now c.args.positions.now (c.places.at - 1) c.state_of-state.result.now
    (omega (arith, c.places.invariant.within, c.places-test.true)) c.state_of-state.ensures c.requires.run
