use Rattle.std.proofs.Common.{ap}
use Rattle.wall_ledger.specs.Passes.{PassState}
use Rattle.wall_ledger.proofs.Closing.{seat_faces}
use Rattle.wall_ledger.proofs.ledger.Pass.into_seat.Goals as goal

pub returns-clause-own : goal.returns-clause-own
returns-clause-own c = ap (λ (p : PassState). p.home.lock) c.self.view_is

pub returns-clause-idle : goal.returns-clause-idle
returns-clause-idle c = (c.self.invariant.stage, c.self.invariant.empty)

pub returns-clause-faces : goal.returns-clause-faces
returns-clause-faces c = seat_faces c.self.inside.hand c.args.self c.self.invariant c.self.view_is
