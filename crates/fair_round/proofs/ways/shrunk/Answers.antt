use Rattle.fair_round.specs.Stems.{question_of}
use Rattle.fair_round.proofs.Steps.{closed-part}
use Rattle.fair_round.proofs.ways.shrunk.Goals as goal

pub shrink-requires-clause-separates : goal.shrink-requires-clause-separates
shrink-requires-clause-separates c =
    closed-part (question_of c.args.scope.now c.args.start.now) c.args.goal.now c.args.reached c.in-Closed.clauses c.in-Closed.uses c.in-Closed.is c.requires.reached
