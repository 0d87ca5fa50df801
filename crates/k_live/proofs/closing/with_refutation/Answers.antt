use Rattle.k_live.proofs.Refuting.{no-model, shown}
use Rattle.k_live.proofs.closing.with_refutation.Goals as goal

pub proof_of-requires : goal.proof_of-requires
proof_of-requires c = no-model c.args.t.now c.args.entry.set c.in_ok-clauses.clauses.clauses c.requires.claim c.in_ok-clauses.ensures

pub returns-clause-shown : goal.returns-clause-shown
returns-clause-shown c =
    shown c.args.t.now c.args.entry.set c.args.entry c.in_ok-clauses.clauses.clauses c.in_ok-proof.proof c.in_ok-answer.field-0 c.in_ok-answer.ensures
    c.requires.said c.requires.proved c.in_ok-clauses.ensures c.in_ok-proof.ensures.proof
