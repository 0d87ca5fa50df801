use Rattle.std.proofs.Common.{ℕ, ◌∙◌, subst, arith}
use Rattle.fair_workers.specs.Working.{Begins}
use Rattle.fair_workers.proofs.Threaded.{goes-first}
use Rattle.fair_workers.proofs.runners.begun_worker.Goals as goal

pub begin-requires-clause-inside : goal.begin-requires-clause-inside
begin-requires-clause-inside c =
    let same = c.number.ensures in
    let below = c.requires.number in
    omega (arith, same, below)

pub returns : goal.returns
returns c =
    let w = c.begin.result in
    goes-first c.args.limits c.args.properties.now c.args._ledger.now c.args.pass.now w c.requires (c.begin.ensures.meter ∙ c.meter_of.ensures)
    (subst (λ (n : ℕ). Begins c.args.limits c.args.properties.now n w) c.number.ensures c.begin.ensures.begins)
