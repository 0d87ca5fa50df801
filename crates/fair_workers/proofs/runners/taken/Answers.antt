use Rattle.std.proofs.Common.{◌≡◌, sym, ap, ◌∙◌, subst}
use Rattle.std.specs.Prelude.{is_some}
use Rattle.wall_ledger.specs.Passes.{PassState}
use Rattle.wall_ledger.proofs.Events.{some_same}
use Rattle.fair_workers.specs.OnThreads.{IsReady}
use Rattle.fair_workers.proofs.runners.taken.Goals as goal

pub unwrap-requires : goal.unwrap-requires
unwrap-requires c = ap is_some (c.take.ensures.value ∙ c.requires.1)

pub returns-clause-pass : goal.returns-clause-pass
returns-clause-pass c = sym c.take.ensures.value ∙ c.unwrap.ensures

pub returns-clause-ready : goal.returns-clause-ready
returns-clause-ready c =
    let p : PassState = c.unwrap.result in
    let is : c.requires.0 ≡ p = some_same c.requires.0 p (sym c.requires.1 ∙ sym c.take.ensures.value ∙ c.unwrap.ensures) in
    subst (IsReady c.args._limits c.args._properties.now c.args._ledger.now) is c.requires.2
