use Rattle.std.proofs.Common.{◌≡◌, ◌++◌, List, length, take, drop, sym, subst, arith}
use Rattle.wall_ledger.specs.Passes.{PassState}
use Rattle.wall_ledger.specs.Turns.{AreOf}
use Rattle.ledger_tests.specs.Passes.{StayPasses, numbers}
use Rattle.ledger_tests.proofs.PassLaws.{stay_own, stay_numbers, written_back}
use Rattle.ledger_tests.proofs.racing.race_listed.Goals as goal

pub returns-clause-own : goal.returns-clause-own
returns-clause-own g c =
    let before = c.args.passes.now.items in
    let after = c.race_each.new.passes in
    let stay : StayPasses before after = subst (λ xs. StayPasses xs after) c.deref_mut.ensures.value c.race_each.ensures in
    subst (λ xs. AreOf c.args.race.now.ledger.now xs)
    (sym (written_back c.args.passes.now.len after before (omega (arith, c.args.passes.now.ok.0)) (omega (arith, stay.0, c.args.passes.now.ok.0))))
    (stay_own c.args.race.now.ledger.now before after stay c.requires.own)

pub returns-clause-numbers : goal.returns-clause-numbers
returns-clause-numbers g c =
    let before = c.args.passes.now.items in
    let after = c.race_each.new.passes in
    let stay : StayPasses before after = subst (λ xs. StayPasses xs after) c.deref_mut.ensures.value c.race_each.ensures in
    subst (λ xs. numbers xs ≡ numbers before)
    (sym (written_back c.args.passes.now.len after before (omega (arith, c.args.passes.now.ok.0)) (omega (arith, stay.0, c.args.passes.now.ok.0))))
    (stay_numbers c.args.race.now.ledger.now before after stay)
