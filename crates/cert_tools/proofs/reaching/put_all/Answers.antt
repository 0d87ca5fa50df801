use Rattle.std.proofs.Common.{ℕ, List, take, take_all, get_or, subst, sym, arith}
use Rattle.std.proofs.lemmas.List.{take_more}
use Rattle.cert_tools.specs.Reaching.{HasMore}
use Rattle.cert_tools.proofs.ReachedLaws.{one_more}
use Rattle.cert_tools.proofs.reaching.put_all.Goals as goal

pub loop-number-preserved : goal.loop-number-preserved
loop-number-preserved c =
    let more : List ℕ = c.args.more.now in
    let k : ℕ = c.loop-number.number-index in
    subst (λ (xs : List ℕ). HasMore c.args.numbers.now xs c.put.new.self) (sym (take_more more k 0 c.loop-number-test.true))
    (one_more c.args.numbers.now c.loop-number.numbers c.put.new.self (take k more) (get_or more k 0) c.loop-number.invariant c.in_ok-put.ensures)

pub returns : goal.returns
returns c =
    subst (λ (xs : List ℕ). HasMore c.args.numbers.now xs c.loop-number.numbers) (take_all c.loop-number.number-index c.args.more.now (omega (arith, c.loop-number-test.false))) c.loop-number.invariant
