use Rattle.std.proofs.Common.{◌<◌, ◌++◌, [], length, get_or, sym, ap, ◌∙◌, arith}
use Rattle.cnf_unroll.specs.Obligations.{units, broken_literals}
use Rattle.entry.specs.Listing.{entries_of}
use Rattle.entry.specs.Proved.{obligation_of}
use Rattle.entry.specs.Entries.{said}
use Rattle.entry.proofs.ProofFaults.{step_some}
use Rattle.entry.proofs.entries.first_refused.Goals as goal

pub returns-in-Some : goal.returns-in-Some
returns-in-Some c =
    let e = c.args.e.now in
    let i = c.loop-i.i in
    let below : i < length e.proofs = omega (arith, c.loop-i-test.true, c.len-i-end.ensures) in
    let more = units (broken_literals c.args.c.now (get_or e.set i [])) in
    let same = ap (λ clauses. clauses ++ more) c.loop-i.invariant.shared in
    step_some (obligation_of c.args.c.now (entries_of c.args.list.now) (said e)) i e.proofs [] (c.loop-i.judge.shared ++ more) _ c.in-Some.found
    below same (sym c.in-Some.is ∙ c.in_ok-found.ensures.fault) c.loop-i.invariant.fault
