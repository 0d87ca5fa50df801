use Rattle.std.proofs.Common.{rules, ◌∙◌, ◌+◌, sym, None, Some}
use Rattle.waves.proofs.BracketLaws.{bracket_start, behind_place, bracket_on, bracket_done}
use Rattle.waves.proofs.bits.bracket_in.Goals as goal

pub loop-k-init : goal.loop-k-init
loop-k-init c = bracket_start c.args.name.now

pub returns-in-Some-clause-bracket : goal.returns-in-Some-clause-bracket
returns-in-Some-clause-bracket c =
    sym (sym c.loop-k.invariant
    ∙ bracket_on c.args.name.now c.loop-k.k 0 _ _ (Some c.in-Some.index) c.loop-k-test.true c.in-Some.ensures (search rules) (behind_place c.args.name.now (c.loop-k.k + 1)))

pub loop-k-preserved : goal.loop-k-preserved
loop-k-preserved c =
    sym (bracket_on c.args.name.now c.loop-k.k 0 _ _ None c.loop-k-test.true c.in_default.ensures (search rules) (behind_place c.args.name.now (c.loop-k.k + 1))) ∙ c.loop-k.invariant

pub returns-clause-bracket : goal.returns-clause-bracket
returns-clause-bracket c = sym (bracket_done c.args.name.now c.loop-k.k c.loop-k-test.false) ∙ c.loop-k.invariant
