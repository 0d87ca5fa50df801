use Rattle.cdcl_log.specs.IdsOf.{id_in}
use Rattle.cdcl_log.proofs.SpellingLaws.{hint_more}
use Rattle.cdcl_log.proofs.spelling.push_hints.Goals as goal

pub loop-hint-preserved : goal.loop-hint-preserved
loop-hint-preserved c =
    hint_more (id_in c.args.ids.now) c.args.out.now.items c.loop-hint.out.items c.push_literal.new.out.items c.args.hints.now c.loop-hint.hint-index 0 c.hint_of.result
    c.loop-hint-test.true c.loop-hint.invariant c.hint_of.ensures c.in_ok-push_literal.ensures
