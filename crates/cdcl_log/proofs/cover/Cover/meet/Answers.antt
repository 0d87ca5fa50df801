use Rattle.cdcl_log.proofs.CoverLaws.{no_literal, has_all_chain, over_taken}
use Rattle.cdcl_log.proofs.cover.Cover.meet.Goals as goal

pub loop-literal-preserved : goal.loop-literal-preserved
loop-literal-preserved c = record {
  over = over_taken c.loop-literal.self c.meet_one.new.self c.args.clause.now c.loop-literal.literal-index no_literal c.loop-literal-test.true
      c.meet_one.ensures.stays c.loop-literal.invariant.over c.in_ok-meet_one.ensures.has;
  stays = has_all_chain c.args.self.now c.loop-literal.self c.meet_one.new.self c.loop-literal.invariant.stays c.meet_one.ensures.stays;
}
