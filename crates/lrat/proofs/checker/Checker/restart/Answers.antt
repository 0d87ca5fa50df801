use Rattle.lrat.proofs.CheckerLaws.{sound_restart}
use Rattle.lrat.proofs.checker.Checker.restart.Goals as goal

pub invariant_of-self-2 : goal.invariant_of-self-2
invariant_of-self-2 c = record {
  unmarked = c.widen.ensures;
  sound = sound_restart c.restart.result c.self.inside.store c.restart.new.self _ c.restart.ensures.ok c.restart.ensures.err c.self.invariant.sound;
}
