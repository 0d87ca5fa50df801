use Rattle.cdcl_trail.proofs.ExtendLaws.{extends_none}
use Rattle.clause_tests.proofs.trails.Session.begin_anew.Goals as goal

pub invariant_of-self : goal.invariant_of-self
invariant_of-self c = extends_none c.new.result.taken c.self.inside.db.clauses c.new.ensures.taken
