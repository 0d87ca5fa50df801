use Rattle.std.proofs.Common.{◌+◌, sym, subst}
use Rattle.worker_tests.specs.Serving.{AreFirst}
use Rattle.worker_tests.proofs.Serving.{first-push}
use Rattle.worker_tests.proofs.running.push_next.Goals as goal

pub returns : goal.returns
returns c = subst (AreFirst (c.args.j + 1)) (sym c.in_ok-push.ensures.items) (first-push c.args.j c.args.properties.now.items c.requires)
