use Rattle.worker_tests.proofs.Serving.{first-more}
use Rattle.worker_tests.proofs.running.push_if.Goals as goal

pub returns : goal.returns
returns c = first-more c.args.j c.args.properties.now.items c.requires
