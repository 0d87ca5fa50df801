use Rattle.std.proofs.Common.{length, drop}
use Rattle.aiger_grammar.specs.Names.{names_at}
use Rattle.aiger_names.proofs.Answers.{of_same, given_by, found, every, fault}
use Rattle.aiger_names.proofs.reading.read_names.Goals as goal

pub returns-clause-exact : goal.returns-clause-exact
returns-clause-exact c = given_by c.read_last_names.result (names_at c.args.counts.now (length c.args.bytes.now) (drop c.args.from c.args.bytes.now)) (of_same c.args.counts.now (length c.args.bytes.now) _ (drop c.args.from c.args.bytes.now) c.read_last_names.result c.split_at.ensures.back c.read_last_names.ensures)

pub returns-clause-found : goal.returns-clause-found
returns-clause-found c = found c.args.counts.now (length c.args.bytes.now) (drop c.args.from c.args.bytes.now) c.read_last_names.result (of_same c.args.counts.now (length c.args.bytes.now) _ (drop c.args.from c.args.bytes.now) c.read_last_names.result c.split_at.ensures.back c.read_last_names.ensures)

pub returns-clause-every : goal.returns-clause-every
returns-clause-every c = every c.args.counts.now (length c.args.bytes.now) (drop c.args.from c.args.bytes.now) c.read_last_names.result (of_same c.args.counts.now (length c.args.bytes.now) _ (drop c.args.from c.args.bytes.now) c.read_last_names.result c.split_at.ensures.back c.read_last_names.ensures)

pub returns-clause-fault : goal.returns-clause-fault
returns-clause-fault c = fault c.args.counts.now (length c.args.bytes.now) (drop c.args.from c.args.bytes.now) c.read_last_names.result (of_same c.args.counts.now (length c.args.bytes.now) _ (drop c.args.from c.args.bytes.now) c.read_last_names.result c.split_at.ensures.back c.read_last_names.ensures)
