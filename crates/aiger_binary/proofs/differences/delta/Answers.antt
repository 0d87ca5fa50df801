use Rattle.std.proofs.Common.{subst, sym}
use Rattle.aiger_grammar.specs.Answered.{GivesRead}
use Rattle.aiger_binary.proofs.DifferenceLaws.{sums_delta}
use Rattle.aiger_binary.proofs.differences.delta.Goals as goal

pub returns : goal.returns
returns c = subst (GivesRead (λ x. (x.0, x.1.now)) c.groups.result) (sym (sums_delta c.args.total c.args.bytes.now)) (rw (sym c.place.ensures) c.groups.ensures)
