use Rattle.std.proofs.Common.{◌++◌, map, subst, sym}
use Rattle.proof_semantics.specs.Clauses.{negation}
use Rattle.cnf.specs.Clauses.{clause_numbered}
use Rattle.cdcl_log.specs.LoggedClauses.{added_of}
use Rattle.cdcl_log.specs.UnitClauses.{unit_clauses}
use Rattle.cdcl_log.specs.Writing.{Proves}
use Rattle.cdcl_log.proofs.WritingLaws.{hints_named}
use Rattle.cdcl_log.proofs.PuttingLaws.{line_proves}
use Rattle.cdcl_log.proofs.writing.proof_of.Goals as goal

pub complete-requires-clause-named : goal.complete-requires-clause-named
complete-requires-clause-named c =
    hints_named (clause_numbered (c.args.log.now.clauses ++ unit_clauses c.args.units.now)) (map negation c.args.clause.now) c.args.hints.now c.requires.hints

pub returns : goal.returns
returns c =
    subst (λ lines. Proves (added_of c.args.log.now ++ unit_clauses c.args.units.now) lines c.args.clause.now) (sym c.from_vec.ensures)
    (line_proves c.args.log.now c.args.units.now c.complete.new.self c.push_line.new.self c.args.clause.now c.args.hints.now c.requires.log c.requires.units c.requires.sized
    c.requires.hints c.in_ok-complete.ensures.ready c.in_ok-push_line.ensures c.in_ok-complete.ensures.written)
