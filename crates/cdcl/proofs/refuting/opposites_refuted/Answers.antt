use Rattle.std.proofs.Common.{◌≡◌, ◌++◌, ◌∷◌, [], length, map, None, sym, subst}
use Rattle.proof_semantics.specs.Propagation.{hints_fault}
use Rattle.cnf.specs.Clauses.{clause_numbered}
use Rattle.cdcl_log.specs.UnitClauses.{unit_clauses}
use Rattle.cdcl.specs.UnitNumbers.{unit_number}
use Rattle.cdcl.proofs.UnitLaws.{opposite_units}
use Rattle.cdcl.proofs.refuting.opposites_refuted.Goals as goal

pub refutation-requires-clause-hints : goal.refutation-requires-clause-hints
refutation-requires-clause-hints c =
    subst (λ b. hints_fault (clause_numbered (c.args.log.now.clauses ++ unit_clauses c.args.units.now)) []
    (map (unit_number (length c.args.log.now.clauses) c.args.units.now) (c.args.literal ∷ b ∷ []) ++ []) ≡ None)
    (sym c.negation.ensures) (opposite_units c.args.log.now.clauses c.args.units.now c.args.literal c.requires.one c.requires.other)
