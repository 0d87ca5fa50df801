use Rattle.std.proofs.Common.{◌≡◌, true, sym, subst}
use Rattle.proof_semantics.specs.Clauses.{is_part}
use Rattle.ic3_generalise.proofs.Parts.{part_same}
use Rattle.clause_tests.proofs.shortening.ListedAsker.excluded.Goals as goal

pub returns-then-holds_one-clause-part : goal.returns-then-holds_one-clause-part
returns-then-holds_one-clause-part c =
    let cube = c.args.cube.now in
    subst (λ part. is_part part cube ≡ true) (sym c.in_ok-clone.ensures) (part_same cube)
