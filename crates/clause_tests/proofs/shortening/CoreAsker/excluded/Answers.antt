use Rattle.std.proofs.Common.{◌≡◌, true, sym, subst, ◌∙◌}
use Rattle.proof_semantics.specs.Clauses.{is_part}
use Rattle.ic3_generalise.proofs.Parts.{part_same}
use Rattle.clause_tests.proofs.shortening.CoreAsker.excluded.Goals as goal

pub returns-then-subset-clause-passing : goal.returns-then-subset-clause-passing
returns-then-subset-clause-passing c =
    let own = c.args.self.now.own in
    subst (λ part. is_part own part ≡ true) (sym (c.in_ok-from_slice.ensures.literals ∙ c.as_slice-then-subset.ensures)) (part_same own)
