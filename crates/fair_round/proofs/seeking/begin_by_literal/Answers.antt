use Rattle.std.proofs.Common.{◌∙◌, subst}
use Rattle.std.specs.List.{All}
use Rattle.skeleton.specs.Finding.{Asking, BeginsNone}
use Rattle.fair_round.proofs.seeking.begin_by_literal.Goals as goal

pub literal_stem-requires-clause-avoid : goal.literal_stem-requires-clause-avoid
literal_stem-requires-clause-avoid c =
    subst (λ (a : Asking). All (BeginsNone a.circuit a.property a.seen) c.avoided-avoid.result.now) (c.loop-question.invariant.same ∙ c.requires.seen)
    c.avoided-avoid.ensures
