use Rattle.std.proofs.Common.{◌≤◌, ◌+◌, ◌*◌, [], refl, sym, subst}
use Rattle.std.proofs.lemmas.List.Elements.{All-nil}
use Rattle.ic3_semantics.specs.declared.questions.Goal.TheVariants as goals
use Rattle.k_live.proofs.Paths.{next-low}
use Rattle.k_live.proofs.Telling.{answered-if}
use Rattle.k_live.proofs.searching.searched.Goals as goal

pub reach-requires-clause-goal : goal.reach-requires-clause-goal
reach-requires-clause-goal c =
    (subst (λ n. n ≤ 2 * c.args.t.now.max + 1) (sym c.next_of_last.ensures) (next-low c.args.t.now c.max-limits.ensures.limits c.requires), All-nil _)

pub returns-clause-answered : goal.returns-clause-answered
returns-clause-answered c =
    answered-if c.args.t.now (goals.Literal c.next_of_last.result (record { ref_ptr = _; now = [] })) c.reach.result c.reach.ensures.reached
    (c.next_of_last.ensures, refl)
