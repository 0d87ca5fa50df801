use Rattle.std.proofs.Common.{◌≡◌, [], ◌∷◌, sym, ap, subst}
use Rattle.entry.specs.CheckedEntries.{viewed}
use Rattle.ic3_semantics.specs.declared.questions.Reached.TheVariants.{Closed}
use Rattle.ic3_questions.specs.SteppingClauses.{own_uses}
use Rattle.ic3_semantics.specs.Searching.{Question, IsReached}
use Rattle.ic3_semantics.specs.Stepping.{Stepping}
use Rattle.ic3_loops.specs.Sound.{IsStartCube}
use Rattle.ic3_loops.specs.Single.{IsSingleOf}
use Rattle.ic3_loops.proofs.Starts.{is_start_cube}
use Rattle.ic3.proofs.Singles.{single-reached, if-some}
use Rattle.ic3.proofs.searching.close_by_latch.Goals as goal

pub single-requires : goal.single-requires
single-requires c = ap (λ (s : Stepping). s.lemmas) c.requires.steps

pub returns-in_ok-of_one-in-Some-clause-reached : goal.returns-in_ok-of_one-in-Some-clause-reached
returns-in_ok-of_one-in-Some-clause-reached c =
    let q : Question = record { circuit = c.args.asked.now.c.now; view = viewed c.args.asked.now.view.now; start = c.args.asked.now.start.now } in
    if-some (λ r. r ≡ Closed (c.in-Some.clause ∷ []) (own_uses q.view q.start)) (IsReached q c.args.asked.now.goal.now) c.in_ok-of_one-in-Some.field-0
    (λ r is.
    single-reached c.args.asked.now.c.now (viewed c.args.asked.now.view.now) c.args.asked.now.start.now c.args.asked.now.goal.now c.args.asked.now.starts.now c.in-Some.clause
    r c.requires.asked.view.valid c.requires.asked.starts
    (subst (IsStartCube q) (sym c.requires.asked.starts) (is_start_cube c.args.asked.now.c.now (viewed c.args.asked.now.view.now) c.args.asked.now.start.now c.requires.asked.start))
    (subst (λ (s : Stepping). IsSingleOf s.question c.args.asked.now.starts.now c.args.asked.now.goal.now c.in-Some.clause) c.requires.steps
    (rw c.in-Some.is at c.in_ok-clause.ensures.single))
    is)
    c.in_ok-of_one-in-Some.ensures.closed
