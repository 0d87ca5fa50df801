use Rattle.std.proofs.Common.{refl, sym, subst}
use Rattle.ic3_semantics.specs.declared.questions.Start.TheVariants.{State}
use Rattle.ic3_semantics.specs.declared.questions.Goal.TheVariants as goals
use Rattle.ic3_semantics.specs.Searching.{Question, Separates, closed_entry}
use Rattle.fair_round.specs.Places.{IsStateOf}
use Rattle.fair_round.specs.Scopes.{entries_of}
use Rattle.fair_round.proofs.Steps.{wall-barred}
use Rattle.fair_round.proofs.walls.wall_between.Goals as goal

pub returns-in-Some-clause-bar : goal.returns-in-Some-clause-bar
returns-in-Some-clause-bar c =
    let q : Question = record { circuit = c.args.scope.now.circuit.now; view = entries_of c.args.scope.now; start = State c.in_ok-try_copy.field-0 } in
    let s : Separates q (goals.State c.as_slice.result) (closed_entry q.start c.in-Some.part.clauses c.in-Some.part.uses) =
    rw c.in-Some.is at c.in_ok-part.ensures.separates
    in
    wall-barred c.args.scope.now.circuit.now (entries_of c.args.scope.now) c.args.situations.now c.in_ok-try_copy.field-0 c.as_slice.result.now c.in-Some.part.clauses c.in-Some.part.uses
    (subst (λ u. IsStateOf c.args.situations.now u) (sym c.in_ok-try_copy.ensures) c.requires.from)
    (subst (λ u. IsStateOf c.args.situations.now u) (sym c.as_slice.ensures) c.requires.to)
    s.over s.valid (s.holds c.in_ok-try_copy.field-0 refl) s.misses
