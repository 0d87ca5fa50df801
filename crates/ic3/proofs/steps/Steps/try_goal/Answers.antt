use Rattle.std.proofs.Common.{refl, sym, subst, IfOk, IfSome, ◌∙◌}
use Rattle.entry.specs.CheckedEntries.{viewed}
use Rattle.ic3_semantics.specs.Stepping.{Stepping, IsGoalFound}
use Rattle.ic3.specs.SteppingInside.{IsHeldWith}
use Rattle.ic3.specs.declared.stepping_questions.Questions.{Questions}
use Rattle.ic3.proofs.Holding.{after_growth, after_question}
use Rattle.ic3.proofs.TriedLaws.{tells_tried_goal}
use Rattle.ic3.proofs.steps.Steps.try_goal.Goals as goal

pub returns-clause-found : goal.returns-clause-found
returns-clause-found c =
    let st : Stepping = record {
      question = record { circuit = c.self.inside.c.now; view = viewed c.self.inside.view.now; start = c.self.inside.start.now };
      avoid = c.self.inside.avoid.now;
      lemmas = c.self.inside.lemmas.items;
    }
    in
    let middle : Questions = record c.self.inside.questions { solver = c.meet.new.solver } in
    let held : IsHeldWith st c.self.inside.base.clauses middle =
    after_growth st c.self.inside.base.clauses c.self.inside.questions middle c.self.invariant
    (record { here = refl; next = refl; free = refl; levels = refl }) refl c.meet.ensures
    in
    subst (λ (x : Stepping). IfOk c.try_goal.result (λ found. IfSome found (IsGoalFound x c.args.level c.args.literal))) c.self.view_is
    (tells_tried_goal st c.self.inside.base.clauses middle c.args.level c.args.literal c.try_goal.result held
    (sym c.is_read.ensures ∙ c.if-not-is_read.false)
    c.try_goal.ensures.found)

pub invariant_of-self : goal.invariant_of-self
invariant_of-self c =
    let st : Stepping = record {
      question = record { circuit = c.self.inside.c.now; view = viewed c.self.inside.view.now; start = c.self.inside.start.now };
      avoid = c.self.inside.avoid.now;
      lemmas = c.self.inside.lemmas.items;
    }
    in
    let middle : Questions = record c.self.inside.questions { solver = c.meet.new.solver } in
    after_growth st c.self.inside.base.clauses c.self.inside.questions middle c.self.invariant
    (record { here = refl; next = refl; free = refl; levels = refl }) refl c.meet.ensures

pub invariant_of-self-2 : goal.invariant_of-self-2
invariant_of-self-2 c =
    let st : Stepping = record {
      question = record { circuit = c.self.inside.c.now; view = viewed c.self.inside.view.now; start = c.self.inside.start.now };
      avoid = c.self.inside.avoid.now;
      lemmas = c.self.inside.lemmas.items;
    }
    in
    let middle : Questions = record c.self.inside.questions { solver = c.meet.new.solver } in
    after_question st c.self.inside.base.clauses middle c.try_goal.new.s
    (after_growth st c.self.inside.base.clauses c.self.inside.questions middle c.self.invariant
    (record { here = refl; next = refl; free = refl; levels = refl }) refl c.meet.ensures)
    c.try_goal.ensures.kept
