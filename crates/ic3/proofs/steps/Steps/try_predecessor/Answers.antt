use Rattle.std.proofs.Common.{refl, sym, subst, length, IfOk, IfSome}
use Rattle.entry.specs.CheckedEntries.{viewed}
use Rattle.ic3_semantics.specs.Stepping.{Stepping, IsOver, IsFound}
use Rattle.ic3.specs.SteppingInside.{IsHeldWith}
use Rattle.ic3.specs.declared.stepping_questions.Questions.{Questions}
use Rattle.ic3.proofs.Holding.{after_growth, after_question}
use Rattle.ic3.proofs.TriedLaws.{tells_tried}
use Rattle.ic3.proofs.steps.Steps.try_predecessor.Goals as goal

pub returns-clause-found : goal.returns-clause-found
returns-clause-found c =
    let st : Stepping = record {
      question = record { circuit = c.self.inside.c.now; view = viewed c.self.inside.view.now; start = c.self.inside.start.now };
      avoid = c.self.inside.avoid.now;
      lemmas = c.self.inside.lemmas.items;
    }
    in
    let middle : Questions = record c.self.inside.questions { solver = c.meet_nexts.new.solver } in
    let held : IsHeldWith st c.self.inside.base.clauses middle =
    after_growth st c.self.inside.base.clauses c.self.inside.questions middle c.self.invariant
    (record { here = refl; next = refl; free = refl; levels = refl }) refl c.meet_nexts.ensures
    in
    subst (λ (x : Stepping). IfOk c.try_predecessor.result (λ found. IfSome found (IsFound x c.args.question.level c.args.question.cube.now))) c.self.view_is
    (tells_tried st c.self.inside.base.clauses middle c.args.question.level c.args.question.cube.now c.try_predecessor.result held
    (subst (λ (x : Stepping). IsOver (length x.question.circuit.latches) c.args.question.cube.now) (sym c.self.view_is) c.requires)
    c.try_predecessor.ensures.found)

pub invariant_of-self : goal.invariant_of-self
invariant_of-self c =
    let st : Stepping = record {
      question = record { circuit = c.self.inside.c.now; view = viewed c.self.inside.view.now; start = c.self.inside.start.now };
      avoid = c.self.inside.avoid.now;
      lemmas = c.self.inside.lemmas.items;
    }
    in
    let middle : Questions = record c.self.inside.questions { solver = c.meet_nexts.new.solver } in
    after_growth st c.self.inside.base.clauses c.self.inside.questions middle c.self.invariant
    (record { here = refl; next = refl; free = refl; levels = refl }) refl c.meet_nexts.ensures

pub invariant_of-self-2 : goal.invariant_of-self-2
invariant_of-self-2 c =
    let st : Stepping = record {
      question = record { circuit = c.self.inside.c.now; view = viewed c.self.inside.view.now; start = c.self.inside.start.now };
      avoid = c.self.inside.avoid.now;
      lemmas = c.self.inside.lemmas.items;
    }
    in
    let middle : Questions = record c.self.inside.questions { solver = c.meet_nexts.new.solver } in
    after_question st c.self.inside.base.clauses middle c.try_predecessor.new.s
    (after_growth st c.self.inside.base.clauses c.self.inside.questions middle c.self.invariant
    (record { here = refl; next = refl; free = refl; levels = refl }) refl c.meet_nexts.ensures)
    c.try_predecessor.ensures.kept
