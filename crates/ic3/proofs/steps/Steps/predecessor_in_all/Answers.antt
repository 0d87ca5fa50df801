use Rattle.std.proofs.Common.{refl, sym, subst, length, IfOk}
use Rattle.entry.specs.CheckedEntries.{viewed}
use Rattle.ic3_semantics.specs.Stepping.{Stepping, IsOver, IsFound}
use Rattle.ic3.specs.SteppingInside.{IsHeldWith}
use Rattle.ic3.specs.declared.stepping_questions.Questions.{Questions}
use Rattle.ic3.proofs.Holding.{after_growth, after_question, tells_found}
use Rattle.ic3.proofs.steps.Steps.predecessor_in_all.Goals as goal

pub returns-clause-found : goal.returns-clause-found
returns-clause-found c =
    let st : Stepping = record {
      question = record { circuit = c.self.inside.c.now; view = viewed c.self.inside.view.now; start = c.self.inside.start.now };
      avoid = c.self.inside.avoid.now;
      lemmas = c.self.inside.lemmas.items;
    }
    in
    let middle : Questions = record c.self.inside.questions { solver = c.add_all.new.solver } in
    let held : IsHeldWith st c.self.inside.base.clauses middle =
    after_growth st c.self.inside.base.clauses c.self.inside.questions middle c.self.invariant
    (record { here = refl; next = refl; free = refl; levels = refl }) refl c.add_all.ensures.grows
    in
    subst (λ (x : Stepping). IfOk c.predecessor.result (IsFound x c.args.level c.args.cube.now)) c.self.view_is
    (tells_found st c.self.inside.base.clauses middle c.args.level c.args.cube.now c.predecessor.result held c.in_ok-add_all.ensures.whole
    (subst (λ (x : Stepping). IsOver (length x.question.circuit.latches) c.args.cube.now) (sym c.self.view_is) c.requires) c.predecessor.ensures.found)

pub invariant_of-self : goal.invariant_of-self
invariant_of-self c =
    let st : Stepping = record {
      question = record { circuit = c.self.inside.c.now; view = viewed c.self.inside.view.now; start = c.self.inside.start.now };
      avoid = c.self.inside.avoid.now;
      lemmas = c.self.inside.lemmas.items;
    }
    in
    let middle : Questions = record c.self.inside.questions { solver = c.add_all.new.solver } in
    after_growth st c.self.inside.base.clauses c.self.inside.questions middle c.self.invariant
    (record { here = refl; next = refl; free = refl; levels = refl }) refl c.add_all.ensures.grows

pub invariant_of-self-2 : goal.invariant_of-self-2
invariant_of-self-2 c =
    let st : Stepping = record {
      question = record { circuit = c.self.inside.c.now; view = viewed c.self.inside.view.now; start = c.self.inside.start.now };
      avoid = c.self.inside.avoid.now;
      lemmas = c.self.inside.lemmas.items;
    }
    in
    let middle : Questions = record c.self.inside.questions { solver = c.add_all.new.solver } in
    after_question st c.self.inside.base.clauses middle c.predecessor.new.s
    (after_growth st c.self.inside.base.clauses c.self.inside.questions middle c.self.invariant
    (record { here = refl; next = refl; free = refl; levels = refl }) refl c.add_all.ensures.grows)
    c.predecessor.ensures.kept
