use Rattle.std.proofs.Common.{◌≡◌, ◌+◌, ◌&&◌, ◌∙◌, List, [], ◌∷◌, true, sym, ap, subst}
use Rattle.proof_semantics.specs.declared.literals.Lit.{Lit}
use Rattle.proof_semantics.specs.Clauses.{clauses_value}
use Rattle.edge.proofs.Ends.{counts_on}
use Rattle.cdcl.specs.Asking.{IsAsked}
use Rattle.lasso_clauses.specs.Clauses.{closing_literal}
use Rattle.lasso_bmc.proofs.Parts.{part_of}
use Rattle.lasso_bmc.proofs.deepening.ask.Goals as goal

pub told_in_part-requires-clause-answer : goal.told_in_part-requires-clause-answer
told_in_part-requires-clause-answer c =
    let values = c.ask.new.self.values in
    let answer = c.in_ok-answer.answer in
    subst (λ (added : List (List Lit)). IsAsked added (closing_literal c.args.c.now c.args.j c.args.last ∷ []) values answer) (sym c.ask.ensures.added)
    (subst (λ (l : Lit). IsAsked c.args.d.now.solver.added (l ∷ []) values answer) c.closing_literal-closing.ensures.literal c.in_ok-answer.ensures.answer)

pub told_in_part-requires-clause-part : goal.told_in_part-requires-clause-part
told_in_part-requires-clause-part c = λ v all.
    ap (clauses_value v) c.ask.ensures.added ∙ part_of c.args.c.now c.args.j (c.args.last + 1) c.args.d.now c.requires.grown c.requires.positions v all

pub ask_whole-requires-clause-grown : goal.ask_whole-requires-clause-grown
ask_whole-requires-clause-grown c = λ v.
    c.requires.grown v ∙ ap (λ added. clauses_value v added && clauses_value v c.args.d.now.rest.items) (sym c.ask.ensures.added)

pub returns-in-Some-clause-grown : goal.returns-in-Some-clause-grown
returns-in-Some-clause-grown c = λ v.
    c.requires.grown v ∙ ap (λ added. clauses_value v added && clauses_value v c.args.d.now.rest.items) (sym c.ask.ensures.added)

pub returns-clause-counted : goal.returns-clause-counted
returns-clause-counted c =
    counts_on c.args.meter.now c.ask.new.meter c.ask_whole.new.meter c.ask.ensures.alone c.ask_whole.ensures.counted
