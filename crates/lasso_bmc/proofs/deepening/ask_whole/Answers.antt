use Rattle.std.proofs.Common.{◌+◌, ◌∙◌, [], ◌∷◌, refl, sym, ap, subst}
use Rattle.aig_semantics.specs.Circuits.{fair_literals}
use Rattle.proof_semantics.specs.declared.literals.Lit.{Lit}
use Rattle.proof_semantics.specs.Clauses.{clauses_value}
use Rattle.cdcl.specs.Asking.{IsAsked}
use Rattle.lasso_clauses.specs.Clauses.{positions_clauses, closing_literal}
use Rattle.lasso_bmc.proofs.Parts.{answer_of_all, grown_whole, whole}
use Rattle.lasso_bmc.proofs.deepening.ask_whole.Goals as goal

pub told-requires-clause-answer : goal.told-requires-clause-answer
told-requires-clause-answer c =
    let k = c.args.c.now in
    let j = c.args.j in
    let last = c.args.last in
    let added = c.complete.new.self.solver.added in
    answer_of_all (positions_clauses k (fair_literals k j) (last + 1)) added (closing_literal k j last ∷ []) c.ask.new.self.values c.in_ok-answer.answer
    (whole k j (last + 1) c.args.d.now c.complete.new.self c.requires.grown c.in_ok-complete.ensures c.requires.positions)
    (subst (λ (l : Lit). IsAsked added (l ∷ []) c.ask.new.self.values c.in_ok-answer.answer) c.closing_literal-closing.ensures.literal c.in_ok-answer.ensures.answer)

pub returns-clause-grown : goal.returns-clause-grown
returns-clause-grown c = λ v.
    let k = c.args.c.now in
    let j = c.args.j in
    let d = c.args.d.now in
    let done = c.complete.new.self in
    ap (λ n. clauses_value v (positions_clauses k (fair_literals k j) n)) c.in_ok-complete.ensures.positions
    ∙ grown_whole (positions_clauses k (fair_literals k j) d.positions) c.ask.new.self.added done.rest.items v
    (whole k j d.positions d done c.requires.grown c.in_ok-complete.ensures refl v ∙ ap (clauses_value v) (sym c.ask.ensures.added))
    c.in_ok-complete.ensures.rest
