use Rattle.std.proofs.Common.{List, ℕ, rules, refl, sym, ◌∙◌, subst, arith}
use Rattle.std.specs.List.{Contains}
use Rattle.ledger_tests.proofs.PassLaws.{true_over}
use Rattle.ledger_tests.proofs.reading.finish.Goals as goal

pub finish-requires-clause-served : goal.finish-requires-clause-served
finish-requires-clause-served g c = subst (λ (js : List ℕ). Contains js 0) (sym c.requires.of.properties) (0, (omega arith), refl)

pub finish-requires-clause-outcome : goal.finish-requires-clause-outcome
finish-requires-clause-outcome g c =
    true_over c.args.ledger.now c.args.pass.now 0 c.deref.result.now _ _ (c.deref.ensures ∙ c.requires.circuit ∙ sym c.requires.of.circuit)
    c.view.ensures.viewed (search rules)
