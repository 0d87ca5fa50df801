use Rattle.std.proofs.Common.{rules, arith, ◌≡◌, true, inl}
use Rattle.text_grammar.specs.Lines.{lines_of}
use Rattle.given_entries.specs.Given.{claims_lasso}
use Rattle.given_entries.proofs.Ends.{unknown_decides}
use Rattle.given_entries.proofs.loading.answer_entries.Goals as goal

pub returns-then-claims_lasso : goal.returns-then-claims_lasso
returns-then-claims_lasso c =
    let claims : claims_lasso (lines_of c.args.text.items) ≡ true = search rules in
    inl (unknown_decides c.args.circuit.now c.args.text.items (omega (arith, c.args.text.ok, c.args.text.small)) claims)
