use Rattle.std.proofs.Common.{subst, sym, ap, ◌≡◌, ◌∙◌}
use Rattle.std.proofs.lemmas.Result.{IfOk-weaker}
use Rattle.aig_semantics.specs.Circuits.{IsChecked, AreDefined}
use Rattle.circuit.specs.Sections.{circuit_of, used_by, AreInRange}
use Rattle.aiger_grammar.specs.Ordered.{IsOrdered}
use Rattle.model_gen.specs.Generated.{plain, plain_parts, scramble_circuit}
use Rattle.model_gen.proofs.Checked.{checked_from, defined_from}
use Rattle.model_gen.proofs.Fitting.{scramble_has_order, scramble_ordered, scramble_in_range, scramble_lower}
use Rattle.model_gen.proofs.kinds.scramble.Goals as goal

pub plain_model-requires-clause-in_range : goal.plain_model-requires-clause-in_range
plain_model-requires-clause-in_range c =
    subst AreInRange (sym c.in_ok-parts.ensures) (scramble_in_range c.args.seed c.args.n c.requires.few)

pub plain_model-requires-clause-checked : goal.plain_model-requires-clause-checked
plain_model-requires-clause-checked c =
    let parts = plain_parts (scramble_circuit c.args.seed c.args.n) in
    subst (λ p. IsChecked (circuit_of p)) (sym c.in_ok-parts.ensures)
    (checked_from parts (scramble_in_range c.args.seed c.args.n c.requires.few) (scramble_ordered c.args.seed c.args.n) (scramble_lower c.args.seed c.args.n))

pub plain_model-requires-clause-defined : goal.plain_model-requires-clause-defined
plain_model-requires-clause-defined c =
    let parts = plain_parts (scramble_circuit c.args.seed c.args.n) in
    subst (λ p. AreDefined (circuit_of p) (used_by p)) (sym c.in_ok-parts.ensures)
    (defined_from parts (scramble_in_range c.args.seed c.args.n c.requires.few) (scramble_ordered c.args.seed c.args.n))

pub returns-clause-ordered : goal.returns-clause-ordered
returns-clause-ordered c =
    let same = ap (λ p. plain (circuit_of p)) c.in_ok-parts.ensures in
    IfOk-weaker c.plain_model.result (λ m. m ≡ _) IsOrdered (λ m is. subst IsOrdered (sym (is ∙ same)) (scramble_has_order c.args.seed c.args.n)) c.plain_model.ensures
