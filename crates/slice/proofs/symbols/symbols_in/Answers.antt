use Rattle.std.proofs.Common.{◌∙◌, ap}
use Rattle.std.specs.List.{filter_map}
use Rattle.std.proofs.lemmas.Result.{IfOk-weaker}
use Rattle.aig_semantics.specs.Literals.{variable_in}
use Rattle.aig_semantics.specs.Circuits.{Circuit}
use Rattle.aiger_grammar.specs.declared.names.Names.{Names}
use Rattle.slice.specs.declared.symbols.Places.{Places}
use Rattle.slice.specs.Steps.{symbol_by, places_for}
use Rattle.slice.proofs.Placing.{symbols-are}
use Rattle.slice.proofs.symbols.symbols_in.Goals as goal

pub returns : goal.returns
returns c =
    IfOk-weaker c.symbols_by.result _ _
    (λ left h.
    h
    ∙ ap (λ (p : Places). filter_map (symbol_by p) c.as_slice.result.now) c.in_ok-places.ensures
    ∙ ap (λ (k : Circuit). filter_map (symbol_by (places_for k c.args.j (variable_in c.args.cone.now))) c.as_slice.result.now) c.circuit.ensures.circuit
    ∙ ap (filter_map (symbol_by (places_for c.args.m.now.circuit c.args.j (variable_in c.args.cone.now)))) c.as_slice.ensures
    ∙ ap (λ (n : Names). filter_map (symbol_by (places_for c.args.m.now.circuit c.args.j (variable_in c.args.cone.now))) n.symbols) c.names.ensures
    ∙ symbols-are c.args.m.now.circuit c.args.j (variable_in c.args.cone.now) c.args.m.now.names.symbols)
    c.symbols_by.ensures
