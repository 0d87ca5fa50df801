use Rattle.std.proofs.Common.{◌++◌, sym, ap, ◌∙◌, subst, ◌≤◌}
use Rattle.std.specs.Prelude.{codes}
use Rattle.std.specs.List.{All, flat_map}
use Rattle.aig_semantics.specs.declared.limits.TheConstants.{MAX_VARIABLE}
use Rattle.aiger_grammar.specs.Models.{heading_of}
use Rattle.aiger_grammar.specs.Spelling.{HasAsciiForm, header_text, input_line, latch_line, gate_line, properties_text, names_text}
use Rattle.aiger_grammar.proofs.SpellingLaws.{variables_low, writes_ascii}
use Rattle.aiger_ascii.proofs.writing.write.Goals as goal

pub push_gates-requires : goal.push_gates-requires
push_gates-requires c =
    let same = c.gates.ensures ∙ ap (λ circuit. circuit.gates) c.circuit.ensures.circuit in
    subst (All (λ gate. gate.var ≤ MAX_VARIABLE)) (sym same) (variables_low c.args.model.now c.circuit.ensures.model).gates

pub returns-clause-text : goal.returns-clause-text
returns-clause-text c =
    let m = c.args.model.now in
    let header = c.in_ok-push_header.ensures ∙ ap (λ h. c.new-out.result.items ++ header_text (codes "aag") h) c.heading.ensures ∙ ap (λ t. t ++ header_text (codes "aag") (heading_of m)) c.new-out.ensures.items in
    let definitions = c.in_ok-push_definitions.ensures ∙ ap (λ t. t ++ flat_map input_line m.circuit.inputs ++ flat_map latch_line m.circuit.latches) header in
    let properties = c.in_ok-push_properties.ensures ∙ ap (λ t. t ++ properties_text m) definitions in
    let same = c.gates.ensures ∙ ap (λ circuit. circuit.gates) c.circuit.ensures.circuit in
    let gates = c.in_ok-push_gates.ensures ∙ ap (λ g. c.push_properties.new.out.items ++ flat_map gate_line g) same ∙ ap (λ t. t ++ flat_map gate_line m.circuit.gates) properties in
    c.in_ok-push_names.ensures ∙ ap (λ n. c.push_gates.new.out.items ++ names_text n) c.names.ensures ∙ ap (λ t. t ++ names_text m.names) gates

pub returns-clause-stands : goal.returns-clause-stands
returns-clause-stands c =
    subst (HasAsciiForm c.args.model.now) (sym (returns-clause-text c)) (writes_ascii c.args.model.now c.circuit.ensures.model)

pub returns-clause-read : goal.returns-clause-read
returns-clause-read c = λ short. let form = returns-clause-stands c in record { short = short; shown = form.0; text = form.1 }
