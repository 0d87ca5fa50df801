use Rattle.std.proofs.Common.{sym, ap, ◌∙◌, ◌++◌, subst, ◌≤◌}
use Rattle.std.specs.Prelude.{codes}
use Rattle.std.specs.List.{All, flat_map}
use Rattle.aig_semantics.specs.declared.limits.TheConstants.{MAX_VARIABLE}
use Rattle.aiger_grammar.specs.Models.{heading_of}
use Rattle.aiger_grammar.specs.Spelling.{header_text, next_line, gate_deltas, properties_text, names_text}
use Rattle.aiger_grammar.proofs.SpellingLaws.{variables_low}
use Rattle.aiger_grammar.specs.BinaryTexts.{HasBinaryForm}
use Rattle.aiger_binary.proofs.Written.{writes_binary}
use Rattle.aiger_binary.proofs.writing.write.Goals as goal

pub push_latches-requires : goal.push_latches-requires
push_latches-requires c =
    let same = c.latches.ensures ∙ ap (λ circuit. circuit.latches) c.circuit.ensures.circuit in
    subst (All (λ latch. latch.var ≤ MAX_VARIABLE)) (sym same) (variables_low c.args.model.now c.circuit.ensures.model).latches

pub push_gates-requires-clause-low : goal.push_gates-requires-clause-low
push_gates-requires-clause-low c =
    let same = c.gates.ensures ∙ ap (λ circuit. circuit.gates) c.circuit-2.ensures.circuit in
    subst (All (λ gate. gate.var ≤ MAX_VARIABLE)) (sym same) (variables_low c.args.model.now c.circuit-2.ensures.model).gates

pub returns-clause-text : goal.returns-clause-text
returns-clause-text c =
    let m = c.args.model.now in
    let header = c.in_ok-push_header.ensures ∙ ap (λ h. c.new-out.result.items ++ header_text (codes "aig") h) c.heading.ensures ∙ ap (λ t. t ++ header_text (codes "aig") (heading_of m)) c.new-out.ensures.items in
    let same_latches = c.latches.ensures ∙ ap (λ circuit. circuit.latches) c.circuit.ensures.circuit in
    let latches = c.in_ok-push_latches.ensures ∙ ap (λ l. c.push_header.new.out.items ++ flat_map next_line l) same_latches ∙ ap (λ t. t ++ flat_map next_line m.circuit.latches) header in
    let properties = c.in_ok-push_properties.ensures ∙ ap (λ t. t ++ properties_text m) latches in
    let same = c.gates.ensures ∙ ap (λ circuit. circuit.gates) c.circuit-2.ensures.circuit in
    let gates = c.in_ok-push_gates.ensures ∙ ap (λ g. c.push_properties.new.out.items ++ flat_map gate_deltas g) same ∙ ap (λ t. t ++ flat_map gate_deltas m.circuit.gates) properties in
    c.in_ok-push_names.ensures ∙ ap (λ n. c.push_gates.new.out.items ++ names_text n) c.names.ensures ∙ ap (λ t. t ++ names_text m.names) gates

pub returns-clause-stands : goal.returns-clause-stands
returns-clause-stands c =
    subst (HasBinaryForm c.args.model.now) (sym (returns-clause-text c)) (writes_binary c.args.model.now c.circuit.ensures.model c.requires)

pub returns-clause-read : goal.returns-clause-read
returns-clause-read c = λ short. let form = returns-clause-stands c in record { short = short; shown = form.0; text = form.1 }
