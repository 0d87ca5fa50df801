use Rattle.std.proofs.Common.{sym, ap, ◌∙◌, subst, ◌≤◌}
use Rattle.std.specs.List.{All}
use Rattle.aig_semantics.specs.declared.limits.TheConstants.{MAX_VARIABLE}
use Rattle.aiger_grammar.proofs.SpellingLaws.{variables_low}
use Rattle.waves.proofs.wires.sources_of.Goals as goal

pub push_latches-requires : goal.push_latches-requires
push_latches-requires c =
    let same = c.latches.ensures ∙ ap (λ circuit. circuit.latches) c.circuit-circuit.ensures.circuit in
    subst (All (λ latch. latch.var ≤ MAX_VARIABLE)) (sym same) (variables_low c.args.model.now c.circuit-circuit.ensures.model).latches
