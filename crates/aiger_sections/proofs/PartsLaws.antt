-- The faults of a model whose text was read whole.
use Rattle.std.proofs.Common.{◌≡◌, ℕ, ◌⊎◌, ◌++◌, refl, ap, sym, subst, inl, inr}
use Rattle.std.specs.List.{Contains}
use Rattle.std.proofs.lemmas.List.{append_assoc}
use Rattle.aig_semantics.specs.Literals.{variable_of}
use Rattle.aig_semantics.specs.Circuits.{Circuit, defined, used, AreDefined, IsChecked}
use Rattle.std.proofs.lemmas.List.Elements.{All-append}
use Rattle.aig_semantics.proofs.Lists.{All-right}
use Rattle.circuit.specs.declared.parts.Parts.{Parts}
use Rattle.circuit.specs.declared.faults.ModelFault.{ModelFault}
use Rattle.circuit.specs.declared.faults.ModelFault.TheVariants.{Header, Number, Range, Undefined, Twice, Cycle, Truncated, Limit, Trailing, Symbol}
use Rattle.circuit.specs.Sections.{circuit_of, used_by}
use Rattle.circuit.specs.Faults.{IsTwice, IsUndefined}
use Rattle.circuit.proofs.Verdicts.{first-is_one, once-not_twice, defined-not_undefined}
use Rattle.aiger_grammar.specs.BothForms.{HasPartsFault, SameFault}

-- a model that is checked has no fault
pub checked_has_none : (parts : Parts) (fault : ModelFault) → IsChecked (circuit_of parts) → AreDefined (circuit_of parts) (used_by parts) → HasPartsFault parts fault → ⊥
checked_has_none parts (Cycle v) checked all has = checked.acyclic v has.cycle
checked_has_none parts (Twice v) checked all has = once-not_twice parts v checked.once has.holds
checked_has_none parts (Undefined v) checked all has = defined-not_undefined parts v all has.first.holds
checked_has_none parts (Header at) checked all has = has
checked_has_none parts (Number at) checked all has = has
checked_has_none parts (Range at) checked all has = has
checked_has_none parts (Truncated at) checked all has = has
checked_has_none parts (Limit at) checked all has = has
checked_has_none parts (Trailing at) checked all has = has
checked_has_none parts (Symbol at) checked all has = has

-- no fault beside another one
pub one_parts_fault : (parts : Parts) (first second : ModelFault) → HasPartsFault parts first → HasPartsFault parts second → SameFault first second
one_parts_fault parts (Twice v) (Twice w) s t = inl (ap (λ x. Twice x) (first-is_one (IsTwice parts) v w s t))
one_parts_fault parts (Twice v) (Undefined w) s t = absurd (once-not_twice parts v t.once s.holds)
one_parts_fault parts (Twice v) (Cycle w) s t = absurd (once-not_twice parts v t.defined.once s.holds)
one_parts_fault parts (Undefined v) (Twice w) s t = absurd (once-not_twice parts w s.once t.holds)
one_parts_fault parts (Undefined v) (Undefined w) s t = inl (ap (λ x. Undefined x) (first-is_one (IsUndefined parts) v w s.first t.first))
one_parts_fault parts (Undefined v) (Cycle w) s t = absurd (defined-not_undefined parts v t.defined.defined s.first.holds)
one_parts_fault parts (Cycle v) (Twice w) s t = absurd (once-not_twice parts w s.defined.once t.holds)
one_parts_fault parts (Cycle v) (Undefined w) s t = absurd (defined-not_undefined parts w s.defined.defined t.first.holds)
one_parts_fault parts (Cycle v) (Cycle w) s t = inr (v, w, refl, refl)
one_parts_fault parts (Header at) second s t = absurd s
one_parts_fault parts (Number at) second s t = absurd s
one_parts_fault parts (Range at) second s t = absurd s
one_parts_fault parts (Truncated at) second s t = absurd s
one_parts_fault parts (Limit at) second s t = absurd s
one_parts_fault parts (Trailing at) second s t = absurd s
one_parts_fault parts (Symbol at) second s t = absurd s
one_parts_fault parts first (Header at) s t = absurd t
one_parts_fault parts first (Number at) s t = absurd t
one_parts_fault parts first (Range at) s t = absurd t
one_parts_fault parts first (Truncated at) s t = absurd t
one_parts_fault parts first (Limit at) s t = absurd t
one_parts_fault parts first (Trailing at) s t = absurd t
one_parts_fault parts first (Symbol at) s t = absurd t

abbrev IsKnown : Circuit → ℕ → Type 0
IsKnown c literal = (variable_of literal ≡ 0) ⊎ Contains (defined c) (variable_of literal)

-- all that a model uses is defined where its circuit's uses, its outputs and its bad state literals are
pub all_defined : (parts : Parts) → IsChecked (circuit_of parts) → AreDefined (circuit_of parts) (parts.outputs ++ parts.bad) → AreDefined (circuit_of parts) (used_by parts)
all_defined parts checked others =
    let c = circuit_of parts in
    subst (AreDefined c) (sym (append_assoc (used c) parts.outputs parts.bad)) (All-append (IsKnown c) (used c) (parts.outputs ++ parts.bad) checked.used_defined others)

pub others_defined : (parts : Parts) → AreDefined (circuit_of parts) (used_by parts) → AreDefined (circuit_of parts) (parts.outputs ++ parts.bad)
others_defined parts all =
    let c = circuit_of parts in
    All-right (IsKnown c) (used c) (parts.outputs ++ parts.bad) (subst (AreDefined c) (append_assoc (used c) parts.outputs parts.bad) all)
