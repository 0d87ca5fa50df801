-- What the answer of the check of a circuit tells.
use Rattle.std.proofs.Common.{◌≡◌, ℕ, ◌⊎◌, List, ◌++◌, get_or, Result, Ok, Err, refl, ap, ◌∙◌, subst, inl, inr, arith}
use Rattle.std.specs.List.{Contains}
use Rattle.std.proofs.lemmas.List.{append_assoc}
use Rattle.aig_semantics.specs.declared.parts.Gate.{Gate}
use Rattle.aig_semantics.specs.Literals.{variable_of}
use Rattle.aig_semantics.specs.Circuits.{Circuit, defined, used, AreDefined, IsChecked, IsOnCycle}
use Rattle.aig_semantics.proofs.Lists.{All-left}
use Rattle.circuit.specs.declared.parts.Parts.{Parts}
use Rattle.circuit.specs.declared.faults.ModelFault.{ModelFault}
use Rattle.circuit.specs.declared.faults.ModelFault.TheVariants.{Undefined, Twice, Cycle}
use Rattle.circuit.specs.declared.faults.ModelEnd.{ModelEnd}
use Rattle.circuit.specs.declared.faults.ModelEnd.TheVariants.{Fault, Memory}
use Rattle.circuit.specs.Sections.{circuit_of, used_by, AreInRange}
use Rattle.circuit.specs.Faults.{IsLeast, IsTwice, IsFirstTwice, IsUndefined, IsFirstUndefined, IsOnce, IsDefined, HasFault, IsOnlyOnCycle}
use Rattle.circuit.specs.Orders.{IsEvaluationOrder}
use Rattle.unless_memory.specs.Answers.{GivesExactlyWhere, GivesOneExactlyWhere}
use Rattle.circuit.proofs.Tables.{gates-apart}
use Rattle.circuit.proofs.Ranking.{no-cycle}
use Rattle.circuit.proofs.Counting.{count-differ}

-- ---- a circuit that has no fault is checked

AreDefined-left : (c : Circuit) (ls more : List ℕ) → AreDefined c (ls ++ more) → AreDefined c ls
AreDefined-left c ls more h = All-left (λ literal. (variable_of literal ≡ 0) ⊎ Contains (defined c) (variable_of literal)) ls more h

pub IsChecked-from : (parts : Parts) (order : List Gate) → AreInRange parts → IsDefined parts → IsEvaluationOrder parts.gates order → IsChecked (circuit_of parts)
IsChecked-from parts order h sound o = record {
  in_range = h.variables;
  once = sound.once;
  used_defined =
      AreDefined-left (circuit_of parts) (used (circuit_of parts)) (parts.outputs ++ parts.bad)
      (subst (λ ls. AreDefined (circuit_of parts) ls) (append_assoc (used (circuit_of parts)) parts.outputs parts.bad) sound.defined);
  acyclic = no-cycle (circuit_of parts) order o (gates-apart parts sound.once);
}

-- ---- faults exclude each other

pub first-is_one : (P : ℕ → Type 0) (v w : ℕ) → IsLeast P v → IsLeast P w → v ≡ w
first-is_one P v w a b = let l = a.least w b.holds in let m = b.least v a.holds in omega arith

pub once-not_twice : (parts : Parts) (v : ℕ) → IsOnce parts → IsTwice parts v → ⊥
once-not_twice parts v once twice = omega (arith, count-differ v (defined (circuit_of parts)) once)

pub defined-not_undefined : (parts : Parts) (v : ℕ) → AreDefined (circuit_of parts) (used_by parts) → IsUndefined parts v → ⊥
defined-not_undefined parts v all undefined =
    let any = undefined.used in
    let e : variable_of (get_or (used_by parts) any.0 any.1) ≡ v = ap variable_of any.3 ∙ any.4 in
    elim (all any.0 any.1 any.2) [
      | inl zero ↦ let positive = undefined.positive in omega arith
      | inr there ↦ undefined.nowhere (subst (λ u. Contains (defined (circuit_of parts)) u) e there)
    ]

-- ---- each answer, clause by clause

same-fault : (T : Type 0) (f g : ModelFault) → ◌≡◌ {A = Result T ModelEnd} (Err (Fault f)) (Err (Fault g)) → f ≡ g
same-fault T f g e = cc

fault-only : (T : Type 0) (parts : Parts) (f g : ModelFault) → HasFault parts f → ◌≡◌ {A = Result T ModelEnd} (Err (Fault f)) (Err (Fault g)) → HasFault parts g
fault-only T parts f g has e = subst (λ x. HasFault parts x) (same-fault T f g e) has

twice-is : (parts : Parts) (f : ModelFault) (v : ℕ) → HasFault parts f → IsFirstTwice parts v → f ≡ Twice v
twice-is parts (Twice w) v has first = ap (λ x. Twice x) (first-is_one (IsTwice parts) w v has first)
twice-is parts (Undefined w) v has first = absurd (once-not_twice parts v has.once first.holds)
twice-is parts _ v has first = absurd has

undefined-is : (parts : Parts) (f : ModelFault) (v : ℕ) → HasFault parts f → IsFirstUndefined parts v → f ≡ Undefined v
undefined-is parts (Twice w) v has first = absurd (once-not_twice parts w first.once has.holds)
undefined-is parts (Undefined w) v has first = ap (λ x. Undefined x) (first-is_one (IsUndefined parts) w v has.first first.first)
undefined-is parts _ v has first = absurd has

pub refused-twice : (T : Type 0) (parts : Parts) (f : ModelFault) → HasFault parts f → (v : ℕ) → GivesExactlyWhere {T = Result T ModelEnd} (Err Memory) (Err (Fault (Twice v))) (IsFirstTwice parts v) (Err (Fault f))
refused-twice T parts f has v = record {
  only = fault-only T parts f (Twice v) has;
  whenever = λ first. inl (ap (λ x. Err (Fault x)) (twice-is parts f v has first));
}

pub refused-undefined : (T : Type 0) (parts : Parts) (f : ModelFault) → HasFault parts f → (v : ℕ) → GivesExactlyWhere {T = Result T ModelEnd} (Err Memory) (Err (Fault (Undefined v))) (IsFirstUndefined parts v) (Err (Fault f))
refused-undefined T parts f has v = record {
  only = fault-only T parts f (Undefined v) has;
  whenever = λ first. inl (ap (λ x. Err (Fault x)) (undefined-is parts f v has first));
}

pub kept-twice : (T : Type 0) (x : T) (parts : Parts) → IsDefined parts → (v : ℕ) → GivesExactlyWhere {T = Result T ModelEnd} (Err Memory) (Err (Fault (Twice v))) (IsFirstTwice parts v) (Ok x)
kept-twice T x parts sound v = record { only = λ e. cc; whenever = λ first. absurd (once-not_twice parts v sound.once first.holds) }

pub kept-undefined : (T : Type 0) (x : T) (parts : Parts) → IsDefined parts → (v : ℕ) → GivesExactlyWhere {T = Result T ModelEnd} (Err Memory) (Err (Fault (Undefined v))) (IsFirstUndefined parts v) (Ok x)
kept-undefined T x parts sound v = record { only = λ e. cc; whenever = λ first. absurd (defined-not_undefined parts v sound.defined first.first.holds) }

-- a fault comes only where the model has no meaning
has-no_meaning : (parts : Parts) (f : ModelFault) → HasFault parts f → IsChecked (circuit_of parts) → AreDefined (circuit_of parts) (used_by parts) → ⊥
has-no_meaning parts (Twice v) has checked all = once-not_twice parts v checked.once has.holds
has-no_meaning parts (Undefined v) has checked all = defined-not_undefined parts v all has.first.holds
has-no_meaning parts _ has checked all = absurd has

pub refused-faulty : (T : Type 0) (parts : Parts) (f : ModelFault) → HasFault parts f → (g : ModelFault) → ◌≡◌ {A = Result T ModelEnd} (Err (Fault f)) (Err (Fault g)) → IsChecked (circuit_of parts) → AreDefined (circuit_of parts) (used_by parts) → ⊥
refused-faulty T parts f has g e = has-no_meaning parts g (fault-only T parts f g has e)

-- ---- cycles

pub refused-cycle : (T : Type 0) (parts : Parts) (f : ModelFault) → HasFault parts f → GivesOneExactlyWhere {T = Result T ModelEnd} (Err Memory) (λ v. Err (Fault (Cycle v))) (IsOnlyOnCycle parts) (Err (Fault f))
refused-cycle T parts f has = record {
  only = λ v e. absurd (fault-only T parts f (Cycle v) has e);
  whenever = λ v on. absurd (has-other parts f has on.defined);
}
  where
    has-other : (parts : Parts) (f : ModelFault) → HasFault parts f → IsDefined parts → ⊥
    has-other parts (Twice w) has sound = once-not_twice parts w sound.once has.holds
    has-other parts (Undefined w) has sound = defined-not_undefined parts w sound.defined has.first.holds
    has-other parts _ has sound = absurd has

pub kept-cycle : (T : Type 0) (x : T) (parts : Parts) (order : List Gate) → IsDefined parts → IsEvaluationOrder parts.gates order → GivesOneExactlyWhere {T = Result T ModelEnd} (Err Memory) (λ v. Err (Fault (Cycle v))) (IsOnlyOnCycle parts) (Ok x)
kept-cycle T x parts order sound o = record {
  only = λ v e. cc;
  whenever = λ v on. absurd (no-cycle (circuit_of parts) order o (gates-apart parts sound.once) v on.cycle);
}

-- a variable on a cycle is answered
module _ (T : Type 0) (parts : Parts) (w : ℕ) (sound : IsDefined parts) (cycle : IsOnCycle (circuit_of parts) w) where
  pub cyclic-twice : (v : ℕ) → GivesExactlyWhere {T = Result T ModelEnd} (Err Memory) (Err (Fault (Twice v))) (IsFirstTwice parts v) (Err (Fault (Cycle w)))
  cyclic-twice v = record { only = λ e. cc; whenever = λ first. absurd (once-not_twice parts v sound.once first.holds) }

  pub cyclic-undefined : (v : ℕ) → GivesExactlyWhere {T = Result T ModelEnd} (Err Memory) (Err (Fault (Undefined v))) (IsFirstUndefined parts v) (Err (Fault (Cycle w)))
  cyclic-undefined v = record { only = λ e. cc; whenever = λ first. absurd (defined-not_undefined parts v sound.defined first.first.holds) }

  same-cycle : (v : ℕ) → ◌≡◌ {A = Result T ModelEnd} (Err (Fault (Cycle w))) (Err (Fault (Cycle v))) → w ≡ v
  same-cycle v e = cc

  pub cyclic-cycle : GivesOneExactlyWhere {T = Result T ModelEnd} (Err Memory) (λ v. Err (Fault (Cycle v))) (IsOnlyOnCycle parts) (Err (Fault (Cycle w)))
  cyclic-cycle = record {
    only = λ v e. record { defined = sound; cycle = subst (λ u. IsOnCycle (circuit_of parts) u) (same-cycle v e) cycle };
    whenever = λ v on. inl (w, refl);
  }

  pub cyclic-faulty : (g : ModelFault) → ◌≡◌ {A = Result T ModelEnd} (Err (Fault (Cycle w))) (Err (Fault g)) → IsChecked (circuit_of parts) → AreDefined (circuit_of parts) (used_by parts) → ⊥
  cyclic-faulty g e checked all = checked.acyclic w cycle
