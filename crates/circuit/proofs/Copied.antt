-- What is answered of a copy of the sections of a model is so of the sections.
use Rattle.std.proofs.Common.{◌≡◌, ℕ, Result, Ok, Err, sym, ◌∙◌, ap, inl, inr}
use Rattle.std.specs.Prelude.{OnOk, IfOk}
use Rattle.circuit.specs.declared.circuits.Circuit.{Circuit}
use Rattle.circuit.specs.declared.checking.Kept.{Kept}
use Rattle.circuit.specs.declared.faults.ModelEnd.{ModelEnd}
use Rattle.circuit.specs.declared.faults.ModelEnd.TheVariants.{Memory}
use Rattle.circuit.specs.declared.parts.Parts.{Parts}
use Rattle.circuit.specs.Sections.{circuit_of}
use Rattle.circuit.specs.Keeping.{HasCircuitOf, IsKeptOf}
use Rattle.unless_memory.specs.Answers.{Gives, GivesExactlyWhere, GivesOneExactlyWhere}

pub err-of : (kept : Result Kept ModelEnd) (result : Result Circuit ModelEnd) (end : ModelEnd) → HasCircuitOf kept result → result ≡ Err end → kept ≡ Err end
err-of (Ok kept) (Ok c) end h e = cc
err-of (Ok kept) (Err other) end h e = absurd h
err-of (Err end) (Ok c) other h e = absurd h
err-of (Err end) (Err last) other h e = ap (λ x. Err x) h ∙ (let same : last ≡ other = cc in ap (λ x. Err x) same)

pub of-err : (kept : Result Kept ModelEnd) (result : Result Circuit ModelEnd) (end : ModelEnd) → HasCircuitOf kept result → kept ≡ Err end → result ≡ Err end
of-err (Ok kept) (Ok c) end h e = cc
of-err (Ok kept) (Err other) end h e = absurd h
of-err (Err end) (Ok c) other h e = absurd h
of-err (Err end) (Err last) other h e = ap (λ x. Err x) (sym h) ∙ (let same : end ≡ other = cc in ap (λ x. Err x) same)

gives-of : (kept : Result Kept ModelEnd) (result : Result Circuit ModelEnd) (end : ModelEnd) → HasCircuitOf kept result
    → Gives {T = Result Kept ModelEnd} (Err Memory) (Err end) kept → Gives {T = Result Circuit ModelEnd} (Err Memory) (Err end) result
gives-of kept result end h (inl e) = inl (of-err kept result end h e)
gives-of kept result end h (inr e) = inr (of-err kept result Memory h e)

pub exactly-of : (kept : Result Kept ModelEnd) (result : Result Circuit ModelEnd) (end : ModelEnd) (P : Type 0) → HasCircuitOf kept result
    → GivesExactlyWhere {T = Result Kept ModelEnd} (Err Memory) (Err end) P kept → GivesExactlyWhere {T = Result Circuit ModelEnd} (Err Memory) (Err end) P result
exactly-of kept result end P h g = record {
  only = λ e. g.only (err-of kept result end h e);
  whenever = λ p. gives-of kept result end h (g.whenever p);
}

pub one-of : (kept : Result Kept ModelEnd) (result : Result Circuit ModelEnd) (end : ℕ → ModelEnd) (P : ℕ → Type 0) → HasCircuitOf kept result
    → GivesOneExactlyWhere {T = Result Kept ModelEnd} (Err Memory) (λ v. Err (end v)) P kept
    → GivesOneExactlyWhere {T = Result Circuit ModelEnd} (Err Memory) (λ v. Err (end v)) P result
one-of kept result end P h g = record {
  only = λ v e. g.only v (err-of kept result (end v) h e);
  whenever = λ v p. elim (g.whenever v p) [
    | inl some ↦ inl (some.0, of-err kept result (end some.0) h some.1)
    | inr e ↦ inr (of-err kept result Memory h e)
  ];
}

pub defined-of : (kept : Result Kept ModelEnd) (result : Result Circuit ModelEnd) (P : Type 0) → HasCircuitOf kept result → OnOk kept P → OnOk result P
defined-of (Ok kept) (Ok c) P h p = p
defined-of (Ok kept) (Err end) P h p = absurd h
defined-of (Err end) (Ok c) P h p = absurd h
defined-of (Err end) (Err other) P h p = p

pub ok-of : (kept : Result Kept ModelEnd) (result : Result Circuit ModelEnd) (parts : Parts) → HasCircuitOf kept result
    → IfOk kept (IsKeptOf parts) → IfOk result (λ c. c ≡ circuit_of parts)
ok-of (Ok kept) (Ok c) parts h k = h ∙ k.circuit
ok-of (Ok kept) (Err end) parts h k = absurd h
ok-of (Err end) (Ok c) parts h k = absurd h
ok-of (Err end) (Err other) parts h k = tt
