-- Where an answer is Ok.
use Rattle.std.proofs.Common.{◌≡◌, ◌↔◌, inl, inr, refl, sym, ◌∙◌, Some, None, Option, Ok, Err, Result}
use Rattle.unless_memory.specs.Answers.{GivesExactlyWhere}
use Rattle.entry.specs.declared.faults.EntryFault.{EntryFault}
use Rattle.entry.specs.declared.faults.EntryEnd.{EntryEnd}
use Rattle.entry.specs.declared.faults.EntryEnd.TheVariants.{Fault, Memory}
use Rattle.std.specs.Prelude.{ℕ, List, IfOk}
use Rattle.std.specs.declared.alloc.AllocError.{AllocError}
use Rattle.aig_semantics.specs.Circuits.{Circuit}
use Rattle.proof_semantics.specs.declared.faults.LratFault.{LratFault}
use Rattle.fair_semantics.specs.declared.entries.Use.{Use}
use Rattle.fair_semantics.specs.Entries.{Entry}
use Rattle.entry.specs.declared.faults.RefutationFault.{RefutationFault}
use Rattle.entry.specs.Proved.{IsGoodRefutation}
use Rattle.entry.specs.Refutations.{uses_then_proof, first_refutation_fault}
use Rattle.entry.proofs.Faultless.{faultless_is_good}
use Rattle.entry.specs.Answers.{Tells}
use Rattle.entry.specs.Entries.{verdict}

none-from_ok : (f : Option EntryFault) (done : Unit {0}) → verdict f ≡ Ok done → f ≡ None
none-from_ok None done h = refl
none-from_ok (Some fault) done h = absurd (cc)

err-not-none : (f : Option EntryFault) (fault : EntryFault) → verdict f ≡ Err fault → f ≡ None → ⊥
err-not-none None fault h is = cc
err-not-none (Some found) fault h is = cc

pub ok_exactly : (r : Result (Unit {0}) EntryEnd) (f : Option EntryFault) (P : Type 0) → Tells r (verdict f) → ((f ≡ None) ↔ P)
    → GivesExactlyWhere (Err Memory) (Ok tt) P r
ok_exactly (Ok done) f P told iff = record {
  only = λ e. iff.0 (none-from_ok f done told);
  whenever = λ p. inl refl;
}
ok_exactly (Err (Fault fault)) f P told iff = record {
  only = λ e. absurd (cc);
  whenever = λ p. absurd (err-not-none f fault told (iff.1 p));
}
ok_exactly (Err Memory) f P told iff = record {
  only = λ e. absurd (cc);
  whenever = λ p. inr refl;
}

-- ---- refutations

both-none : (a : Option ℕ) (b : Option (ℕ × LratFault)) → uses_then_proof a b ≡ None → (a ≡ None) × (b ≡ None)
both-none (Some number) b h = absurd (cc)
both-none None (Some found) h = absurd (cc)
both-none None None h = (refl, refl)

none-both : (a : Option ℕ) (b : Option (ℕ × LratFault)) → (a ≡ None) × (b ≡ None) → uses_then_proof a b ≡ None
none-both (Some number) b h = absurd (let e = h.0 in cc)
none-both None (Some found) h = absurd (let e = h.1 in cc)
none-both None None h = refl

pub good_exactly : (c : Circuit) (entries : List Entry) (j : ℕ) (uses : List Use) (proof : List (List ℕ)) (r : Result (Option RefutationFault) AllocError)
    → IfOk r (λ fault. fault ≡ first_refutation_fault c entries j uses proof)
    → IfOk r (λ fault. (fault ≡ None) ↔ IsGoodRefutation c entries j uses proof)
good_exactly c entries j uses proof (Ok fault) told =
    let iff = faultless_is_good c entries j uses proof in
    (λ none. iff.0 (both-none _ _ (sym told ∙ none)), λ good. told ∙ none-both _ _ (iff.1 good))
good_exactly c entries j uses proof (Err end) told = told
