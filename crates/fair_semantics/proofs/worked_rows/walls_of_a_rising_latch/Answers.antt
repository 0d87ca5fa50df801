use Rattle.std.proofs.Common.{◌≡◌, Bool, true, false, List, [], ◌∷◌, refl, subst, subst₂, lit<}
use Rattle.fair_semantics.specs.declared.entries.Side.TheVariants as sides
use Rattle.fair_semantics.specs.Entries.{set_at, used_entries}
use Rattle.fair_semantics.specs.Allowing.{all_allow}
use Rattle.fair_semantics.specs.Validity.{IsValid, set_behind}
use Rattle.fair_semantics.specs.Examples.{rises, risen, not_risen, use_of}
use Rattle.fair_semantics.proofs.Examples.{one_use, one_value, rises-step, rises-begins, no_reach, risen_valid}
use Rattle.fair_semantics.proofs.worked_rows.walls_of_a_rising_latch.Goals as goal

-- no step outside the first wall begins in the second
none_outside : (b : Bool) → all_allow (set_at (risen ∷ [])) (used_entries (risen ∷ []) not_risen.uses) ((b ∷ []) ∷ (true ∷ []) ∷ []) ≡ true
    → set_behind (risen ∷ []) not_risen (b ∷ []) ≡ true → ⊥
none_outside true able inside = let e : false ≡ true = inside in cc
none_outside false able inside = let e : false ≡ true = able in cc

not_risen_valid : IsValid rises (risen ∷ []) not_risen
not_risen_valid = record {
  uses = one_use (risen ∷ []) (use_of 0 sides.Out) (lit< tt) (λ signed. refl) refl;
  closed = λ s t step able inside.
      let moved = rises-step s t step in
      let value = one_value s moved.0 in
      let allowed : List Bool → List Bool → Bool = λ a b. all_allow (set_at (risen ∷ [])) (used_entries (risen ∷ []) not_risen.uses) (a ∷ b ∷ []) in
      absurd (none_outside value.0 (subst₂ (λ a b. allowed a b ≡ true) value.1 moved.1 able) (subst (λ a. set_behind (risen ∷ []) not_risen a ≡ true) value.1 inside));
  reach = no_reach;
}

pub returns-clause-walls : goal.returns-clause-walls
returns-clause-walls c = (risen_valid, (not_risen_valid, tt))

pub returns-clause-leaves : goal.returns-clause-leaves
returns-clause-leaves c = λ h.
    let e : false ≡ true = h.closed (false ∷ []) (true ∷ []) rises-begins refl refl in
    cc
