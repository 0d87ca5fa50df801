-- A clause of literals of a model is over its latches.
use Rattle.std.proofs.Common.{◌≡◌, ℕ, ◌+◌, ◌<◌, Bool, true, false, cond, not, List, [], ◌∷◌, ◌++◌, length, refl, ap, subst, inl, inr, ◌⊎◌, arith, Some, None, Option, Ok, Err, Result}
use Rattle.std.specs.Prelude.{◌==◌, IfOk, option_map}
use Rattle.std.specs.List.{All}
use Rattle.std.proofs.lemmas.List.Elements.{All-cons, All-nil, All-append}
use Rattle.aig_semantics.specs.declared.parts.Latch.{Latch}
use Rattle.aig_semantics.specs.Literals.{variable_of, is_negated}
use Rattle.aig_semantics.specs.Circuits.{Circuit}
use Rattle.proof_semantics.specs.declared.literals.Lit.{Lit}
use Rattle.entry.specs.declared.faults.EntryFault.{EntryFault}
use Rattle.entry.specs.declared.faults.EntryEnd.{EntryEnd}
use Rattle.entry.specs.Answers.{Tells}
use Rattle.entry.specs.Clauses.{latch_from, latch_literal, with_literal, clause_behind, clause_of}

here-or-later : (test : Bool) (n m : ℕ) (rest : Option ℕ) → cond test (Some n) rest ≡ Some m → (n ≡ m) ⊎ (rest ≡ Some m)
here-or-later true n m rest h = inl (cc)
here-or-later false n m rest h = inr h

latch-below : (n variable m : ℕ) (latches : List Latch) → latch_from n variable latches ≡ Some m → m < n + length latches
latch-below n variable m [] h = absurd (cc)
latch-below n variable m (latch ∷ latches) h =
    elim (here-or-later (latch.var == variable) n m (latch_from (n + 1) variable latches) h) [
      | inl same ↦ omega arith
      | inr later ↦ (let r = latch-below (n + 1) variable m latches later in omega arith)
    ]

abbrev var_or : ℕ → Option Lit → ℕ
var_or n None = n
var_or n (Some l) = l.var

map-below : (found : Option ℕ) (count : ℕ) (positive : Bool) (l : Lit) → ((m : ℕ) → found ≡ Some m → m < count)
    → option_map (λ n. record { var = n; positive = positive }) found ≡ Some l → l.var < count
map-below None count positive l below h = absurd (cc)
map-below (Some m) count positive l below h =
    let same : m ≡ l.var = ap (var_or 0) h in
    let r : m < count = below m refl in
    omega arith

literal-below : (c : Circuit) (literal : ℕ) (l : Lit) → latch_literal c literal ≡ Some l → l.var < length c.latches
literal-below c literal l h =
    map-below (latch_from 0 (variable_of literal) c.latches) (length c.latches) (not (is_negated literal)) l
    (λ m found. (let r = latch-below 0 (variable_of literal) m c.latches found in omega arith)) h

with-ok : (found : Option Lit) (literal : ℕ) (rest : Lit → Result (List Lit) EntryFault) (clause : List Lit)
    → with_literal found literal rest ≡ Ok clause → (l : Lit) × (found ≡ Some l) × (rest l ≡ Ok clause)
with-ok None literal rest clause h = absurd (cc)
with-ok (Some l) literal rest clause h = (l, refl, h)

abbrev items_or : List Lit → Result (List Lit) EntryFault → List Lit
items_or other (Ok clause) = clause
items_or other (Err fault) = other

behind-over : (c : Circuit) (front : List Lit) (literals : List ℕ) (clause : List Lit) → All (λ l. l.var < length c.latches) front
    → clause_behind c front literals ≡ Ok clause → All (λ l. l.var < length c.latches) clause
behind-over c front [] clause over h = subst (λ ls. All (λ l. l.var < length c.latches) ls) (ap (items_or []) h) over
behind-over c front (literal ∷ literals) clause over h =
    let Below : Lit → Type 0 = λ l. l.var < length c.latches in
    let step = with-ok (latch_literal c literal) literal (λ l. clause_behind c (front ++ l ∷ []) literals) clause h in
    let below : step.0.var < length c.latches = literal-below c literal step.0 step.1 in
    behind-over c (front ++ step.0 ∷ []) literals clause
    (All-append Below front (step.0 ∷ []) over (All-cons Below step.0 [] below (All-nil Below))) step.2

pub clause_over : (c : Circuit) (literals : List ℕ) (r : Result (List Lit) EntryEnd) → Tells r (clause_of c literals)
    → IfOk r (λ clause. All (λ l. l.var < length c.latches) clause)
clause_over c literals (Ok clause) h = behind-over c [] literals clause (All-nil (λ l. l.var < length c.latches)) h
clause_over c literals (Err end) h = tt
