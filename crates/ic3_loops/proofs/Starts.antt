-- The cube of the starts holds exactly in them.
use Rattle.std.proofs.Common.{◌≡◌, ℕ, suc, ◌+◌, ◌<◌, ◌≤◌, Bool, true, false, List, [], ◌∷◌, length, get_or, refl, sym, ap, subst, ◌∙◌, arith}
use Rattle.std.proofs.lemmas.Bool.{and_parts, and_from}
use Rattle.std.proofs.lemmas.List.Elements.{All-nil, All-cons, All-append}
use Rattle.std.proofs.lemmas.Option.{unwrap_or-slice_get}
use Rattle.aig_semantics.specs.declared.parts.Latch.{Latch}
use Rattle.aig_semantics.specs.declared.parts.Reset.{Reset}
use Rattle.aig_semantics.specs.declared.parts.Reset.TheVariants.{Zero, One, Free}
use Rattle.aig_semantics.specs.Circuits.{Circuit}
use Rattle.proof_semantics.specs.Clauses.{bool_eq, cube_value, values_of}
use Rattle.proof_semantics.proofs.LiteralLaws.{bool_eq-true, bool_eq-same}
use Rattle.fair_semantics.specs.States.{reset_literals, initial_literals}
use Rattle.fair_semantics.specs.Entries.{Entry}
use Rattle.fair_semantics.proofs.Initial.{initial-in_cube}
use Rattle.ic3_semantics.specs.declared.questions.Start.{Start}
use Rattle.ic3_semantics.specs.declared.questions.Start.TheVariants.{Initial, State}
use Rattle.ic3_semantics.specs.Stepping.{IsOver}
use Rattle.ic3_semantics.specs.Searching.{IsStart}
use Rattle.ic3_generalise.specs.Cubes.{value_literals}
use Rattle.ic3_loops.specs.Starting.{start_cube}
use Rattle.ic3_loops.specs.Sound.{IsStartCube}

-- ---- over the latches

reset_over : (m n : ℕ) (reset : Reset) → n < m → IsOver m (reset_literals n reset)
reset_over m n Zero below = All-cons (λ l. l.var < m) (record { var = n; positive = false }) [] below (All-nil (λ l. l.var < m))
reset_over m n One below = All-cons (λ l. l.var < m) (record { var = n; positive = true }) [] below (All-nil (λ l. l.var < m))
reset_over m n Free below = All-nil (λ l. l.var < m)

initial_over : (m n : ℕ) (latches : List Latch) → n + length latches ≤ m → IsOver m (initial_literals n latches)
initial_over m n [] within = All-nil (λ l. l.var < m)
initial_over m n (latch ∷ latches) within =
    All-append (λ l. l.var < m) (reset_literals n latch.reset) (initial_literals (n + 1) latches)
    (reset_over m n latch.reset (omega arith)) (initial_over m (n + 1) latches (omega arith))

pub value_over : (m n : ℕ) (values : List Bool) → n + length values ≤ m → IsOver m (value_literals n values)
value_over m n [] within = All-nil (λ l. l.var < m)
value_over m n (value ∷ values) within =
    All-cons (λ l. l.var < m) (record { var = n; positive = value }) (value_literals (n + 1) values) (omega arith)
    (value_over m (n + 1) values (omega arith))

-- ---- exactly in the starts

-- from variable n on the assignment has these values
abbrev pub Has : (ℕ → Bool) → ℕ → List Bool → Type 0
Has v n values = (i : ℕ) → i < length values → v (n + i) ≡ get_or values i false

pub Has-first : (v : ℕ → Bool) (n : ℕ) (b : Bool) (values : List Bool) → Has v n (b ∷ values) → v n ≡ b
Has-first v n b values h = ap v (let e : n ≡ n + 0 = omega arith in e) ∙ h 0 (omega arith)

pub Has-later : (v : ℕ → Bool) (n : ℕ) (b : Bool) (values : List Bool) → Has v n (b ∷ values) → Has v (n + 1) values
Has-later v n b values h i below = ap v (let e : (n + 1) + i ≡ n + suc i = omega arith in e) ∙ h (suc i) (omega arith)

pub state_has : (s : List Bool) → Has (values_of s) 0 s
state_has s i below = ap (values_of s) (let e : 0 + i ≡ i = omega arith in e) ∙ unwrap_or-slice_get s i false

pub own_true : (v : ℕ → Bool) (n : ℕ) (values : List Bool) → Has v n values → cube_value v (value_literals n values) ≡ true
own_true v n [] has = refl
own_true v n (b ∷ values) has =
    and_from (bool_eq b (v n)) (cube_value v (value_literals (n + 1) values)) (ap (bool_eq b) (Has-first v n b values has) ∙ bool_eq-same b)
    (own_true v (n + 1) values (Has-later v n b values has))

pub same_values : (v : ℕ → Bool) (n : ℕ) (s values : List Bool) → Has v n s → length s ≡ length values
    → cube_value v (value_literals n values) ≡ true → s ≡ values
same_values v n [] [] has size h = refl
same_values v n [] (b ∷ values) has size h = absurd (omega arith)
same_values v n (a ∷ s) [] has size h = absurd (omega arith)
same_values v n (a ∷ s) (b ∷ values) has size h =
    let both = and_parts (bool_eq b (v n)) (cube_value v (value_literals (n + 1) values)) h in
    let first : a ≡ b = sym (bool_eq-true b (v n) both.0 ∙ Has-first v n a s has) in
    let later : s ≡ values = same_values v (n + 1) s values (Has-later v n a s has) (omega arith) both.1 in
    ap (λ x. x ∷ s) first ∙ ap (λ rest. b ∷ rest) later

pub is_start_cube : (c : Circuit) (view : List Entry) (start : Start) → IsStart c start
    → IsStartCube (record { circuit = c; view = view; start = start }) (start_cube c start)
is_start_cube c view Initial is = record {
  over = initial_over (length c.latches) 0 c.latches (omega arith);
  exactly = initial-in_cube c;
}
is_start_cube c view (State from) is = record {
  over = value_over (length c.latches) 0 from (omega arith);
  exactly = λ s. (
    λ same. (ap length same ∙ is, subst (λ t. cube_value (values_of t) (value_literals 0 from) ≡ true) (sym same) (own_true (values_of from) 0 from (state_has from))),
    λ h. same_values (values_of s) 0 s from (state_has s) (h.0 ∙ sym is) h.1,
  );
}
