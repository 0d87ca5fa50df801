-- The literals of the initial cube by the latches.
use Rattle.std.proofs.Common.{◌≡◌, ℕ, zero, suc, ◌+◌, ◌<◌, Bool, true, false, not, ◌||◌, List, [], ◌∷◌, refl, ap, ◌∙◌, arith}
use Rattle.std.specs.Prelude.{slice_get}
use Rattle.std.proofs.lemmas.Bool.{ne_eqb, eq-eqb}
use Rattle.std.proofs.lemmas.List.Folds.{list_any-append}
use Rattle.aig_semantics.specs.declared.parts.Latch.{Latch}
use Rattle.aig_semantics.specs.declared.parts.Reset.{Reset}
use Rattle.aig_semantics.specs.declared.parts.Reset.TheVariants.{Zero, One, Free}
use Rattle.proof_semantics.specs.declared.literals.Lit.{Lit}
use Rattle.proof_semantics.specs.Clauses.{lit_eq, has_literal, bool_eq}
use Rattle.fair_semantics.specs.States.{reset_literals, initial_literals}
use Rattle.entry.specs.Resets.{is_reset_to, is_reset_at}

-- ---- the initial cube

bool_eq-true : (a : Bool) → (bool_eq a true || false) ≡ a
bool_eq-true true = refl
bool_eq-true false = refl

bool_eq-false : (a : Bool) → (bool_eq a false || false) ≡ not a
bool_eq-false true = refl
bool_eq-false false = refl

reset-here : (n : ℕ) (reset : Reset) (l : Lit) → l.var ≡ n → has_literal (reset_literals n reset) l ≡ is_reset_to reset l.positive
reset-here n Zero l same = rw (eq-eqb l.var n same) (bool_eq-false l.positive)
reset-here n One l same = rw (eq-eqb l.var n same) (bool_eq-true l.positive)
reset-here n Free l same = refl

reset-apart : (n : ℕ) (reset : Reset) (l : Lit) → (l.var ≡ n → ⊥) → has_literal (reset_literals n reset) l ≡ false
reset-apart n Zero l apart = rw (ne_eqb l.var n apart) refl
reset-apart n One l apart = rw (ne_eqb l.var n apart) refl
reset-apart n Free l apart = refl

lower : (n : ℕ) (latches : List Latch) (l : Lit) → l.var < n → has_literal (initial_literals n latches) l ≡ false
lower n [] l below = refl
lower n (latch ∷ latches) l below =
    list_any-append (lit_eq l) (reset_literals n latch.reset) (initial_literals (n + 1) latches)
    ∙ ap (λ b. b || has_literal (initial_literals (n + 1) latches) l) (reset-apart n latch.reset l (λ e. omega arith))
    ∙ lower (n + 1) latches l (omega arith)

or-false : (a b : Bool) → b ≡ false → (a || b) ≡ a
or-false true b e = refl
or-false false b e = e

pub initial-at : (n i : ℕ) (latches : List Latch) (l : Lit) → l.var ≡ n + i → has_literal (initial_literals n latches) l ≡ is_reset_at (slice_get latches i) l.positive
initial-at n i [] l same = refl
initial-at n zero (latch ∷ latches) l same =
    list_any-append (lit_eq l) (reset_literals n latch.reset) (initial_literals (n + 1) latches)
    ∙ or-false _ _ (lower (n + 1) latches l (omega arith))
    ∙ reset-here n latch.reset l (omega arith)
initial-at n (suc i) (latch ∷ latches) l same =
    list_any-append (lit_eq l) (reset_literals n latch.reset) (initial_literals (n + 1) latches)
    ∙ ap (λ b. b || has_literal (initial_literals (n + 1) latches) l) (reset-apart n latch.reset l (λ e. omega arith))
    ∙ initial-at (n + 1) i latches l (omega arith)
