-- A literal as one number: an even one for a variable, and the odd one behind it for its negation. After MiniSat (Eén,
-- Sörensson, 2003).
use Rattle.std.specs.Prelude.{◌≡◌, ℕ, zero, suc, ◌+◌, ◌*◌, ◌/◌, ◌%◌, ◌<◌, Bool, if◌then◌else◌, ◌==◌}
use Rattle.std.proofs.Common.{refl, ap, ◌∙◌, mod-lt, zero-lt-suc, div-add-mod', le_of_suc-le-suc, not-suc-le-zero}
use Rattle.proof_semantics.specs.declared.literals.Lit.{Lit}

abbrev pub literal : ℕ → Bool → Lit
literal var positive = record { var = var; positive = positive }

-- the literal that a number stands for
abbrev pub literal_of : ℕ → Lit
literal_of code = literal (code / 2) ((code % 2) == 0)

-- one more for a negation
abbrev pub sign_of : Bool → ℕ
sign_of positive = if positive then 0 else 1

-- the number that stands for a literal
abbrev pub code_of : Lit → ℕ
code_of a = a.var * 2 + sign_of a.positive

pub sign_of-bit : (bit : ℕ) → bit < 2 → sign_of (bit == 0) ≡ bit
sign_of-bit zero below = refl
sign_of-bit (suc zero) below = refl
sign_of-bit (suc (suc more)) below = absurd (not-suc-le-zero (le_of_suc-le-suc (le_of_suc-le-suc below)))

-- Each number stands for one literal.
pub code_of-literal_of : (code : ℕ) → code_of (literal_of code) ≡ code
code_of-literal_of code =
    ap (λ bit. code / 2 * 2 + bit) (sign_of-bit (code % 2) (mod-lt code (zero-lt-suc 1))) ∙ div-add-mod' code 2
