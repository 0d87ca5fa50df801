-- The groups of a delta, as they are written.
use Rattle.std.proofs.Common.{◌≡◌, ℕ, suc, ◌+◌, ◌-◌, ◌/◌, ◌%◌, ◌<◌, ◌≤◌, List, [], ◌∷◌, ◌++◌, sym, ap, subst, ◌∙◌, append_assoc, arith}
use Rattle.aiger_grammar.specs.Deltas.{groups_text}
use Rattle.aiger_grammar.proofs.DeltaLaws.{Small, small_written, great_written}

pub turn : (i left : ℕ) (front new whole : List ℕ) (byte : ℕ) → i < 4 → 128 ≤ left → new ≡ front ++ byte ∷ [] → byte ≡ left % 128 + 128
    → front ++ groups_text (4 - i) left ≡ whole → new ++ groups_text (4 - (i + 1)) (left / 128) ≡ whole
turn i left front new whole byte lt great pushed is so_far =
    let more = groups_text (4 - (i + 1)) (left / 128) in
    let k : 4 - i ≡ suc (4 - (i + 1)) = omega arith in
    ap (λ t. t ++ more) pushed ∙ append_assoc front (byte ∷ []) more ∙ ap (λ b. front ++ b ∷ more) is
    ∙ ap (λ t. front ++ t) (sym (ap (λ m. groups_text m left) k ∙ great_written (4 - (i + 1)) left great))
    ∙ so_far

pub small_turn : (i left : ℕ) → i < 4 → Small (4 - i) left → Small (4 - (i + 1)) (left / 128)
small_turn i left lt small = let k : 4 - i ≡ suc (4 - (i + 1)) = omega arith in subst (λ m. Small m left) k small

pub last : (i left : ℕ) (front new whole : List ℕ) (byte : ℕ) → left < 128 → new ≡ front ++ byte ∷ [] → byte ≡ left → front ++ groups_text (4 - i) left ≡ whole → new ≡ whole
last i left front new whole byte small pushed is so_far =
    pushed ∙ ap (λ b. front ++ b ∷ []) is ∙ ap (λ t. front ++ t) (sym (small_written (4 - i) left small)) ∙ so_far

pub small_end : (i left : ℕ) → 4 ≤ i → Small (4 - i) left → left < 128
small_end i left le small = let k : 4 - i ≡ 0 = omega arith in subst (λ m. Small m left) k small
