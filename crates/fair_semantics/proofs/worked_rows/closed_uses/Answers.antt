use Rattle.std.proofs.Common.{◌≡◌, zero, suc, ◌<◌, [], ◌∷◌, ap, ◌∙◌, arith}
use Rattle.fair_semantics.specs.declared.entries.Kind.TheVariants.{Reach, Wall}
use Rattle.fair_semantics.specs.declared.entries.Side.TheVariants as sides
use Rattle.fair_semantics.specs.declared.entries.Use.{Use}
use Rattle.fair_semantics.specs.Entries.{Uses}
use Rattle.fair_semantics.specs.Examples.{use_of}
use Rattle.fair_semantics.proofs.worked_rows.closed_uses.Goals as goal

not_zero : Uses (use_of 1 sides.In ∷ []) 0 → ⊥
not_zero (zero, u, inside, at, same) = let e : 1 ≡ 0 = ap (λ (v : Use). v.entry) at ∙ same in absurd (omega (arith, e))
not_zero (suc k, u, inside, at, same) = absurd (omega (arith, inside))

pub returns-clause-named_is_missing : goal.returns-clause-named_is_missing
returns-clause-named_is_missing c = λ h.
    let named = h.closed 0 (use_of 1 sides.In) (omega arith) 0 (use_of 0 sides.Out) (omega arith) (λ e. cc) in
    absurd (not_zero named.1)

pub returns-clause-side_of_reach : goal.returns-clause-side_of_reach
returns-clause-side_of_reach c = λ h.
    let e : Reach ≡ Wall = h.walls 0 (use_of 0 sides.In) (omega arith) (λ e. cc) in
    cc

pub returns-clause-order : goal.returns-clause-order
returns-clause-order c = λ h.
    let e : 1 < 0 = h.ascend 0 1 (use_of 0 sides.Any) (omega arith) (omega arith) in
    omega arith

pub returns-clause-not_there : goal.returns-clause-not_there
returns-clause-not_there c = λ h.
    let e : 0 < 0 = h.present 0 (use_of 0 sides.Any) (omega arith) in
    omega arith
