-- What questions leave of a meter, one after another.
use Rattle.std.proofs.Common.{◌≡◌, ℕ, zero, suc, ◌+◌, ◌-◌, ◌≤◌, List, length, ap, ◌∙◌, arith, length-append}
use Rattle.edge.specs.Faults.{one_more}
use Rattle.edge.specs.Units.{Spendings}
use Rattle.proof_semantics.specs.declared.literals.Lit.{Lit}
use Rattle.cdcl.specs.Solving.{more_conflicts, with_conflicts, Learns}

more_on : (count m n : ℕ) → more_conflicts (more_conflicts count m) n ≡ more_conflicts count (m + n)
more_on count m zero = let e : m ≡ m + 0 = omega arith in ap (more_conflicts count) e
more_on count m (suc n) =
    let e : suc (m + n) ≡ m + suc n = omega arith in
    ap one_more (more_on count m n) ∙ ap (more_conflicts count) e

-- a meter that counts what is learned, clause after clause
pub learned_on : (a b c : Spendings) (added first second third : List (List Lit)) → length first ≤ length second → Learns added second third
    → b ≡ with_conflicts a (length second - length first) → c ≡ with_conflicts b (length third - length second)
    → (c ≡ with_conflicts a (length third - length first)) × (length first ≤ length third)
learned_on a b c added first second third more learns counted then =
    let longer : length third ≡ length second + length learns.more = ap length learns.behind ∙ length-append second learns.more in
    let m = length second - length first in
    let n = length third - length second in
    let sum : m + n ≡ length third - length first = omega (arith, more, longer) in (
      then ∙ ap (λ (s : Spendings). with_conflicts s n) counted
          ∙ ap (λ k. record a { conflicts = k }) (more_on a.conflicts m n ∙ ap (more_conflicts a.conflicts) sum),
      omega (arith, more, longer),
    )
