-- How many steps searches take.
use Rattle.std.proofs.Common.{◌≡◌, ℕ, ◌+◌, ◌*◌, ◌^◌, ◌≤◌, refl, sym, ◌∙◌, subst, arith}
use Rattle.std.proofs.Math.Nat.{mul-le-mul_right}
use Rattle.edge.specs.Units.{Spendings}
use Rattle.edge.specs.Ends.{CountsConflicts}
use Rattle.ic3_semantics.specs.Searching.{CountsSearch, CountsUpTo}
use Rattle.fair_round.specs.Spending.{Asks, path_steps}

pub path_steps-is : (n : ℕ) → path_steps n ≡ (2 ^ n + 2) * (2 ^ n + 2)
unfolding path_steps
path_steps-is n = refl

-- ---- one part of the work, and then the other

pub counts-then : (a b m : ℕ) (x y z : Spendings) → CountsUpTo a x y → CountsUpTo b y z → a + b ≤ m → CountsUpTo m x z
counts-then a b m x y z first second all = record {
  conflict_limit = second.conflict_limit ∙ first.conflict_limit;
  step_limit = second.step_limit ∙ first.step_limit;
  conflicts = omega (arith, first.conflicts, second.conflicts);
  steps = omega (arith, first.steps, second.steps);
  bound = omega (arith, first.bound, second.bound, all);
}

pub conflicts-then : (x y z : Spendings) → CountsConflicts x y → CountsConflicts y z → CountsConflicts x z
conflicts-then x y z first second = record {
  conflict_limit = second.conflict_limit ∙ first.conflict_limit;
  step_limit = second.step_limit ∙ first.step_limit;
  steps = second.steps ∙ first.steps;
  conflicts = omega (arith, first.conflicts, second.conflicts);
}

pub conflicts-alone : (m : ℕ) (x y : Spendings) → CountsConflicts x y → CountsUpTo m x y
conflicts-alone m x y h = record {
  conflict_limit = h.conflict_limit;
  step_limit = h.step_limit;
  conflicts = h.conflicts;
  steps = omega (arith, h.steps);
  bound = omega (arith, h.steps);
}

pub conflicts-first : (m : ℕ) (x y z : Spendings) → CountsConflicts x y → CountsUpTo m y z → CountsUpTo m x z
conflicts-first m x y z first second = counts-then 0 m m x y z (conflicts-alone 0 x y first) second (omega arith)

-- ---- searches

-- one search, whose steps are bounded
pub asks-one : (n : ℕ) (x y : Spendings) → CountsSearch n x y → Asks n 1 x y
asks-one n x y h = record {
  conflict_limit = h.conflict_limit;
  step_limit = h.step_limit;
  conflicts = h.conflicts;
  steps = h.steps;
  bound = subst (λ (r : ℕ). y.steps ≤ x.steps + 1 * r) (sym (path_steps-is n)) (one x.steps y.steps ((2 ^ n + 2) * (2 ^ n + 2)) h.bound);
}
  where
    one : (s t r : ℕ) → t ≤ s + r → t ≤ s + 1 * r
    one s t r h = omega (arith, h)

sums-more : (a b m r : ℕ) → (a + b) * r ≤ m * r → a * r + b * r ≤ m * r
sums-more a b m r h = omega (arith, h)

-- one part of the searches and then the other
pub asks-then : (n a b m : ℕ) (x y z : Spendings) → Asks n a x y → Asks n b y z → a + b ≤ m → Asks n m x z
asks-then n a b m x y z first second all =
    counts-then (a * path_steps n) (b * path_steps n) (m * path_steps n) x y z first second (sums-more a b m (path_steps n) (mul-le-mul_right (path_steps n) all))

-- ---- through the searches that are left

through-more : (v w m n k r : ℕ) → v ≤ w → (m + k) * r ≤ n * r → v + (m + k) * r ≤ w + n * r
through-more v w m n k r same all = omega (arith, same, all)

-- a turn without steps that leaves so many searches less
pub steps-fewer : (v w m n k r : ℕ) → v ≤ w → m + k ≤ n → v + (m + k) * r ≤ w + n * r
steps-fewer v w m n k r same all = through-more v w m n k r same (mul-le-mul_right r all)

-- searches, and then what is behind them
pub steps-behind : (u v w k m n r : ℕ) → v ≤ w + k * r → u + (m + k) * r ≤ v + n * r → u + (m + 0) * r ≤ w + n * r
steps-behind u v w k m n r first second = omega (arith, first, second)

-- a turn keeps within what a worker takes at most
pub steps-kept : (u w m n r most : ℕ) → u + m * r ≤ w + n * r → w + n * r ≤ most → u + m * r ≤ most
steps-kept u w m n r most turn before = omega (arith, turn, before)

-- behind the last search of a turn
pub steps-over : (u m r most : ℕ) → u + (m + 0) * r ≤ most → u + m * r ≤ most
steps-over u m r most h = subst (λ (n : ℕ). u + n * r ≤ most) (let e : m + 0 ≡ m = omega arith in e) h

-- at last
pub steps-last : (s n r most : ℕ) → s + n * r ≤ most → s ≤ most
steps-last s n r most h = omega (arith, h)
