-- Ends and counts of a search, put together from those of its parts.
use Rattle.std.proofs.Common.{◌≡◌, ℕ, suc, ◌+◌, ◌-◌, ◌*◌, ◌^◌, ◌<◌, ◌≤◌, min, [], Result, Ok, Err, refl, sym, ap, subst, ◌∙◌, arith}
use Rattle.std.proofs.Math.Nat.{mul-suc}
use Rattle.std.specs.Result.{OnOk}
use Rattle.edge.specs.Faults.{one_more}
use Rattle.edge.specs.Units.{Spendings}
use Rattle.edge.specs.Ends.{CountsConflicts}
use Rattle.edge.specs.declared.solve_end.SolveEnd.TheVariants as ends
use Rattle.ic3_semantics.specs.declared.questions.ReachEnd.{ReachEnd}
use Rattle.ic3_semantics.specs.declared.questions.ReachEnd.TheVariants.{Memory}
use Rattle.ic3_frames.specs.Room.{room}
use Rattle.ic3_frames.proofs.Rooms.{first-room}
use Rattle.ic3_semantics.specs.Searching.{IsReachEnd, CountsSearch}
use Rattle.ic3_semantics.specs.Stepping.{Stepping}
use Rattle.ic3_loops.specs.Sound.{KeepsQuestion}
use Rattle.ic3_semantics.specs.Searching.{CountsUpTo, CountsAtLeast}

pub memory_end : (meter : Spendings) (r : ReachEnd) → r ≡ Memory → IsReachEnd meter r
memory_end meter r made = subst (IsReachEnd meter) (sym made) tt

-- ---- counts

pub up_to_none : (most : ℕ) (a : Spendings) → CountsUpTo most a a
up_to_none most a = record { conflict_limit = refl; step_limit = refl; conflicts = omega arith; steps = omega arith; bound = omega arith }

pub up_to_conflicts : (most : ℕ) (a b : Spendings) → CountsConflicts a b → CountsUpTo most a b
up_to_conflicts most a b h = record {
  conflict_limit = h.conflict_limit;
  step_limit = h.step_limit;
  conflicts = h.conflicts;
  steps = omega (arith, h.steps);
  bound = omega (arith, h.steps);
}

-- Where what was counted was paid for, what is left pays for the rest.
pub up_to_on : (most left : ℕ) (a b c : Spendings) → CountsUpTo most a b → b.steps + left ≤ a.steps + most → CountsUpTo left b c
    → CountsUpTo most a c
up_to_on most left a b c first paid second = record {
  conflict_limit = second.conflict_limit ∙ first.conflict_limit;
  step_limit = second.step_limit ∙ first.step_limit;
  conflicts = omega (arith, first.conflicts, second.conflicts);
  steps = omega (arith, first.steps, second.steps);
  bound = omega (arith, paid, second.bound);
}

pub one_step_of : (most : ℕ) (a b : Spendings) → 1 ≤ most → CountsUpTo 1 a b → CountsUpTo most a b
one_step_of most a b some h = record {
  conflict_limit = h.conflict_limit;
  step_limit = h.step_limit;
  conflicts = h.conflicts;
  steps = h.steps;
  bound = omega (arith, some, h.bound);
}

-- Where no frame was opened no step need be counted.
pub least_none : (before after : ℕ) (a b : Spendings) → after ≤ before → a.steps ≤ b.steps → CountsAtLeast (after - before) a b
least_none before after a b within later = by_steps a.steps b.steps (after - before) (omega (arith, within)) later
  where
    by_steps : (old new more : ℕ) → more ≡ 0 → old ≤ new → min (old + more) (2 ^ 64 - 1) ≤ new
    by_steps old new more none later = omega (arith, none, later)

-- One frame more, and one step more.
pub least_one : (before after : ℕ) (a b c : Spendings) → after ≡ before + 1 → a.steps ≤ b.steps → c.steps ≡ one_more b.steps
    → CountsAtLeast (after - before) a c
least_one before after a b c next later one = by_steps a.steps b.steps c.steps (after - before) (omega (arith, next)) later one
  where
    by_steps : (old mid new more : ℕ) → more ≡ 1 → old ≤ mid → new ≡ one_more mid → min (old + more) (2 ^ 64 - 1) ≤ new
    by_steps old mid new more is later one = omega (arith, is, later, one)

-- From numbers of frames that do not fall.
pub least_on : (x y z : ℕ) (a b c : Spendings) → x ≤ y → y ≤ z → CountsAtLeast (y - x) a b → CountsAtLeast (z - y) b c
    → CountsAtLeast (z - x) a c
least_on x y z a b c more further first second = by_steps a.steps b.steps c.steps (y - x) (z - y) (z - x) (omega (arith, more, further)) first second
  where
    by_steps : (old mid new k l m : ℕ) → m ≡ k + l → min (old + k) (2 ^ 64 - 1) ≤ mid → min (mid + l) (2 ^ 64 - 1) ≤ new
        → min (old + m) (2 ^ 64 - 1) ≤ new
    by_steps old mid new k l m sum first second = omega (arith, sum, first, second)

-- From a greater number of frames less is counted.
pub least_from : (x y z : ℕ) (a b : Spendings) → x ≤ y → CountsAtLeast (z - x) a b → CountsAtLeast (z - y) a b
least_from x y z a b more h = by_steps a.steps b.steps (z - x) (z - y) (omega (arith, more)) h
  where
    by_steps : (old new k l : ℕ) → l ≤ k → min (old + k) (2 ^ 64 - 1) ≤ new → min (old + l) (2 ^ 64 - 1) ≤ new
    by_steps old new k l less h = omega (arith, less, h)

-- The bound of a search, by the room before any frame.
pub search_counts : (n most : ℕ) (a b : Spendings) → most ≤ room n [] → CountsUpTo most a b → CountsSearch n a b
search_counts n most a b within h = record {
  conflict_limit = h.conflict_limit;
  step_limit = h.step_limit;
  conflicts = h.conflicts;
  steps = h.steps;
  bound =
      let wide : ℕ = 2 ^ n + 2 in
      let narrow : ℕ = 2 ^ n + 1 in
      let more : wide ≡ suc narrow = omega arith in
      let square : wide * wide ≡ wide * narrow + wide = ap (λ m. wide * m) more ∙ mul-suc wide narrow in
      let first : room n [] ≡ wide * narrow = first-room n in
      omega (arith, within, h.bound, square, first);
}

pub one_step : (a b : Spendings) → a.steps < 2 ^ 64 → b ≡ record a { steps = one_more a.steps } → CountsUpTo 1 a b
one_step a b small is =
    subst (CountsUpTo 1 a) (sym is)
    (record {
      conflict_limit = refl;
      step_limit = refl;
      conflicts = omega arith;
      steps = at_least a.steps small;
      bound = at_most a.steps;
    })
  where
    at_least : (n : ℕ) → n < 2 ^ 64 → n ≤ one_more n
    at_least n small = omega arith

    at_most : (n : ℕ) → one_more n ≤ n + 1
    at_most n = omega arith

-- ---- facts of results

pub on_ok : {T E : Type 0} (r : Result T E) (P Q : Type 0) → (P → Q) → OnOk r P → OnOk r Q
on_ok (Ok x) P Q f h = f h
on_ok (Err e) P Q f h = h

pub on_both : {T E : Type 0} (r : Result T E) (P Q R : Type 0) → (P → Q → R) → OnOk r P → OnOk r Q → OnOk r R
on_both (Ok x) P Q R f h k = f h k
on_both (Err e) P Q R f h k = h

-- ---- the question of a solver

pub keeps_on : (a b c : Stepping) → KeepsQuestion a b → KeepsQuestion b c → KeepsQuestion a c
keeps_on a b c first second = record { question = second.question ∙ first.question; avoid = second.avoid ∙ first.avoid }
