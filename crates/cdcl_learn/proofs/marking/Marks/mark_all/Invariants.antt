use Rattle.std.proofs.Common.{◌≡◌, ◌<◌, ◌||◌, ℕ, length, take}
use Rattle.std.specs.List.{list_any}
use Rattle.cdcl_trail.specs.Places.{told}
use Rattle.cdcl_learn.specs.Walking.{is_at, is_marked}
use Rattle.cdcl_learn.proofs.marking.Marks.mark_all.Given as goal

abbrev pub invariant-loop-literal : goal.invariant-loop-literal
invariant-loop-literal l = record {
  start : l.self.start ≡ l.initial.self.start;
  long : length l.self.marks ≡ length l.initial.self.marks;
  marks : (q : ℕ) → q < length l.initial.self.marks
      → is_marked l.self.marks q ≡ (is_marked l.initial.self.marks q || list_any (λ b. is_at (told l.places b.var) q) (take l.literal-index l.clause));
}
