use Rattle.std.proofs.Common.{◌≡◌, ℕ, ◌-◌, ◌<◌, ◌≤◌, false}
use Rattle.ic3_frames.specs.Frames.{frame_at}
use Rattle.ic3_frames.specs.Room.{allowed_by}
use Rattle.ic3_loops.proofs.obligations.level_above.Given as goal

abbrev pub invariant-levels : goal.invariant-levels
invariant-levels l = record {
  least : l.level ≤ l.next;
  none : (k : ℕ) → l.level < k → k ≤ l.next → allowed_by (frame_at l.frames k) l.state ≡ false;
}

abbrev pub decreases-levels : goal.decreases-levels
decreases-levels l = l.top - l.next
