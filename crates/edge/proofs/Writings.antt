-- Writes, one behind the other.
use Rattle.std.proofs.Common.{suc, Bool, true, false}
use Rattle.edge.specs.Writes.{Writes}

-- one more write, which may have failed
pub one_more_write : {Sink : Type 0} (Write : Sink → Bool → Sink → Type 0) (failed : Bool) (old mid new : Sink)
    → Writes Write false old mid → Write mid failed new → Writes Write failed old new
one_more_write Write false old mid new before step = (suc before.0, (mid, before.1, step))
one_more_write Write true old mid new before step = (before.0, mid, before.1, step)
