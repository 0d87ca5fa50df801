-- Reads of one name, one behind the other.
use Rattle.std.proofs.Common.{ℕ, suc, Bool, true, false, List}
use Rattle.edge.specs.Reads.{ReadsOf, ReadsSomewhere, Reads}

-- one more read, which may have failed
pub one_more_read : {Shelf : Type 0} (Read : ReadsOf Shelf) (name : List ℕ) (failed : Bool) (old mid new : Shelf)
    → Reads Read name false old mid → ReadsSomewhere Read name failed mid new → Reads Read name failed old new
one_more_read Read name false old mid new before step = (suc before.0, (mid, before.1, step))
one_more_read Read name true old mid new before step = (before.0, mid, before.1, step)
