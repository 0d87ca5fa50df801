-- Reads of one name, one behind the other.
use Rattle.std.proofs.Common.{ℕ, zero, suc, Bool, true, false, List, sym, subst}
use Rattle.edge.specs.Reads.{ReadsOf, GoodReads, Reads}

-- so many reads behind others
good_after : {Shelf : Type 0} (Read : ReadsOf Shelf) (name : List ℕ) (n m : ℕ) (old mid new : Shelf) → GoodReads Read name n old mid → GoodReads Read name m mid new → Reads Read name false old new
good_after Read name n zero old mid new before after =
    (n, subst (λ s. GoodReads Read name n old s) (sym after) before)
good_after Read name n (suc m) old mid new before after =
    let both = good_after Read name n m old mid after.0 before after.1 in
    (suc both.0, (after.0, both.1, after.2))

-- reads behind reads that did not fail
pub reads_after : {Shelf : Type 0} (Read : ReadsOf Shelf) (name : List ℕ) (failed : Bool) (old mid new : Shelf) → Reads Read name false old mid → Reads Read name failed mid new → Reads Read name failed old new
reads_after Read name false old mid new before after =
    good_after Read name before.0 after.0 old mid new before.1 after.1
reads_after Read name true old mid new before after =
    let both = good_after Read name before.0 after.0 old mid after.1 before.1 after.2 in
    (both.0, after.1, both.1, after.3)
