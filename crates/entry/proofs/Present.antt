-- Where no use is bad, each is of an entry of the list.
use Rattle.std.proofs.Common.{◌≡◌, ◌<◌, List, length, get_or, subst, None}
use Rattle.std.specs.List.{All}
use Rattle.std.proofs.lemmas.List.{length-map}
use Rattle.fair_semantics.specs.declared.entries.Use.{Use}
use Rattle.entry.specs.declared.uses.User.{User}
use Rattle.entry.specs.declared.list.Listed.{Listed}
use Rattle.entry.specs.Listing.{entry_of, entries_of}
use Rattle.entry.specs.Faults.{first_bad_use}
use Rattle.entry.proofs.Closed.{closed-from_none}

pub present-from_none : (user : User) (list : List Listed) (uses : List Use) → first_bad_use user (entries_of list) uses ≡ None
    → All (λ u. u.entry < length list) uses
present-from_none user list uses h k d inside =
    subst (λ n. (get_or uses k d).entry < n) (length-map list entry_of) ((closed-from_none user (entries_of list) uses h).0.present k d inside)
