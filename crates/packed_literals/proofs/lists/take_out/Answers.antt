use Rattle.std.proofs.Common.{◌<◌, ◌≤◌, length, subst}
use Rattle.std.proofs.lemmas.Option.{slice_get-get_or}
use Rattle.packed_literals.proofs.ListLaws.{without_inner, without_last}
use Rattle.packed_literals.proofs.lists.take_out.Goals as goal

pub returns-then-place-as_slice : goal.returns-then-place-as_slice
returns-then-place-as_slice c =
    let rest = c.pop.new.self.items in
    without_inner c.args.list.now.items rest c.args.place c.in-Some.last _ c.in-Some.ensures.items
    (slice_get-get_or rest c.args.place 0 (subst (λ xs. c.args.place < length xs) c.as_slice.ensures.value c.if-place-as_slice.true))

pub returns-else-place-as_slice : goal.returns-else-place-as_slice
returns-else-place-as_slice c =
    let rest = c.pop.new.self.items in
    without_last c.args.list.now.items rest c.args.place c.in-Some.last c.in-Some.ensures.items c.requires
    (subst (λ xs. length xs ≤ c.args.place) c.as_slice.ensures.value c.if-place-as_slice.false)
