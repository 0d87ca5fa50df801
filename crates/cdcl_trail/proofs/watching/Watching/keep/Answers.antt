use Rattle.std.proofs.Common.{[], ◌∷◌, ◌++◌, length, map, refl, sym, subst, ap, ◌∙◌}
use Rattle.clause_arena.specs.Lending.{lent}
use Rattle.cdcl_trail.specs.Storing.{AreCovered, has_more_singles}
use Rattle.cdcl_trail.proofs.StoreLaws.{stores_same, stores_push, held_push, fits_from, keeps_from, covered_lists, covered_push}
use Rattle.cdcl_trail.proofs.watching.Watching.keep.Goals as goal

pub returns-in_err-add_pair-clause-stored : goal.returns-in_err-add_pair-clause-stored
returns-in_err-add_pair-clause-stored c =
    let w = c.args.self.now in
    let u = c.reserve_one.new.self in
    let same = c.reserve_one.ensures.same in
    stores_same w.arena u.arena w.places.items u.places.items w.pairs.items u.pairs.items w.singles.items u.singles.items same.arena same.places same.pairs same.singles c.requires.stored

pub returns-in_err-place-clause-stored : goal.returns-in_err-place-clause-stored
returns-in_err-place-clause-stored c =
    let w = c.args.self.now in
    let u = c.reserve_one.new.self in
    let same = c.reserve_one.ensures.same in
    stores_same w.arena c.push.new.self w.places.items u.places.items w.pairs.items u.pairs.items w.singles.items u.singles.items
    (c.in_err-place.ensures.err ∙ same.arena) same.places same.pairs same.singles c.requires.stored

pub returns-clause-stored : goal.returns-clause-stored
returns-clause-stored c =
    let w = c.args.self.now in
    let u = c.reserve_one.new.self in
    let same = c.reserve_one.ensures.same in
    let long = ap length c.as_slice-number.ensures.value in
    stores_same c.push.new.self c.push.new.self (u.places.items ++ c.in_ok-place.place ∷ []) c.push_reserved.new.self.items (u.pairs.items ++ c.args.pair ∷ []) c.push_reserved-2.new.self.items
    (has_more_singles u.singles.items (length u.places.items) c.args.pair) c.push_single.new.singles.items refl c.push_reserved.ensures.items c.push_reserved-2.ensures.items
    (c.push_single.ensures ∙ ap (λ n. has_more_singles u.singles.items n c.args.pair) long)
    (stores_push u.arena c.push.new.self u.places.items c.in_ok-place.place u.pairs.items c.args.pair u.singles.items c.args.clause.now
    (stores_same w.arena u.arena w.places.items u.places.items w.pairs.items u.pairs.items w.singles.items u.singles.items same.arena same.places same.pairs same.singles c.requires.stored)
    c.push.ensures.stays c.in_ok-place.ensures.place c.in_ok-place.ensures.lent
    (fits_from c.args.clause.now c.args.pair c.requires.some c.requires.none))

pub returns-clause-held : goal.returns-clause-held
returns-clause-held c =
    let w = c.args.self.now in
    let u = c.reserve_one.new.self in
    let same = c.reserve_one.ensures.same in
    let stored = stores_same w.arena u.arena w.places.items u.places.items w.pairs.items u.pairs.items w.singles.items u.singles.items same.arena same.places same.pairs same.singles c.requires.stored in
    ap (λ xs. map (lent c.push.new.self) xs) c.push_reserved.ensures.items
    ∙ held_push u.arena c.push.new.self u.places.items c.in_ok-place.place c.args.clause.now stored.refs c.push.ensures.stays c.in_ok-place.ensures.lent
    ∙ ap (λ xs. map (lent xs) u.places.items ++ c.args.clause.now ∷ []) same.arena
    ∙ ap (λ xs. map (lent w.arena) xs ++ c.args.clause.now ∷ []) same.places

pub returns-in_err-reserve_one-clause-cover : goal.returns-in_err-reserve_one-clause-cover
returns-in_err-reserve_one-clause-cover c = λ fixed all.
    let w = c.args.self.now in
    let u = c.reserve_one.new.self in
    covered_lists fixed w.pairs.items u.pairs.items w.lists u.lists (keeps_from w.lists u.lists u.lists c.reserve_one.ensures.lists (λ a n e. e)) c.reserve_one.ensures.same.pairs all

pub returns-in_err-add_pair-clause-cover : goal.returns-in_err-add_pair-clause-cover
returns-in_err-add_pair-clause-cover c = λ fixed all.
    let w = c.args.self.now in
    let u = c.reserve_one.new.self in
    covered_lists fixed w.pairs.items u.pairs.items w.lists c.add_pair.new.lists (keeps_from w.lists u.lists c.add_pair.new.lists c.reserve_one.ensures.lists c.add_pair.ensures.keeps)
    c.reserve_one.ensures.same.pairs all

pub returns-in_err-place-clause-cover : goal.returns-in_err-place-clause-cover
returns-in_err-place-clause-cover c = λ fixed all.
    let w = c.args.self.now in
    let u = c.reserve_one.new.self in
    covered_lists fixed w.pairs.items u.pairs.items w.lists c.add_pair.new.lists (keeps_from w.lists u.lists c.add_pair.new.lists c.reserve_one.ensures.lists c.add_pair.ensures.keeps)
    c.reserve_one.ensures.same.pairs all

pub returns-clause-cover : goal.returns-clause-cover
returns-clause-cover c = λ fixed all.
    let w = c.args.self.now in
    let u = c.reserve_one.new.self in
    let same = c.reserve_one.ensures.same in
    let stored = stores_same w.arena u.arena w.places.items u.places.items w.pairs.items u.pairs.items w.singles.items u.singles.items same.arena same.places same.pairs same.singles c.requires.stored in
    let long = ap length c.as_slice-number.ensures.value in
    subst (λ xs. AreCovered fixed c.add_pair.new.lists xs) (sym c.push_reserved-2.ensures.items)
    (covered_push fixed u.pairs.items c.args.pair u.lists c.add_pair.new.lists _ (long ∙ sym stored.beside) c.add_pair.ensures.keeps c.in_ok-add_pair.ensures.ok
    (covered_lists fixed w.pairs.items u.pairs.items w.lists u.lists (keeps_from w.lists u.lists u.lists c.reserve_one.ensures.lists (λ a n e. e)) same.pairs all))
