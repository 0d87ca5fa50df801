use Rattle.std.proofs.Common.{Some, arith, refl, ap, ◌∙◌}
use Rattle.std.specs.Prelude.{slice_get}
use Rattle.std.proofs.lemmas.Option.{slice_get_within}
use Rattle.packed_literals.specs.Lists.{list_for}
use Rattle.cdcl_trail.proofs.StoreLaws.{add_keeps, stores_moved, covered_moved, covered_lists, entry_stays, lit_apart}
use Rattle.cdcl_trail.proofs.watching.Watching.rewatch.Goals as goal

pub returns-in_err-add-clause-rewatched : goal.returns-in_err-add-clause-rewatched
returns-in_err-add-clause-rewatched c = record {
  arena = refl;
  places = refl;
  singles = refl;
  stored = c.requires.stored;
}

pub index_mut-requires : goal.index_mut-requires
index_mut-requires c = let within = slice_get_within c.args.self.now.pairs.items c.args.number (Some c.requires.before.0) c.requires.before.1 in omega (arith, within, c.args.self.now.pairs.ok.0)

pub remove-requires : goal.remove-requires
remove-requires c =
    slice_get_within (list_for c.add.new.self c.args.falsified) c.args.place c.args.number
    (entry_stays c.args.self.now.lists c.add.new.self c.args.falsified c.args.pair.first c.args.place c.args.number c.requires.apart c.add.ensures.others c.requires.entry)

pub returns-clause-rewatched : goal.returns-clause-rewatched
returns-clause-rewatched c = record {
  arena = refl;
  places = refl;
  singles = refl;
  stored =
      stores_moved c.args.self.now.arena c.args.self.now.places.items c.args.self.now.pairs.items c.args.self.now.singles.items c.args.number c.args.pair c.requires.before.0 c.requires.stored c.requires.pair c.requires.before.1;
}

pub returns-clause-cover : goal.returns-clause-cover
returns-clause-cover c = λ fixed unfixed all.
    covered_moved fixed c.args.self.now.pairs.items c.args.self.now.lists c.add.new.self c.remove.new.self c.args.falsified c.args.place c.args.number c.args.pair c.requires.before.0
    (record {
      entry = c.requires.entry;
      keeps = add_keeps c.add.result c.args.self.now.lists c.add.new.self c.args.pair.first c.args.number c.add.ensures.ok c.add.ensures.err c.add.ensures.others;
      added = c.in_ok-add.ensures.ok;
      alone = c.add.ensures.others;
      without = c.remove.ensures.list;
      others = c.remove.ensures.others;
    })
    c.requires.before.1 c.requires.before.2 c.requires.apart c.requires.apart_too unfixed all

pub returns-in_err-add-clause-cover : goal.returns-in_err-add-clause-cover
returns-in_err-add-clause-cover c = λ fixed unfixed all.
    covered_lists fixed c.args.self.now.pairs.items c.args.self.now.pairs.items c.args.self.now.lists c.add.new.self
    (add_keeps c.add.result c.args.self.now.lists c.add.new.self c.args.pair.first c.args.number c.add.ensures.ok c.add.ensures.err c.add.ensures.others) refl all

pub returns-clause-below : goal.returns-clause-below
returns-clause-below c = λ j under.
    c.remove.ensures.list.below j under
    ∙ ap (λ xs. slice_get xs j) (c.add.ensures.others c.args.falsified (lit_apart c.args.pair.first c.args.falsified c.requires.apart))

pub returns-in_err-add-clause-below : goal.returns-in_err-add-clause-below
returns-in_err-add-clause-below c = λ j under.
    ap (λ xs. slice_get xs j) (c.add.ensures.others c.args.falsified (lit_apart c.args.pair.first c.args.falsified c.requires.apart))
