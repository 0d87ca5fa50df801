use Rattle.stimulus.proofs.PlaceLemmas.{place_at-insert_other}
use Rattle.stimulus.proofs.places.keep_place.Goals as goal

pub returns-in_ok-insert-clause-others : goal.returns-in_ok-insert-clause-others
returns-in_ok-insert-clause-others c other apart =
    place_at-insert_other c.args.places.now c.insert.new.self c.args.key c.args.place other apart c.in_ok-insert.ensures.entries
