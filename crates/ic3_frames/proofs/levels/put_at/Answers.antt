use Rattle.std.proofs.Common.{sym, ◌∙◌}
use Rattle.ic3_frames.proofs.Steps.{made-keys, put-done, on-err}
use Rattle.ic3_frames.proofs.levels.put_at.Goals as goal

pub returns-in_err-make_room-clause-err : goal.returns-in_err-make_room-clause-err
returns-in_err-make_room-clause-err c =
    on-err c.from_residual.result _
    (made-keys c.args.levels.now c.args.level c.index-levels-level.result c.make_room.new.own c.make_room.ensures.keys)

pub returns-clause-ok : goal.returns-clause-ok
returns-clause-ok c =
    put-done c.args.levels.now c.take_out.new.levels c.args.level c.index-levels-level.result c.index-levels-level-2.result c.make_room.new.own
    c.put_last.new.own c.args.lemma c.requires c.take_out.ensures.rest c.make_room.ensures.keys
    (sym c.is_from.ensures ∙ c.if-is_from.false) c.take_out.ensures.keys c.put_last.ensures
