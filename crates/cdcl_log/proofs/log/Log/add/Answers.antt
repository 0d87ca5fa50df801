use Rattle.std.proofs.Common.{[], ◌∷◌, ◌++◌, refl, ap, ◌∙◌}
use Rattle.cdcl_log.proofs.CoverLaws.{are_over_kept, are_over_next}
use Rattle.cdcl_log.proofs.IdLaws.{counted_kept, counted_none}
use Rattle.cdcl_log.proofs.log.Log.add.Goals as goal

pub invariant_of-self : goal.invariant_of-self
invariant_of-self c = (
  are_over_kept c.self.inside.cover c.make_room.new.cover c.self.inside.db.clauses c.make_room.new.db.clauses c.make_room.ensures.stays c.self.invariant.0 c.make_room.ensures.clauses,
  counted_kept c.make_room.ensures.sources c.make_room.ensures.ids c.self.invariant.1,
)

pub invariant_of-self-2 : goal.invariant_of-self-2
invariant_of-self-2 c = (
  are_over_next c.self.inside.cover c.make_room.new.cover c.self.inside.db.clauses c.push_reserved.new.self.clauses c.args.clause c.as_slice.result.now c.make_room.ensures.stays
      c.self.invariant.0 c.as_slice.ensures c.in_ok-make_room.ensures.over (c.push_reserved.ensures.clauses ∙ ap (λ cs. cs ++ c.args.clause ∷ []) c.make_room.ensures.clauses),
  counted_none c.make_room.ensures.sources c.make_room.ensures.ids c.push_reserved-2.ensures.items refl c.push_reserved-3.ensures.items c.self.invariant.1,
)
