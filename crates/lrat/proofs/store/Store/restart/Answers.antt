use Rattle.std.proofs.Common.{◌≡◌, ◌+◌, ◌≤◌, take, ap, ◌∙◌, refl, arith, rules}
use Rattle.std.specs.Prelude.{nat_lt}
use Rattle.lrat.specs.ArenaOf.{AreDeletedBelow}
use Rattle.lrat.specs.declared.store.Store.TheInside.{Inside}
use Rattle.lrat.proofs.StoreLaws.{restart_given, restart_orderly, restart_state, restart_fresh, given_count}
use Rattle.lrat.proofs.store.Store.restart.Goals as goal

pub give_all-self-inside-requires-clause-given : goal.give_all-self-inside-requires-clause-given
give_all-self-inside-requires-clause-given c =
    let within : c.args.kept ≤ c.self.inside.given = omega (arith, c.requires, given_count c.self.inside c.args.self.now c.self.invariant c.self.view_is) in
    restart_given c.self.inside c.reserve.new.arena c.cut.new.arena c.args.kept c.min.result c.self.invariant within c.reserve.ensures.literals c.reserve.ensures.places
    c.cut.ensures.places c.cut.ensures.clauses c.cut.ensures.packed c.min.ensures

pub invariant_of-self-2 : goal.invariant_of-self-2
invariant_of-self-2 c =
    let s = c.self.inside in
    let within : c.args.kept ≤ s.given = omega (arith, c.requires, given_count s c.args.self.now c.self.invariant c.self.view_is) in
    let next : c.in_ok-round.round ≡ s.round + 1 = search rules in
    let fresh : AreDeletedBelow c.in_ok-round.round c.give_all-self-inside.new.arena.places.items =
    c.give_all-self-inside.ensures.deleted c.in_ok-round.round (omega arith)
    (restart_fresh s c.cut.new.arena.places.items c.args.kept c.in_ok-round.round c.self.invariant within (c.cut.ensures.places ∙ ap (take c.args.kept) c.reserve.ensures.places) next) in
    let t : Inside = record {
      arena = c.give_all-self-inside.new.arena;
      given = c.len-self-inside.result;
      filled = c.give_all-self-inside.result;
      round = c.in_ok-round.round;
      finished = nat_lt c.give_all-self-inside.result c.len-self-inside.result;
    } in
    restart_orderly t c.give_all-self-inside.ensures.given (omega (arith, c.len-self-inside.ensures)) fresh (omega arith)

pub returns-clause-ok : goal.returns-clause-ok
returns-clause-ok c =
    let s = c.self.inside in
    let within : c.args.kept ≤ s.given = omega (arith, c.requires, given_count s c.args.self.now c.self.invariant c.self.view_is) in
    let next : c.in_ok-round.round ≡ s.round + 1 = search rules in
    let fresh : AreDeletedBelow c.in_ok-round.round c.give_all-self-inside.new.arena.places.items =
    c.give_all-self-inside.ensures.deleted c.in_ok-round.round (omega arith)
    (restart_fresh s c.cut.new.arena.places.items c.args.kept c.in_ok-round.round c.self.invariant within (c.cut.ensures.places ∙ ap (take c.args.kept) c.reserve.ensures.places) next) in
    let t : Inside = record {
      arena = c.give_all-self-inside.new.arena;
      given = c.len-self-inside.result;
      filled = c.give_all-self-inside.result;
      round = c.in_ok-round.round;
      finished = nat_lt c.give_all-self-inside.result c.len-self-inside.result;
    } in
    restart_state s t c.reserve.new.arena c.cut.new.arena c.args.kept c.args.more.now c.args.self.now c.self.view_is within c.reserve.ensures.literals
    c.reserve.ensures.places c.cut.ensures.clauses c.give_all-self-inside.ensures.clauses c.give_all-self-inside.ensures.given
    (omega (arith, c.len-self-inside.ensures)) fresh refl
