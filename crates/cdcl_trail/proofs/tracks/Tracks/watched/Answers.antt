use Rattle.std.proofs.Common.{◌-◌, sym, subst}
use Rattle.cdcl_trail.specs.Storing.{held, IsPairAt}
use Rattle.cdcl_trail.specs.Watched.{TrailState, IsWatchable, IsWatchedAt}
use Rattle.cdcl_trail.proofs.PassLaws.{held_at}
use Rattle.cdcl_trail.proofs.TakeLaws.{two_paired, watched_at}
use Rattle.cdcl_trail.proofs.tracks.Tracks.watched.Goals as goal

pub returns-in-Some : goal.returns-in-Some
returns-in-Some c =
    let t = c.self.inside in
    subst (λ (s : TrailState). IsWatchedAt s c.args.number c.in-Some.pair.first c.in-Some.pair.second) c.self.view_is
    (watched_at t.watching t.assignment.steps c.args.number c.in-Some.pair c.self.invariant.stored
    (subst (λ n. IsPairAt t.watching n c.in-Some.pair) c.place_of.ensures c.in-Some.ensures.some))

pub returns-in-None : goal.returns-in-None
returns-in-None c =
    let t = c.self.inside in
    let asked : IsWatchable (record { steps = t.assignment.steps; taken = held t.watching; watched = t.watching.pairs.items }) c.args.number =
    subst (λ (s : TrailState). IsWatchable s c.args.number) (sym c.self.view_is) c.requires in
    let found = two_paired t.watching (c.args.number - 1) asked.0 c.self.invariant.stored (held_at (held t.watching) c.args.number asked.0 asked.1) asked.2 in
    absurd (c.in-None.ensures.none found.0 (subst (λ n. IsPairAt t.watching n found.0) (sym c.place_of.ensures) found.1))
