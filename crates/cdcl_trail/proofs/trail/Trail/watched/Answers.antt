use Rattle.std.proofs.Common.{sym, subst}
use Rattle.packed_literals.specs.Naming.{named}
use Rattle.cdcl_trail.specs.Renaming.{named_state}
use Rattle.cdcl_trail.specs.Watched.{TrailState, IsWatchable, IsWatchedAt}
use Rattle.cdcl_trail.proofs.BorderLaws.{watchable_unnamed}
use Rattle.cdcl_trail.proofs.NamedLaws.{named_watched, watched_below}
use Rattle.cdcl_trail.proofs.trail.Trail.watched.Goals as goal

pub watched-first-requires : goal.watched-first-requires
watched-first-requires c =
    let t = c.self.inside in
    watchable_unnamed t.names t.tracks c.args.number c.self.invariant.apart c.self.invariant.taken
    (subst (λ (s : TrailState). IsWatchable s c.args.number) (sym c.self.view_is) c.requires)

pub name-requires : goal.name-requires
name-requires c =
    let t = c.self.inside in
    (watched_below t.names t.tracks t.shown.items c.args.number c.watched-first.result.0 c.watched-first.result.1 c.self.invariant c.laws.ensures.paired c.watched-first.ensures).0

pub name-requires-2 : goal.name-requires-2
name-requires-2 c =
    let t = c.self.inside in
    (watched_below t.names t.tracks t.shown.items c.args.number c.watched-first.result.0 c.watched-first.result.1 c.self.invariant c.laws.ensures.paired c.watched-first.ensures).1

pub returns : goal.returns
returns c =
    let t = c.self.inside in
    subst (λ (s : TrailState). IsWatchedAt s c.args.number c.name.result c.name-2.result) c.self.view_is
    (subst (λ a. IsWatchedAt (named_state t.names t.tracks) c.args.number a c.name-2.result) (sym c.name.ensures)
    (subst (λ b. IsWatchedAt (named_state t.names t.tracks) c.args.number (named t.names c.watched-first.result.0) b) (sym c.name-2.ensures)
    (named_watched t.names t.tracks t.shown.items c.args.number c.watched-first.result.0 c.watched-first.result.1 c.self.invariant c.watched-first.ensures)))
