use Rattle.std.proofs.Common.{◌≡◌, ◌≤◌, length, take, ap, sym, subst, ◌∙◌, arith}
use Rattle.cdcl_trail.specs.Propagation.{Propagates}
use Rattle.cdcl_trail.specs.Renaming.{AreBelow, named_clause, named_clauses, named_steps}
use Rattle.cdcl_trail.specs.Watched.{TrailState}
use Rattle.cdcl_trail.proofs.PassLaws.{propagates_none}
use Rattle.cdcl_trail.proofs.NamedLaws.{named_same, named_settled, settled_complete, settled_conflict, settled_watched, settled_reasons, front_shown, few_literals}
use Rattle.cdcl_trail.proofs.trail.Trail.settle.Goals as goal

pub invariant_of-self : goal.invariant_of-self
invariant_of-self c =
    let t = c.self.inside in
    named_same t.names t.tracks t.shown.items c.reserve.new.self.items c.self.invariant c.reserve.ensures.items

pub returns-in_err-reserve-clause-reasons : goal.returns-in_err-reserve-clause-reasons
returns-in_err-reserve-clause-reasons c =
    let t = c.self.inside in
    subst (λ (s : TrailState). Propagates (named_clauses t.names t.tracks.taken) s.steps (named_steps t.names t.tracks.steps)) c.self.view_is
    (propagates_none (named_clauses t.names t.tracks.taken) (named_steps t.names t.tracks.steps))

pub show-requires-clause-below : goal.show-requires-clause-below
show-requires-clause-below c =
    let t = c.self.inside in
    subst (AreBelow (length t.names)) (sym c.literals.ensures.value)
    (few_literals t.names t.tracks c.settle-found.new.self t.shown.items c.self.invariant c.settle-found.ensures.taken c.settle-found.ensures.reasons c.laws.ensures.once).0

pub show-requires-clause-front : goal.show-requires-clause-front
show-requires-clause-front c =
    let t = c.self.inside in
    subst (λ ls. take (length c.reserve.new.self.items) (named_clause t.names ls) ≡ c.reserve.new.self.items) (sym c.literals.ensures.value)
    (front_shown t.names t.tracks c.settle-found.new.self c.reserve.new.self.items
    (named_same t.names t.tracks t.shown.items c.reserve.new.self.items c.self.invariant c.reserve.ensures.items) c.settle-found.ensures.reasons).0

pub show-requires-clause-within : goal.show-requires-clause-within
show-requires-clause-within c =
    let t = c.self.inside in
    subst (λ ls. length c.reserve.new.self.items ≤ length ls) (sym c.literals.ensures.value)
    (front_shown t.names t.tracks c.settle-found.new.self c.reserve.new.self.items
    (named_same t.names t.tracks t.shown.items c.reserve.new.self.items c.self.invariant c.reserve.ensures.items) c.settle-found.ensures.reasons).1

pub show-requires-clause-room : goal.show-requires-clause-room
show-requires-clause-room c =
    let t = c.self.inside in
    let most = (few_literals t.names t.tracks c.settle-found.new.self t.shown.items c.self.invariant c.settle-found.ensures.taken c.settle-found.ensures.reasons c.laws.ensures.once).1 in
    omega (
      arith,
      most,
      ap length c.literals.ensures.value,
      c.in_ok-reserve.ensures.ok,
      c.reserve.ensures.len,
      t.shown.ok.0,
      ap length c.as_slice-known.ensures.value,
      ap length c.as_slice-most.ensures.names,
      c.saturating_sub.ensures,
    )

pub invariant_of-self-2 : goal.invariant_of-self-2
invariant_of-self-2 c =
    let t = c.self.inside in
    named_settled t.names t.tracks c.settle-found.new.self t.shown.items c.show.new.shown.items c.self.invariant c.settle-found.ensures.taken c.settle-found.ensures.reasons
    (c.show.ensures ∙ ap (named_clause t.names) c.literals.ensures.value)

pub returns-clause-complete : goal.returns-clause-complete
returns-clause-complete c =
    let t = c.self.inside in
    let h = named_settled t.names t.tracks c.settle-found.new.self t.shown.items c.show.new.shown.items c.self.invariant c.settle-found.ensures.taken c.settle-found.ensures.reasons
    (c.show.ensures ∙ ap (named_clause t.names) c.literals.ensures.value) in
    settled_complete c.settle-found.result t.names c.settle-found.new.self c.show.new.shown.items h c.settle-found.ensures.complete

pub returns-clause-conflict : goal.returns-clause-conflict
returns-clause-conflict c =
    let t = c.self.inside in
    let h = named_settled t.names t.tracks c.settle-found.new.self t.shown.items c.show.new.shown.items c.self.invariant c.settle-found.ensures.taken c.settle-found.ensures.reasons
    (c.show.ensures ∙ ap (named_clause t.names) c.literals.ensures.value) in
    settled_conflict c.settle-found.result t.names c.settle-found.new.self c.show.new.shown.items h c.settle-found.ensures.conflict

pub returns-clause-watched : goal.returns-clause-watched
returns-clause-watched c =
    let t = c.self.inside in
    let h = named_settled t.names t.tracks c.settle-found.new.self t.shown.items c.show.new.shown.items c.self.invariant c.settle-found.ensures.taken c.settle-found.ensures.reasons
    (c.show.ensures ∙ ap (named_clause t.names) c.literals.ensures.value) in
    settled_watched c.settle-found.result t.names c.settle-found.new.self c.show.new.shown.items h c.laws.ensures.paired c.settle-found.ensures.watched

pub returns-clause-taken : goal.returns-clause-taken
returns-clause-taken c =
    ap (named_clauses c.self.inside.names) c.settle-found.ensures.taken ∙ ap (λ (s : TrailState). s.taken) c.self.view_is

pub returns-clause-reasons : goal.returns-clause-reasons
returns-clause-reasons c =
    let t = c.self.inside in
    subst (λ (s : TrailState). Propagates (named_clauses t.names c.settle-found.new.self.taken) s.steps (named_steps t.names c.settle-found.new.self.steps)) c.self.view_is
    (settled_reasons t.names t.tracks c.settle-found.new.self t.shown.items c.self.invariant c.settle-found.ensures.taken c.settle-found.ensures.reasons)
