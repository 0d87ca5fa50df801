use Rattle.std.proofs.Common.{◌≤◌, length, sym, subst}
use Rattle.std.specs.Option.{IfSome}
use Rattle.cdcl_trail.specs.Propagation.{IsConflict, Propagates}
use Rattle.cdcl_trail.specs.Storing.{held}
use Rattle.cdcl_trail.specs.Watched.{TrailState}
use Rattle.cdcl_trail.specs.declared.tracks.Reached.{Reached}
use Rattle.cdcl_trail.proofs.PassLaws.{answered_some, propagates_more}
use Rattle.cdcl_trail.proofs.LoopLaws.{held_same}
use Rattle.cdcl_trail.proofs.TakeLaws.{sound_singles, sound_walk, complete_told, conflict_along, watched_told}
use Rattle.cdcl_trail.proofs.tracks.Tracks.settle.Goals as goal

pub invariant_of-self : goal.invariant_of-self
invariant_of-self c =
    let t = c.self.inside in
    let e = c.settle_singles.ensures in
    let mid = sound_singles t.assignment.steps c.settle_singles.new.assignment.steps t.watching t.reached c.settle_singles.new.count t.saved.items e.steps e.sure e.counted c.self.invariant in
    mid

pub invariant_of-self-in-Some : goal.invariant_of-self-in-Some
invariant_of-self-in-Some c =
    let t = c.self.inside in
    let e = c.settle_singles.ensures in
    let mid = sound_singles t.assignment.steps c.settle_singles.new.assignment.steps t.watching t.reached c.settle_singles.new.count t.saved.items e.steps e.sure e.counted c.self.invariant in
    mid

pub settle_steps-requires-clause-guarded : goal.settle_steps-requires-clause-guarded
settle_steps-requires-clause-guarded c =
    let t = c.self.inside in
    let e = c.settle_singles.ensures in
    let mid = sound_singles t.assignment.steps c.settle_singles.new.assignment.steps t.watching t.reached c.settle_singles.new.count t.saved.items e.steps e.sure e.counted c.self.invariant in
    mid.present.guarded

pub settle_steps-requires-clause-covers : goal.settle_steps-requires-clause-covers
settle_steps-requires-clause-covers c =
    let t = c.self.inside in
    let e = c.settle_singles.ensures in
    let mid = sound_singles t.assignment.steps c.settle_singles.new.assignment.steps t.watching t.reached c.settle_singles.new.count t.saved.items e.steps e.sure e.counted c.self.invariant in
    mid.covers

pub settle_steps-requires-clause-within : goal.settle_steps-requires-clause-within
settle_steps-requires-clause-within c =
    let t = c.self.inside in
    let e = c.settle_singles.ensures in
    let mid = sound_singles t.assignment.steps c.settle_singles.new.assignment.steps t.watching t.reached c.settle_singles.new.count t.saved.items e.steps e.sure e.counted c.self.invariant in
    mid.present.within

pub returns-in-Some-clause-complete : goal.returns-in-Some-clause-complete
returns-in-Some-clause-complete c =
    let t = c.self.inside in
    answered_some (held t.watching) c.settle_singles.new.assignment.steps c.in-Some.conflict
    (subst (λ found. IfSome found (IsConflict (held t.watching) c.settle_singles.new.assignment.steps)) c.in-Some.is c.in_ok-conflict.ensures.conflict)

pub invariant_of-self-2 : goal.invariant_of-self-2
invariant_of-self-2 c =
    let t = c.self.inside in
    let e = c.settle_singles.ensures in
    let mid = sound_singles t.assignment.steps c.settle_singles.new.assignment.steps t.watching t.reached c.settle_singles.new.count t.saved.items e.steps e.sure e.counted c.self.invariant in
    let f = c.settle_steps.ensures in
    let r : Reached = record { steps = t.reached.steps; singles = c.settle_singles.new.count } in
    let walked = sound_walk c.settle_singles.new.assignment.steps c.settle_steps.new.assignment.steps t.watching c.settle_steps.new.watching r c.settle_steps.new.count t.saved.items
    f.steps f.rewatched f.covers f.keeps f.within f.guarded mid in
    walked

pub returns-clause-complete : goal.returns-clause-complete
returns-clause-complete c =
    let t = c.self.inside in
    let e = c.settle_singles.ensures in
    let mid = sound_singles t.assignment.steps c.settle_singles.new.assignment.steps t.watching t.reached c.settle_singles.new.count t.saved.items e.steps e.sure e.counted c.self.invariant in
    let f = c.settle_steps.ensures in
    let r : Reached = record { steps = t.reached.steps; singles = c.settle_singles.new.count } in
    let walked = sound_walk c.settle_singles.new.assignment.steps c.settle_steps.new.assignment.steps t.watching c.settle_steps.new.watching r c.settle_steps.new.count t.saved.items
    f.steps f.rewatched f.covers f.keeps f.within f.guarded mid in
    let q : Reached = record { steps = c.settle_steps.new.count; singles = c.settle_singles.new.count } in
    complete_told c.settle_steps.result c.settle_steps.new.assignment.steps c.settle_steps.new.watching q t.saved.items walked
    (subst (λ v. length v.items ≤ c.settle_singles.new.count) (sym f.rewatched.singles) (c.in_ok-conflict.ensures.none c.in_default.is)) f.none
    (conflict_along c.settle_steps.result c.settle_steps.new.assignment.steps t.watching c.settle_steps.new.watching f.rewatched f.conflict)

pub returns-clause-watched : goal.returns-clause-watched
returns-clause-watched c =
    let t = c.self.inside in
    let e = c.settle_singles.ensures in
    let mid = sound_singles t.assignment.steps c.settle_singles.new.assignment.steps t.watching t.reached c.settle_singles.new.count t.saved.items e.steps e.sure e.counted c.self.invariant in
    let f = c.settle_steps.ensures in
    let r : Reached = record { steps = t.reached.steps; singles = c.settle_singles.new.count } in
    let walked = sound_walk c.settle_singles.new.assignment.steps c.settle_steps.new.assignment.steps t.watching c.settle_steps.new.watching r c.settle_steps.new.count t.saved.items
    f.steps f.rewatched f.covers f.keeps f.within f.guarded mid in
    let q : Reached = record { steps = c.settle_steps.new.count; singles = c.settle_singles.new.count } in
    watched_told c.settle_steps.result c.settle_steps.new.assignment.steps c.settle_steps.new.watching q t.saved.items walked f.none

pub returns-clause-reasons : goal.returns-clause-reasons
returns-clause-reasons c =
    let t = c.self.inside in
    let f = c.settle_steps.ensures in
    subst (λ (s : TrailState). Propagates (held c.settle_steps.new.watching) s.steps c.settle_steps.new.assignment.steps) c.self.view_is
    (subst (λ cs. Propagates cs t.assignment.steps c.settle_steps.new.assignment.steps) (sym (held_same t.watching c.settle_steps.new.watching f.rewatched))
    (propagates_more (held t.watching) t.assignment.steps c.settle_singles.new.assignment.steps c.settle_steps.new.assignment.steps c.settle_singles.ensures.steps f.steps))
