use Rattle.std.proofs.Common.{◌≡◌, ◌≤◌, ◌<◌, ℕ, List, [], ◌∷◌, length, true, false, refl, sym, subst, ◌∙◌, inl, inr, arith}
use Rattle.cdcl.proofs.CountingLaws.{limited_rested, rest_above, unrefuted_above}
use Rattle.proof_semantics.specs.Clauses.{is_subsumed}
use Rattle.cdcl_trail.specs.Trails.{level, lower_steps}
use Rattle.cdcl_trail.specs.Propagation.{is_complete, Propagates, IsReasonedTrail}
use Rattle.cdcl_trail.specs.Watched.{Extends, TrailState}
use Rattle.cdcl_log.specs.LoggedClauses.{LoggedClauses}
use Rattle.cdcl.specs.Room.{clause_room, literal_variables, variables_in}
use Rattle.cdcl.specs.Searching.{IsDeciding, IsHeld, IsHinted, IsBackLevel, count_open}
use Rattle.cdcl.proofs.RoomLaws.{all_over, own_over}
use Rattle.cdcl.proofs.WayLaws.{way_propagates, way_decides, way_lower, way_learns, way_back, way_core, way_assumed, held_propagated, work_learned, work_decided, count_open_small, decision_counts}
use Rattle.cdcl.proofs.ProgressLaws.{first_variables, searched_none, searched_more, first_room_falls, new_spent}
use Rattle.cdcl_trail.proofs.ExtendLaws.{extends_same, extends_all}
use Rattle.cdcl.proofs.searching.decide.Goals as goal

pub decisions-init : goal.decisions-init
decisions-init c = record {
  log = c.requires.log;
  searched = searched_none c.args.assumptions.now c.args.log.now c.args.meter.now;
  on_way = subst (λ b. IsDeciding c.args.log.now.clauses c.args.assumptions.now b c.args.trail.now.steps) (sym c.level-base.ensures) c.requires.way;
  extends = c.requires.extends;
  rest = inl refl;
}

pub propagate-requires : goal.propagate-requires
propagate-requires c = subst (λ cs. Extends c.decisions.trail.taken cs) (sym c.clauses.ensures) c.decisions.invariant.extends

pub choose-requires-clause-over : goal.choose-requires-clause-over
choose-requires-clause-over c =
    (way_propagates c.decisions.log.clauses c.args.assumptions.now c.level-base.result c.decisions.trail.steps c.propagate.new.self.steps c.decisions.invariant.on_way
    (subst (λ cs. Propagates cs c.decisions.trail.steps c.propagate.new.self.steps) c.clauses.ensures c.propagate.ensures.reasons)).over

pub returns-in_default-choose-clause-found : goal.returns-in_default-choose-clause-found
returns-in_default-choose-clause-found c =
    let way = way_propagates c.decisions.log.clauses c.args.assumptions.now c.level-base.result c.decisions.trail.steps c.propagate.new.self.steps c.decisions.invariant.on_way
    (subst (λ cs. Propagates cs c.decisions.trail.steps c.propagate.new.self.steps) c.clauses.ensures c.propagate.ensures.reasons) in
    let steps = c.propagate.new.self.steps in
    record {
      clauses_true = c.in_default-choose.ensures.none;
      assumed = way_assumed c.decisions.log.clauses c.args.assumptions.now c.level-base.result steps way;
    }

pub decisions-smaller-in_default : goal.decisions-smaller-in_default
decisions-smaller-in_default c =
    let open_one = c.in-Some-choose.ensures.open in
    let vars : List ℕ = first_variables c.args.log.now.clauses c.args.assumptions.now in
    let over = (c.decisions.invariant.searched.less vars (all_over c.args.log.now.clauses (literal_variables c.args.assumptions.now))
    (own_over c.args.assumptions.now (variables_in c.args.log.now.clauses))).over in
    work_decided (clause_room vars c.decisions.log.clauses) (length vars) (count_open vars c.assume.new.self.steps) (count_open vars c.decisions.trail.steps)
    (decision_counts vars c.decisions.log.clauses c.decisions.trail.steps c.propagate.new.self.steps c.assume.new.self.steps c.in-Some-choose.literal over open_one
    (subst (λ cs. Propagates cs c.decisions.trail.steps c.propagate.new.self.steps) c.clauses.ensures c.propagate.ensures.reasons) c.in_ok-assume.ensures.ok)

pub decisions-preserved-in_default : goal.decisions-preserved-in_default
decisions-preserved-in_default c =
    let way = way_propagates c.decisions.log.clauses c.args.assumptions.now c.level-base.result c.decisions.trail.steps c.propagate.new.self.steps c.decisions.invariant.on_way
    (subst (λ cs. Propagates cs c.decisions.trail.steps c.propagate.new.self.steps) c.clauses.ensures c.propagate.ensures.reasons) in
    let open_one = c.in-Some-choose.ensures.open in
    let complete = subst (λ cs. is_complete cs c.propagate.new.self.steps ≡ true) c.clauses.ensures (c.in_ok-conflict.ensures.complete.0 c.in_default.is) in
    record {
      log = c.decisions.invariant.log;
      searched = c.decisions.invariant.searched;
      on_way = way_decides c.decisions.log.clauses c.args.assumptions.now c.level-base.result c.propagate.new.self.steps c.assume.new.self.steps c.in-Some-choose.literal
          way complete open_one c.in_ok-assume.ensures.ok;
      extends = extends_same c.assume.new.self.taken c.decisions.log.clauses (c.assume.ensures.watch.taken ∙ c.in_ok-conflict.ensures.taken ∙ c.clauses.ensures);
      rest = c.decisions.invariant.rest;
    }

pub trace-requires-clause-reasons : goal.trace-requires-clause-reasons
trace-requires-clause-reasons c =
    let way = way_propagates c.decisions.log.clauses c.args.assumptions.now c.level-base.result c.decisions.trail.steps c.propagate.new.self.steps c.decisions.invariant.on_way
    (subst (λ cs. Propagates cs c.decisions.trail.steps c.propagate.new.self.steps) c.clauses.ensures c.propagate.ensures.reasons) in
    subst (λ cs. IsReasonedTrail cs c.propagate.new.self.steps) (sym c.clauses-then-level-base.ensures) way.reasoned

pub returns-then-level-base-clause-found : goal.returns-then-level-base-clause-found
returns-then-level-base-clause-found c =
    let way = way_propagates c.decisions.log.clauses c.args.assumptions.now c.level-base.result c.decisions.trail.steps c.propagate.new.self.steps c.decisions.invariant.on_way
    (subst (λ cs. Propagates cs c.decisions.trail.steps c.propagate.new.self.steps) c.clauses.ensures c.propagate.ensures.reasons) in
    let within : level c.propagate.new.self.steps ≤ c.level-base.result = omega (arith, c.level.ensures, c.if-level-base.true) in
    record {
      among = way_core c.decisions.log.clauses c.args.assumptions.now c.in_ok-traced.traced.clause c.level-base.result c.propagate.new.self.steps way within c.in_ok-traced.ensures.assumed;
      hinted = subst (λ cs. IsHinted cs c.in_ok-traced.traced) c.clauses-then-level-base.ensures c.in_ok-traced.ensures.hints;
    }

pub learn-requires-clause-reasons : goal.learn-requires-clause-reasons
learn-requires-clause-reasons c =
    let way = way_propagates c.decisions.log.clauses c.args.assumptions.now c.level-base.result c.decisions.trail.steps c.propagate.new.self.steps c.decisions.invariant.on_way
    (subst (λ cs. Propagates cs c.decisions.trail.steps c.propagate.new.self.steps) c.clauses.ensures c.propagate.ensures.reasons) in
    subst (λ cs. IsReasonedTrail cs c.propagate.new.self.steps) (sym c.clauses-in-decisions.ensures) way.reasoned

pub learn-requires-clause-complete : goal.learn-requires-clause-complete
learn-requires-clause-complete c =
    let way = way_propagates c.decisions.log.clauses c.args.assumptions.now c.level-base.result c.decisions.trail.steps c.propagate.new.self.steps c.decisions.invariant.on_way
    (subst (λ cs. Propagates cs c.decisions.trail.steps c.propagate.new.self.steps) c.clauses.ensures c.propagate.ensures.reasons) in
    let above : c.level-base.result < level c.propagate.new.self.steps = omega (arith, c.level.ensures, c.if-level-base.false) in
    subst (λ cs. is_complete cs (lower_steps c.propagate.new.self.steps) ≡ true) (sym c.clauses-in-decisions.ensures)
    (way_lower c.decisions.log.clauses c.args.assumptions.now c.level-base.result c.propagate.new.self.steps way above)

pub learn-requires-in-decisions : goal.learn-requires-in-decisions
learn-requires-in-decisions c =
    let way = way_propagates c.decisions.log.clauses c.args.assumptions.now c.level-base.result c.decisions.trail.steps c.propagate.new.self.steps c.decisions.invariant.on_way
    (subst (λ cs. Propagates cs c.decisions.trail.steps c.propagate.new.self.steps) c.clauses.ensures c.propagate.ensures.reasons) in
    let says = way_learns c.decisions.log.clauses c.args.assumptions.now c.level-base.result c.propagate.new.self.steps c.in_ok-learned.learned way c.in_ok-learned.ensures.falsified
    (subst (λ cs. IsHinted cs c.in_ok-learned.learned) c.clauses-in-decisions.ensures c.in_ok-learned.ensures.hints)
    (subst (λ cs. is_subsumed cs c.in_ok-learned.learned.clause ≡ false) c.clauses-in-decisions.ensures c.in_ok-learned.ensures.new) c.in_ok-learned.ensures.last_level in
    new_spent c.decisions.log c.args.assumptions.now c.in_ok-learned.learned c.decisions.invariant.log says

pub decisions-smaller : goal.decisions-smaller
decisions-smaller c =
    let way = way_propagates c.decisions.log.clauses c.args.assumptions.now c.level-base.result c.decisions.trail.steps c.propagate.new.self.steps c.decisions.invariant.on_way
    (subst (λ cs. Propagates cs c.decisions.trail.steps c.propagate.new.self.steps) c.clauses.ensures c.propagate.ensures.reasons) in
    let says = way_learns c.decisions.log.clauses c.args.assumptions.now c.level-base.result c.propagate.new.self.steps c.in_ok-learned.learned way c.in_ok-learned.ensures.falsified
    (subst (λ cs. IsHinted cs c.in_ok-learned.learned) c.clauses-in-decisions.ensures c.in_ok-learned.ensures.hints)
    (subst (λ cs. is_subsumed cs c.in_ok-learned.learned.clause ≡ false) c.clauses-in-decisions.ensures c.in_ok-learned.ensures.new) c.in_ok-learned.ensures.last_level in
    let vars : List ℕ = first_variables c.args.log.now.clauses c.args.assumptions.now in
    work_learned (clause_room vars c.learn-in-decisions.new.self.clauses) (clause_room vars c.decisions.log.clauses) (length vars) (count_open vars c.back_to.new.self.steps)
    (count_open vars c.decisions.trail.steps)
    (first_room_falls c.args.assumptions.now c.args.log.now c.decisions.log c.learn-in-decisions.new.self c.args.meter.now c.decisions.meter c.in_ok-learned.learned
    says c.in_ok-learn.ensures.clauses c.decisions.invariant.searched)
    (count_open_small vars c.back_to.new.self.steps)

pub decisions-preserved : goal.decisions-preserved
decisions-preserved c =
    let way = way_propagates c.decisions.log.clauses c.args.assumptions.now c.level-base.result c.decisions.trail.steps c.propagate.new.self.steps c.decisions.invariant.on_way
    (subst (λ cs. Propagates cs c.decisions.trail.steps c.propagate.new.self.steps) c.clauses.ensures c.propagate.ensures.reasons) in
    let says = way_learns c.decisions.log.clauses c.args.assumptions.now c.level-base.result c.propagate.new.self.steps c.in_ok-learned.learned way c.in_ok-learned.ensures.falsified
    (subst (λ cs. IsHinted cs c.in_ok-learned.learned) c.clauses-in-decisions.ensures c.in_ok-learned.ensures.hints)
    (subst (λ cs. is_subsumed cs c.in_ok-learned.learned.clause ≡ false) c.clauses-in-decisions.ensures c.in_ok-learned.ensures.new) c.in_ok-learned.ensures.last_level in
    let above : c.level-base.result < level c.propagate.new.self.steps = omega (arith, c.level.ensures, c.if-level-base.false) in
    let next = searched_more c.args.assumptions.now c.args.log.now c.decisions.log c.learn-in-decisions.new.self c.args.meter.now c.decisions.meter c.learn-in-decisions.new.meter
    c.in_ok-learned.learned c.decisions.invariant.log c.requires.sizes says c.in_ok-learn.ensures.clauses c.in_ok-learn.ensures.sources c.in_ok-learn.ensures.counted
    c.decisions.invariant.searched (unrefuted_above c.decisions.log c.args.assumptions.now c.level-base.result c.propagate.new.self.steps way above) in
    let back = subst (λ xs. IsBackLevel c.propagate.new.self.steps xs c.level-base.result c.level_after-target.result) c.as_slice-in-decisions.ensures c.level_after-target.ensures in
    record {
      log = next.0;
      searched = next.1;
      on_way = way_back c.decisions.log.clauses c.learn-in-decisions.new.self.clauses c.args.assumptions.now c.in_ok-learned.learned.clause c.level-base.result c.level_after-target.result
          c.propagate.new.self.steps c.back_to.new.self.steps way back c.in_ok-learned.ensures.falsified c.in_ok-learned.ensures.last_level c.in_ok-learn.ensures.clauses
          c.back_to.ensures.steps c.back_to.ensures.level;
      extends = extends_all c.back_to.new.self.taken c.decisions.log.clauses c.learn-in-decisions.new.self.clauses (c.in_ok-learned.learned.clause ∷ [])
          (c.back_to.ensures.watch.taken ∙ c.in_ok-conflict.ensures.taken ∙ c.clauses.ensures) c.in_ok-learn.ensures.clauses;
      rest = inr (rest_above c.args.log.now c.decisions.log c.args.assumptions.now c.level-base.result c.propagate.new.self.steps c.decisions.invariant.rest way
          (omega (arith, c.level.ensures, c.if-level-base.false)));
    }

pub returns-in_err-conflict-clause-trail : goal.returns-in_err-conflict-clause-trail
returns-in_err-conflict-clause-trail c =
    held_propagated c.decisions.log.clauses c.clauses.result.now.clauses c.args.assumptions.now c.level-base.result c.decisions.trail.steps c.propagate.new.self
    c.decisions.invariant.on_way c.clauses.ensures c.propagate.ensures.reasons c.propagate.ensures.extends

pub returns-in_default-choose-clause-trail : goal.returns-in_default-choose-clause-trail
returns-in_default-choose-clause-trail c =
    held_propagated c.decisions.log.clauses c.clauses.result.now.clauses c.args.assumptions.now c.level-base.result c.decisions.trail.steps c.propagate.new.self
    c.decisions.invariant.on_way c.clauses.ensures c.propagate.ensures.reasons c.propagate.ensures.extends

pub returns-in_err-traced-clause-trail : goal.returns-in_err-traced-clause-trail
returns-in_err-traced-clause-trail c =
    held_propagated c.decisions.log.clauses c.clauses.result.now.clauses c.args.assumptions.now c.level-base.result c.decisions.trail.steps c.propagate.new.self
    c.decisions.invariant.on_way c.clauses.ensures c.propagate.ensures.reasons c.propagate.ensures.extends

pub returns-then-level-base-clause-trail : goal.returns-then-level-base-clause-trail
returns-then-level-base-clause-trail c =
    held_propagated c.decisions.log.clauses c.clauses.result.now.clauses c.args.assumptions.now c.level-base.result c.decisions.trail.steps c.propagate.new.self
    c.decisions.invariant.on_way c.clauses.ensures c.propagate.ensures.reasons c.propagate.ensures.extends

pub returns-in_err-learned-clause-trail : goal.returns-in_err-learned-clause-trail
returns-in_err-learned-clause-trail c =
    held_propagated c.decisions.log.clauses c.clauses.result.now.clauses c.args.assumptions.now c.level-base.result c.decisions.trail.steps c.propagate.new.self
    c.decisions.invariant.on_way c.clauses.ensures c.propagate.ensures.reasons c.propagate.ensures.extends

pub returns-in_err-keep-clause-trail : goal.returns-in_err-keep-clause-trail
returns-in_err-keep-clause-trail c =
    held_propagated c.decisions.log.clauses c.clauses.result.now.clauses c.args.assumptions.now c.level-base.result c.decisions.trail.steps c.propagate.new.self
    c.decisions.invariant.on_way c.clauses.ensures c.propagate.ensures.reasons c.propagate.ensures.extends

pub returns-in_err-learn-clause-trail : goal.returns-in_err-learn-clause-trail
returns-in_err-learn-clause-trail c =
    subst (λ (e : LoggedClauses). IsHeld e.clauses c.propagate.new.self) (sym c.in_err-learn.ensures.err)
    (held_propagated c.decisions.log.clauses c.clauses.result.now.clauses c.args.assumptions.now c.level-base.result c.decisions.trail.steps c.propagate.new.self
    c.decisions.invariant.on_way c.clauses.ensures c.propagate.ensures.reasons c.propagate.ensures.extends)

pub returns-in_err-assume-clause-trail : goal.returns-in_err-assume-clause-trail
returns-in_err-assume-clause-trail c =
    subst (λ (t : TrailState). IsHeld c.decisions.log.clauses t) (sym c.in_err-assume.ensures.err)
    (held_propagated c.decisions.log.clauses c.clauses.result.now.clauses c.args.assumptions.now c.level-base.result c.decisions.trail.steps c.propagate.new.self
    c.decisions.invariant.on_way c.clauses.ensures c.propagate.ensures.reasons c.propagate.ensures.extends)

pub returns-in_err-learn-clause-limited : goal.returns-in_err-learn-clause-limited
returns-in_err-learn-clause-limited c =
    let way = way_propagates c.decisions.log.clauses c.args.assumptions.now c.level-base.result c.decisions.trail.steps c.propagate.new.self.steps c.decisions.invariant.on_way
    (subst (λ cs. Propagates cs c.decisions.trail.steps c.propagate.new.self.steps) c.clauses.ensures c.propagate.ensures.reasons) in
    limited_rested c.from_residual-in_err-learn.result c.args.log.now c.args.assumptions.now
    (rest_above c.args.log.now c.decisions.log c.args.assumptions.now c.level-base.result c.propagate.new.self.steps c.decisions.invariant.rest way
    (omega (arith, c.level.ensures, c.if-level-base.false)))

pub returns-in_err-learn-clause-rest : goal.returns-in_err-learn-clause-rest
returns-in_err-learn-clause-rest c =
    let way = way_propagates c.decisions.log.clauses c.args.assumptions.now c.level-base.result c.decisions.trail.steps c.propagate.new.self.steps c.decisions.invariant.on_way
    (subst (λ cs. Propagates cs c.decisions.trail.steps c.propagate.new.self.steps) c.clauses.ensures c.propagate.ensures.reasons) in
    inr (rest_above c.args.log.now c.decisions.log c.args.assumptions.now c.level-base.result c.propagate.new.self.steps c.decisions.invariant.rest way
    (omega (arith, c.level.ensures, c.if-level-base.false)))
