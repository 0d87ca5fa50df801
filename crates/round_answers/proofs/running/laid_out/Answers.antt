use Rattle.std.proofs.Common.{◌≡◌, ◌<◌, ◌+◌, ◌++◌, ◌∙◌, ℕ, List, Bool, true, false, take, drop, length, get_or, sym, ap, arith}
use Rattle.std.proofs.lemmas.Bool.{false≢true}
use Rattle.aig_semantics.specs.declared.traces.Stimulus.{Stimulus}
use Rattle.aig_semantics.specs.Circuits.{Circuit}
use Rattle.aig_semantics.specs.Valuations.{valuation}
use Rattle.aig_semantics.proofs.Values.{length-valuation}
use Rattle.round_answers.proofs.LaidOut.{way_start, way_size, way_forbidden, way_more, at_place, inside_place, written_back, met_by, behind_by}
use Rattle.round_answers.proofs.running.laid_out.Goals as goal

pub loop-inputs-init : goal.loop-inputs-init
loop-inputs-init c = (
  way_start c.args.c.now c.args.s.now c.new-run.result c.in_ok-state.state c.new-run.ensures c.in_ok-state.ensures,
  omega (arith, c.in_ok-values.ensures.len, c.max.ensures.value, c.in_ok-values.values.ok.0),
)

pub eval_into-requires-clause-latches : goal.eval_into-requires-clause-latches
eval_into-requires-clause-latches c =
    ap length c.as_slice.ensures ∙ way_size c.args.c.now c.args.s.now c.loop-inputs.inputs-index c.loop-inputs.run c.loop-inputs.state c.requires c.loop-inputs.invariant.0

pub returns-then-not-are_true : goal.returns-then-not-are_true
returns-then-not-are_true c =
    let t : Circuit = c.args.c.now in
    let s : Stimulus = c.args.s.now in
    let i : ℕ = c.loop-inputs.inputs-index in
    let state : List Bool = c.loop-inputs.state in
    let item : List Bool = c.inputs-item.result in
    let same = c.as_slice-inputs-items.ensures in
    let inside : i < length s.inputs = inside_place s.inputs c.as_slice-inputs-items.result.now i same c.loop-inputs-test.true in
    let at : item ≡ get_or s.inputs i item = at_place s.inputs c.as_slice-inputs-items.result.now i item same c.inputs-item.is in
    let out : c.eval_into.new.out ≡ valuation t state item =
    c.eval_into.ensures
    ∙ (ap (λ (x : List Bool). valuation t x c.as_slice-in-loop-inputs.result.now) c.as_slice.ensures ∙ ap (λ (x : List Bool). valuation t state x) c.as_slice-in-loop-inputs.ensures) in
    let size : length c.eval_into.new.out ≡ t.max + 1 = ap length out ∙ length-valuation t state item in
    let back : take c.loop-inputs.values.len (c.eval_into.new.out ++ drop (length c.eval_into.new.out) c.loop-inputs.values.items) ≡ c.eval_into.new.out =
    written_back c.loop-inputs.values.len c.eval_into.new.out c.loop-inputs.values.items (omega (arith, c.loop-inputs.values.ok.0))
    (omega (arith, size, c.loop-inputs.invariant.1, c.loop-inputs.values.ok.0)) in
    let values : c.deref.result.now ≡ valuation t state item = c.deref.ensures.value ∙ (back ∙ out) in
    let met = met_by t state item c.deref.result.now c.constraints.result.now c.are_true.result values c.constraints.ensures c.are_true.ensures in
    way_forbidden t s i c.loop-inputs.run state item c.loop-inputs.invariant.0 inside at (λ meets. false≢true (sym c.if-not-are_true.true ∙ met.1 meets))

pub loop-inputs-preserved : goal.loop-inputs-preserved
loop-inputs-preserved c =
    let t : Circuit = c.args.c.now in
    let s : Stimulus = c.args.s.now in
    let i : ℕ = c.loop-inputs.inputs-index in
    let state : List Bool = c.loop-inputs.state in
    let item : List Bool = c.inputs-item.result in
    let same = c.as_slice-inputs-items.ensures in
    let inside : i < length s.inputs = inside_place s.inputs c.as_slice-inputs-items.result.now i same c.loop-inputs-test.true in
    let at : item ≡ get_or s.inputs i item = at_place s.inputs c.as_slice-inputs-items.result.now i item same c.inputs-item.is in
    let out : c.eval_into.new.out ≡ valuation t state item =
    c.eval_into.ensures
    ∙ (ap (λ (x : List Bool). valuation t x c.as_slice-in-loop-inputs.result.now) c.as_slice.ensures ∙ ap (λ (x : List Bool). valuation t state x) c.as_slice-in-loop-inputs.ensures) in
    let size : length c.eval_into.new.out ≡ t.max + 1 = ap length out ∙ length-valuation t state item in
    let back : take c.loop-inputs.values.len (c.eval_into.new.out ++ drop (length c.eval_into.new.out) c.loop-inputs.values.items) ≡ c.eval_into.new.out =
    written_back c.loop-inputs.values.len c.eval_into.new.out c.loop-inputs.values.items (omega (arith, c.loop-inputs.values.ok.0))
    (omega (arith, size, c.loop-inputs.invariant.1, c.loop-inputs.values.ok.0)) in
    let values : c.deref.result.now ≡ valuation t state item = c.deref.ensures.value ∙ (back ∙ out) in
    let after : c.deref-in-loop-inputs.result.now ≡ valuation t state item = c.deref-in-loop-inputs.ensures.value ∙ (back ∙ out) in
    let met = met_by t state item c.deref.result.now c.constraints.result.now c.are_true.result values c.constraints.ensures c.are_true.ensures in (
      way_more t s i c.loop-inputs.run state item c.state-in-loop-inputs.inside.values.items c.in_ok-try_copy.field-0 c.in_ok-next.next c.push.new.self c.requires c.loop-inputs.invariant.0 inside at
          (met.0 c.if-not-are_true.false)
          (behind_by t state item c.deref-in-loop-inputs.result.now c.in_ok-next.next after c.in_ok-next.ensures)
          c.state-in-loop-inputs.view_is c.in_ok-try_copy.ensures c.in_ok-push.ensures.ok,
      ap length back ∙ size,
    )
