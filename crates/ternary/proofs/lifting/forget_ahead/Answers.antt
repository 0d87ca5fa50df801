use Rattle.std.proofs.Common.{◌≡◌, ◌+◌, ◌-◌, ◌<◌, ℕ, map, set, sym, subst, arith}
use Rattle.std.specs.Int.{bit_at}
use Rattle.ternary.specs.declared.values.Value3.TheVariants.{X}
use Rattle.ternary.specs.Values.{known}
use Rattle.ternary.specs.Simulation.{simulation}
use Rattle.ternary.specs.Lanes.{in_lane}
use Rattle.ternary.specs.Lifting.{AreOne, IsLiftedTo, forgotten}
use Rattle.ternary.proofs.Forgetting.{lifted-ahead, lifted-behind, pass-tells, clash}
use Rattle.ternary.proofs.lifting.forget_ahead.Goals as goal

pub returns-then-passed-left-clause-lifted : goal.returns-then-passed-left-clause-lifted
returns-then-passed-left-clause-lifted c =
    let word : ℕ = c.lanes_that_pass-alone.result in
    let alone : (k : ℕ) → k < 64 → bit_at word k ≡ 0 → AreOne (simulation c.args.c.now (set c.args.state.now (c.args.i + k) X) (map known c.args.at.now.inputs)) c.args.keep.now → ⊥ =
    λ k below bit all.
    clash (bit_at word k) bit
    ((pass-tells c.args.c.now (in_lane k c.put_alone.new.ahead) (set c.args.state.now (c.args.i + k) X) (in_lane k c.args.inputs.now) (map known c.args.at.now.inputs) c.args.keep.now (bit_at word k)
    (c.put_alone.ensures k below) (c.requires.known k below) (c.lanes_that_pass-alone.ensures k below)).1 all)
    in
    let through : (k : ℕ) → k < 64 → bit_at c.lanes_that_pass.result k ≡ 1 → AreOne (simulation c.args.c.now (forgotten word (k + 1) c.args.i c.args.state.now) (map known c.args.at.now.inputs)) c.args.keep.now =
    λ k below.
    (pass-tells c.args.c.now (in_lane k c.put_ahead.new.ahead) (forgotten word (k + 1) c.args.i c.args.state.now) (in_lane k c.args.inputs.now) (map known c.args.at.now.inputs) c.args.keep.now (bit_at c.lanes_that_pass.result k)
    (c.put_ahead.ensures k below) (c.requires.known k below) (c.lanes_that_pass.ensures k below)).0
    in
    let most = c.first_ones-passed.ensures.most in
    let size = c.len.ensures in
    let long = c.requires.long in
    let room = c.requires.inside in
    let all = c.if-passed-left.true in
    subst (λ xs. IsLiftedTo c.args.c.now c.args.at.now.latches c.args.at.now.inputs c.args.keep.now (c.args.i + (c.len.result - c.args.i)) xs) (sym c.forget_where.ensures)
    (lifted-ahead c.args.c.now c.args.at.now.latches c.args.at.now.inputs c.args.keep.now c.requires.keep c.args.state.now word c.args.i (c.len.result - c.args.i) (omega arith) (omega arith) c.requires.lifted alone
    (λ k below. through k (omega arith) (c.first_ones-passed.ensures.set k (omega arith))))

pub returns-then-passed-eq-LANES-clause-lifted : goal.returns-then-passed-eq-LANES-clause-lifted
returns-then-passed-eq-LANES-clause-lifted c =
    let word : ℕ = c.lanes_that_pass-alone.result in
    let alone : (k : ℕ) → k < 64 → bit_at word k ≡ 0 → AreOne (simulation c.args.c.now (set c.args.state.now (c.args.i + k) X) (map known c.args.at.now.inputs)) c.args.keep.now → ⊥ =
    λ k below bit all.
    clash (bit_at word k) bit
    ((pass-tells c.args.c.now (in_lane k c.put_alone.new.ahead) (set c.args.state.now (c.args.i + k) X) (in_lane k c.args.inputs.now) (map known c.args.at.now.inputs) c.args.keep.now (bit_at word k)
    (c.put_alone.ensures k below) (c.requires.known k below) (c.lanes_that_pass-alone.ensures k below)).1 all)
    in
    let through : (k : ℕ) → k < 64 → bit_at c.lanes_that_pass.result k ≡ 1 → AreOne (simulation c.args.c.now (forgotten word (k + 1) c.args.i c.args.state.now) (map known c.args.at.now.inputs)) c.args.keep.now =
    λ k below.
    (pass-tells c.args.c.now (in_lane k c.put_ahead.new.ahead) (forgotten word (k + 1) c.args.i c.args.state.now) (in_lane k c.args.inputs.now) (map known c.args.at.now.inputs) c.args.keep.now (bit_at c.lanes_that_pass.result k)
    (c.put_ahead.ensures k below) (c.requires.known k below) (c.lanes_that_pass.ensures k below)).0
    in
    let most = c.first_ones-passed.ensures.most in
    let size = c.len.ensures in
    let long = c.requires.long in
    let room = c.requires.inside in
    let some = c.if-passed-left.false in
    subst (λ xs. IsLiftedTo c.args.c.now c.args.at.now.latches c.args.at.now.inputs c.args.keep.now (c.args.i + c.first_ones-passed.result) xs) (sym c.forget_where-2.ensures)
    (lifted-ahead c.args.c.now c.args.at.now.latches c.args.at.now.inputs c.args.keep.now c.requires.keep c.args.state.now word c.args.i c.first_ones-passed.result (omega arith) (omega arith) c.requires.lifted alone
    (λ k below. through k (omega arith) (c.first_ones-passed.ensures.set k (omega arith))))

pub returns-clause-lifted : goal.returns-clause-lifted
returns-clause-lifted c =
    let word : ℕ = c.lanes_that_pass-alone.result in
    let alone : (k : ℕ) → k < 64 → bit_at word k ≡ 0 → AreOne (simulation c.args.c.now (set c.args.state.now (c.args.i + k) X) (map known c.args.at.now.inputs)) c.args.keep.now → ⊥ =
    λ k below bit all.
    clash (bit_at word k) bit
    ((pass-tells c.args.c.now (in_lane k c.put_alone.new.ahead) (set c.args.state.now (c.args.i + k) X) (in_lane k c.args.inputs.now) (map known c.args.at.now.inputs) c.args.keep.now (bit_at word k)
    (c.put_alone.ensures k below) (c.requires.known k below) (c.lanes_that_pass-alone.ensures k below)).1 all)
    in
    let through : (k : ℕ) → k < 64 → bit_at c.lanes_that_pass.result k ≡ 1 → AreOne (simulation c.args.c.now (forgotten word (k + 1) c.args.i c.args.state.now) (map known c.args.at.now.inputs)) c.args.keep.now =
    λ k below.
    (pass-tells c.args.c.now (in_lane k c.put_ahead.new.ahead) (forgotten word (k + 1) c.args.i c.args.state.now) (in_lane k c.args.inputs.now) (map known c.args.at.now.inputs) c.args.keep.now (bit_at c.lanes_that_pass.result k)
    (c.put_ahead.ensures k below) (c.requires.known k below) (c.lanes_that_pass.ensures k below)).0
    in
    let most = c.first_ones-passed.ensures.most in
    let size = c.len.ensures in
    let long = c.requires.long in
    let room = c.requires.inside in
    let some = c.if-passed-left.false in
    let other = c.if-passed-eq-LANES.false in
    let few : c.first_ones-passed.result < 64 = omega arith in
    let before =
    lifted-ahead c.args.c.now c.args.at.now.latches c.args.at.now.inputs c.args.keep.now c.requires.keep c.args.state.now word c.args.i c.first_ones-passed.result (omega arith) (omega arith) c.requires.lifted alone
    (λ k below. through k (omega arith) (c.first_ones-passed.ensures.set k (omega arith)))
    in
    subst (λ xs. IsLiftedTo c.args.c.now c.args.at.now.latches c.args.at.now.inputs c.args.keep.now (c.args.i + c.first_ones-passed.result + 1) xs) (sym c.forget_where-2.ensures)
    (lifted-behind c.args.c.now c.args.at.now.latches c.args.at.now.inputs c.args.keep.now c.requires.keep c.args.state.now word c.args.i c.first_ones-passed.result few before alone
    (λ all.
    clash (bit_at c.lanes_that_pass.result c.first_ones-passed.result) (c.first_ones-passed.ensures.clear few)
    ((pass-tells c.args.c.now (in_lane c.first_ones-passed.result c.put_ahead.new.ahead) (forgotten word (c.first_ones-passed.result + 1) c.args.i c.args.state.now) (in_lane c.first_ones-passed.result c.args.inputs.now) (map known c.args.at.now.inputs) c.args.keep.now (bit_at c.lanes_that_pass.result c.first_ones-passed.result)
    (c.put_ahead.ensures c.first_ones-passed.result few) (c.requires.known c.first_ones-passed.result few) (c.lanes_that_pass.ensures c.first_ones-passed.result few)).1 all)))
