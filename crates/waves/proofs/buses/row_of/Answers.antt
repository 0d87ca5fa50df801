use Rattle.std.proofs.Common.{rules, ◌≡◌, ◌∙◌, ◌+◌, ◌-◌, ℕ, suc, List, sym, ap, arith, None, Some}
use Rattle.waves.specs.declared.wires.Wire.{Wire}
use Rattle.waves.specs.declared.groups.Member.{Member}
use Rattle.waves.specs.Buses.{wire_at, row_of}
use Rattle.waves.proofs.RowLaws.{in_front, row_on, row_missing, row_done}
use Rattle.waves.proofs.buses.row_of.Goals as goal

-- the indices that are left, one by one
at_left : (members : List Member) (low left less : ℕ) (wires : List Wire) → left ≡ suc less → in_front wires (row_of members low left) ≡ in_front wires (row_of members low (suc less))
at_left members low left less wires e = ap (λ n. in_front wires (row_of members low n)) e

at_end : (members : List Member) (low left : ℕ) (wires : List Wire) → left ≡ 0 → in_front wires (row_of members low left) ≡ Some wires
at_end members low left wires e = ap (λ n. in_front wires (row_of members low n)) e ∙ row_done members low wires

pub returns-in_default : goal.returns-in_default
returns-in_default c members h =
    let left = c.loop-left.left in
    let more : left ≡ suc (left - 1) = omega (arith, c.loop-left-test.true) in
    let missing : wire_at members (c.args.low + (left - 1)) ≡ None = sym (h (c.args.low + (left - 1))) ∙ search rules in
    sym (at_left members c.args.low left (left - 1) c.loop-left.row.items more ∙ row_missing members c.args.low (left - 1) c.loop-left.row.items missing)
    ∙ c.loop-left.invariant.row members h

pub loop-left-preserved : goal.loop-left-preserved
loop-left-preserved c =
    let left = c.loop-left.left in
    let more : left ≡ suc (left - 1) = omega (arith, c.loop-left-test.true) in
    record {
      small = omega (arith, c.loop-left.invariant.small);
      row = λ members h.
          row_on members c.args.low (left - 1) c.loop-left.row.items c.push.new.self.items c.in-Some.wire.now
          (sym (h (c.args.low + (left - 1))) ∙ search rules) c.in_ok-push.ensures.items
          ∙ sym (at_left members c.args.low left (left - 1) c.loop-left.row.items more)
          ∙ c.loop-left.invariant.row members h;
    }

pub returns : goal.returns
returns c members h =
    let none : c.loop-left.left ≡ 0 = omega (arith, c.loop-left-test.false) in
    sym (at_end members c.args.low c.loop-left.left c.loop-left.row.items none) ∙ c.loop-left.invariant.row members h
