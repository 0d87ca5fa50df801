use Rattle.std.proofs.Common.{rules, ◌≡◌, ◌∙◌, ◌++◌, ◌∷◌, [], ℕ, List, sym, ap, true, arith, length, append_assoc}
use Rattle.waves.specs.Names.{has_name, set_apart, enough}
use Rattle.waves.proofs.NameLaws.{no_longer, dotted_longer, apart_on, apart_end}
use Rattle.waves.proofs.names.set_apart.Goals as goal

pub loop-taken-smaller : goal.loop-taken-smaller
loop-taken-smaller c =
    let h : has_name c.args.signals.now c.loop-taken.name.items ≡ true = sym c.loop-taken.invariant.told ∙ c.loop-taken-test.true in
    let apart : c.extend_from_slice.new.self.items ≡ (c.loop-taken.name.items ++ 46 ∷ []) ++ c.args.label.now = search rules in
    let next : c.extend_from_slice.new.self.items ≡ c.loop-taken.name.items ++ 46 ∷ c.args.label.now = apart ∙ append_assoc c.loop-taken.name.items (46 ∷ []) c.args.label.now in
    omega (arith, no_longer c.args.signals.now c.loop-taken.name.items h, dotted_longer c.args.label.now c.loop-taken.name.items, ap length next)

pub loop-taken-preserved : goal.loop-taken-preserved
loop-taken-preserved c =
    let h : has_name c.args.signals.now c.loop-taken.name.items ≡ true = sym c.loop-taken.invariant.told ∙ c.loop-taken-test.true in
    let apart : c.extend_from_slice.new.self.items ≡ (c.loop-taken.name.items ++ 46 ∷ []) ++ c.args.label.now = search rules in
    let next : c.extend_from_slice.new.self.items ≡ c.loop-taken.name.items ++ 46 ∷ c.args.label.now = apart ∙ append_assoc c.loop-taken.name.items (46 ∷ []) c.args.label.now in
    record {
      told = search rules;
      same = ap (λ (x : List ℕ). set_apart (enough c.args.signals.now) c.args.signals.now c.args.label.now x) next
          ∙ apart_on c.args.signals.now c.args.label.now c.loop-taken.name.items h ∙ c.loop-taken.invariant.same;
    }

pub returns : goal.returns
returns c =
    sym (apart_end c.args.signals.now c.args.label.now c.loop-taken.name.items (sym c.loop-taken.invariant.told ∙ c.loop-taken-test.false))
    ∙ c.loop-taken.invariant.same
