use Rattle.std.proofs.Common.{rules, arith, ◌≡◌, ◌≤◌, ℕ, ◌-◌, ◌++◌, length, map, take, drop, sym, ap, ◌∙◌}
use Rattle.std.proofs.lemmas.List.{take-map}
use Rattle.std.specs.Arc.{arc_value}
use Rattle.wall_ledger.specs.Passes.{StartsWith}
use Rattle.wall_ledger.proofs.Lists.{missing, none_missing}
use Rattle.wall_ledger.proofs.pass.copy_tail.Goals as goal

pub returns-then-all-from-clause-ok : goal.returns-then-all-from-clause-ok
returns-then-all-from-clause-ok c =
    let old = c.args.entries.now.items in
    let all = c.args.all.now in
    let from : c.len-from.result ≡ length old = search rules in
    let short : length all ≤ length old = omega arith in
    λ (front : StartsWith (map arc_value old) (map arc_value all)). none_missing arc_value old all front.0 front.1 short

pub returns-in-Ok-clause-ok : goal.returns-in-Ok-clause-ok
returns-in-Ok-clause-ok c =
    let old = c.args.entries.now.items in
    let all = c.args.all.now in
    let from : c.len-from.result ≡ length old = search rules in
    λ (front : StartsWith (map arc_value old) (map arc_value all)).
    c.in-Ok.ensures.ok
    ∙ (ap (λ (k : ℕ). map arc_value old ++ map arc_value (take (length all - k) (drop k all))) from ∙ missing arc_value old all front.0 front.1)

pub returns-in-Err-clause-err : goal.returns-in-Err-clause-err
returns-in-Err-clause-err c =
    let old = c.args.entries.now.items in
    let now = c.copy_onto.new.entries.items in
    let from : c.len-from.result ≡ length old = search rules in
    let cut : c.truncate.new.self.items ≡ take c.len-from.result now = search rules in
    ap (map arc_value) cut ∙ (sym (take-map arc_value c.len-from.result now) ∙ (ap (λ (k : ℕ). take k (map arc_value now)) from ∙ c.copy_onto.ensures.front))
