use Rattle.std.proofs.Common.{◌+◌, false, ap, sym, ◌∙◌}
use Rattle.std.proofs.lemmas.List.{take_all}
use Rattle.proof_semantics.specs.Clauses.{has_literal}
use Rattle.cdcl.proofs.UnitLaws.{place_found, place_none}
use Rattle.cdcl.proofs.refuting.unit_number.Goals as goal

pub returns-then-is : goal.returns-then-is
returns-then-is c =
    ap (λ n. c.args.first + n + 1)
    (sym (place_found c.args.units.now c.loop-place.place c.args.literal (record { var = 0; positive = false }) c.loop-place-test.true c.loop-place.invariant
    (sym c.is.ensures ∙ c.if-is.true)))

pub returns : goal.returns
returns c =
    ap (λ n. c.args.first + n + 1)
    (sym (place_none c.args.units.now c.args.literal
    (ap (λ us. has_literal us c.args.literal) (sym (take_all c.loop-place.place c.args.units.now c.loop-place-test.false)) ∙ c.loop-place.invariant)))
