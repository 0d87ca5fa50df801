use Rattle.std.proofs.Common.{get_or, refl, sym, subst}
use Rattle.cdcl_trail.specs.Renaming.{Meets}
use Rattle.cdcl_trail.proofs.BorderLaws.{meets_then}
use Rattle.cdcl_trail.proofs.NamedLaws.{no_literal, meets_name, numbering_start, numbering_next}
use Rattle.cdcl_trail.proofs.trail.number_all.Goals as goal

pub loop-literal-init : goal.loop-literal-init
loop-literal-init c = numbering_start c.args.names.now c.clear.new.self.items c.clear.ensures.items

pub returns-in_err-number-clause-meets : goal.returns-in_err-number-clause-meets
returns-in_err-number-clause-meets c = subst (Meets c.args.names.now) (sym c.in_err-number.ensures.err) c.loop-literal.invariant.meets

pub returns-in_err-push-clause-meets : goal.returns-in_err-push-clause-meets
returns-in_err-push-clause-meets c =
    meets_then c.args.names.now c.loop-literal.names c.meet.new.self c.loop-literal.invariant.meets (meets_name c.loop-literal.names c.meet.new.self _ c.in_ok-number.ensures.ok)

pub loop-literal-preserved : goal.loop-literal-preserved
loop-literal-preserved c =
    numbering_next c.args.names.now c.loop-literal.names c.meet.new.self c.loop-literal.numbered.items c.push.new.self.items c.args.clause.now c.loop-literal.literal-index c.in_ok-number.number
    (get_or c.args.clause.now c.loop-literal.literal-index no_literal) c.of.result c.loop-literal.invariant c.loop-literal-test.true refl
    c.in_ok-number.ensures.ok c.in_ok-number.ensures.number c.of.ensures c.in_ok-push.ensures.items
