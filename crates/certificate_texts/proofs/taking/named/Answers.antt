use Rattle.std.proofs.Common.{rules}
use Rattle.fair_semantics.specs.declared.entries.Side.TheVariants as sides
use Rattle.certificate_lines.specs.declared.uses.WrittenUse.{WrittenUse}
use Rattle.certificate_texts.specs.Taking.{named}
use Rattle.certificate_texts.proofs.Taken.{named_next, named_none, named_done}
use Rattle.certificate_texts.proofs.taking.named.Goals as goal

abbrev any : WrittenUse
any = record { number = 0; side = sides.Any }

pub loop-u-preserved : goal.loop-u-preserved
loop-u-preserved c =
    rw c.in_ok-push-in-Some.ensures.ok (named_next c.loop-u.uses c.args.written.now c.loop-u.u-index any c.in-Some.one (named c.args.written.now) c.loop-u-test.true (search rules) c.loop-u.invariant)

pub returns-in-None : goal.returns-in-None
returns-in-None c = named_none c.loop-u.uses c.args.written.now c.loop-u.u-index any (named c.args.written.now) c.loop-u-test.true (search rules) c.loop-u.invariant

pub returns : goal.returns
returns c = named_done c.loop-u.uses c.args.written.now c.loop-u.u-index (named c.args.written.now) c.loop-u-test.false c.loop-u.invariant
