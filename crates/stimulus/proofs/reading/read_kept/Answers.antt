use Rattle.std.proofs.Common.{◌≡◌, Bool, true, false, sym, refl}
use Rattle.std.specs.Bool.{OnFalse}
use Rattle.std.proofs.lemmas.Bool.{false≢true}
use Rattle.stimulus.proofs.TextLemmas.{first_bad}
use Rattle.stimulus.proofs.reading.read_kept.Goals as goal

on_false : (b : Bool) (P : Type 0) → b ≡ false → OnFalse b P → P
on_false true P e h = absurd (false≢true (sym e))
on_false false P e h = h

pub returns-then-not-stands-clause-fault : goal.returns-then-not-stands-clause-fault
returns-then-not-stands-clause-fault c = (
  c.loop-line.number,
  refl,
  first_bad c.args.bytes.now c.loop-line.rest.now c.in-Some.line.now c.in-Some.later.now c.loop-line.lines c.loop-line.number
      c.loop-line.invariant c.in-Some.ensures.found (on_false _ _ c.if-not-stands.true c.in_ok-stands.ensures.bad),
)
