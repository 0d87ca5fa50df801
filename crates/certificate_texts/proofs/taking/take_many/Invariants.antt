use Rattle.std.proofs.Common.{◌≡◌, ◌-◌}
use Rattle.certificate_texts.specs.Taking.{many}
use Rattle.certificate_texts.proofs.Taken.{with_front}
use Rattle.certificate_texts.proofs.taking.take_many.Given as goal

abbrev pub invariant-loop : goal.invariant-loop
invariant-loop g l =
    with_front l.values (many (g.F.Form.taken_at l.form) (l.count - l.counter) l.rest) ≡ many (g.F.Form.taken_at l.form) l.count l.lines
