use Rattle.std.proofs.Common.{true, false}
use Rattle.lrat.proofs.marks.Literals.widen.Goals as goal

pub widen-requires : goal.widen-requires
widen-requires c = λ var. c.requires (record { var = var; positive = true })

pub widen-requires-2 : goal.widen-requires-2
widen-requires-2 c = λ var. c.requires (record { var = var; positive = false })
