use Rattle.std.proofs.Common.{◌≡◌, ◌++◌, drop}
use Rattle.fair_semantics.specs.Entries.{numbered_from, numbered}
use Rattle.cnf_unroll.specs.Lending.{lent_all}
use Rattle.entry.specs.CheckedEntries.{viewed}
use Rattle.entry.proofs.views.lend_view.Given as goal

abbrev pub invariant-loop-number : goal.invariant-loop-number
invariant-loop-number l = lent_all l.uses ++ numbered_from l.number (viewed (drop l.number l.view)) ≡ numbered (viewed l.view)
