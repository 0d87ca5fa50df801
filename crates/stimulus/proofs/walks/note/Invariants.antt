use Rattle.std.proofs.Common.{◌≡◌, ◌++◌, map, take, drop}
use Rattle.aig_semantics.specs.Literals.{literal_in}
use Rattle.stimulus.specs.Walks.{watched_after}
use Rattle.stimulus.proofs.walks.note.Given as goal

abbrev pub invariant-loop-w : goal.invariant-loop-w
invariant-loop-w l =
    l.watched ≡ map (watched_after (literal_in l.values) l.number) (take l.w-index l.initial.watched) ++ drop l.w-index l.initial.watched
