use Rattle.std.proofs.Common.{◌≡◌, ◌++◌, length, map, drop}
use Rattle.std.proofs.lemmas.Result.{on_ok_weaker}
use Rattle.std.specs.Arc.{arc_value}
use Rattle.entry.specs.CheckedEntries.{CheckedEntry}
use Rattle.entry.proofs.GoingOn.{put-behind, caught-up-with}
use Rattle.entry.proofs.views.catch_up.Goals as goal

pub returns-clause-checked : goal.returns-clause-checked
returns-clause-checked c =
    on_ok_weaker c.append.result
    (λ is.
    put-behind (arc_value {X = CheckedEntry}) c.append.new.seen c.args.seen.now c.in_ok-more.more c.args.view.now c.len.result is
    c.in_ok-more.ensures.checked c.len.ensures)
    c.append.ensures.seen

pub returns-clause-seen : goal.returns-clause-seen
returns-clause-seen c =
    on_ok_weaker c.append.result
    (λ is.
    caught-up-with c.append.new.seen c.args.seen.now c.in_ok-more.more c.args.view.now c.len.result c.requires is
    c.in_ok-more.ensures.viewed c.len.ensures)
    c.append.ensures.seen
