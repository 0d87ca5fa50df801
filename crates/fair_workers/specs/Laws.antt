-- When workers leave no report. The count is this program's; the search is FAIR (Bradley, Somenzi, Hassan, Zhang, 2011).
use Rattle.std.specs.Prelude.{◌≡◌, ℕ, ◌+◌, ◌*◌, ◌^◌, ◌≤◌, min, max, List, [], ◌∷◌, length, None}
use Rattle.aig_semantics.specs.Circuits.{Circuit, fair_literals}
use Rattle.edge.specs.Units.{limit_of}
use Rattle.wall_store.specs.Boards.{most_entries}
use Rattle.search_reports.specs.declared.limits.Report.{Report}
use Rattle.fair_workers.specs.Runs.{Task, AreLimits, IsReport}

-- how many lists of latch and input values could be a skeleton of one of these properties, each counted by itself
abbrev pub skeleton_lists : Circuit → List ℕ → ℕ
skeleton_lists c [] = 0
skeleton_lists c (j ∷ properties) =
    2 ^ (max 1 (length (fair_literals c j)) * (length c.latches + length c.inputs)) + skeleton_lists c properties

-- Workers without limits on conflicts and steps, whose list may have, behind the given entries, one for each list of latch
-- and input values that could be a skeleton, leave no report: each entry that they add excludes a skeleton that those before
-- it allow.
abbrev pub NoReportWithoutLimits : Type 0
NoReportWithoutLimits =
    (task : Task) (report : Report) → AreLimits task.limits
    → limit_of task.limits.conflicts ≡ None → limit_of task.limits.steps ≡ None
    → length task.given + skeleton_lists task.circuit task.properties ≤ min (length task.given + task.limits.skeletons) most_entries
    → IsReport task report → ⊥
