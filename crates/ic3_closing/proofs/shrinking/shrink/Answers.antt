use Rattle.std.proofs.Common.{◌<◌, get_or, subst}
use Rattle.std.proofs.lemmas.List.{length-map}
use Rattle.entry.specs.CheckedEntries.{entry_in, viewed}
use Rattle.ic3_closing.proofs.Kept.{whole_part}
use Rattle.ic3_closing.proofs.Parting.{over_part, present_part, part_separates}
use Rattle.ic3_closing.proofs.shrinking.shrink.Goals as goal

pub stands-requires-clause-over : goal.stands-requires-clause-over
stands-requires-clause-over c =
    over_part c.args.c.now (viewed c.args.view.now) c.args.start.now c.args.goal.now c.args.whole.clauses c.in_ok-part.part.clauses c.args.whole.uses
    c.in_ok-marks.marks.clauses.items c.requires.separates c.in_ok-part.ensures.clauses

pub stands-requires-clause-present : goal.stands-requires-clause-present
stands-requires-clause-present c =
    λ k d inside.
    subst (λ n. (get_or c.in_ok-part.part.uses k d).entry < n) (length-map c.args.view.now entry_in)
    (present_part c.args.c.now (viewed c.args.view.now) c.args.start.now c.args.goal.now c.args.whole.clauses c.args.whole.uses c.in_ok-part.part.uses
    c.in_ok-marks.marks.uses.items c.in_ok-marks.marks.sides.items c.requires.separates c.in_ok-part.ensures.uses k d inside)

pub returns-then-branch-clause-separates : goal.returns-then-branch-clause-separates
returns-then-branch-clause-separates c =
    part_separates c.args.c.now (viewed c.args.view.now) c.args.start.now c.args.goal.now c.args.whole.clauses c.in_ok-part.part.clauses
    c.args.whole.uses c.in_ok-part.part.uses
    c.in_ok-marks.marks.clauses.items c.in_ok-marks.marks.uses.items c.in_ok-marks.marks.sides.items
    c.obligations_tell.ensures c.requires.view c.requires.separates c.in_ok-part.ensures.clauses c.in_ok-part.ensures.uses
    (c.in_ok-stands.ensures.stands c.if-branch.true)

pub returns-then-branch-clause-part : goal.returns-then-branch-clause-part
returns-then-branch-clause-part c = record {
  kept = c.in_ok-marks.marks.clauses.items;
  used = c.in_ok-marks.marks.uses.items;
  sided = c.in_ok-marks.marks.sides.items;
  clauses_are = c.in_ok-part.ensures.clauses;
  uses_are = c.in_ok-part.ensures.uses;
}

pub returns-else-branch-clause-part : goal.returns-else-branch-clause-part
returns-else-branch-clause-part c = whole_part c.args.whole
