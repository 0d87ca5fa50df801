use Rattle.std.proofs.Common.{rules}
use Rattle.fair_round.proofs.Counting.{conflicts-then, conflicts-alone, conflicts-first}
use Rattle.fair_round.proofs.seeking.seek.Goals as goal

pub returns-in_err-values : goal.returns-in_err-values
returns-in_err-values c =
    let values = conflicts-then _ _ _ c.by_invariants.ensures.counted c.lasting_literals.ensures.counted in
    record { sought = search rules; stop = search rules; counted = conflicts-alone _ _ _ values; same = search rules }

pub returns-in_err-bar : goal.returns-in_err-bar
returns-in_err-bar c =
    let values = conflicts-then _ _ _ c.by_invariants.ensures.counted c.lasting_literals.ensures.counted in
    let wall = conflicts-then _ _ _ values c.own_wall.ensures.counted in
    record { sought = search rules; stop = search rules; counted = conflicts-alone _ _ _ wall; same = search rules }

pub returns-in-Some-2 : goal.returns-in-Some-2
returns-in-Some-2 c =
    let values = conflicts-then _ _ _ c.by_invariants.ensures.counted c.lasting_literals.ensures.counted in
    let wall = conflicts-then _ _ _ values c.own_wall.ensures.counted in
    record { sought = search rules; stop = search rules; counted = conflicts-alone _ _ _ wall; same = search rules }

pub returns-in_err-sought-2 : goal.returns-in_err-sought-2
returns-in_err-sought-2 c =
    let values = conflicts-then _ _ _ c.by_invariants.ensures.counted c.lasting_literals.ensures.counted in
    let walls = conflicts-then _ _ _ c.own_wall.ensures.counted c.other_wall.ensures.counted in
    let all = conflicts-then _ _ _ values walls in
    record { sought = search rules; stop = search rules; counted = conflicts-alone _ _ _ all; same = search rules }

pub returns-in-Some-3 : goal.returns-in-Some-3
returns-in-Some-3 c =
    let values = conflicts-then _ _ _ c.by_invariants.ensures.counted c.lasting_literals.ensures.counted in
    let walls = conflicts-then _ _ _ c.own_wall.ensures.counted c.other_wall.ensures.counted in
    let all = conflicts-then _ _ _ values walls in
    record { sought = search rules; stop = search rules; counted = conflicts-alone _ _ _ all; same = search rules }

pub returns : goal.returns
returns c =
    let values = conflicts-then _ _ _ c.by_invariants.ensures.counted c.lasting_literals.ensures.counted in
    let walls = conflicts-then _ _ _ c.own_wall.ensures.counted c.other_wall.ensures.counted in
    let all = conflicts-then _ _ _ values walls in
    record {
      sought = search rules;
      stop = search rules;
      counted = conflicts-first _ _ _ _ all c.seek_charged.ensures.counted;
      same = search rules;
    }
