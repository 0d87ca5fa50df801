use Rattle.std.specs.Prelude.{option_map}
use Rattle.std.specs.Arc.{arc_value}
use Rattle.given_entries.specs.Beginning.{told_of}
use Rattle.fair_top.proofs.Begun.{listed_of, begins_of, memory_unended, memory_fault, memory_refused, never_failed}
use Rattle.fair_top.proofs.beginnings.begun.Goals as goal

pub returns-in-Ok-clause-list : goal.returns-in-Ok-clause-list
returns-in-Ok-clause-list g c =
    listed_of (arc_value c.args.circuit) (told_of (g.H.Shelf.held c.args.shelf.now) (option_map (λ name. name.now) c.args.resume)) _ c.with_served.result c.with_served.ensures.given
    c.in-Ok.ensures.list

pub returns-in-Ok-clause-begins : goal.returns-in-Ok-clause-begins
returns-in-Ok-clause-begins g c =
    begins_of (arc_value c.args.circuit) _ c.with_served.result c.with_served.ensures.given c.in-Ok.ensures.few c.in-Ok.ensures.sound c.in-Ok.ensures.origins

pub returns-in-Ok-clause-fault : goal.returns-in-Ok-clause-fault
returns-in-Ok-clause-fault g c = memory_fault c.with_served.result _ c.with_served.ensures.ended

pub returns-in-Ok-clause-refused : goal.returns-in-Ok-clause-refused
returns-in-Ok-clause-refused g c = λ claimed end claims none.
    memory_refused c.with_served.result end c.with_served.ensures.ended (c.in-Ok.ensures.refused claimed end claims none)

pub returns-in-Ok-clause-accepted : goal.returns-in-Ok-clause-accepted
returns-in-Ok-clause-accepted g c = λ claimed given claims begins. memory_unended c.with_served.result c.with_served.ensures.ended

pub returns-in-Ok-clause-read : goal.returns-in-Ok-clause-read
returns-in-Ok-clause-read g c = λ e. absurd (never_failed c.with_served.result c.with_served.ensures.ended e)
