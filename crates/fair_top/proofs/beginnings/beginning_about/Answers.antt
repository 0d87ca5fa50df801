use Rattle.std.proofs.Common.{rules, inl, refl}
use Rattle.std.specs.Prelude.{option_map}
use Rattle.fair_top.proofs.Begun.{without_property, no_reads}
use Rattle.fair_top.proofs.beginnings.beginning_about.Goals as goal

pub returns-then-lacks_property-clause-ended : goal.returns-then-lacks_property-clause-ended
returns-then-lacks_property-clause-ended g c = inl (refl, c.lacks_property.ensures.yes (search rules))

pub returns-then-lacks_property-clause-refused : goal.returns-then-lacks_property-clause-refused
returns-then-lacks_property-clause-refused g c = λ claimed end claims none there. without_property c.args.circuit c.args.request.now _ (c.lacks_property.ensures.yes (search rules)) there

pub returns-then-lacks_property-clause-accepted : goal.returns-then-lacks_property-clause-accepted
returns-then-lacks_property-clause-accepted g c = λ claimed given claims begins there. without_property c.args.circuit c.args.request.now _ (c.lacks_property.ensures.yes (search rules)) there

pub returns-then-lacks_property-clause-reads : goal.returns-then-lacks_property-clause-reads
returns-then-lacks_property-clause-reads g c = no_reads g.H.Shelf.reads (option_map (λ name. name.now) c.args.resume) c.args.shelf.now

pub beginning_on-requires : goal.beginning_on-requires
beginning_on-requires g c = record { property = c.lacks_property.ensures.no (search rules) }
