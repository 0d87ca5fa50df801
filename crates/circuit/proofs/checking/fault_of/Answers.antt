use Rattle.std.proofs.Common.{refl}
use Rattle.circuit.proofs.Marking.{DefinesAll-marks, UsesAll-marks, twice-told, once-told, undefined-told, defined-told}
use Rattle.circuit.proofs.checking.fault_of.Goals as goal

pub mark_definitions-requires : goal.mark_definitions-requires
mark_definitions-requires c = DefinesAll-marks c.args.parts.now c.requires.in_range c.args.marks.now _ c.requires.first refl

pub returns-in-Some : goal.returns-in-Some
returns-in-Some c =
    twice-told c.args.parts.now c.requires.in_range c.args.marks.now c.mark_definitions.new.marks c.requires.first c.mark_definitions.ensures
    c.in-Some.v c.in-Some.ensures.some

pub mark_uses-requires : goal.mark_uses-requires
mark_uses-requires c =
    UsesAll-marks c.args.parts.now c.requires.in_range c.args.marks.now c.mark_definitions.new.marks c.requires.first c.mark_definitions.ensures

pub returns-in-Some-first_marked : goal.returns-in-Some-first_marked
returns-in-Some-first_marked c =
    undefined-told c.args.parts.now c.requires.in_range c.args.marks.now c.mark_definitions.new.marks c.requires.first c.mark_definitions.ensures
    c.mark_uses.new.marks c.mark_uses.ensures c.in-Some-first_marked.v
    (once-told c.args.parts.now c.requires.in_range c.args.marks.now c.mark_definitions.new.marks c.requires.first c.mark_definitions.ensures c.in_default.ensures.none)
    c.in-Some-first_marked.ensures.some

pub returns : goal.returns
returns c = record {
  once = once-told c.args.parts.now c.requires.in_range c.args.marks.now c.mark_definitions.new.marks c.requires.first c.mark_definitions.ensures c.in_default.ensures.none;
  defined =
      defined-told c.args.parts.now c.requires.in_range c.args.marks.now c.mark_definitions.new.marks c.requires.first c.mark_definitions.ensures
      c.mark_uses.new.marks c.mark_uses.ensures c.in_default-first_marked.ensures.none;
}
