use Rattle.aig_semantics.specs.Literals.{variable_in}
use Rattle.slice.proofs.Kept.{made_in_range, made_checked, made_defined}
use Rattle.slice.proofs.slicing.sliced.Goals as goal

pub kept_of-requires-clause-in_range : goal.kept_of-requires-clause-in_range
kept_of-requires-clause-in_range c =
    made_in_range c.args.m.now c.circuit-c.result.now c.args.j (variable_in c.in_ok-cone.cone) c.in_ok-parts.parts c.circuit-c.ensures.circuit
    c.in_ok-cone.ensures.cone c.circuit-c.ensures.model c.requires c.in_ok-parts.ensures

pub kept_of-requires-clause-checked : goal.kept_of-requires-clause-checked
kept_of-requires-clause-checked c =
    made_checked c.args.m.now c.circuit-c.result.now c.args.j (variable_in c.in_ok-cone.cone) c.in_ok-parts.parts c.circuit-c.ensures.circuit
    c.in_ok-cone.ensures.cone c.circuit-c.ensures.model c.requires c.in_ok-parts.ensures

pub kept_of-requires-clause-defined : goal.kept_of-requires-clause-defined
kept_of-requires-clause-defined c =
    made_defined c.args.m.now c.circuit-c.result.now c.args.j (variable_in c.in_ok-cone.cone) c.in_ok-parts.parts c.circuit-c.ensures.circuit
    c.in_ok-cone.ensures.cone c.circuit-c.ensures.model c.requires c.in_ok-parts.ensures
