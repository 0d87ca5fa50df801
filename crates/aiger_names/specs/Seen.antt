-- What a `Model` is seen as, and what it keeps (scaffolding).
use Rattle.aiger_grammar.specs.Models.{Model, IsModel}
use Rattle.aiger_names.specs.declared.models.Model.TheInside.{Inside}
use Rattle.aiger_names.specs.Kept.{joined}

abbrev pub seen_as : Inside → Model
seen_as s = joined s.circuit s.outputs s.bad s.names

abbrev pub IsKept : Inside → Type 0
IsKept s = IsModel (seen_as s)
