-- Scaffolding of inner functions. The marks of the literals that are assumed.
use Rattle.std.specs.Prelude.{◌≡◌}
use Rattle.proof_semantics.specs.Clauses.{has_literal}
use Rattle.proof_semantics.specs.declared.literals.Lit.{Lit}
use Rattle.lrat.specs.Marking.{is_set}
use Rattle.lrat.specs.declared.marks.Marks.TheInside.{Inside}

-- exactly the assumed literals are marked
abbrev pub MarksAgree : Inside → Type 0
MarksAgree m = (a : Lit) → is_set m.marked a ≡ has_literal m.assumed.items a
