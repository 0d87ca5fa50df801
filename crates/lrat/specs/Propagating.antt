-- Scaffolding of inner functions. What a clause has left, and faults in front of what follows.
use Rattle.std.specs.Prelude.{List, [], ◌∷◌, Option, None, Some, if◌then◌else◌}
use Rattle.std.specs.List.{list_all}
use Rattle.proof_semantics.specs.Clauses.{lit_eq}
use Rattle.proof_semantics.specs.declared.literals.Lit.{Lit}
use Rattle.proof_semantics.specs.declared.faults.LratFault.{LratFault}
use Rattle.lrat.specs.declared.propagation.Left.{Left}
use Rattle.lrat.specs.declared.propagation.Left.TheVariants.{Nothing, One, Several}

-- what a literal that was found, if one was, and more literals leave
abbrev pub left_of : Option Lit → List Lit → Left
left_of None [] = Nothing
left_of None (a ∷ more) = if list_all (lit_eq a) more then One a else Several
left_of (Some a) more = if list_all (lit_eq a) more then One a else Several

-- a fault, or what follows where there is none
abbrev pub fault_or : Option LratFault → Option LratFault → Option LratFault
fault_or None rest = rest
fault_or (Some fault) rest = Some fault
