-- How the inner functions of reading and replay end (scaffolding).
use Rattle.std.specs.Prelude.{Result, IfErr}
use Rattle.stimulus.specs.declared.ends.ReplayFault.{ReplayFault}
use Rattle.stimulus.specs.declared.ends.ReplayEnd.{ReplayEnd}
use Rattle.stimulus.specs.declared.ends.ReplayEnd.TheVariants.{Fault, Memory}

-- what is said of the fault of an end, if it has one
abbrev pub OfFault : ReplayEnd → (ReplayFault → Type 0) → Type 0
OfFault (Fault fault) P = P fault
OfFault Memory P = Unit {0}

-- what is said of the fault, where the end is one
abbrev pub IfFault : {T : Type 0} → Result T ReplayEnd → (ReplayFault → Type 0) → Type 0
IfFault r P = IfErr r (λ end. OfFault end P)
