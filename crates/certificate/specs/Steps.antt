-- Scaffolding of inner functions: what their answers say of a step of the reading.
use Rattle.std.specs.Prelude.{◌≡◌, ℕ, ◌^◌, ◌≤◌, List, ◌∷◌, ◌++◌, Option, Some, None, Result, Ok, Err}
use Rattle.aig_semantics.specs.Circuits.{Circuit}
use Rattle.fair_semantics.specs.declared.entries.Use.{Use}
use Rattle.fair_semantics.specs.Entries.{Entry}
use Rattle.certificate_lines.specs.declared.uses.WrittenUse.{WrittenUse}
use Rattle.entry.specs.declared.uses.User.{User}
use Rattle.entry.specs.Faults.{first_bad_use}
use Rattle.certificate.specs.declared.ends.Accepted.{Accepted}
use Rattle.certificate.specs.declared.ends.AnswerFault.{AnswerFault}
use Rattle.certificate.specs.declared.ends.AnswerFault.TheVariants as faults
use Rattle.certificate.specs.declared.ends.AnswerEnd.{AnswerEnd}
use Rattle.certificate.specs.declared.ends.AnswerEnd.TheVariants as ends
use Rattle.certificate.specs.declared.state.Body.{Body as BodyInCode}
use Rattle.certificate.specs.declared.state.Wanted.{Wanted as WantedInCode}
use Rattle.certificate.specs.declared.state.State.{State as StateInCode}
use Rattle.certificate.specs.declared.uses.UsesEnd.{UsesEnd}
use Rattle.certificate.specs.declared.uses.UsesEnd.TheVariants as uses_ends
use Rattle.certificate.specs.Reading.{Body, State, Certified, Stepped, uses_step}
use Rattle.certificate.specs.Ends.{IsGoodAtEnd, IsFaultAtEnd}
use Rattle.certificate.specs.Seen.{seen, seen_body, seen_wanted, IsAhead, IsKept}

-- what is said of the fault of an end, if it has one; no read is made
abbrev pub OfEnd : (AnswerFault → Type 0) → AnswerEnd → Type 0
OfEnd P (ends.Refused fault) = P fault
OfEnd P ends.ReadFault = ⊥
OfEnd P ends.Memory = Unit {0}

-- an answer is the step, and keeps what is kept of its state; want of memory says nothing
abbrev pub Tells : Circuit → Stepped → Result StateInCode AnswerEnd → Type 0
Tells c stepped (Ok next) = (stepped ≡ Ok (seen next)) × IsKept c next
Tells c stepped (Err (ends.Refused fault)) = stepped ≡ Err fault
Tells c stepped (Err ends.ReadFault) = ⊥
Tells c stepped (Err ends.Memory) = Unit {0}

-- an answer is what is wanted behind the step, over this body, and keeps what is kept of both; want of memory says nothing
abbrev pub TellsWanted : Circuit → Stepped → BodyInCode → Result WantedInCode AnswerEnd → Type 0
TellsWanted c stepped b (Ok next) = (stepped ≡ Ok (Certified (seen_body b) (seen_wanted b next))) × IsAhead c b next
TellsWanted c stepped b (Err (ends.Refused fault)) = stepped ≡ Err fault
TellsWanted c stepped b (Err ends.ReadFault) = ⊥
TellsWanted c stepped b (Err ends.Memory) = Unit {0}

-- all of the uses, and each may stand; or the number of the first that may not
abbrev pub Stands : User → List Entry → List Use → Result (List Use) UsesEnd → Type 0
Stands user entries all (Ok uses) = (all ≡ uses) × (first_bad_use user entries all ≡ None)
Stands user entries all (Err uses_ends.Shape) = ⊥
Stands user entries all (Err (uses_ends.Bad number)) = first_bad_use user entries all ≡ Some number
Stands user entries all (Err uses_ends.Memory) = Unit {0}

-- these are all of the uses, or those in front of the first whose number, which is this, has more than 32 bits
abbrev pub IsCut : List Use → List Use → Option ℕ → Type 0
IsCut all front None = all ≡ front
IsCut all front (Some number) = (u : Use) × (rest : List Use) × (all ≡ front ++ u ∷ rest) × (u.entry ≡ number) × (2 ^ 32 ≤ number)

-- what the uses of a line come to, whatever follows them
abbrev pub TellsUses : Body → User → ℕ → Option (List WrittenUse) → Result (List Use) UsesEnd → Type 0
TellsUses b user count written (Ok uses) =
    (bad : ℕ → Stepped) (number : ℕ) (rest : List Use → Stepped) → uses_step b user count bad number written rest ≡ rest uses
TellsUses b user count written (Err uses_ends.Shape) =
    (bad : ℕ → Stepped) (number : ℕ) (rest : List Use → Stepped) → uses_step b user count bad number written rest ≡ Err (faults.Shape number)
TellsUses b user count written (Err (uses_ends.Bad bad_one)) =
    (bad : ℕ → Stepped) (number : ℕ) (rest : List Use → Stepped) → uses_step b user count bad number written rest ≡ bad bad_one
TellsUses b user count written (Err uses_ends.Memory) = Unit {0}

-- an answer is how the text ends in this state, which ends so alone; want of memory says nothing
abbrev pub TellsEnd : Circuit → State → ℕ → Result Accepted AnswerEnd → Type 0
TellsEnd c s number (Ok accepted) =
    IsGoodAtEnd c s accepted × ((other : Accepted) → IsGoodAtEnd c s other → accepted ≡ other)
    × ((fault : AnswerFault) → IsFaultAtEnd c s number fault → ⊥)
TellsEnd c s number (Err (ends.Refused fault)) =
    IsFaultAtEnd c s number fault × ((other : AnswerFault) → IsFaultAtEnd c s number other → fault ≡ other)
    × ((accepted : Accepted) → IsGoodAtEnd c s accepted → ⊥)
TellsEnd c s number (Err ends.ReadFault) = ⊥
TellsEnd c s number (Err ends.Memory) = Unit {0}
