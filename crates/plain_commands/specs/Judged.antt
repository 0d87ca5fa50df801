-- Scaffolding of inner functions: what the model says, from which a check is judged.
use Rattle.std.specs.Prelude.{◌≡◌, ℕ, List, Option, Some}
use Rattle.circuit.specs.declared.faults.ModelFault.{ModelFault}
use Rattle.aiger_grammar.specs.Models.{Model}
use Rattle.aiger_grammar.specs.BothForms.{SameFault}
use Rattle.plain_commands.specs.declared.status.Status.{Status}
use Rattle.plain_commands.specs.declared.status.Status.TheVariants as statuses
use Rattle.plain_commands.specs.ModelTexts.{IsModelText, IsBadModel}
use Rattle.plain_commands.specs.ModelGiven.{OfSomeText}

-- m is the one model whose text MODEL is
pub record IsModelOf (told : Option (List ℕ)) (m : Model) : Type 0 where
  pub text : OfSomeText told (IsModelText m)
  pub one : (text : List ℕ) (n : Model) → told ≡ Some text → IsModelText n text → m ≡ n
  pub faultless : (text : List ℕ) (fault : ModelFault) → told ≡ Some text → IsBadModel text fault → ⊥

-- MODEL is the text of no model, for this fault
pub record IsFaultOf (told : Option (List ℕ)) (fault : ModelFault) : Type 0 where
  pub text : OfSomeText told (λ text. IsBadModel text fault)
  pub one : (text : List ℕ) (other : ModelFault) → told ≡ Some text → IsBadModel text other → SameFault fault other
  pub none : (text : List ℕ) (m : Model) → told ≡ Some text → IsModelText m text → ⊥

-- a run may end with this status where it has no model
abbrev pub EndsWithoutModel : Option (List ℕ) → Status → Type 0
EndsWithoutModel told (statuses.BadModel fault) = IsFaultOf told fault
EndsWithoutModel told statuses.ReadFault = Unit {0}
EndsWithoutModel told statuses.Memory = Unit {0}
EndsWithoutModel told _ = ⊥
