-- What a command says of MODEL's text, and of ANSWER's.
use Rattle.std.specs.Prelude.{◌≡◌, ℕ, List, Option, Some}
use Rattle.edge.specs.Told.{MayBe}
use Rattle.plain_commands.specs.declared.status.Status.{Status}
use Rattle.plain_commands.specs.declared.status.Status.TheVariants.{BadModel}
use Rattle.circuit.specs.declared.faults.ModelFault.{ModelFault}
use Rattle.plain_commands.specs.ModelTexts.{IsBadModel}

-- How a text is taken of which a shelf tells so much.
abbrev pub Taking : Type 1
Taking = Option (List ℕ) → (List ℕ → Type 0) → Type 0

-- the text is told, and the claim holds of it
abbrev pub OfText : Taking
OfText told Claim = (text : List ℕ) × (told ≡ Some text) × Claim text

-- the claim holds of what the text may be, which is the text where it is told
abbrev pub OfSomeText : Taking
OfSomeText told Claim = (text : List ℕ) × MayBe told text × Claim text

-- MODEL is the text of no model, and the status says its first fault
abbrev pub SaysBadModel : Taking → Option (List ℕ) → Status → Type 0
SaysBadModel Of model status = (fault : ModelFault) × (status ≡ BadModel fault) × Of model (λ text. IsBadModel text fault)
