-- The command `trim MODEL ANSWER`: what it gives.
use Rattle.std.specs.Prelude.{◌≡◌, ℕ, List, Option}
use Rattle.aig_semantics.specs.Circuits.{Circuit}
use Rattle.certificate.specs.declared.loaded.Loaded.{Loaded}
use Rattle.certificate.specs.Answers.{IsGood}
use Rattle.certificate.specs.Loading.{HoldsAnswer, accepted_of, printed_text}
use Rattle.cert_tools.specs.Trimmed.{IsTrimmed}
use Rattle.plain_commands.specs.declared.status.Status.{Status}
use Rattle.plain_commands.specs.Remade.{GivesRemade}

-- the text is that of what the answer has, trimmed
abbrev pub IsTrimmedText : Circuit → List ℕ → List ℕ → Type 0
IsTrimmedText c claimed text =
    (loaded : Loaded) × (trimmed : Loaded) × HoldsAnswer c claimed loaded × IsTrimmed c loaded trimmed × (text ≡ printed_text trimmed)

-- The text is the answer's trimming: that of what the answer has, trimmed. It is a good answer for the same property; and
-- trimmed again it is the same text, and no other.
pub record IsTrimming (c : Circuit) (claimed text : List ℕ) : Type 0 where
  pub loaded : Loaded
  pub has : HoldsAnswer c claimed loaded
  pub trimmed : Loaded
  pub trims : IsTrimmed c loaded trimmed
  pub printed : text ≡ printed_text trimmed
  pub good_again : IsGood c text (accepted_of trimmed)
  pub again : IsTrimmedText c text text
  pub only : (other : List ℕ) → IsTrimmedText c text other → other ≡ text

abbrev pub GivesTrim : Option (List ℕ) → Option (List ℕ) → Status → List ℕ → Type 0
GivesTrim model answer status text = GivesRemade IsTrimming model answer status text
