-- The command `convert MODEL ANSWER`: what it gives.
use Rattle.std.specs.Prelude.{◌≡◌, ℕ, List, Option}
use Rattle.aig_semantics.specs.Circuits.{Circuit}
use Rattle.certificate.specs.declared.loaded.Loaded.{Loaded}
use Rattle.certificate.specs.Answers.{IsGood}
use Rattle.certificate.specs.Loading.{HoldsAnswer, accepted_of, printed_text}
use Rattle.plain_commands.specs.declared.status.Status.{Status}
use Rattle.plain_commands.specs.Remade.{GivesRemade}

-- The text is the answer's conversion: of what the answer has, a certificate in version 2, or the stimulus. Both are good
-- answers for the same: for one property, and with the same positions and place, or the same number of entries.
pub record IsConversion (c : Circuit) (claimed text : List ℕ) : Type 0 where
  pub loaded : Loaded
  pub has : HoldsAnswer c claimed loaded
  pub printed : text ≡ printed_text loaded
  pub good : IsGood c claimed (accepted_of loaded)
  pub good_again : IsGood c text (accepted_of loaded)

abbrev pub GivesConvert : Option (List ℕ) → Option (List ℕ) → Status → List ℕ → Type 0
GivesConvert model answer status text = GivesRemade IsConversion model answer status text
