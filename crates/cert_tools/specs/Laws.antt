-- The laws of trimming.
use Rattle.std.specs.Prelude.{◌≡◌, ◌≤◌, ℕ, List, length}
use Rattle.aig_semantics.specs.Circuits.{Circuit}
use Rattle.answer_lines.specs.Left.{most_bytes}
use Rattle.certificate.specs.declared.loaded.Loaded.{Loaded}
use Rattle.certificate.specs.Loading.{HoldsAnswer, printed_text}
use Rattle.cert_tools.specs.Trimmed.{IsTrimmed}

-- what is printed of a trimmed answer has it, and so is a good answer, where it is within the limit
abbrev pub TrimmedIsGood : Circuit → Type 0
TrimmedIsGood c =
    (text : List ℕ) (loaded trimmed : Loaded) → HoldsAnswer c text loaded → IsTrimmed c loaded trimmed
    → length (printed_text trimmed) ≤ most_bytes → HoldsAnswer c (printed_text trimmed) trimmed

-- a trimmed answer stays as it is when it is trimmed
abbrev pub TrimmedStays : Circuit → Type 0
TrimmedStays c =
    (text : List ℕ) (loaded trimmed : Loaded) → HoldsAnswer c text loaded → IsTrimmed c loaded trimmed → IsTrimmed c trimmed trimmed

-- an answer is trimmed to one thing
abbrev pub OneTrimmed : Circuit → Type 0
OneTrimmed c = (loaded a b : Loaded) → IsTrimmed c loaded a → IsTrimmed c loaded b → a ≡ b

-- a text has one answer at most
abbrev pub OneHeld : Circuit → Type 0
OneHeld c = (text : List ℕ) (a b : Loaded) → HoldsAnswer c text a → HoldsAnswer c text b → a ≡ b
