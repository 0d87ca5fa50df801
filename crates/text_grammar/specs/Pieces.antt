-- A text cut at a byte.
use Rattle.std.specs.Prelude.{◌≡◌, ◌≢◌, ℕ, List, ◌∷◌, ◌++◌, All, ◌==◌}
use Rattle.std.specs.List.{slice_split}

-- the byte does not stand in the text
abbrev pub Lacks : List ℕ → ℕ → Type 0
Lacks bytes byte = All (λ b. b ≢ byte) bytes

-- piece stands in front of the first such byte of bytes, and rest follows that byte
pub record IsCut (byte : ℕ) (piece bytes rest : List ℕ) : Type 0 where
  pub spelled : bytes ≡ piece ++ byte ∷ rest
  pub first : Lacks piece byte

-- the pieces of a text between the bytes of this value, one piece where there is no such byte
abbrev pub cut_at : ℕ → List ℕ → List (List ℕ)
cut_at byte bytes = slice_split (λ b. b == byte) bytes

-- the fields of a line, which single spaces separate
abbrev pub fields : List ℕ → List (List ℕ)
fields line = cut_at 32 line
