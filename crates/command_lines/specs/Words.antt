-- The words of the command line, by what `clap` makes of them. The first word is the program's own name.
use Rattle.std.specs.Prelude.{◌≡◌, ◌≤◌, ◌⊎◌, ℕ, Bool, false, List, map, codes, Option, None, Some, unwrap_or, option_map, String, string_bytes, true}
use Rattle.std.specs.Str.{bytes_eq}
use Rattle.std.specs.Str.Parse.{IsNumeral, digits_value, without_leading_plus}
use Rattle.std.specs.declared.alloc.Global.{Global}
use Rattle.clap.specs.Walk.{Rule, Row, first_of}
use Rattle.clap.specs.Simple.{new_rule}
use Rattle.clap.specs.declared.builder.action.ArgAction.TheVariants.{SetTrue}
use Rattle.clap.specs.declared.builder.value_parser.ValueParser.TheVariants.{Unsigned}

abbrev pub bytes_of : List (String Global) → List (List ℕ)
bytes_of words = map string_bytes words

-- What a command takes.

-- a value that a command wants
abbrev pub wanted : List ℕ → Rule
wanted name = record (new_rule name) { required = true }

-- a number, from the low one to the high one, that a command wants
abbrev pub wanted_number : List ℕ → ℕ → ℕ → Rule
wanted_number name low high = record (wanted name) { parser = Some (Unsigned low high) }

-- an option that has a number, from the low one to the high one
abbrev pub number_option : List ℕ → ℕ → ℕ → Rule
number_option name low high = record (new_rule name) { long = Some name; parser = Some (Unsigned low high) }

-- an option that has a text
abbrev pub text_option : List ℕ → Rule
text_option name = record (new_rule name) { long = Some name }

-- an option without a value
abbrev pub flag : List ℕ → Rule
flag name = record (new_rule name) { long = Some name; action = Some SetTrue }

-- What it is given.

-- this text is given under the name; an empty text is one, too
abbrev pub IsGiven : List Row → List ℕ → List ℕ → Type 0
IsGiven rows name text = first_of name rows ≡ Some text

-- the text that is given under the name, if one is
abbrev pub given_in : List Row → List ℕ → Option (List ℕ)
given_in rows name = first_of name rows

-- the text is this number in decimal, from the low one to the high one; a plus sign and zeros may stand in front
pub record IsNumberIn (low high : ℕ) (text : List ℕ) (n : ℕ) : Type 0 where
  pub numeral : IsNumeral 10 (without_leading_plus text)
  pub value : digits_value 10 (without_leading_plus text) ≡ n
  pub least : low ≤ n
  pub most : n ≤ high

-- this number, from the low one to the high one, is given under the name
abbrev pub IsNumberGiven : List Row → List ℕ → ℕ → ℕ → ℕ → Type 0
IsNumberGiven rows name low high n = (text : List ℕ) × IsGiven rows name text × IsNumberIn low high text n

-- the number that is given under the name, from the low one to the high one, or the default where none is given
abbrev pub IsNumberOr : List Row → List ℕ → ℕ → ℕ → ℕ → ℕ → Type 0
IsNumberOr rows name low high default n =
    ((first_of name rows ≡ None) × (n ≡ default)) ⊎ IsNumberGiven rows name low high n

-- the flag is on, for which `clap` gives the text `true`
abbrev pub flag_in : List Row → List ℕ → Bool
flag_in rows name = unwrap_or (option_map (λ text. bytes_eq text (codes "true")) (first_of name rows)) false
