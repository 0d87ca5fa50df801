-- A shelf and a sink in memory, as contracts see them. Their calls are numbered from 1.
use Rattle.std.specs.Prelude.{ℕ, Bool, if◌then◌else◌, List, ◌≡◌, ◌++◌, map, ◌⊎◌, Contains, IsTrue, Option, option_map, IsNone, find, Vec, String, string_bytes}
use Rattle.std.specs.Str.{bytes_eq}
use Rattle.std.specs.declared.alloc.Global.{Global}
use Rattle.edge.specs.Faults.{one_more}

-- a text with its name in front
abbrev pub NamedText : Type 0
NamedText = List ℕ × List ℕ

-- a shelf in memory
pub record ShelfInMemory : Type 0 where
  pub texts : List NamedText
  -- the greatest number of bytes that a call gives
  pub most : ℕ
  -- the numbers of the calls that fail
  pub failing : List ℕ
  -- how many calls there were, and how many of them failed
  pub calls : ℕ
  pub faults : ℕ

-- the shelf after one more call, which failed or did not
abbrev pub counted_read : ShelfInMemory → Bool → ShelfInMemory
counted_read shelf failed = record shelf {
  calls = one_more shelf.calls;
  faults = if failed then one_more shelf.faults else shelf.faults;
}

-- the text of the first pair with that name
abbrev pub text_of : List NamedText → List ℕ → Option (List ℕ)
text_of texts name = option_map (λ pair. pair.1) (find (λ pair. bytes_eq pair.0 name) texts)

-- the next call is one that fails, or the name is missing
abbrev pub IsRefused : ShelfInMemory → List ℕ → Type 0
IsRefused shelf name = Contains shelf.failing (one_more shelf.calls) ⊎ IsNone (text_of shelf.texts name)

-- one more call, of this name, which failed or did not, makes this of the shelf; it fails only where it is one that is refused
abbrev pub ReadsOnce : ShelfInMemory → List ℕ → Bool → ShelfInMemory → Type 0
ReadsOnce old name failed new = (new ≡ counted_read old failed) × (IsTrue failed → IsRefused old name)

-- each text with its name, as contracts see them
abbrev pub named_texts : List (String Global × Vec ℕ Global) → List NamedText
named_texts texts = map (λ pair. (string_bytes pair.0, pair.1.items)) texts

-- a sink in memory
pub record SinkInMemory : Type 0 where
  -- the bytes that it took
  pub bytes : List ℕ
  -- the greatest number of bytes that a call takes
  pub most : ℕ
  -- the numbers of the calls that fail
  pub failing : List ℕ
  -- how many calls there were, and how many of them failed
  pub calls : ℕ
  pub faults : ℕ

-- the sink after one more call, which failed or else took these bytes
abbrev pub counted_write : SinkInMemory → Bool → List ℕ → SinkInMemory
counted_write sink failed taken = record sink {
  bytes = if failed then sink.bytes else sink.bytes ++ taken;
  calls = one_more sink.calls;
  faults = if failed then one_more sink.faults else sink.faults;
}

-- one more call, which failed or did not, makes this of the sink
abbrev pub WritesOnce : SinkInMemory → Bool → SinkInMemory → Type 0
WritesOnce old failed new = (taken : List ℕ) × (new ≡ counted_write old failed taken)
