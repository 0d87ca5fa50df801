-- Texts by their names.
use Rattle.std.proofs.Common.{ℕ, ◌≡◌, List, [], ◌∷◌, true, false, cond, refl, Some, sym, ap, ◌∙◌}
use Rattle.std.specs.Prelude.{find, Vec, String, string_bytes, Option, option_map}
use Rattle.std.specs.Str.{bytes_eq}
use Rattle.std.specs.declared.alloc.Global.{Global}
use Rattle.edge.specs.InMemory.{text_of, named_texts}

-- the text of a name is that of the first pair that has it
pub text_of-find : (texts : List (String Global × Vec ℕ Global)) (name : List ℕ) → text_of (named_texts texts) name ≡ option_map (λ pair. pair.1.items) (find (λ pair. bytes_eq (string_bytes pair.0) name) texts)
text_of-find [] name = refl
text_of-find (pair ∷ texts) name =
    elim (bytes_eq (string_bytes pair.0) name) as (λ same. option_map (λ found. found.1) (cond same (Some (string_bytes pair.0, pair.1.items)) (find (λ found. bytes_eq found.0 name) (named_texts texts))) ≡ option_map (λ found. found.1.items) (cond same (Some pair) (find (λ found. bytes_eq (string_bytes found.0) name) texts))) [ true ↦ refl | false ↦ text_of-find texts name ]

-- the same of what a search gave
pub text_of-found : (texts : List (String Global × Vec ℕ Global)) (name : List ℕ) (found : Option (String Global × Vec ℕ Global)) → found ≡ find (λ pair. bytes_eq (string_bytes pair.0) name) texts → option_map (λ pair. pair.1.items) found ≡ text_of (named_texts texts) name
text_of-found texts name found is_found =
    ap (option_map (λ pair. pair.1.items)) is_found ∙ sym (text_of-find texts name)
