-- Laws of the fields that a line has.
use Rattle.std.proofs.Common.{◌≡◌, ℕ, Bool, true, false, cond, eqb, List, [], ◌∷◌, Some, None, refl, ap, sym, ◌∙◌}
use Rattle.std.specs.List.{onto_first}
use Rattle.text_grammar.specs.Pieces.{fields}
use Rattle.proof_semantics.specs.Lines.{Line, at_end, size_in, is_byte, line_of, line_in, line_behind, deletion_of, addition_of, ◌>>=◌}

some_field : (line : Line) (byte : ℕ) (more : List (List ℕ)) → at_end line (onto_first byte more) ≡ None
some_field line byte [] = refl
some_field line byte (field ∷ more) = refl

some_field-at : (line : Line) (byte : ℕ) (more : List (List ℕ)) (b : Bool) → at_end line (cond b ([] ∷ more) (onto_first byte more)) ≡ None
some_field-at line byte more true = refl
some_field-at line byte more false = some_field line byte more

-- what is left has a field, if it is only an empty one
pub at_end_fields : (line : Line) (bytes : List ℕ) → at_end line (fields bytes) ≡ None
at_end_fields line [] = refl
at_end_fields line (byte ∷ bytes) = some_field-at line byte (fields bytes) (eqb byte 32)

-- a line that does not begin with an id
pub line_of-None : (bytes field : List ℕ) (more : List (List ℕ)) → fields bytes ≡ field ∷ more → size_in field ≡ None → line_of bytes ≡ None
unfolding line_of
line_of-None bytes field more e f = ap line_in e ∙ ap (λ o. o >>= λ n. line_behind n more) f

-- a line of an id alone
pub line_of-short : (bytes field : List ℕ) (more : List (List ℕ)) (id : ℕ) → fields bytes ≡ field ∷ more → size_in field ≡ Some id → more ≡ [] → line_of bytes ≡ None
unfolding line_of
line_of-short bytes field more id e f none =
    ap line_in e ∙ ap (λ o. o >>= λ n. line_behind n more) f ∙ ap (line_behind id) none

-- a line of an id and a word, and what follows these
behind_at : (id : ℕ) (word : List ℕ) (more : List (List ℕ)) (b : Bool) → is_byte 100 word ≡ b
    → line_behind id (word ∷ more) ≡ cond b (deletion_of id more) (addition_of id (word ∷ more))
behind_at id word more b e = ap (λ t. cond t (deletion_of id more) (addition_of id (word ∷ more))) e

line_of-behind : (bytes field word : List ℕ) (rest more : List (List ℕ)) (id : ℕ) (b : Bool) → fields bytes ≡ field ∷ rest → size_in field ≡ Some id
    → rest ≡ word ∷ more → is_byte 100 word ≡ b → line_of bytes ≡ cond b (deletion_of id more) (addition_of id (word ∷ more))
unfolding line_of
line_of-behind bytes field word rest more id b e f g h =
    ap line_in e ∙ ap (λ o. o >>= λ n. line_behind n rest) f ∙ ap (line_behind id) g ∙ behind_at id word more b h

pub line_of-deletion : (bytes field word : List ℕ) (rest more : List (List ℕ)) (id : ℕ) → fields bytes ≡ field ∷ rest → size_in field ≡ Some id
    → rest ≡ word ∷ more → is_byte 100 word ≡ true → line_of bytes ≡ deletion_of id more
line_of-deletion bytes field word rest more id e f g h = line_of-behind bytes field word rest more id true e f g h

pub line_of-addition : (bytes field word : List ℕ) (rest more : List (List ℕ)) (id : ℕ) → fields bytes ≡ field ∷ rest → size_in field ≡ Some id
    → rest ≡ word ∷ more → is_byte 100 word ≡ false → line_of bytes ≡ addition_of id rest
line_of-addition bytes field word rest more id e f g h =
    line_of-behind bytes field word rest more id false e f g h ∙ ap (addition_of id) (sym g)
