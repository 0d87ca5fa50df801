-- The values of a line.
use Rattle.std.proofs.Common.{◌≡◌, ℕ, Bool, List, [], ◌∷◌, Some, None, Ok, Err, map, sym, refl, rules}
use Rattle.std.specs.Prelude.{Option, Result, IsSome, IfOk, IfSome, IfNone}
use Rattle.std.specs.List.{All}
use Rattle.std.proofs.lemmas.List.Elements.{All-cons, All-nil}
use Rattle.stimulus.specs.Texts.{value_of}
use Rattle.certificate.specs.Reading.{with_value, values_in}

both : (o : Option Bool) (rest : Option (List Bool)) (v : Bool) (vs : List Bool) → o ≡ Some v → rest ≡ Some vs → with_value o rest ≡ Some (v ∷ vs)
both o rest v vs a b = rw (a, b) refl

pub values_found : (line : List ℕ) (values : List Bool) → map value_of line ≡ map Some values → values_in line ≡ Some values
values_found [] [] h = refl
values_found [] (v ∷ vs) h = cc
values_found (character ∷ line) [] h = cc
values_found (character ∷ line) (v ∷ vs) h =
    let first : value_of character ≡ Some v = cc in
    let later : map value_of line ≡ map Some vs = cc in
    both (value_of character) (values_in line) v vs first (values_found line vs later)

lacks : (o : Option Bool) (rest : Option (List Bool)) → (IsSome o → rest ≡ None) → with_value o rest ≡ None
lacks None rest h = refl
lacks (Some v) rest h = let none : rest ≡ None = h (search rules) in rw none refl

pub values_none : (line : List ℕ) → (All (λ character. IsSome (value_of character)) line → ⊥) → values_in line ≡ None
values_none [] h = absurd (h (All-nil _))
values_none (character ∷ line) h =
    lacks (value_of character) (values_in line)
    (λ some. values_none line (λ all. h (All-cons (λ n. IsSome (value_of n)) character line some all)))

pub values_told : {E : Type 0} (line : List ℕ) (r : Result (Option (List Bool)) E)
    → IfOk r (λ read. IfSome read (λ values. map value_of line ≡ map Some values))
    → IfOk r (λ read. IfNone read (All (λ character. IsSome (value_of character)) line → ⊥))
    → IfOk r (λ values. values ≡ values_in line)
values_told line (Ok (Some values)) found none = sym (values_found line values found)
values_told line (Ok None) found none = sym (values_none line none)
values_told line (Err end) found none = tt
