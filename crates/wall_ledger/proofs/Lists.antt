-- Lists that are copied onto.
use Rattle.std.proofs.Common.{◌≡◌, ℕ, suc, ◌+◌, ◌-◌, ◌≤◌, List, [], ◌∷◌, ◌++◌, map, length, take, drop, refl, sym, ap, ◌∙◌, arith, append-nil}
use Rattle.std.proofs.lemmas.List.{take_all, length-append, length-map}

-- the elements that are missing of a list, behind those that are there
pub missing : {A B : Type 0} (f : A → B) (xs ys : List A) (rest : List B) → map f ys ≡ map f xs ++ rest
    → map f xs ++ map f (take (length ys - length xs) (drop (length xs) ys)) ≡ map f ys
missing {A} f [] ys rest e = ap (map f) (take_all (length ys - 0) ys (omega arith))
missing f (x ∷ xs) [] rest e = absurd cc
missing {A} {B} f (x ∷ xs) (y ∷ ys) rest e =
    let head : f y ≡ f x = cc in
    let tail : map f ys ≡ map f xs ++ rest = cc in
    let less : length (y ∷ ys) - length (x ∷ xs) ≡ length ys - length xs = omega arith in
    λ i. sym head i ∷ (ap (λ (n : ℕ). map f xs ++ map f (take n (drop (length xs) ys))) less ∙ missing f xs ys rest tail) i

-- nothing is missing of a list that is no longer
pub none_missing : {A B : Type 0} (f : A → B) (xs ys : List A) (rest : List B) → map f ys ≡ map f xs ++ rest → length ys ≤ length xs → map f xs ≡ map f ys
none_missing f xs ys [] e short = sym (e ∙ append-nil (map f xs))
none_missing f xs ys (r ∷ rest) e short =
    absurd (let a : length (map f ys) ≡ length (map f xs) + length (r ∷ rest) = ap length e ∙ length-append (map f xs) (r ∷ rest) in
    let b = length-map xs f in let c = length-map ys f in let d : length (r ∷ rest) ≡ suc (length rest) = refl in omega arith)
