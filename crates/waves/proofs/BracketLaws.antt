-- The bracket of a bit, place by place.
use Rattle.std.proofs.Common.{◌≡◌, ℕ, ◌+◌, ◌-◌, ◌<◌, ◌≤◌, ◌==◌, List, [], ◌∷◌, length, take, drop, get_or, refl, sym, ap, ◌∙◌, if◌then◌else◌, Option, None, arith}
use Rattle.std.proofs.lemmas.List.{drop_more, drop_all, take_all, length-drop}
use Rattle.waves.specs.Buses.{index_in, at_place, bracket_from, bracket_in}

pub bracket_start : (name : List ℕ) → bracket_from 1 (drop 1 name) ≡ bracket_in name
unfolding bracket_from
bracket_start [] = refl
bracket_start (byte ∷ name) = refl

-- what a slice behind a place has
pub behind_place : (name : List ℕ) (n : ℕ) → take (length name - n) (drop n name) ≡ drop n name
behind_place name n = take_all (length name - n) (drop n name) (let e : length (drop n name) ≡ length name - n = length-drop n name in omega (arith, e))

-- an index behind the byte at place k, or else what is found behind it
pub bracket_on : (name : List ℕ) (k d byte : ℕ) (rest : List ℕ) (index : Option ℕ) → k < length name
    → index ≡ (if byte == 91 then index_in rest else None) → byte ≡ get_or name k d → rest ≡ drop (k + 1) name
    → bracket_from k (drop k name) ≡ at_place k index (bracket_from (k + 1) (drop (k + 1) name))
unfolding bracket_from
bracket_on name k d byte rest index inside e is same =
    let later = bracket_from (k + 1) (drop (k + 1) name) in
    ap (bracket_from k) (drop_more name k d inside)
    ∙ ap (λ b. at_place k (if b == 91 then index_in (drop (k + 1) name) else None) later) (sym is)
    ∙ ap (λ (x : List ℕ). at_place k (if byte == 91 then index_in x else None) later) (sym same)
    ∙ ap (λ i. at_place k i later) (sym e)

pub bracket_done : (name : List ℕ) (k : ℕ) → length name ≤ k → bracket_from k (drop k name) ≡ None
unfolding bracket_from
bracket_done name k le = ap (bracket_from k) (drop_all k name le)
