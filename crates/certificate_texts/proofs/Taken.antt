-- Values taken one behind the other: what was taken before, and what is still taken.
use Rattle.std.proofs.Common.{◌≡◌, ℕ, suc, ◌-◌, ◌+◌, ◌<◌, ◌≤◌, List, [], ◌∷◌, ◌++◌, length, drop, get_or, Option, Some, None, refl, sym, ap, ◌∙◌, append_assoc, arith}
use Rattle.std.specs.Prelude.{option_map, option_and_then}
use Rattle.std.proofs.lemmas.List.{append-nil, drop_more, drop_all}
use Rattle.fair_semantics.specs.declared.entries.Use.{Use}
use Rattle.certificate_lines.specs.declared.uses.WrittenUse.{WrittenUse}
use Rattle.certificate_texts.specs.declared.taking.TakeEnd.{TakeEnd}
use Rattle.certificate_texts.specs.declared.taking.TakeEnd.TheVariants as ends
use Rattle.certificate_texts.specs.Taking.{Taker, ◌>>=◌, many, use_in, named, FailsAs}

abbrev pub with_front : {A : Type 0} → List A → Option (List A × List (List ℕ)) → Option (List A × List (List ℕ))
with_front front taken = taken >>= λ xs rest. Some (front ++ xs, rest)

regroup : {A : Type 0} (front : List A) (x : A) (taken : Option (List A × List (List ℕ))) → with_front front (taken >>= λ xs rest. Some (x ∷ xs, rest)) ≡ with_front (front ++ x ∷ []) taken
regroup front x (Some y) = ap (λ xs. Some (xs, y.1)) (simp append_assoc)
regroup front x None = refl

nothing_more : {A : Type 0} (front : List A) (lines : List (List ℕ)) → with_front front (Some ([], lines)) ≡ Some (front, lines)
nothing_more front lines = ap (λ xs. Some (xs, lines)) (append-nil front)

pub goes_on : {A : Type 0} (take : Taker A) (front : List A) (count i : ℕ) (lines : List (List ℕ)) (x : A) (after : List (List ℕ)) (total : Option (List A × List (List ℕ))) → i < count → take lines ≡ Some (x, after)
    → with_front front (many take (count - i) lines) ≡ total → with_front (front ++ x ∷ []) (many take (count - (i + 1)) after) ≡ total
unfolding many
goes_on take front count i lines x after total lt h so_far =
    let k : count - i ≡ suc (count - (i + 1)) = omega arith in
    let one : with_front front (many take (count - i) lines) ≡ with_front (front ++ x ∷ []) (many take (count - (i + 1)) after) = rw (k, h) (regroup front x (many take (count - (i + 1)) after)) in
    sym one ∙ so_far

pub ends_so : {A : Type 0} (e : TakeEnd) (take : Taker A) (front : List A) (count i : ℕ) (lines : List (List ℕ)) (total : Option (List A × List (List ℕ))) → i < count → FailsAs e (take lines)
    → with_front front (many take (count - i) lines) ≡ total → FailsAs e total
unfolding many
ends_so ends.Memory take front count i lines total lt h so_far = tt
ends_so ends.Form take front count i lines total lt h so_far =
    let k : count - i ≡ suc (count - (i + 1)) = omega arith in
    let one : with_front front (many take (count - i) lines) ≡ None = rw (k, h) refl in
    sym so_far ∙ one

pub is_done : {A : Type 0} (take : Taker A) (front : List A) (count i : ℕ) (lines : List (List ℕ)) (total : Option (List A × List (List ℕ))) → count ≤ i → with_front front (many take (count - i) lines) ≡ total → total ≡ Some (front, lines)
unfolding many
is_done take front count i lines total le so_far =
    let k : count - i ≡ 0 = omega arith in
    let one : with_front front (many take (count - i) lines) ≡ Some (front, lines) = rw k (nothing_more front lines) in
    sym so_far ∙ one

-- ---- uses

-- what was named before, in front of what is still named
abbrev pub behind : List Use → Option (List Use) → Option (List Use)
behind front None = None
behind front (Some us) = Some (front ++ us)

behind_one : (front : List Use) (u : Use) (more : Option (List Use)) → behind front (option_map (λ us. u ∷ us) more) ≡ behind (front ++ u ∷ []) more
behind_one front u None = refl
behind_one front u (Some us) = ap (λ (xs : List Use). Some xs) (sym (append_assoc front (u ∷ []) us))

split_at : (written : List WrittenUse) (i : ℕ) (d : WrittenUse) (found : Option Use) → i < length written → use_in (get_or written i d) ≡ found
    → named (drop i written) ≡ option_and_then (λ first. option_map (λ more. first ∷ more) (named (drop (i + 1) written))) found
unfolding named
split_at written i d found below is =
    ap named (drop_more written i d below) ∙ ap (option_and_then (λ first. option_map (λ more. first ∷ more) (named (drop (i + 1) written)))) is

pub named_next : (front : List Use) (written : List WrittenUse) (i : ℕ) (d : WrittenUse) (x : Use) (total : Option (List Use)) → i < length written → use_in (get_or written i d) ≡ Some x
    → behind front (named (drop i written)) ≡ total → behind (front ++ x ∷ []) (named (drop (i + 1) written)) ≡ total
named_next front written i d x total below is so_far =
    sym (behind_one front x (named (drop (i + 1) written))) ∙ ap (behind front) (sym (split_at written i d (Some x) below is)) ∙ so_far

pub named_none : (front : List Use) (written : List WrittenUse) (i : ℕ) (d : WrittenUse) (total : Option (List Use)) → i < length written → use_in (get_or written i d) ≡ None
    → behind front (named (drop i written)) ≡ total → total ≡ None
named_none front written i d total below is so_far = sym so_far ∙ ap (behind front) (split_at written i d None below is)

pub named_done : (front : List Use) (written : List WrittenUse) (i : ℕ) (total : Option (List Use)) → length written ≤ i → behind front (named (drop i written)) ≡ total → total ≡ Some front
unfolding named
named_done front written i total past so_far =
    sym so_far ∙ ap (λ us. behind front (named us)) (drop_all i written past) ∙ ap (λ (xs : List Use). Some xs) (append-nil front)
