-- Skeletons whose places lie on one side of each entry, and what becomes of them where a situation is put in the place
-- of another.
use Rattle.std.proofs.Common.{◌≡◌, ℕ, zero, suc, Bool, true, false, not, ◌&&◌, ◌||◌, List, [], ◌∷◌, ◌++◌, ◌⊎◌, inl, inr, refl, sym, ap, ◌∙◌, subst, set, length, map, get_or, ◌<◌, arith}
use Rattle.std.specs.List.{list_all}
use Rattle.std.proofs.Math.Path.{fun_ext}
use Rattle.std.proofs.lemmas.Bool.{and_from, and_parts}
use Rattle.proof_semantics.specs.Clauses.{bool_eq}
use Rattle.fair_semantics.specs.declared.entries.Kind.{Kind}
use Rattle.fair_semantics.specs.declared.entries.Kind.TheVariants.{Reach, Wall}
use Rattle.fair_semantics.specs.declared.skeletons.Situation.{Situation}
use Rattle.fair_semantics.specs.Allowing.{all_on, allows_by}
use Rattle.fair_semantics.specs.Entries.{Entry, set_at}
use Rattle.fair_semantics.specs.Validity.{set_behind}
use Rattle.fair_semantics.specs.declared.skeletons.Skeleton.{Skeleton}
use Rattle.fair_semantics.specs.Skeletons.{states_of, places, excludes}
use Rattle.fair_semantics.proofs.Sets.{sets_of-at, entry_at-place}

-- The state is one of these: what is true of all of them is true of it.
abbrev pub IsAmong : List Bool → List (List Bool) → Type 0
IsAmong s places = (p : List Bool → Bool) → list_all p places ≡ true → p s ≡ true

-- the side of a set on which all allowed places lie that have one at `from`
abbrev pub kept_side : Kind → (List Bool → Bool) → List Bool → Bool
kept_side Reach set from = true
kept_side Wall set from = set from

or-cases : (a b : Bool) → (a || b) ≡ true → (a ≡ true) ⊎ (b ≡ true)
or-cases true b h = inl refl
or-cases false b h = inr h

or-right : (a b : Bool) → b ≡ true → (a || b) ≡ true
or-right true b h = refl
or-right false b h = h

not-true : (b : Bool) → not b ≡ true → b ≡ false
not-true true h = sym h
not-true false h = refl

on-kept-wall : (set : List Bool → Bool) (from : List Bool) (places : List (List Bool)) → IsAmong from places
    → ((all_on true set places ≡ true) ⊎ (all_on false set places ≡ true)) → all_on (set from) set places ≡ true
on-kept-wall set from places among (inl on) =
    let inside : set from ≡ true = among (λ s. bool_eq true (set s)) on in
    subst (λ side. all_on side set places ≡ true) (sym inside) on
on-kept-wall set from places among (inr off) =
    let outside : set from ≡ false = not-true (set from) (among (λ s. bool_eq false (set s)) off) in
    subst (λ side. all_on side set places ≡ true) (sym outside) off

-- what is allowed lies on one side, that of each of its places
pub on-kept : (kind : Kind) (set : List Bool → Bool) (from : List Bool) (places : List (List Bool)) → IsAmong from places
    → allows_by kind set places ≡ true → all_on (kept_side kind set from) set places ≡ true
on-kept Reach set from places among h = h
on-kept Wall set from places among h = on-kept-wall set from places among (or-cases (all_on true set places) (all_on false set places) h)

wall-by : (set : List Bool → Bool) (places : List (List Bool)) (side : Bool) → all_on side set places ≡ true
    → (all_on true set places || all_on false set places) ≡ true
wall-by set places true h = ap (λ b. b || all_on false set places) h
wall-by set places false h = or-right (all_on true set places) (all_on false set places) h

pub kept-on : (kind : Kind) (set : List Bool → Bool) (from : List Bool) (places : List (List Bool))
    → all_on (kept_side kind set from) set places ≡ true → allows_by kind set places ≡ true
kept-on Reach set from places h = h
kept-on Wall set from places h = wall-by set places (set from) h

-- ---- places

-- every place of the new list is one of the old, or of the new situation
pub all-replaced : (p : List Bool → Bool) (situations : List Situation) (k : ℕ) (s : Situation)
    → list_all p (states_of situations) ≡ true → p s.position.latches ≡ true → p s.successor ≡ true
    → list_all p (states_of (set situations k s)) ≡ true
all-replaced p [] k s h here next = h
all-replaced p (x ∷ xs) zero s h here next =
    let parts = and_parts (p x.position.latches) (p x.successor && list_all p (states_of xs)) h in
    let later = and_parts (p x.successor) (list_all p (states_of xs)) parts.1 in
    and_from (p s.position.latches) (p s.successor && list_all p (states_of xs)) here
    (and_from (p s.successor) (list_all p (states_of xs)) next later.1)
all-replaced p (x ∷ xs) (suc k) s h here next =
    let parts = and_parts (p x.position.latches) (p x.successor && list_all p (states_of xs)) h in
    let later = and_parts (p x.successor) (list_all p (states_of xs)) parts.1 in
    and_from (p x.position.latches) (p x.successor && list_all p (states_of (set xs k s))) parts.0
    (and_from (p x.successor) (list_all p (states_of (set xs k s))) later.0 (all-replaced p xs k s later.1 here next))

pub state-among : (situations : List Situation) (k : ℕ) → k < length situations
    → IsAmong (get_or (map (λ s. s.position.latches) situations) k []) (states_of situations)
state-among [] k below p h = absurd (omega arith)
state-among (x ∷ xs) zero below p h =
    (and_parts (p x.position.latches) (p x.successor && list_all p (states_of xs)) h).0
state-among (x ∷ xs) (suc k) below p h =
    let parts = and_parts (p x.position.latches) (p x.successor && list_all p (states_of xs)) h in
    let later = and_parts (p x.successor) (list_all p (states_of xs)) parts.1 in
    state-among xs k (omega arith) p later.1

pub successor-among : (situations : List Situation) (k : ℕ) → k < length situations
    → IsAmong (get_or (map (λ s. s.successor) situations) k []) (states_of situations)
successor-among [] k below p h = absurd (omega arith)
successor-among (x ∷ xs) zero below p h =
    let parts = and_parts (p x.position.latches) (p x.successor && list_all p (states_of xs)) h in
    (and_parts (p x.successor) (list_all p (states_of xs)) parts.1).0
successor-among (x ∷ xs) (suc k) below p h =
    let parts = and_parts (p x.position.latches) (p x.successor && list_all p (states_of xs)) h in
    let later = and_parts (p x.successor) (list_all p (states_of xs)) parts.1 in
    successor-among xs k (omega arith) p later.1

-- ---- what is excluded

false-if : (b : Bool) → (b ≡ true → ⊥) → b ≡ false
false-if true h = absurd (h refl)
false-if false h = refl

true-not-false : (b : Bool) → b ≡ true → b ≡ false → ⊥
true-not-false b h k = let e : true ≡ false = sym h ∙ k in cc

pub wall-excludes : (set : List Bool → Bool) (places : List (List Bool)) (s t : List Bool) → IsAmong s places → IsAmong t places
    → set s ≡ true → set t ≡ false → allows_by Wall set places ≡ false
wall-excludes set places s t first second inside outside =
    false-if (allows_by Wall set places) (λ allowed.
    let on : all_on (set s) set places ≡ true = on-kept Wall set s places first allowed in
    let side : all_on true set places ≡ true = subst (λ b. all_on b set places ≡ true) inside on in
    true-not-false (set t) (second (λ u. bool_eq true (set u)) side) outside)

pub reach-excludes : (set : List Bool → Bool) (places : List (List Bool)) (t : List Bool) → IsAmong t places
    → set t ≡ false → allows_by Reach set places ≡ false
reach-excludes set places t among outside =
    false-if (allows_by Reach set places) (λ allowed. true-not-false (set t) (among (λ u. bool_eq true (set u)) allowed) outside)

-- the last entry of a list excludes what its set does not allow
pub last-excludes : (view : List Entry) (e : Entry) (skeleton : Skeleton) → allows_by e.kind (set_behind view e) (places skeleton) ≡ false
    → excludes (view ++ e ∷ []) (length view) skeleton ≡ true
last-excludes view e skeleton h =
    let same : set_at (view ++ e ∷ []) (length view) ≡ set_behind view e = fun_ext (sets_of-at view e []) in
    ap (λ (f : Entry). not (allows_by f.kind (set_at (view ++ e ∷ []) (length view)) (places skeleton))) (entry_at-place view e [])
    ∙ ap (λ (set : List Bool → Bool). not (allows_by e.kind set (places skeleton))) same
    ∙ ap not h
