-- Packed states are told apart, and the first place of each is kept.
use Rattle.std.proofs.Common.{◌≡◌, ◌≢◌, ℕ, zero, suc, ◌+◌, ◌^◌, ◌<◌, ◌≤◌, ◌⊎◌, inl, inr, Bool, true, false, List, [], ◌∷◌, ◌++◌, length, subst, refl, sym, ap, ◌∙◌, Option, Some, None, unwrap_or, slice_get, if◌then◌else◌, arith}
use Rattle.std.specs.Bool.{nat_eq}
use Rattle.std.proofs.lemmas.Option.{slice_get_within, same_Some}
use Rattle.std.proofs.lemmas.Map.Lookups.{exact_bytes}
use Rattle.std.specs.declared.cmp.Ordering.{Ordering}
use Rattle.std.specs.declared.cmp.Ordering.TheVariants.{Less, Equal, Greater}
use Rattle.std.specs.Ordering.{nat_cmp, is_eq, match_ordering}
use Rattle.std.specs.Cmp.Lexicographic.{slice_cmp}
use Rattle.std.specs.Map.{lookup}
use Rattle.std.specs.BTreeMap.{BTreeMap, insert_entry}
use Rattle.std.specs.declared.vec.Vec.{Vec}
use Rattle.std.specs.declared.alloc.Global.{Global}
use Rattle.stimulus.specs.Places.{with_bit, packed_behind, packed, place_at}

with_bit-apart : (a b : ℕ) (u v : Bool) → with_bit a u ≡ with_bit b v → (a ≡ b) × (u ≡ v)
with_bit-apart a b false false e = (omega arith, refl)
with_bit-apart a b false true e = absurd (omega arith)
with_bit-apart a b true false e = absurd (omega arith)
with_bit-apart a b true true e = (omega arith, refl)

-- one value more
behind_apart : (t : Bool) (a b count : ℕ) (x y : Bool) (xs ys : List Bool)
    → ((a b count : ℕ) → packed_behind a count xs ≡ packed_behind b count ys → (a ≡ b) × (xs ≡ ys))
    → (if t then with_bit a x ∷ packed_behind 0 0 xs else packed_behind (with_bit a x) (count + 1) xs) ≡ (if t then with_bit b y ∷ packed_behind 0 0 ys else packed_behind (with_bit b y) (count + 1) ys)
    → (a ≡ b) × (x ∷ xs ≡ y ∷ ys)
behind_apart true a b count x y xs ys later e =
    let first = with_bit-apart a b x y (cc) in
    let others = later 0 0 0 (cc) in
    let value = first.1 in
    let values = others.1 in
    (first.0, cc)
behind_apart false a b count x y xs ys later e =
    let others = later (with_bit a x) (with_bit b y) (count + 1) e in
    let first = with_bit-apart a b x y others.0 in
    let value = first.1 in
    let values = others.1 in
    (first.0, cc)

packed_behind-apart : (a b count : ℕ) (xs ys : List Bool) → length xs ≡ length ys → packed_behind a count xs ≡ packed_behind b count ys → (a ≡ b) × (xs ≡ ys)
packed_behind-apart a b count [] [] e h = (cc, refl)
packed_behind-apart a b count [] (y ∷ ys) e h = absurd (omega arith)
packed_behind-apart a b count (x ∷ xs) [] e h = absurd (omega arith)
packed_behind-apart a b count (x ∷ xs) (y ∷ ys) e h =
    behind_apart (nat_eq count 7) a b count x y xs ys (λ a b count g. packed_behind-apart a b count xs ys (omega arith) g) h

-- states of one width are told apart
pub packed-apart : (xs ys : List Bool) → length xs ≡ length ys → packed xs ≡ packed ys → xs ≡ ys
packed-apart xs ys e h = (packed_behind-apart 0 0 0 xs ys e h).1

same_or_not : (xs ys : List Bool) → (xs ≡ ys) ⊎ (xs ≢ ys)
same_or_not [] [] = inl refl
same_or_not [] (y ∷ ys) = inr (λ e. cc)
same_or_not (x ∷ xs) [] = inr (λ e. cc)
same_or_not (x ∷ xs) (y ∷ ys) = with_first x y xs ys (same_or_not xs ys)
  where
    with_first : (x y : Bool) (xs ys : List Bool) → (xs ≡ ys) ⊎ (xs ≢ ys) → (x ∷ xs ≡ y ∷ ys) ⊎ (x ∷ xs ≢ y ∷ ys)
    with_first true true xs ys (inl e) = inl (ap (λ z. true ∷ z) e)
    with_first false false xs ys (inl e) = inl (ap (λ z. false ∷ z) e)
    with_first true false xs ys (inl e) = inr (λ h. cc)
    with_first false true xs ys (inl e) = inr (λ h. cc)
    with_first x y xs ys (inr apart) = inr (λ h. apart (cc))

-- one element more at the end
get_left : {X : Type 0} (xs : List X) (y : X) (k : ℕ) (x : X) → slice_get xs k ≡ Some x → slice_get (xs ++ y ∷ []) k ≡ Some x
get_left [] y k x e = cc
get_left (z ∷ xs) y zero x e = e
get_left (z ∷ xs) y (suc k) x e = get_left xs y k x e

get_last : {X : Type 0} (xs : List X) (y : X) → slice_get (xs ++ y ∷ []) (length xs) ≡ Some y
get_last [] y = refl
get_last (z ∷ xs) y = get_last xs y

get_back : {X : Type 0} (xs : List X) (y : X) (k : ℕ) (x : X) → slice_get (xs ++ y ∷ []) k ≡ Some x → (slice_get xs k ≡ Some x) ⊎ ((k ≡ length xs) × (x ≡ y))
get_back [] y zero x e = inr (refl, sym (same_Some y x e))
get_back [] y (suc k) x e = cc
get_back (z ∷ xs) y zero x e = inl e
get_back (z ∷ xs) y (suc k) x e =
    elim (get_back xs y k x e) [ inl h ↦ inl h | inr h ↦ inr (omega (arith, h.0), h.1) ]

-- the first place of each state of this width is kept
pub record IsPlaceMap (width : ℕ) (states : List (List Bool)) (places : BTreeMap (Vec ℕ Global) ℕ) : Type 0 where
  pub found : (state : List Bool) (p : ℕ) → length state ≡ width → place_at places (packed state) ≡ Some p → slice_get states p ≡ Some state
  pub least : (state : List Bool) (p r : ℕ) → length state ≡ width → place_at places (packed state) ≡ Some p → slice_get states r ≡ Some state → p ≤ r
  pub met : (state : List Bool) (r : ℕ) → length state ≡ width → slice_get states r ≡ Some state → place_at places (packed state) ≢ None

pub IsPlaceMap-none : (width : ℕ) (places : BTreeMap (Vec ℕ Global) ℕ) → ((key : List ℕ) → place_at places key ≡ None) → IsPlaceMap width [] places
IsPlaceMap-none width places empty = record {
  found = λ state p fits e. let f = empty (packed state) in cc;
  least = λ state p r fits e at. cc;
  met = λ state r fits at. cc;
}

module _ (width : ℕ) (states : List (List Bool)) (now : List Bool) (place : ℕ) (old new : BTreeMap (Vec ℕ Global) ℕ)
    (fits_now : length now ≡ width) (is : place ≡ length states)
    (there : place_at new (packed now) ≡ Some (unwrap_or (place_at old (packed now)) place))
    (others : (key : List ℕ) → key ≢ packed now → place_at new key ≡ place_at old key)
    (h : IsPlaceMap width states old) where
  -- another state's place stays
  other_place : (state : List Bool) → length state ≡ width → state ≢ now → place_at new (packed state) ≡ place_at old (packed state)
  other_place state fits apart = others (packed state) (λ e. apart (packed-apart state now (fits ∙ sym fits_now) e))

  -- this state's place was kept before, or is the new one
  now_cases : (o : Option ℕ) → place_at old (packed now) ≡ o → (p : ℕ) → place_at new (packed now) ≡ Some p → (place_at old (packed now) ≡ Some p) ⊎ ((place_at old (packed now) ≡ None) × (p ≡ place))
  now_cases (Some q) e p f =
      let same : Some (unwrap_or (Some q) place) ≡ Some p = sym (ap (λ o. Some (unwrap_or o place)) e) ∙ sym there ∙ f in
      inl (e ∙ same)
  now_cases None e p f =
      let same : Some (unwrap_or None place) ≡ Some p = sym (ap (λ o. Some (unwrap_or o place)) e) ∙ sym there ∙ f in
      inr (e, sym (same_Some place p same))

  found_now : (p : ℕ) → place_at new (packed now) ≡ Some p → slice_get (states ++ now ∷ []) p ≡ Some now
  found_now p f =
      elim (now_cases (place_at old (packed now)) refl p f) [
        | inl e ↦ get_left states now p now (h.found now p fits_now e)
        | inr e ↦ subst (λ k. slice_get (states ++ now ∷ []) k ≡ Some now) (sym (e.1 ∙ is)) (get_last states now)
      ]

  found_more : (state : List Bool) (p : ℕ) → length state ≡ width → place_at new (packed state) ≡ Some p → slice_get (states ++ now ∷ []) p ≡ Some state
  found_more state p fits f =
      elim (same_or_not state now) [
        | inl e ↦ ap (λ s. slice_get (states ++ now ∷ []) p) e ∙ found_now p (sym (ap (λ s. place_at new (packed s)) e) ∙ f) ∙ ap Some (sym e)
        | inr apart ↦ get_left states now p state (h.found state p fits (sym (other_place state fits apart) ∙ f))
      ]

  least_now : (p r : ℕ) → place_at new (packed now) ≡ Some p → slice_get (states ++ now ∷ []) r ≡ Some now → p ≤ r
  least_now p r f at =
      elim (now_cases (place_at old (packed now)) refl p f) [
        | inl e ↦ elim (get_back states now r now at) [
          | inl earlier ↦ h.least now p r fits_now e earlier
          | inr last ↦ omega (arith, slice_get_within states p now (h.found now p fits_now e), last.0)
        ]
        | inr e ↦ elim (get_back states now r now at) [
          | inl earlier ↦ absurd (h.met now r fits_now earlier e.0)
          | inr last ↦ omega (arith, last.0, e.1)
        ]
      ]

  least_more : (state : List Bool) (p r : ℕ) → length state ≡ width → place_at new (packed state) ≡ Some p → slice_get (states ++ now ∷ []) r ≡ Some state → p ≤ r
  least_more state p r fits f at =
      elim (same_or_not state now) [
        | inl e ↦ least_now p r (sym (ap (λ s. place_at new (packed s)) e) ∙ f) (at ∙ ap Some e)
        | inr apart ↦ elim (get_back states now r state at) [
          | inl earlier ↦ h.least state p r fits (sym (other_place state fits apart) ∙ f) earlier
          | inr last ↦ absurd (apart last.1)
        ]
      ]

  met_more : (state : List Bool) (r : ℕ) → length state ≡ width → slice_get (states ++ now ∷ []) r ≡ Some state → place_at new (packed state) ≢ None
  met_more state r fits at =
      elim (same_or_not state now) [
        | inl e ↦ λ none. let f = ap (λ s. place_at new (packed s)) e in cc
        | inr apart ↦ elim (get_back states now r state at) [
          | inl earlier ↦ λ none. h.met state r fits earlier (sym (other_place state fits apart) ∙ none)
          | inr last ↦ absurd (apart last.1)
        ]
      ]

  pub IsPlaceMap-push : IsPlaceMap width (states ++ now ∷ []) new
  IsPlaceMap-push = record { found = found_more; least = least_more; met = met_more }

-- ---- the bytes of a state, one after another

-- the bytes so far and those of the rest are those of the state
pub record IsPacking (key : List ℕ) (byte count : ℕ) (rest state : List Bool) : Type 0 where
  pub whole : key ++ packed_behind byte count rest ≡ packed state
  pub small : byte < 2 ^ count
  pub few : count < 8

-- ---- a place that is inserted

abbrev Key : Type 0
Key = Vec ℕ Global

is_other : (other items : List ℕ) → other ≢ items → is_eq (slice_cmp nat_cmp other items) ≡ false
is_other other items apart = by_order (slice_cmp nat_cmp other items) refl
  where
    by_order : (o : Ordering) → slice_cmp nat_cmp other items ≡ o → is_eq o ≡ false
    by_order Less e = refl
    by_order Equal e = absurd (apart (exact_bytes other items e))
    by_order Greater e = refl

lookup-insert_other : (other : List ℕ) (es : List (Key × ℕ)) (k : Key) (v : ℕ) → other ≢ k.items
    → lookup (λ key. is_eq (slice_cmp nat_cmp other key.items)) (insert_entry (λ x y. slice_cmp nat_cmp x.items y.items) es k v) ≡ lookup (λ key. is_eq (slice_cmp nat_cmp other key.items)) es
lookup-insert_other other [] k v apart = rw (is_other other k.items apart) refl
lookup-insert_other other (e ∷ es) k v apart = by_order (slice_cmp nat_cmp k.items e.0.items) refl (lookup-insert_other other es k v apart)
  where
    by_order : (o : Ordering) → slice_cmp nat_cmp k.items e.0.items ≡ o
        → lookup (λ key. is_eq (slice_cmp nat_cmp other key.items)) (insert_entry (λ x y. slice_cmp nat_cmp x.items y.items) es k v) ≡ lookup (λ key. is_eq (slice_cmp nat_cmp other key.items)) es
        → lookup (λ key. is_eq (slice_cmp nat_cmp other key.items)) (match_ordering o ((k, v) ∷ e ∷ es) ((e.0, v) ∷ es) (e ∷ insert_entry (λ x y. slice_cmp nat_cmp x.items y.items) es k v))
        ≡ lookup (λ key. is_eq (slice_cmp nat_cmp other key.items)) (e ∷ es)
    by_order Less is later = rw (is_other other k.items apart) refl
    by_order Equal is later = rw (is_other other e.0.items (λ same. apart (same ∙ sym (exact_bytes k.items e.0.items is)))) refl
    by_order Greater is later = ap (λ found. if is_eq (slice_cmp nat_cmp other e.0.items) then Some e.1 else found) later

pub place_at-insert_other : (old new : BTreeMap Key ℕ) (k : Key) (v : ℕ) (other : List ℕ) → other ≢ k.items
    → new.entries ≡ insert_entry (λ x y. slice_cmp nat_cmp x.items y.items) old.entries k v → place_at new other ≡ place_at old other
place_at-insert_other old new k v other apart e =
    ap (λ es. lookup (λ key. is_eq (slice_cmp nat_cmp other key.items)) es) e ∙ lookup-insert_other other old.entries k v apart
