-- Groups that are found by their places.
use Rattle.std.proofs.Common.{◌≡◌, ℕ, zero, suc, ◌<◌, ◌==◌, ◌&&◌, Bool, true, false, List, [], ◌∷◌, ◌++◌, length, get_or, refl, sym, ap, ◌∙◌, arith, cond, if◌then◌else◌, Option, Some, None, option_map, Result, Ok, Err}
use Rattle.std.specs.Prelude.{OnOk, OnErr}
use Rattle.std.specs.List.{slice_set}
use Rattle.std.specs.Map.{lookup}
use Rattle.std.specs.BTreeMap.{BTreeMap, get, is_at}
use Rattle.std.specs.Ordering.{is_eq}
use Rattle.std.specs.Str.{bytes_eq}
use Rattle.std.specs.declared.vec.Vec.{Vec}
use Rattle.std.specs.declared.alloc.Global.{Global}
use Rattle.std.proofs.lemmas.Bool.{false≢true, false_from_ne_true, and_parts, eqb-true}
use Rattle.std.proofs.lemmas.Slice.Eq.{bytes_eq-Decides}
use Rattle.waves.specs.declared.named.Named.{Named}
use Rattle.waves.specs.declared.groups.Member.{Member}
use Rattle.waves.specs.declared.groups.Group.{Group}
use Rattle.waves.specs.Buses.{first_of, alone, is_of, grown, joined}
use Rattle.waves.specs.Kept.{Key, key_cmp, place_of, ArePlaces, GrowsAt}
use Rattle.waves.proofs.SourceLaws.{keys_equal}

abbrev Text : Type 0
Text = Vec ℕ Global

some_is : (a b : ℕ) → ◌≡◌ {A = Option ℕ} (Some a) (Some b) → a ≡ b
some_is a b e = cc

none_some : (i : ℕ) → ◌≡◌ {A = Option ℕ} None (Some i) → ⊥
none_some i e = absurd (cc e)

abbrev next : Option ℕ → Option ℕ
next o = option_map (λ k. suc k) o

-- the place in the first list, or else one behind it
abbrev or_behind : Option ℕ → ℕ → Bool → Option ℕ
or_behind (Some k) many is = Some k
or_behind None many true = Some many
or_behind None many false = None

next_behind : (o : Option ℕ) (many : ℕ) (is : Bool) → next (or_behind o many is) ≡ or_behind (next o) (suc many) is
next_behind (Some k) many is = refl
next_behind None many true = refl
next_behind None many false = refl

-- one group more
place_push : (letter : ℕ) (base : List ℕ) (groups : List Group) (g : Group)
    → place_of letter base (groups ++ g ∷ []) ≡ or_behind (place_of letter base groups) (length groups) (is_of letter base g)
place_push letter base [] g = by (is_of letter base g)
  where
    by : (t : Bool) → (if t then Some 0 else next None) ≡ or_behind None 0 t
    by true = refl
    by false = refl
place_push letter base (x ∷ groups) g = by (is_of letter base x) (place_push letter base groups g)
  where
    by : (t : Bool) → place_of letter base (groups ++ g ∷ []) ≡ or_behind (place_of letter base groups) (length groups) (is_of letter base g)
        → (if t then Some 0 else next (place_of letter base (groups ++ g ∷ [])))
        ≡ or_behind (if t then Some 0 else next (place_of letter base groups)) (suc (length groups)) (is_of letter base g)
    by true later = refl
    by false later = ap next later ∙ next_behind (place_of letter base groups) (length groups) (is_of letter base g)

-- a wire that is no bit is in no bits' group
not_alone : (letter : ℕ) (base : List ℕ) (n : Named) → 0 < length base → is_of letter base (alone n) ≡ false
not_alone letter base n some =
    false_from_ne_true (is_of letter base (alone n)) (λ e. absurd (by base some ((bytes_eq-Decides [] base).0 (and_parts (0 == letter) (bytes_eq [] base) e).1)))
  where
    by : (text : List ℕ) → 0 < length text → [] ≡ text → ⊥
    by text more e = omega (arith, more, ap length e)

pub places_alone : (groups all : List Group) (places : BTreeMap Key ℕ) (g : Group) (n : Named) → all ≡ groups ++ g ∷ [] → g ≡ alone n → ArePlaces groups places → ArePlaces all places
places_alone groups all places g n e f h letter base some =
    h letter base some
    ∙ sym (ap (place_of letter base.items) (e ∙ ap (λ x. groups ++ x ∷ []) f)
    ∙ place_push letter base.items groups (alone n)
    ∙ ap (or_behind (place_of letter base.items groups) (length groups)) (not_alone letter base.items n some)
    ∙ same (place_of letter base.items groups))
  where
    same : (o : Option ℕ) → or_behind o (length groups) false ≡ o
    same None = refl
    same (Some k) = refl

pub no_places : (places : BTreeMap Key ℕ) → places.entries ≡ [] → ArePlaces [] places
no_places places e letter base some = ap (lookup (is_at (key_cmp (letter, base)))) e

-- a member in a new group
pub joined_new : (letter : ℕ) (base : List ℕ) (m : Member) (groups : List Group) → place_of letter base groups ≡ None → joined letter base m groups ≡ groups ++ first_of letter base m ∷ []
unfolding joined
joined_new letter base m [] e = refl
joined_new letter base m (g ∷ groups) e = by (is_of letter base g) (place_of letter base groups) refl e (joined_new letter base m groups)
  where
    by : (t : Bool) (o : Option ℕ) → place_of letter base groups ≡ o → (if t then Some 0 else next o) ≡ None
        → (place_of letter base groups ≡ None → joined letter base m groups ≡ groups ++ first_of letter base m ∷ [])
        → (if t then grown g m ∷ groups else g ∷ joined letter base m groups) ≡ g ∷ (groups ++ first_of letter base m ∷ [])
    by true o f k later = absurd (cc k)
    by false (Some i) f k later = absurd (cc k)
    by false None f k later = ap (λ (x : List Group). g ∷ x) (later f)

places_new : (letter : ℕ) (key : Text) (m : Member) (groups all : List Group) (old new : BTreeMap Key ℕ) (g : Group) → 0 < length key.items
    → get key_cmp old (letter, key) ≡ None → all ≡ groups ++ g ∷ [] → g ≡ first_of letter key.items m
    → ((q : Key) → get key_cmp new q ≡ cond (is_at (key_cmp (letter, key)) q) (Some (length groups)) (get key_cmp old q))
    → ArePlaces groups old → ArePlaces all new
places_new letter key m groups all old new g full none e f insert h at text some =
    insert (at, text)
    ∙ ap (λ o. cond (is_at (key_cmp (letter, key)) (at, text)) (Some (length groups)) o) (h at text some)
    ∙ by (is_eq (key_cmp (letter, key) (at, text))) (letter == at && bytes_eq key.items text.items) (keys_equal letter at key text) refl (place_of at text.items groups) refl
    ∙ sym (ap (place_of at text.items) (e ∙ ap (λ x. groups ++ x ∷ []) f) ∙ place_push at text.items groups (first_of letter key.items m))
  where
    absent : letter ≡ at → key.items ≡ text.items → place_of at text.items groups ≡ None
    absent a b = ap (λ n. place_of n text.items groups) (sym a) ∙ ap (λ (x : List ℕ). place_of letter x groups) (sym b) ∙ sym (h letter key full) ∙ none

    by : (t u : Bool) → t ≡ u → (letter == at && bytes_eq key.items text.items) ≡ u → (o : Option ℕ) → place_of at text.items groups ≡ o
        → cond t (Some (length groups)) o ≡ or_behind o (length groups) u
    by true true k b None p = refl
    by false false k b None p = refl
    by false false k b (Some i) p = refl
    by true false k b o p = absurd (false≢true (sym k))
    by false true k b o p = absurd (false≢true k)
    by true true k b (Some i) p =
        let parts = and_parts (letter == at) (bytes_eq key.items text.items) b in
        absurd (none_some i (sym (absent (eqb-true letter at parts.0) ((bytes_eq-Decides key.items text.items).0 parts.1)) ∙ p))

-- ---- a member more in a group

pub place_inside : (letter : ℕ) (base : List ℕ) (groups : List Group) (p : ℕ) → place_of letter base groups ≡ Some p → p < length groups
place_inside letter base [] p e = absurd (cc e)
place_inside letter base (g ∷ groups) p e = by (is_of letter base g) (place_of letter base groups) refl e (place_inside letter base groups)
  where
    by : (t : Bool) (o : Option ℕ) → place_of letter base groups ≡ o → (if t then Some 0 else next o) ≡ Some p
        → ((i : ℕ) → place_of letter base groups ≡ Some i → i < length groups) → p < suc (length groups)
    by true o f k later = let zero_is : 0 ≡ p = some_is 0 p k in omega (arith, zero_is)
    by false None f k later = absurd (cc k)
    by false (Some i) f k later = let is : suc i ≡ p = some_is (suc i) p k in omega (arith, is, later i f)

pub joined_at : (letter : ℕ) (base : List ℕ) (m : Member) (groups : List Group) (p : ℕ) (d : Group) → place_of letter base groups ≡ Some p
    → joined letter base m groups ≡ slice_set groups p (grown (get_or groups p d) m)
unfolding joined
joined_at letter base m [] p d e = absurd (cc e)
joined_at letter base m (g ∷ groups) p d e = by (is_of letter base g) (place_of letter base groups) refl e (λ i. joined_at letter base m groups i d)
  where
    by : (t : Bool) (o : Option ℕ) → place_of letter base groups ≡ o → (if t then Some 0 else next o) ≡ Some p
        → ((i : ℕ) → place_of letter base groups ≡ Some i → joined letter base m groups ≡ slice_set groups i (grown (get_or groups i d) m))
        → (if t then grown g m ∷ groups else g ∷ joined letter base m groups) ≡ slice_set (g ∷ groups) p (grown (get_or (g ∷ groups) p d) m)
    by true o f k later = ap (λ n. slice_set (g ∷ groups) n (grown (get_or (g ∷ groups) n d) m)) (some_is 0 p k)
    by false None f k later = absurd (cc k)
    by false (Some i) f k later =
        ap (λ (x : List Group). g ∷ x) (later i f)
        ∙ ap (λ n. slice_set (g ∷ groups) n (grown (get_or (g ∷ groups) n d) m)) (some_is (suc i) p k)

-- no place changes
place_set : (letter : ℕ) (base : List ℕ) (m : Member) (groups : List Group) (p : ℕ) (d : Group)
    → place_of letter base (slice_set groups p (grown (get_or groups p d) m)) ≡ place_of letter base groups
place_set letter base m [] p d = refl
place_set letter base m (g ∷ groups) zero d = refl
place_set letter base m (g ∷ groups) (suc p) d = ap (λ o. if is_of letter base g then Some 0 else next o) (place_set letter base m groups p d)

pub places_grown : (m : Member) (groups all : List Group) (places : BTreeMap Key ℕ) (p : ℕ) → GrowsAt p m groups all → ArePlaces groups places → ArePlaces all places
places_grown m groups all places p grows h letter base some =
    h letter base some ∙ sym (ap (place_of letter base.items) (grows some_group) ∙ place_set letter base.items m groups p some_group)
  where
    some_group : Group
    some_group = first_of 0 [] m

-- the same, whatever a call answers that grows a group or leaves all as it is
pub places_kept : {T E : Type 0} (r : Result T E) (m : Member) (groups all : List Group) (places : BTreeMap Key ℕ) (p : ℕ) → OnOk r (GrowsAt p m groups all)
    → OnErr r (all ≡ groups) → ArePlaces groups places → ArePlaces all places
places_kept (Ok x) m groups all places p grows same h = places_grown m groups all places p grows h
places_kept (Err y) m groups all places p grows same h = λ letter base some. h letter base some ∙ sym (ap (place_of letter base.items) same)

-- a key of a letter and a base
module _ (letter number : ℕ) (base : List ℕ) (key : Text) (groups : List Group) (places : BTreeMap Key ℕ)
    (at : number ≡ letter) (text : key.items ≡ base) (some : 0 < length base) (h : ArePlaces groups places) where
  full : 0 < length key.items
  full = let same : length key.items ≡ length base = ap length text in omega (arith, same, some)

  pub told : get key_cmp places (number, key) ≡ place_of letter base groups
  told = h number key full ∙ ap (λ n. place_of n key.items groups) at ∙ ap (λ (x : List ℕ). place_of letter x groups) text

  pub inside_told : (p : ℕ) → Some p ≡ get key_cmp places (number, key) → p < length groups
  inside_told p e = place_inside letter base groups p (sym (e ∙ told))

  pub joined_told : {T E : Type 0} (r : Result T E) (m : Member) (p : ℕ) (old all : List Group) → groups ≡ old → Some p ≡ get key_cmp places (number, key)
      → OnOk r (GrowsAt p m groups all) → OnOk r (all ≡ joined letter base m old)
  joined_told (Ok x) m p old all same e grows =
      grows (first_of 0 [] m) ∙ sym (joined_at letter base m groups p (first_of 0 [] m) (sym (e ∙ told))) ∙ ap (joined letter base m) same
  joined_told (Err y) m p old all same e grows = tt

  pub joined_first : (m : Member) (old mid all : List Group) (g : Group) → groups ≡ old → None ≡ get key_cmp places (number, key) → mid ≡ groups → all ≡ mid ++ g ∷ []
      → g ≡ first_of letter base m → all ≡ joined letter base m old
  joined_first m old mid all g same e stays put made =
      put ∙ ap (λ (x : List Group). x ++ g ∷ []) stays ∙ ap (λ (x : Group). groups ++ x ∷ []) made
      ∙ sym (joined_new letter base m groups (sym (e ∙ told)))
      ∙ ap (joined letter base m) same

  pub places_first : (m : Member) (mid all : List Group) (new : BTreeMap Key ℕ) (g : Group) (count : ℕ) → None ≡ get key_cmp places (number, key) → mid ≡ groups
      → all ≡ mid ++ g ∷ [] → g ≡ first_of letter base m → count ≡ length mid
      → ((q : Key) → get key_cmp new q ≡ cond (is_at (key_cmp (number, key)) q) (Some count) (get key_cmp places q)) → ArePlaces all new
  places_first m mid all new g count e stays put made many insert =
      places_new number key m groups all places new g full (sym e)
      (put ∙ ap (λ (x : List Group). x ++ g ∷ []) stays)
      (made ∙ ap (λ n. first_of n base m) (sym at) ∙ ap (λ (x : List ℕ). first_of number x m) (sym text))
      (λ q. insert q ∙ ap (λ n. cond (is_at (key_cmp (number, key)) q) (Some n) (get key_cmp places q)) (many ∙ ap length stays))
      h
