-- Uses with numbers of any size: there is no entry with one of more than 32 bits.
use Rattle.std.proofs.Common.{◌≡◌, ℕ, ◌+◌, ◌<◌, ◌≤◌, Bool, true, false, List, [], ◌∷◌, ◌++◌, length, get_or, map, take, drop, Some, None, Ok, Err, refl, sym, ap, ◌∙◌, arith}
use Rattle.std.specs.Prelude.{Option, Result, IfOk, nat_lt, nat_le, ◌==◌, if◌then◌else◌}
use Rattle.std.specs.List.{All}
use Rattle.std.proofs.lemmas.Bool.{and_left, and_right, le-ltb, eq-eqb, ne_eqb}
use Rattle.std.proofs.lemmas.List.{drop_more, take-append-drop, length-map}
use Rattle.fair_semantics.specs.declared.entries.Use.{Use}
use Rattle.fair_semantics.specs.Entries.{Entry}
use Rattle.certificate_lines.specs.declared.uses.WrittenUse.{WrittenUse}
use Rattle.entry.specs.declared.uses.User.{User}
use Rattle.entry.specs.declared.list.Listed.{Listed}
use Rattle.entry.specs.Listing.{entry_of, entries_of}
use Rattle.entry.specs.Faults.{may_stand, bad_use_behind, first_bad_use}
use Rattle.entry.proofs.Present.{present-from_none}
use Rattle.certificate.specs.declared.limits.TheConstants.{MAX_ENTRIES}
use Rattle.certificate.specs.declared.uses.UsesEnd.{UsesEnd}
use Rattle.certificate.specs.declared.uses.UsesEnd.TheVariants.{Shape, Bad, Memory}
use Rattle.certificate_texts.specs.Certificates.{as_use}
use Rattle.certificate.specs.Reading.{Body, Stepped, unless_bad, uses_step}
use Rattle.certificate.specs.Steps.{Stands, IsCut, TellsUses}

abbrev or_number : Option ℕ → Option ℕ → Option ℕ
or_number None beyond = beyond
or_number (Some n) beyond = Some n

module _ (user : User) (before : List Entry) (u : Use) (rest : List Use) (far : length before ≤ u.entry) where
  stands_not : (least : ℕ) (earlier : List Use) → may_stand user before least earlier u ≡ false
  stands_not least earlier =
      let over : nat_lt u.entry (length before) ≡ false = le-ltb u.entry (length before) far in
      and_left _ _ (and_left _ _ (and_right (nat_le least u.entry) _ over))

  chosen : (least : ℕ) (earlier : List Use) (test : Bool) → test ≡ false
      → (if test then bad_use_behind user before (u.entry + 1) (earlier ++ u ∷ []) rest else Some u.entry) ≡ Some u.entry
  chosen least earlier test h = rw h refl

  or_next : (stands : Bool) (n : ℕ) (a b : Option ℕ) → a ≡ or_number b (Some u.entry)
      → (if stands then a else Some n) ≡ or_number (if stands then b else Some n) (Some u.entry)
  or_next true n a b h = h
  or_next false n a b h = refl

  beyond_is_bad : (least : ℕ) (earlier uses : List Use)
      → bad_use_behind user before least earlier (uses ++ u ∷ rest) ≡ or_number (bad_use_behind user before least earlier uses) (Some u.entry)
  beyond_is_bad least earlier [] = chosen least earlier (may_stand user before least earlier u) (stands_not least earlier)
  beyond_is_bad least earlier (v ∷ uses) =
      or_next (may_stand user before least earlier v) v.entry _ _ (beyond_is_bad (v.entry + 1) (earlier ++ v ∷ []) uses)

or_none : (o : Option ℕ) → o ≡ or_number o None
or_none None = refl
or_none (Some n) = refl

-- the first bad one of all the uses, from that of those in front
pub bad_cut : (user : User) (list : List Listed) (uses all : List Use) (beyond : Option ℕ) → length list ≤ MAX_ENTRIES → IsCut all uses beyond
    → first_bad_use user (entries_of list) all ≡ or_number (first_bad_use user (entries_of list) uses) beyond
bad_cut user list uses all None few same =
    ap (λ (l : List Use). first_bad_use user (entries_of list) l) same ∙ or_none (first_bad_use user (entries_of list) uses)
bad_cut user list uses all (Some n) few (u, rest, split, number, big) =
    let count : length (entries_of list) ≡ length list = length-map list entry_of in
    let far : length (entries_of list) ≤ u.entry = omega arith in
    ap (λ (l : List Use). first_bad_use user (entries_of list) l) split
    ∙ beyond_is_bad user (entries_of list) u rest far 0 [] uses
    ∙ ap (λ (m : ℕ). or_number (first_bad_use user (entries_of list) uses) (Some m)) number

pub bad_in_front : (user : User) (list : List Listed) (uses : List Use) (beyond found : Option ℕ) (n : ℕ) → length list ≤ MAX_ENTRIES
    → found ≡ first_bad_use user (entries_of list) uses → found ≡ Some n
    → (all : List Use) → IsCut all uses beyond → Some n ≡ first_bad_use user (entries_of list) all
bad_in_front user list uses beyond found n few is some all cut =
    sym (bad_cut user list uses all beyond few cut ∙ ap (λ (o : Option ℕ). or_number o beyond) (sym is ∙ some))

pub bad_beyond : (user : User) (list : List Listed) (uses : List Use) (beyond found : Option ℕ) → length list ≤ MAX_ENTRIES
    → found ≡ first_bad_use user (entries_of list) uses → found ≡ None
    → (all : List Use) → IsCut all uses beyond → beyond ≡ first_bad_use user (entries_of list) all
bad_beyond user list uses beyond found few is none all cut =
    sym (bad_cut user list uses all beyond few cut ∙ ap (λ (o : Option ℕ). or_number o beyond) (sym is ∙ none))

or_some : (o : Option ℕ) (n : ℕ) → or_number o (Some n) ≡ None → ⊥
or_some None n h = cc
or_some (Some m) n h = cc

-- where none is bad, these are all
pub cut_whole : (user : User) (list : List Listed) (uses all : List Use) (beyond : Option ℕ) → length list ≤ MAX_ENTRIES → IsCut all uses beyond
    → first_bad_use user (entries_of list) all ≡ None → all ≡ uses
cut_whole user list uses all None few same none = same
cut_whole user list uses all (Some n) few cut none =
    absurd (or_some (first_bad_use user (entries_of list) uses) n (sym (bad_cut user list uses all (Some n) few cut) ∙ none))

map_append : (a b : List WrittenUse) → map as_use (a ++ b) ≡ map as_use a ++ map as_use b
map_append [] b = refl
map_append (x ∷ a) b = ap (λ (l : List Use). as_use x ∷ l) (map_append a b)

pub cut_at : (all : List WrittenUse) (i : ℕ) (d : WrittenUse) → i < length all
    → map as_use all ≡ map as_use (take i all) ++ as_use (get_or all i d) ∷ map as_use (drop (i + 1) all)
cut_at all i d inside =
    ap (λ (l : List WrittenUse). map as_use l) (sym (take-append-drop i all))
    ∙ map_append (take i all) (drop i all)
    ∙ ap (λ (l : List WrittenUse). map as_use (take i all) ++ map as_use l) (drop_more all i d inside)

-- What the uses of a line come to.
module _ (b : Body) (user : User) (count : ℕ) where
  pub tells_none : TellsUses b user count None (Err Shape)
  tells_none bad number rest = refl

  other_count : (test : Bool) (a shape : Stepped) → test ≡ false → (if test then a else shape) ≡ shape
  other_count test a shape h = rw h refl

  pub tells_other : (uses : List WrittenUse) → (length uses ≡ count → ⊥) → TellsUses b user count (Some uses) (Err Shape)
  tells_other uses differ bad number rest = other_count (length uses == count) _ _ (ne_eqb (length uses) count differ)

  same_count : (test : Bool) (a shape : Stepped) → test ≡ true → (if test then a else shape) ≡ a
  same_count test a shape h = rw h refl

  stand : (uses : List WrittenUse) → length uses ≡ count → (bad : ℕ → Stepped) (number : ℕ) (rest : List Use → Stepped)
      → uses_step b user count bad number (Some uses) rest ≡ unless_bad (first_bad_use user b.entries (map as_use uses)) bad (rest (map as_use uses))
  stand uses same bad number rest = same_count (length uses == count) _ _ (eq-eqb (length uses) count same)

  pub tells_standing : (uses : List WrittenUse) (r : Result (List Use) UsesEnd) → length uses ≡ count
      → Stands user b.entries (map as_use uses) r → TellsUses b user count (Some uses) r
  tells_standing uses (Ok us) same h = λ bad number rest.
      stand uses same bad number rest
      ∙ ap (λ (o : Option ℕ). unless_bad o bad (rest (map as_use uses))) h.1
      ∙ ap (λ (l : List Use). rest l) h.0
  tells_standing uses (Err Shape) same h = absurd h
  tells_standing uses (Err (Bad n)) same h = λ bad number rest.
      stand uses same bad number rest ∙ ap (λ (o : Option ℕ). unless_bad o bad (rest (map as_use uses))) h
  tells_standing uses (Err Memory) same h = tt

pub standing_present : (user : User) (list : List Listed) (all : List Use) (r : Result (List Use) UsesEnd)
    → Stands user (entries_of list) all r → IfOk r (λ uses. All (λ u. u.entry < length list) uses)
standing_present user list all (Ok uses) h =
    present-from_none user list uses (ap (λ (l : List Use). first_bad_use user (entries_of list) l) (sym h.0) ∙ h.1)
standing_present user list all (Err end) h = tt
