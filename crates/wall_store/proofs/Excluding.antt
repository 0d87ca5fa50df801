-- Which entries of a list exclude a skeleton, in a list that goes on, and the answer to a post.
use Rattle.std.proofs.Common.{◌≡◌, ℕ, ◌<◌, ◌≤◌, ◌⊎◌, inl, inr, Bool, true, false, not, List, [], ◌∷◌, ◌++◌, map, length, take, drop, refl, sym, ap, ap₂, ◌∙◌, subst, arith}
use Rattle.std.proofs.Math.Path.{fun_ext}
use Rattle.std.proofs.lemmas.Bool.{cases_lt}
use Rattle.std.proofs.lemmas.List.{length-map, map-append, take-append-drop, length-take-le}
use Rattle.fair_semantics.specs.declared.skeletons.Skeleton.{Skeleton}
use Rattle.fair_semantics.specs.Entries.{Entry, Numbered, numbered, entry_at, sets_of}
use Rattle.fair_semantics.specs.Allowing.{allows_by, allow}
use Rattle.fair_semantics.specs.Skeletons.{excludes, places}
use Rattle.fair_semantics.proofs.Sets.{sets_of-earlier, entry_at-earlier}
use Rattle.fair_semantics.proofs.Alone.{numbered-at, numbered-all}
use Rattle.std.specs.Arc.{arc_value}
use Rattle.std.specs.declared.sync.Arc.{Arc}
use Rattle.entry.specs.CheckedEntries.{CheckedEntry, entry_in, viewed}
use Rattle.wall_store.specs.declared.outcomes.Posted.{Posted}
use Rattle.wall_store.specs.declared.outcomes.Posted.TheVariants as posts
use Rattle.wall_store.specs.Boards.{BoardState, IsBoard, plain, Allow}
use Rattle.wall_store.specs.Events.{IsPosted}
use Rattle.wall_store.specs.Scanning.{all_settled, IsScanned, IsRefused, NoneWithin}
use Rattle.wall_store.proofs.Serving.{settled_all, unsettled}

not-true : (b : Bool) → b ≡ true → not b ≡ false
not-true b h = ap not h

from-not : (b : Bool) → not b ≡ false → b ≡ true
from-not true h = refl
from-not false h = cc

pub allowed_excludes : (entries : List Entry) (skeleton : Skeleton) (m : ℕ) → allow (numbered entries) (places skeleton) ≡ true
    → m < length entries → excludes entries m skeleton ≡ false
allowed_excludes entries skeleton m h below =
    let able : Numbered → Bool = λ e. allows_by e.entry.kind (sets_of (numbered entries) e.number) (places skeleton) in
    not-true _ (numbered-at able 0 entries m m below (omega arith) h)

pub none_excludes : (entries : List Entry) (skeleton : Skeleton) → ((m : ℕ) → m < length entries → excludes entries m skeleton ≡ false)
    → allow (numbered entries) (places skeleton) ≡ true
none_excludes entries skeleton h =
    let able : Numbered → Bool = λ e. allows_by e.entry.kind (sets_of (numbered entries) e.number) (places skeleton) in
    numbered-all able 0 entries (λ k i below place.
    let same : k ≡ i = omega arith in
    let here : able (record { number = k; entry = entry_at entries k }) ≡ true = from-not _ (h k below) in
    subst (λ (n : ℕ). able (record { number = n; entry = entry_at entries k }) ≡ true) same here)

pub excludes_earlier : (before after : List Entry) (m : ℕ) (skeleton : Skeleton) → m < length before
    → excludes (before ++ after) m skeleton ≡ excludes before m skeleton
excludes_earlier before after m skeleton below =
    let set : sets_of (numbered (before ++ after)) m ≡ sets_of (numbered before) m = fun_ext (λ s. sets_of-earlier before after m s below) in
    let kind = ap (λ (e : Entry). e.kind) (entry_at-earlier before after m below) in
    ap₂ (λ a b. not (allows_by a b (places skeleton))) kind set

-- ---- the entries of a board

pub plain-append : (before after : List CheckedEntry) → plain (before ++ after) ≡ plain before ++ plain after
plain-append before after = map-append (λ (e : CheckedEntry). e.entry) before after

pub plain-split : (entries : List CheckedEntry) (n : ℕ) → plain (take n entries) ++ plain (drop n entries) ≡ plain entries
plain-split entries n = sym (plain-append (take n entries) (drop n entries)) ∙ ap plain (take-append-drop n entries)

pub plain-length : (entries : List CheckedEntry) → length (plain entries) ≡ length entries
plain-length entries = length-map entries (λ (e : CheckedEntry). e.entry)

front_excludes : (entries : List CheckedEntry) (low m : ℕ) (skeleton : Skeleton) → Allow (take low entries) skeleton → low ≤ length entries
    → m < low → excludes (plain entries) m skeleton ≡ false
front_excludes entries low m skeleton allowed within below =
    let inside : m < length (plain (take low entries)) = omega (arith, plain-length (take low entries), length-take-le low entries within) in
    ap (λ (es : List Entry). excludes es m skeleton) (sym (plain-split entries low))
    ∙ excludes_earlier (plain (take low entries)) (plain (drop low entries)) m skeleton inside
    ∙ allowed_excludes (plain (take low entries)) skeleton m allowed inside

below-all : (entries : List CheckedEntry) (low high : ℕ) (skeleton : Skeleton) → Allow (take low entries) skeleton → low ≤ length entries
    → NoneWithin (plain entries) skeleton low high → (m : ℕ) → m < high → excludes (plain entries) m skeleton ≡ false
below-all entries low high skeleton allowed within none m below =
    elim (cases_lt m low) [
      | inl early ↦ front_excludes entries low m skeleton allowed within early
      | inr late ↦ none m (omega (arith, late)) below
    ]

-- ---- the answer to a post

pub posted_right : (b : BoardState) (low : ℕ) (skeleton : Skeleton) (r : Posted) → IsBoard b → Allow (take low b.entries) skeleton
    → low ≤ length b.entries → IsScanned (all_settled b.served) b.limit (plain b.entries) skeleton low r → IsPosted b skeleton r
posted_right b low skeleton posts.Closed board allowed within h = settled_all b.served h
posted_right b low skeleton posts.Full board allowed within h =
    (unsettled b.served board.ascend h.0, (let least = h.1 in let most = board.within in let count = plain-length b.entries in omega (arith, least, most, count)))
posted_right b low skeleton (posts.Stale n) board allowed within h =
    let first = h.1 in
    let room : length (plain b.entries) < b.limit = h.0.1 in (
      record { unsettled = unsettled b.served board.ascend h.0.0; room = omega (arith, room, plain-length b.entries) },
      record {
        inside = first.inside;
        excluded = first.excluded;
        first = λ m below. below-all b.entries low n skeleton allowed within first.before m below;
      },
    )
posted_right b low skeleton (posts.Appended n) board allowed within h =
    let room : length (plain b.entries) < b.limit = h.0.1 in
    let count : n ≡ length (plain b.entries) = h.1.1 in (
      record { unsettled = unsettled b.served board.ascend h.0.0; room = omega (arith, room, plain-length b.entries) },
      (
        none_excludes (plain b.entries) skeleton (λ m below. below-all b.entries low (length (plain b.entries)) skeleton allowed within h.1.0 m below),
        count ∙ plain-length b.entries,
      ),
    )

-- where the entry is appended there is room for it
pub room_or_refused : (settled : Bool) (limit room count : ℕ) (entries : List Entry) (skeleton : Skeleton) (low : ℕ) (r : Posted)
    → count ≡ length entries → limit ≤ room → IsScanned settled limit entries skeleton low r → (count < room) ⊎ IsRefused r
room_or_refused settled limit room count entries skeleton low posts.Closed same within h = inr tt
room_or_refused settled limit room count entries skeleton low posts.Full same within h = inr tt
room_or_refused settled limit room count entries skeleton low (posts.Stale n) same within h = inr tt
room_or_refused settled limit room count entries skeleton low (posts.Appended n) same within h =
    inl (let below = h.0.1 in omega (arith, same, within, below))

-- ---- shared entries

pub viewed-plain : {Z : Type 0} (shared : List (Arc CheckedEntry Z)) → viewed shared ≡ plain (map (λ (e : Arc CheckedEntry Z). arc_value {X = CheckedEntry} e) shared)
viewed-plain [] = refl
viewed-plain (e ∷ shared) = ap (λ (es : List Entry). entry_in e ∷ es) (viewed-plain shared)
