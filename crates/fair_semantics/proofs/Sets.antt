-- The sets of entries by their numbers: what later entries leave, and what closed uses need.
use Rattle.std.proofs.Common.{◌≡◌, ℕ, zero, suc, ◌+◌, ◌<◌, ◌≤◌, Bool, false, List, [], ◌∷◌, ◌++◌, length, refl, sym, ap, ◌∙◌, inl, inr, ◌⊎◌, arith}
use Rattle.std.proofs.lemmas.Bool.{ne_eqb, eq-eqb, cases_eq}
use Rattle.std.specs.List.{All, AllPairs, list_all}
use Rattle.std.proofs.Common.{not, ◌&&◌, ap₂, take, drop, get_or, length-take}
use Rattle.std.proofs.Math.Seq.{split_at}
use Rattle.std.proofs.lemmas.List.{get_or_append_left, take-append-drop}
use Rattle.std.proofs.lemmas.List.Elements.{All-head, All-tail}
use Rattle.fair_semantics.specs.declared.entries.Kind.TheVariants.{Reach}
use Rattle.fair_semantics.specs.declared.entries.Side.{Side}
use Rattle.fair_semantics.specs.declared.entries.Side.TheVariants as sides
use Rattle.fair_semantics.specs.States.{meets_clauses}
use Rattle.fair_semantics.specs.Entries.{lies_on, IsSigned, Uses}
use Rattle.fair_semantics.specs.declared.entries.Use.{Use}
use Rattle.fair_semantics.specs.Entries.{Entry, Numbered, numbered_from, numbered, used_entries, entry_at, sets_after, with_set, set_over, sets_of}
use Rattle.fair_semantics.specs.Validity.{set_behind}

-- ---- what stands behind

pub with_set-other : (sets : ℕ → List Bool → Bool) (e : Numbered) (n : ℕ) (s : List Bool) → (n ≡ e.number → ⊥) → with_set sets e n s ≡ sets n s
with_set-other sets e n s apart = rw (ne_eqb n e.number apart) refl

pub with_set-same : (sets : ℕ → List Bool → Bool) (e : Numbered) (n : ℕ) (s : List Bool) → n ≡ e.number → with_set sets e n s ≡ set_over sets e.entry s
with_set-same sets e n s same = rw (eq-eqb n e.number same) refl

pub sets_after-lower : (sets : ℕ → List Bool → Bool) (m : ℕ) (entries : List Entry) (n : ℕ) (s : List Bool) → n < m → sets_after sets (numbered_from m entries) n s ≡ sets n s
sets_after-lower sets m [] n s below = refl
sets_after-lower sets m (e ∷ entries) n s below =
    let first : Numbered = record { number = m; entry = e } in
    sets_after-lower (with_set sets first) (m + 1) entries n s (omega arith) ∙ with_set-other sets first n s (λ same. omega arith)

pub sets_after-append : (sets : ℕ → List Bool → Bool) (m k : ℕ) (before after : List Entry) → m + length before ≡ k
    → sets_after sets (numbered_from m (before ++ after)) ≡ sets_after (sets_after sets (numbered_from m before)) (numbered_from k after)
sets_after-append sets m k [] after place = ap (λ i. sets_after sets (numbered_from i after)) (let e : m ≡ k = omega arith in e)
sets_after-append sets m k (e ∷ before) after place =
    sets_after-append (with_set sets (record { number = m; entry = e })) (m + 1) k before after (omega arith)

-- the set of an entry is over those before it
pub sets_of-at : (before : List Entry) (e : Entry) (after : List Entry) (s : List Bool) → sets_of (numbered (before ++ e ∷ after)) (length before) s ≡ set_behind before e s
sets_of-at before e after s =
    let known : ℕ → List Bool → Bool = sets_of (numbered before) in
    let last : Numbered = record { number = length before; entry = e } in
    ap (λ (sets : ℕ → List Bool → Bool). sets (length before) s) (sets_after-append (λ n t. false) 0 (length before) before (e ∷ after) (omega arith))
    ∙ sets_after-lower (with_set known last) (length before + 1) after (length before) s (omega arith)
    ∙ with_set-same known last (length before) s refl

-- the set of an earlier entry stays
pub sets_of-earlier : (before after : List Entry) (n : ℕ) (s : List Bool) → n < length before → sets_of (numbered (before ++ after)) n s ≡ sets_of (numbered before) n s
sets_of-earlier before after n s below =
    ap (λ (sets : ℕ → List Bool → Bool). sets n s) (sets_after-append (λ n t. false) 0 (length before) before after (omega arith))
    ∙ sets_after-lower (sets_of (numbered before)) (length before) after n s below

-- ---- the entry at a place

pub entry_at-place : (before : List Entry) (e : Entry) (after : List Entry) → entry_at (before ++ e ∷ after) (length before) ≡ e
entry_at-place [] e after = refl
entry_at-place (f ∷ before) e after = entry_at-place before e after

pub entry_at-earlier : (before after : List Entry) (n : ℕ) → n < length before → entry_at (before ++ after) n ≡ entry_at before n
entry_at-earlier before after n below = get_or_append_left before after (record { kind = Reach; clauses = []; uses = [] }) n below

-- ---- sets that agree where sides are named

lies_on-agree : (side : Side) (a b : Bool) → ((side ≡ sides.Any → ⊥) → a ≡ b) → lies_on side a ≡ lies_on side b
lies_on-agree sides.Any a b same = refl
lies_on-agree sides.In a b same = same (λ e. cc)
lies_on-agree sides.Out a b same = ap not (same (λ e. cc))

sides-agree : (known other : ℕ → List Bool → Bool) (s : List Bool) (uses : List Use)
    → All (λ u. IsSigned u → known u.entry s ≡ other u.entry s) uses
    → list_all (λ u. lies_on u.side (known u.entry s)) uses ≡ list_all (λ u. lies_on u.side (other u.entry s)) uses
sides-agree known other s [] h = refl
sides-agree known other s (u ∷ uses) h =
    let P : Use → Type 0 = λ v. IsSigned v → known v.entry s ≡ other v.entry s in
    let first : lies_on u.side (known u.entry s) ≡ lies_on u.side (other u.entry s) =
    lies_on-agree u.side (known u.entry s) (other u.entry s) (All-head P u uses h)
    in
    let rest = sides-agree known other s uses (All-tail P u uses h) in
    ap₂ (λ a b. a && b) first rest

pub set_over-agree : (known other : ℕ → List Bool → Bool) (e : Entry) (s : List Bool)
    → All (λ u. IsSigned u → known u.entry s ≡ other u.entry s) e.uses → set_over known e s ≡ set_over other e s
set_over-agree known other e s h = ap (λ b. meets_clauses e.clauses s && b) (sides-agree known other s e.uses h)

-- ---- the set of an entry of a list

abbrev pub nothing : Entry
nothing = record { kind = Reach; clauses = []; uses = [] }

pub sets_of-entry : (entries : List Entry) (n : ℕ) (s : List Bool) → n < length entries
    → sets_of (numbered entries) n s ≡ set_behind (take n entries) (entry_at entries n) s
sets_of-entry entries n s below =
    let e : Entry = entry_at entries n in
    let split : entries ≡ take n entries ++ e ∷ drop (suc n) entries = split_at entries n nothing below in
    let place : length (take n entries) ≡ n = simp length-take (omega arith) in
    ap (λ es. sets_of (numbered es) n s) split
    ∙ ap (λ k. sets_of (numbered (take n entries ++ e ∷ drop (suc n) entries)) k s) (sym place)
    ∙ sets_of-at (take n entries) e (drop (suc n) entries) s

pub sets_of-front : (entries : List Entry) (n m : ℕ) (s : List Bool) → n ≤ length entries → m < n
    → sets_of (numbered entries) m s ≡ sets_of (numbered (take n entries)) m s
sets_of-front entries n m s inside below =
    let place : m < length (take n entries) = simp length-take (omega arith) in
    ap (λ es. sets_of (numbered es) m s) (sym (take-append-drop n entries))
    ∙ sets_of-earlier (take n entries) (drop n entries) m s place

-- where an entry names sides of entries before it, its set is over the sets of the whole list
pub sets_of-own : (entries : List Entry) (n : ℕ) (s : List Bool) → n < length entries
    → All (λ u. IsSigned u → u.entry < n) (entry_at entries n).uses
    → sets_of (numbered entries) n s ≡ set_over (sets_of (numbered entries)) (entry_at entries n) s
sets_of-own entries n s below lower =
    let known : ℕ → List Bool → Bool = sets_of (numbered (take n entries)) in
    let other : ℕ → List Bool → Bool = sets_of (numbered entries) in
    sets_of-entry entries n s below
    ∙ set_over-agree known other (entry_at entries n) s (λ k d inside signed. sym (sets_of-front entries n _ s (omega arith) (lower k d inside signed)))

-- ---- closed uses

abbrev pub Ascend : List Use → Type 0
Ascend uses = AllPairs (λ u v. u.entry < v.entry) uses

Ascend-tail : (u : Use) (uses : List Use) → Ascend (u ∷ uses) → Ascend uses
Ascend-tail u uses h = λ i j d lt below. h (suc i) (suc j) d (omega arith) (omega arith)

pub Uses-least : (u : Use) (uses : List Use) (n : ℕ) → Ascend (u ∷ uses) → Uses (u ∷ uses) n → u.entry ≤ n
Uses-least u uses n h (zero, v, inside, at, same) = let e : u.entry ≡ n = ap (λ x. x.entry) at ∙ same in omega arith
Uses-least u uses n h (suc k, v, inside, at, same) =
    let later : u.entry < (get_or uses k v).entry = h 0 (suc k) v (omega arith) (omega arith) in
    let e : (get_or uses k v).entry ≡ n = ap (λ x. x.entry) at ∙ same in
    omega arith

Uses-tail : (u : Use) (uses : List Use) (n : ℕ) → (n ≡ u.entry → ⊥) → Uses (u ∷ uses) n → Uses uses n
Uses-tail u uses n apart (zero, v, inside, at, same) = absurd (apart (sym (ap (λ x. x.entry) at ∙ same)))
Uses-tail u uses n apart (suc k, v, inside, at, same) = (k, v, omega arith, at, same)

-- the used entry is there, and the entries of which it names a side are among these uses, before it
abbrev pub IsClosedUse : List Entry → List Use → Use → Type 0
IsClosedUse before whole u =
    (u.entry < length before)
    × All (λ named. IsSigned named → (named.entry < u.entry) × Uses whole named.entry) (entry_at before u.entry).uses

used-own : (before : List Entry) (whole uses : List Use) (sets : ℕ → List Bool → Bool) (s : List Bool) (u : Use)
    → Ascend (u ∷ uses) → IsClosedUse before whole u
    → ((n : ℕ) → Uses whole n → (sets n s ≡ sets_of (numbered before) n s) ⊎ Uses (u ∷ uses) n)
    → set_over sets (entry_at before u.entry) s ≡ sets_of (numbered before) u.entry s
used-own before whole uses sets s u ascend closed cover =
    let e : Entry = entry_at before u.entry in
    let other : ℕ → List Bool → Bool = sets_of (numbered before) in
    let lower : All (λ named. IsSigned named → named.entry < u.entry) e.uses = λ k d inside signed. (closed.1 k d inside signed).0 in
    let known : All (λ named. IsSigned named → sets named.entry s ≡ other named.entry s) e.uses =
    λ k d inside signed.
    let h = closed.1 k d inside signed in
    elim (cover (get_or e.uses k d).entry h.1) [
      | inl same ↦ same
      | inr there ↦ (let least = Uses-least u uses _ ascend there in absurd (omega (arith, h.0)))
    ]
    in
    set_over-agree sets other e s known ∙ sym (sets_of-own before u.entry s closed.0 lower)

pub alone : (before : List Entry) (whole uses : List Use) (sets : ℕ → List Bool → Bool) (s : List Bool)
    → Ascend uses → All (IsClosedUse before whole) uses
    → ((n : ℕ) → Uses whole n → (sets n s ≡ sets_of (numbered before) n s) ⊎ Uses uses n)
    → (n : ℕ) → Uses whole n → sets_after sets (used_entries before uses) n s ≡ sets_of (numbered before) n s
alone before whole [] sets s ascend closed cover n used =
    elim (cover n used) [
      | inl same ↦ same
      | inr there ↦ (let below : there.0 < 0 = there.2 in absurd (omega arith))
    ]
alone before whole (u ∷ uses) sets s ascend closed cover n used =
    let P : Use → Type 0 = IsClosedUse before whole in
    let first : Numbered = record { number = u.entry; entry = entry_at before u.entry } in
    let own = used-own before whole uses sets s u ascend (All-head P u uses closed) cover in
    let more = (λ (m : ℕ) (there : Uses whole m).
    let goal : (with_set sets first m s ≡ sets_of (numbered before) m s) ⊎ Uses uses m =
    elim (cases_eq m u.entry) [
      | inl same ↦ inl (with_set-same sets first m s same ∙ own ∙ ap (λ k. sets_of (numbered before) k s) (sym same))
      | inr apart ↦
          elim (cover m there) [
            | inl same ↦ inl (with_set-other sets first m s apart ∙ same)
            | inr later ↦ inr (Uses-tail u uses m apart later)
          ]
    ]
    in goal)
    in
    alone before whole uses (with_set sets first) s (Ascend-tail u uses ascend) (All-tail P u uses closed) more n used
