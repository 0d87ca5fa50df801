-- On the start's sides the entries that restrict the steps allow just those of the arena, and those whose sides are
-- named are closed uses of the list.
use Rattle.std.proofs.Common.{◌≡◌, ◌≢◌, ℕ, zero, suc, ◌+◌, ◌<◌, ◌≤◌, Bool, true, false, ◌&&◌, ◌||◌, not, cond, List, [], ◌∷◌, ◌++◌, map, length, get_or, refl, sym, ap, ap₂, subst, ◌∙◌, arith, append_assoc, length-append}
use Rattle.std.specs.List.{All, AllByRecursion, AllPairs, list_all, filter}
use Rattle.std.proofs.lemmas.List.Elements.{All-from_recursion, recursion_from_All}
use Rattle.std.proofs.lemmas.List.Kept.{AllPairs-cons, AllPairs-filter}
use Rattle.proof_semantics.specs.Clauses.{bool_eq}
use Rattle.aig_semantics.specs.Circuits.{Circuit}
use Rattle.fair_semantics.specs.declared.entries.Kind.{Kind}
use Rattle.fair_semantics.specs.declared.entries.Kind.TheVariants.{Reach, Wall}
use Rattle.fair_semantics.specs.declared.entries.Side.TheVariants.{Any}
use Rattle.fair_semantics.specs.declared.entries.Use.{Use}
use Rattle.fair_semantics.specs.Entries.{Entry, Numbered, numbered_from, numbered, entry_at, used_entries, lies_on, set_at, IsSigned, Uses, NamesUsed, AreClosed}
use Rattle.fair_semantics.specs.Validity.{AreValid}
use Rattle.fair_semantics.specs.Allowing.{allows_by, all_allow}
use Rattle.fair_semantics.proofs.Lists.{valid-names, reach-unnamed}
use Rattle.fair_semantics.proofs.Sets.{entry_at-place}
use Rattle.ic3_semantics.specs.declared.questions.Start.{Start}
use Rattle.ic3_semantics.specs.declared.questions.Start.TheVariants.{Initial, State}
use Rattle.ic3_semantics.specs.Arenas.{restricts, restricting, keeps_to, in_arena}
use Rattle.ic3_semantics.proofs.Asked.{every_kind, reach_alone}
use Rattle.ic3_questions.specs.SteppingClauses.{side_of, start_side, own_use, own_uses}

-- ---- one entry

reach_both : (s t : Bool) → ((s && (t && true)) && true) ≡ (s && t)
reach_both true true = refl
reach_both true false = refl
reach_both false t = refl

wall_both : (from s t : Bool) → ((((s && (t && true)) || (not s && (not t && true)))) && lies_on (side_of from) s) ≡ (bool_eq from s && bool_eq from t)
wall_both true true true = refl
wall_both true true false = refl
wall_both true false true = refl
wall_both true false false = refl
wall_both false true true = refl
wall_both false true false = refl
wall_both false false true = refl
wall_both false false false = refl

-- what is asked of the entry, where it restricts the steps
abbrev asked : Start → Kind → (List Bool → Bool) → List Bool → List Bool → Bool
asked start kind set s t =
    cond (restricts start kind) (allows_by kind set (s ∷ t ∷ []) && lies_on (start_side start kind set) (set s)) true

one_side : (start : Start) (kind : Kind) (set : List Bool → Bool) (s t : List Bool)
    → asked start kind set s t ≡ (keeps_to start kind set s && keeps_to start kind set t)
one_side Initial Reach set s t = reach_both (set s) (set t)
one_side Initial Wall set s t = refl
one_side (State from) Reach set s t = reach_both (set s) (set t)
one_side (State from) Wall set s t = wall_both (set from) (set s) (set t)

-- ---- all entries

middle : (a b c d : Bool) → ((a && b) && (c && d)) ≡ ((a && c) && (b && d))
middle true true c d = refl
middle true false true d = refl
middle true false false d = refl
middle false b c d = refl

abbrev sides_at : (ℕ → List Bool → Bool) → Start → List Numbered → List Bool → Bool
sides_at sets start es s = list_all (λ e. lies_on (start_side start e.entry.kind (sets e.number)) (sets e.number s)) es

taken : (sets : ℕ → List Bool → Bool) (start : Start) (s t : List Bool) (e : Numbered) (others : List Numbered) (b : Bool)
    → (all_allow sets (cond b (e ∷ others) others) (s ∷ t ∷ []) && sides_at sets start (cond b (e ∷ others) others) s)
    ≡ (cond b (allows_by e.entry.kind (sets e.number) (s ∷ t ∷ []) && lies_on (start_side start e.entry.kind (sets e.number)) (sets e.number s)) true
    && (all_allow sets others (s ∷ t ∷ []) && sides_at sets start others s))
taken sets start s t e others true =
    middle (allows_by e.entry.kind (sets e.number) (s ∷ t ∷ [])) (all_allow sets others (s ∷ t ∷ []))
    (lies_on (start_side start e.entry.kind (sets e.number)) (sets e.number s)) (sides_at sets start others s)
taken sets start s t e others false = refl

all_sides : (sets : ℕ → List Bool → Bool) (start : Start) (s t : List Bool) (es : List Numbered)
    → (all_allow sets (filter (λ e. restricts start e.entry.kind) es) (s ∷ t ∷ [])
    && sides_at sets start (filter (λ e. restricts start e.entry.kind) es) s)
    ≡ (list_all (λ e. keeps_to start e.entry.kind (sets e.number) s) es
    && list_all (λ e. keeps_to start e.entry.kind (sets e.number) t) es)
all_sides sets start s t [] = refl
all_sides sets start s t (e ∷ es) =
    let others : List Numbered = filter (λ f. restricts start f.entry.kind) es in
    taken sets start s t e others (restricts start e.entry.kind)
    ∙ ap₂ (λ a b. a && b) (one_side start e.entry.kind (sets e.number) s t) (all_sides sets start s t es)
    ∙ middle (keeps_to start e.entry.kind (sets e.number) s) (keeps_to start e.entry.kind (sets e.number) t)
    (list_all (λ f. keeps_to start f.entry.kind (sets f.number) s) es) (list_all (λ f. keeps_to start f.entry.kind (sets f.number) t) es)

own_sides : (view : List Entry) (start : Start) (s : List Bool) (es : List Numbered)
    → list_all (λ u. lies_on u.side (set_at view u.entry s)) (map (own_use view start) es) ≡ sides_at (set_at view) start es s
own_sides view start s [] = refl
own_sides view start s (e ∷ es) =
    ap (λ b. lies_on (start_side start e.entry.kind (set_at view e.number)) (set_at view e.number s) && b) (own_sides view start s es)

-- the steps that are allowed from the start's sides are those of the arena
pub sides_are_arena : (view : List Entry) (start : Start) (s t : List Bool)
    → (all_allow (set_at view) (restricting start view) (s ∷ t ∷ [])
    && list_all (λ u. lies_on u.side (set_at view u.entry s)) (own_uses view start))
    ≡ (in_arena view start s && in_arena view start t)
sides_are_arena view start s t =
    ap (λ b. all_allow (set_at view) (restricting start view) (s ∷ t ∷ []) && b) (own_sides view start s (restricting start view))
    ∙ all_sides (set_at view) start s t (numbered view)

-- ---- the uses are of the entries that restrict the steps

-- the entry stands in the list at its number, which is m or greater
record Stands (view : List Entry) (m : ℕ) (e : Numbered) : Type 0 where
  there : e.number < length view
  is : entry_at view e.number ≡ e.entry
  above : m ≤ e.number

lower : (view : List Entry) (m n : ℕ) → m ≤ n → (es : List Numbered) → AllByRecursion (Stands view n) es → AllByRecursion (Stands view m) es
lower view m n le [] h = tt
lower view m n le (e ∷ es) h = (record { there = h.0.there; is = h.0.is; above = (let x = h.0.above in omega arith) }, lower view m n le es h.1)

all_stand : (before after : List Entry) (m : ℕ) → length before ≡ m → AllByRecursion (Stands (before ++ after) m) (numbered_from m after)
all_stand before [] m size = tt
all_stand before (e ∷ after) m size =
    let more : AllByRecursion (Stands (before ++ e ∷ after) (m + 1)) (numbered_from (m + 1) after) =
    subst (λ es. AllByRecursion (Stands es (m + 1)) (numbered_from (m + 1) after)) (append_assoc before (e ∷ []) after)
    (all_stand (before ++ e ∷ []) after (m + 1) (omega (arith, length-append before (e ∷ [])))) in (
      record {
        there = omega (arith, length-append before (e ∷ after));
        is = ap (λ k. entry_at (before ++ e ∷ after) k) (sym size) ∙ entry_at-place before e after;
        above = omega arith;
      },
      lower (before ++ e ∷ after) m (m + 1) (omega arith) (numbered_from (m + 1) after) more,
    )

picked-one : (P : Numbered → Type 0) (b : Bool) (p : Numbered → Bool) (e : Numbered) (es : List Numbered) → p e ≡ b → P e
    → AllByRecursion (λ f. P f × (p f ≡ true)) es → AllByRecursion (λ f. P f × (p f ≡ true)) (cond b (e ∷ es) es)
picked-one P true p e es is here h = ((here, is), h)
picked-one P false p e es is here h = h

picked : (P : Numbered → Type 0) (p : Numbered → Bool) (es : List Numbered) → AllByRecursion P es
    → AllByRecursion (λ e. P e × (p e ≡ true)) (filter p es)
picked P p [] h = tt
picked P p (e ∷ es) h = picked-one P (p e) p e (filter p es) refl h.0 (picked P p es h.1)

abbrev restricting_stand : List Entry → Start → Numbered → Type 0
restricting_stand view start e = Stands view 0 e × (restricts start e.entry.kind ≡ true)

each_stands : (view : List Entry) (start : Start) → AllByRecursion (restricting_stand view start) (restricting start view)
each_stands view start =
    picked (Stands view 0) (λ e. restricts start e.entry.kind) (numbered view) (all_stand [] view 0 refl)

used_again : (view : List Entry) (start : Start) (es : List Numbered) → AllByRecursion (restricting_stand view start) es
    → used_entries view (map (own_use view start) es) ≡ es
used_again view start [] h = refl
used_again view start (e ∷ es) h =
    ap₂ (λ (x : Numbered) (xs : List Numbered). x ∷ xs) (λ i. record { number = e.number; entry = h.0.0.is i }) (used_again view start es h.1)

-- the used entries are those that restrict the steps
pub own_uses_are : (view : List Entry) (start : Start) → used_entries view (own_uses view start) ≡ restricting start view
own_uses_are view start = used_again view start (restricting start view) (each_stands view start)

all_of_map : (P : Use → Type 0) (f : Numbered → Use) (es : List Numbered) → AllByRecursion (λ e. P (f e)) es → AllByRecursion P (map f es)
all_of_map P f [] h = tt
all_of_map P f (e ∷ es) h = (h.0, all_of_map P f es h.1)

all_from : (P Q : Numbered → Type 0) → ((e : Numbered) → P e → Q e) → (es : List Numbered) → AllByRecursion P es → AllByRecursion Q es
all_from P Q f [] h = tt
all_from P Q f (e ∷ es) h = (f e h.0, all_from P Q f es h.1)

-- a fact on each of the uses
each_use : (view : List Entry) (start : Start) (P : Use → Type 0)
    → ((e : Numbered) → restricting_stand view start e → P (own_use view start e)) → All P (own_uses view start)
each_use view start P f =
    All-from_recursion P (own_uses view start)
    (all_of_map P (own_use view start) (restricting start view)
    (all_from (restricting_stand view start) (λ e. P (own_use view start e)) f (restricting start view) (each_stands view start)))

-- ---- they are closed

numbers_above : (m n : ℕ) → m < n → (es : List Entry) → AllByRecursion (λ (f : Numbered). m < f.number) (numbered_from n es)
numbers_above m n lt [] = tt
numbers_above m n lt (e ∷ es) = (lt, numbers_above m (n + 1) (omega arith) es)

abbrev Before : Numbered → Numbered → Type 0
Before e f = e.number < f.number

abbrev UsedBefore : Use → Use → Type 0
UsedBefore u v = u.entry < v.entry

pairs_numbered : (m : ℕ) (es : List Entry) → AllPairs Before (numbered_from m es)
pairs_numbered m [] = λ i j d lt within. absurd (omega arith)
pairs_numbered m (e ∷ es) =
    AllPairs-cons Before (record { number = m; entry = e }) (numbered_from (m + 1) es)
    (All-from_recursion (λ f. m < f.number) (numbered_from (m + 1) es) (numbers_above m (m + 1) (omega arith) es))
    (pairs_numbered (m + 1) es)

pairs_map : (view : List Entry) (start : Start) (es : List Numbered) → AllPairs Before es → AllPairs UsedBefore (map (own_use view start) es)
pairs_map view start [] h = λ i j d lt within. absurd (omega arith)
pairs_map view start (e ∷ es) h =
    let first : All (λ (f : Numbered). e.number < f.number) es = λ j d lt. h 0 (suc j) d (omega arith) (omega arith) in
    AllPairs-cons UsedBefore (own_use view start e) (map (own_use view start) es)
    (All-from_recursion (λ v. e.number < v.entry) (map (own_use view start) es)
    (all_of_map (λ v. e.number < v.entry) (own_use view start) es (recursion_from_All (λ f. e.number < f.number) es first)))
    (pairs_map view start es (λ i j d lt within. h (suc i) (suc j) d (omega arith) (omega arith)))

signed_wall : (start : Start) (kind : Kind) (set : List Bool → Bool) → (start_side start kind set ≢ Any) → kind ≡ Wall
signed_wall Initial kind set h = absurd (h refl)
signed_wall (State from) Reach set h = absurd (h refl)
signed_wall (State from) Wall set h = refl

-- from a state each entry is used
uses-behind : (u : Use) (us : List Use) (n : ℕ) → Uses us n → Uses (u ∷ us) n
uses-behind u us n (k, v, lt, at, is) = (suc k, v, (let l : k < length us = lt in omega arith), at, is)

uses_each : (view : List Entry) (from : List Bool) (m : ℕ) (es : List Entry) (k n : ℕ) → k < length es → m + k ≡ n
    → Uses (map (own_use view (State from)) (filter (λ e. restricts (State from) e.entry.kind) (numbered_from m es))) n
uses_each view from m [] k n below at = absurd (omega arith)
uses_each view from m (e ∷ es) zero n below at =
    let head : Numbered = record { number = m; entry = e } in
    let rest : List Numbered = filter (λ f. restricts (State from) f.entry.kind) (numbered_from (m + 1) es) in
    let same : m ≡ n = omega arith in
    subst (λ b. Uses (map (own_use view (State from)) (cond b (head ∷ rest) rest)) n) (sym (every_kind from e.kind))
    (0, own_use view (State from) head, omega arith, refl, same)
uses_each view from m (e ∷ es) (suc k) n below at =
    let head : Numbered = record { number = m; entry = e } in
    let rest : List Numbered = filter (λ f. restricts (State from) f.entry.kind) (numbered_from (m + 1) es) in
    subst (λ b. Uses (map (own_use view (State from)) (cond b (head ∷ rest) rest)) n) (sym (every_kind from e.kind))
    (uses-behind (own_use view (State from) head) (map (own_use view (State from)) rest) n
    (uses_each view from (m + 1) es k n (omega arith) (omega arith)))

names_used : (c : Circuit) (view : List Entry) (start : Start) → AreValid c view → (e : Numbered) → restricting_stand view start e
    → NamesUsed (own_uses view start) e.number (entry_at view e.number)
names_used c view Initial valid e h =
    let kind : (entry_at view e.number).kind ≡ Reach = ap (λ f. f.kind) h.0.is ∙ reach_alone e.entry.kind h.1 in
    λ k d inside signed. absurd (reach-unnamed c view e.number valid h.0.there kind k d inside signed)
names_used c view (State from) valid e h =
    λ k d inside signed.
    let named = valid-names c view e.number valid h.0.there k d inside signed in
    let u : Use = get_or (entry_at view e.number).uses k d in
    let lower : u.entry < e.number = named.0 in
    let there : e.number < length view = h.0.there in
    (named.0, uses_each view from 0 view u.entry u.entry (omega arith) (omega arith))

pub own_closed : (c : Circuit) (view : List Entry) (start : Start) → AreValid c view → AreClosed view (own_uses view start)
own_closed c view start valid = record {
  ascend = pairs_map view start (restricting start view) (AllPairs-filter Before (λ e. restricts start e.entry.kind) (numbered view) (pairs_numbered 0 view));
  present = each_use view start (λ u. u.entry < length view) (λ e h. h.0.there);
  walls =
      each_use view start (λ u. IsSigned u → (entry_at view u.entry).kind ≡ Wall)
      (λ e h signed. ap (λ f. f.kind) h.0.is ∙ signed_wall start e.entry.kind (set_at view e.number) signed);
  closed = each_use view start (λ u. NamesUsed (own_uses view start) u.entry (entry_at view u.entry)) (names_used c view start valid);
}
