-- The properties of a board, which ascend, and their outcomes.
use Rattle.std.proofs.Common.{◌≡◌, ℕ, zero, suc, ◌<◌, ◌≤◌, ◌⊎◌, inl, inr, Bool, true, false, ◌&&◌, List, [], ◌∷◌, length, slice_set, refl, sym, ap, ◌∙◌, subst, arith}
use Rattle.std.specs.Prelude.{Contains, Option, Some, None, is_some, is_none, if◌then◌else◌, nat_le, slice_index_or}
use Rattle.std.specs.List.{AllPairs}
use Rattle.std.proofs.lemmas.Bool.{ne_eqb, eq-eqb, cases_eq, and_parts, and_from, leb-true, le-leb}
use Rattle.wall_store.specs.declared.outcomes.Outcome.{Outcome}
use Rattle.wall_store.specs.declared.outcomes.Served.{Served}
use Rattle.wall_store.specs.Boards.{properties_of, outcome_of}
use Rattle.wall_store.specs.Events.{with_outcome, IsOpen, IsSettled, IsLeastOpen, NoneOpenFrom, IsNextOpen}
use Rattle.wall_store.specs.Scanning.{place_in, least_in, next_in, all_settled}

abbrev pub Ascend : List Served → Type 0
Ascend served = AllPairs (λ i j. i < j) (properties_of served)

-- ---- the first and those behind it

member-at : (x : ℕ) (xs : List ℕ) (j k : ℕ) → k < length (x ∷ xs) → slice_index_or (x ∷ xs) k j ≡ j → (x ≡ j) ⊎ Contains xs j
member-at x xs j zero below same = inl same
member-at x xs j (suc k) below same = inr (k, (omega arith), same)

member : (x : ℕ) (xs : List ℕ) (j : ℕ) → Contains (x ∷ xs) j → (x ≡ j) ⊎ Contains xs j
member x xs j h = member-at x xs j h.0 h.1 h.2

later : (x : ℕ) (xs : List ℕ) (j : ℕ) → Contains xs j → Contains (x ∷ xs) j
later x xs j h = (suc h.0, (let below : h.0 < length xs = h.1 in omega arith), h.2)

no_member : {Y : Type 0} (j : ℕ) → Contains [] j → Y
no_member j h = absurd (let below : h.0 < 0 = h.1 in omega arith)

ascend-later : (s : Served) (served : List Served) → Ascend (s ∷ served) → Ascend served
ascend-later s served h i j d before inside = h (suc i) (suc j) d (omega arith) (omega arith)

ascend-above : (s : Served) (served : List Served) (j : ℕ) → Ascend (s ∷ served) → Contains (properties_of served) j → s.property < j
ascend-above s served j h inside =
    subst (λ (i : ℕ). s.property < i) inside.2 (h 0 (suc inside.0) j (omega arith) (let below : inside.0 < length (properties_of served) = inside.1 in omega arith))

outcome-here : (s : Served) (served : List Served) (j : ℕ) → s.property ≡ j → outcome_of (s ∷ served) j ≡ s.outcome
outcome-here s served j same = rw (eq-eqb s.property j same) refl

outcome-later : (s : Served) (served : List Served) (j : ℕ) → (s.property ≡ j → ⊥) → outcome_of (s ∷ served) j ≡ outcome_of served j
outcome-later s served j apart = rw (ne_eqb s.property j apart) refl

-- ---- the place of a property

pub place_inside : (served : List Served) (j : ℕ) → Contains (properties_of served) j → place_in served j < length served
place_inside [] j h = no_member j h
place_inside (s ∷ served) j h =
    elim (cases_eq s.property j) [
      | inl same ↦ rw (eq-eqb s.property j same) (omega arith)
      | inr apart ↦
          rw (ne_eqb s.property j apart)
          (elim (member s.property (properties_of served) j h) [
            | inl same ↦ absurd (apart same)
            | inr inside ↦ (let below = place_inside served j inside in omega (arith, below))
          ])
    ]

pub outcome_at_place : (served : List Served) (j : ℕ) (d : Served) → place_in served j < length served
    → outcome_of served j ≡ (slice_index_or served (place_in served j) d).outcome
outcome_at_place [] j d below = absurd (omega arith)
outcome_at_place (s ∷ served) j d below =
    elim (cases_eq s.property j) [
      | inl same ↦ rw (eq-eqb s.property j same) refl
      | inr apart ↦
          (let inner : place_in (s ∷ served) j ≡ suc (place_in served j) = rw (ne_eqb s.property j apart) (omega arith) in
          outcome-later s served j apart ∙ outcome_at_place served j d (omega (arith, inner, below))
          ∙ ap (λ (k : ℕ). (slice_index_or (s ∷ served) k d).outcome) (sym inner))
    ]

pub with_outcome_at_place : (served : List Served) (j : ℕ) (o : Outcome) → Contains (properties_of served) j
    → with_outcome served j o ≡ slice_set served (place_in served j) (record { property = j; outcome = Some o })
with_outcome_at_place [] j o h = no_member j h
with_outcome_at_place (s ∷ served) j o h =
    elim (cases_eq s.property j) [
      | inl same ↦ rw (eq-eqb s.property j same) (ap (λ (i : ℕ). record { property = i; outcome = Some o } ∷ served) same)
      | inr apart ↦
          (let inner : place_in (s ∷ served) j ≡ suc (place_in served j) = rw (ne_eqb s.property j apart) (omega arith) in
          let whole : with_outcome (s ∷ served) j o ≡ s ∷ with_outcome served j o = rw (ne_eqb s.property j apart) refl in
          let behind : Contains (properties_of served) j =
          elim (member s.property (properties_of served) j h) [
            | inl same ↦ absurd (apart same)
            | inr inside ↦ inside
          ]
          in
          whole ∙ ap (λ (us : List Served). s ∷ us) (with_outcome_at_place served j o behind)
          ∙ ap (λ (k : ℕ). slice_set (s ∷ served) k (record { property = j; outcome = Some o })) (sym inner))
    ]

-- ---- one more outcome

pub properties_stay : (served : List Served) (j : ℕ) (o : Outcome) → properties_of (with_outcome served j o) ≡ properties_of served
properties_stay [] j o = refl
properties_stay (s ∷ served) j o =
    elim (cases_eq s.property j) [
      | inl same ↦ rw (eq-eqb s.property j same) refl
      | inr apart ↦ rw (ne_eqb s.property j apart) (ap (λ (is : List ℕ). s.property ∷ is) (properties_stay served j o))
    ]

-- an outcome that is there afterwards is the new one, or was there
pub outcome_after : (served : List Served) (j : ℕ) (o : Outcome) (i : ℕ) (p : Outcome)
    → outcome_of (with_outcome served j o) i ≡ Some p → ((i ≡ j) × (p ≡ o)) ⊎ (outcome_of served i ≡ Some p)
outcome_after [] j o i p h = inr h
outcome_after (s ∷ served) j o i p h =
    elim (cases_eq s.property j) [
      | inl same ↦
          (let whole : with_outcome (s ∷ served) j o ≡ record { property = s.property; outcome = Some o } ∷ served = rw (eq-eqb s.property j same) refl in
          let t : Served = record { property = s.property; outcome = Some o } in
          let found : outcome_of (t ∷ served) i ≡ Some p = ap (λ (us : List Served). outcome_of us i) (sym whole) ∙ h in
          elim (cases_eq s.property i) [
            | inl here ↦
                (let said : Some o ≡ Some p = sym (outcome-here t served i here) ∙ found in
                inl (sym here ∙ same, (cc)))
            | inr apart ↦ inr (outcome-later s served i apart ∙ sym (outcome-later t served i apart) ∙ found)
          ])
      | inr other ↦
          (let whole : with_outcome (s ∷ served) j o ≡ s ∷ with_outcome served j o = rw (ne_eqb s.property j other) refl in
          let found : outcome_of (s ∷ with_outcome served j o) i ≡ Some p = ap (λ (us : List Served). outcome_of us i) (sym whole) ∙ h in
          elim (cases_eq s.property i) [
            | inl here ↦ inr (outcome-here s served i here ∙ sym (outcome-here s (with_outcome served j o) i here) ∙ found)
            | inr apart ↦
                elim (outcome_after served j o i p (sym (outcome-later s (with_outcome served j o) i apart) ∙ found)) [
                  | inl new ↦ inl new
                  | inr old ↦ inr (outcome-later s served i apart ∙ old)
                ]
          ])
    ]

-- ---- open properties

later_open : (s : Served) (served : List Served) (j : ℕ) → Ascend (s ∷ served) → IsOpen served j → IsOpen (s ∷ served) j
later_open s served j ascend (inside, outcome) =
    let above : s.property < j = ascend-above s served j ascend inside in
    (later s.property (properties_of served) j inside, outcome-later s served j (λ same. (omega (arith, above, same))) ∙ outcome)

earlier_open : (s : Served) (served : List Served) (j : ℕ) → (s.property ≡ j → ⊥) → IsOpen (s ∷ served) j → IsOpen served j
earlier_open s served j apart (inside, outcome) =
    elim (member s.property (properties_of served) j inside) [
      | inl same ↦ absurd (apart same)
      | inr behind ↦ (behind, sym (outcome-later s served j apart) ∙ outcome)
    ]

first_open : (s : Served) (served : List Served) → s.outcome ≡ None → IsOpen (s ∷ served) s.property
first_open s served outcome = ((0, (omega arith), refl), outcome-here s served s.property refl ∙ outcome)

is_none-none : (o : Option Outcome) → is_none o ≡ true → o ≡ None
is_none-none None h = refl
is_none-none (Some x) h = absurd cc

pub settled_all : (served : List Served) → all_settled served ≡ true → IsSettled served
settled_all [] h j (inside, outcome) = no_member j inside
settled_all (s ∷ served) h j at =
    let parts = and_parts _ _ h in
    elim (cases_eq s.property j) [
      | inl same ↦
          (let gone : s.outcome ≡ None = sym (outcome-here s served j same) ∙ at.1 in
          let clash : is_some {T = Outcome} None ≡ true = ap (λ (o : Option Outcome). is_some o) (sym gone) ∙ parts.0 in
          absurd cc)
      | inr apart ↦ settled_all served parts.1 j (earlier_open s served j apart at)
    ]

open-first : (s : Served) (served : List Served) (o : Option Outcome) → Ascend (s ∷ served) → s.outcome ≡ o
    → (all_settled served ≡ false → (j : ℕ) × IsOpen served j) → (is_some o && all_settled served) ≡ false → (j : ℕ) × IsOpen (s ∷ served) j
open-first s served None ascend same rest h = (s.property, first_open s served same)
open-first s served (Some x) ascend same rest h = (let found = rest h in (found.0, later_open s served found.0 ascend found.1))

pub some_open : (served : List Served) → Ascend served → all_settled served ≡ false → (j : ℕ) × IsOpen served j
some_open [] ascend h = absurd cc
some_open (s ∷ served) ascend h = open-first s served s.outcome ascend refl (some_open served (ascend-later s served ascend)) h

pub unsettled : (served : List Served) → Ascend served → all_settled served ≡ false → IsSettled served → ⊥
unsettled served ascend h settled = (let found = some_open served ascend h in settled found.0 found.1)

-- ---- the least open property

abbrev IsLeast : List Served → ℕ → Option ℕ → Type 0
IsLeast served least None = NoneOpenFrom served least
IsLeast served least (Some j) = IsLeastOpen served least j

least-here : (s : Served) (served : List Served) (least : ℕ) → Ascend (s ∷ served) → (nat_le least s.property && is_none s.outcome) ≡ true
    → IsLeastOpen (s ∷ served) least s.property
least-here s served least ascend h =
    let parts = and_parts _ _ h in
    record {
      open_one = first_open s served (is_none-none s.outcome parts.1);
      from_on = leb-true least s.property parts.0;
      none_before = λ i above below at.
          elim (member s.property (properties_of served) i at.0) [
            | inl same ↦ (omega (arith, below, same))
            | inr behind ↦ (let over = ascend-above s served i ascend behind in omega (arith, below, over))
          ];
    }

open-behind : (s : Served) (served : List Served) (least i : ℕ) → (nat_le least s.property && is_none s.outcome) ≡ false
    → least ≤ i → IsOpen (s ∷ served) i → IsOpen served i
open-behind s served least i h above at =
    earlier_open s served i (λ same.
    let gone : s.outcome ≡ None = sym (outcome-here s served i same) ∙ at.1 in
    let reach : least ≤ s.property = omega (arith, above, same) in
    let passes : (nat_le least s.property && is_none s.outcome) ≡ true = and_from _ _ (le-leb least s.property reach) (ap (λ (o : Option Outcome). is_none o) gone) in
    let clash : false ≡ true = sym h ∙ passes in
    absurd cc) at

least-skip : (s : Served) (served : List Served) (least : ℕ) (r : Option ℕ) → Ascend (s ∷ served)
    → (nat_le least s.property && is_none s.outcome) ≡ false → IsLeast served least r → IsLeast (s ∷ served) least r
least-skip s served least None ascend h none = λ i above at. none i above (open-behind s served least i h above at)
least-skip s served least (Some j) ascend h found =
    record {
      open_one = later_open s served j ascend found.open_one;
      from_on = found.from_on;
      none_before = λ i above below at. found.none_before i above below (open-behind s served least i h above at);
    }

least-by : (s : Served) (served : List Served) (least : ℕ) (test : Bool) → Ascend (s ∷ served)
    → (nat_le least s.property && is_none s.outcome) ≡ test → IsLeast served least (least_in least served)
    → IsLeast (s ∷ served) least (if test then Some s.property else least_in least served)
least-by s served least true ascend h rest = least-here s served least ascend h
least-by s served least false ascend h rest = least-skip s served least (least_in least served) ascend h rest

least_right : (least : ℕ) (served : List Served) → Ascend served → IsLeast served least (least_in least served)
least_right least [] ascend = λ i above at. no_member i at.0
least_right least (s ∷ served) ascend =
    least-by s served least (nat_le least s.property && is_none s.outcome) ascend refl (least_right least served (ascend-later s served ascend))

next-by : (served : List Served) (least : ℕ) (first second : Option ℕ) → IsLeast served least first → IsLeast served 0 second
    → IsNextOpen served least (next_in first second)
next-by served least (Some j) second one two = inl one
next-by served least None (Some j) one two = inr (one, two)
next-by served least None None one two = λ j at. two j (omega arith) at

pub next_right : (served : List Served) (least : ℕ) → Ascend served
    → IsNextOpen served least (next_in (least_in least served) (least_in 0 served))
next_right served least ascend =
    next-by served least (least_in least served) (least_in 0 served) (least_right least served ascend) (least_right 0 served ascend)

-- ---- finish

pub closed_at : (served : List Served) (j : ℕ) (place : ℕ) (s : Served) → Contains (properties_of served) j → place ≡ place_in served j
    → s ≡ slice_index_or served place s → is_some s.outcome ≡ true → outcome_of served j ≡ None → ⊥
closed_at served j place s inside same at some none =
    let below : place_in served j < length served = place_inside served j inside in
    let here : outcome_of served j ≡ (slice_index_or served place s).outcome =
    outcome_at_place served j s below ∙ ap (λ (k : ℕ). (slice_index_or served k s).outcome) (sym same)
    in
    let gone : s.outcome ≡ None = ap (λ (t : Served). t.outcome) at ∙ sym here ∙ none in
    let clash : is_some {T = Outcome} None ≡ true = ap (λ (o : Option Outcome). is_some o) (sym gone) ∙ some in
    cc

none-of : (o : Option Outcome) → is_some o ≡ false → o ≡ None
none-of None h = refl
none-of (Some x) h = absurd cc

pub won_at : (served : List Served) (j : ℕ) (place : ℕ) (s : Served) → Contains (properties_of served) j → place ≡ place_in served j
    → s ≡ slice_index_or served place s → is_some s.outcome ≡ false → outcome_of served j ≡ None
won_at served j place s inside same at some =
    let below : place_in served j < length served = place_inside served j inside in
    let here : outcome_of served j ≡ (slice_index_or served place s).outcome =
    outcome_at_place served j s below ∙ ap (λ (k : ℕ). (slice_index_or served k s).outcome) (sym same)
    in
    here ∙ ap (λ (t : Served). t.outcome) (sym at) ∙ none-of s.outcome some

pub inside_at : (served : List Served) (j : ℕ) (place : ℕ) → Contains (properties_of served) j → place ≡ place_in served j → place < length served
inside_at served j place inside same = (let below = place_inside served j inside in omega (arith, below, same))

pub set_at_place : (served : List Served) (j : ℕ) (place : ℕ) (o : Outcome) → Contains (properties_of served) j → place ≡ place_in served j
    → slice_set served place (record { property = j; outcome = Some o }) ≡ with_outcome served j o
set_at_place served j place o inside same =
    ap (λ (k : ℕ). slice_set served k (record { property = j; outcome = Some o })) same ∙ sym (with_outcome_at_place served j o inside)
