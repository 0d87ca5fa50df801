-- How many entries a list can have that each exclude a skeleton which those before them allow.
use Rattle.std.proofs.Common.{◌≡◌, ℕ, zero, suc, ◌+◌, ◌-◌, ◌*◌, ◌^◌, ◌<◌, ◌≤◌, max, min, Bool, true, false, List, [], ◌∷◌, ◌++◌, inl, inr, Some, None, length, get_or, take, drop, refl, sym, ap, ap₂, ◌∙◌, subst, arith}
use Rattle.std.specs.Prelude.{Contains}
use Rattle.std.specs.List.{All, Any}
use Rattle.std.proofs.Math.Seq.{take-append_seam, drop-append_seam}
use Rattle.std.proofs.lemmas.Bool.{false≢true}
use Rattle.std.proofs.lemmas.List.{append-nil, append_assoc, length-append, length-map, map-append}
use Rattle.std.proofs.lemmas.List.Elements.{All-head, All-tail}
use Rattle.aig_semantics.specs.declared.traces.Position.{Position}
use Rattle.aig_semantics.specs.Circuits.{Circuit, fair_literals}
use Rattle.aig_semantics.specs.Runs.{successor}
use Rattle.edge.specs.Units.{Spendings}
use Rattle.edge.specs.Ends.{IsSpent}
use Rattle.fair_semantics.specs.declared.skeletons.Situation.{Situation}
use Rattle.fair_semantics.specs.declared.skeletons.Skeleton.{Skeleton}
use Rattle.fair_semantics.specs.Allowing.{allow}
use Rattle.fair_semantics.specs.Entries.{Entry, numbered}
use Rattle.fair_semantics.specs.Skeletons.{states_of, places, IsSituation, IsSkeleton, excludes}
use Rattle.fair_semantics.proofs.Staying.{front_allows}
use Rattle.fair_semantics.proofs.States.{count, count-within, count-less, count-most}
use Rattle.entry.specs.CheckedEntries.{CheckedEntry}
use Rattle.entry.specs.declared.origins.Origin.{Origin}
use Rattle.entry.specs.declared.origins.Origin.TheVariants.{Given, Worker as FoundBy}
use Rattle.wall_store.specs.Boards.{BoardState, plain, Allow, FromWorker, IsFind, most_entries}
use Rattle.search_reports.specs.declared.limits.Report.{Report}
use Rattle.fair_workers.specs.Runs.{Task, IsFull, IsReport, round_workers}
use Rattle.fair_workers.specs.Laws.{skeleton_lists, NoReportWithoutLimits}
use Rattle.fair_workers.proofs.Ahead.{member}
use Rattle.shared_lists.proofs.LentBoards.{not-excluded}

-- ---- counting lists of values

-- where one passes the test some do
count-some : (n : ℕ) (test : List Bool → Bool) (s : List Bool) → length s ≡ n → test s ≡ true → 1 ≤ count n test
count-some n test s size passes =
    let h = count-less n (λ t. false) test (λ t e. absurd (false≢true e)) s size refl passes in
    omega (arith, h)

-- ---- skeletons as lists of values

-- the values of the latches and inputs of all positions
abbrev bits_of : List Situation → List Bool
bits_of [] = []
bits_of (s ∷ situations) = s.position.latches ++ (s.position.inputs ++ bits_of situations)

abbrev situation_with : Circuit → List Bool → List Bool → Situation
situation_with c latches inputs =
    let p : Position = record { latches = latches; inputs = inputs } in record { position = p; successor = successor c p }

-- so many situations with these values
abbrev situations_with : Circuit → ℕ → List Bool → List Situation
situations_with c zero bits = []
situations_with c (suc n) bits =
    let rest : List Bool = drop (length c.latches) bits in
    situation_with c (take (length c.latches) bits) (take (length c.inputs) rest) ∷ situations_with c n (drop (length c.inputs) rest)

take-front : (n : ℕ) (xs ys : List Bool) → length xs ≡ n → take n (xs ++ ys) ≡ xs
take-front n xs ys size = ap (λ m. take m (xs ++ ys)) (sym size) ∙ take-append_seam xs ys

drop-front : (n : ℕ) (xs ys : List Bool) → length xs ≡ n → drop n (xs ++ ys) ≡ ys
drop-front n xs ys size = ap (λ m. drop m (xs ++ ys)) (sym size) ∙ drop-append_seam xs ys

situation-back : (c : Circuit) (s : Situation) → s.successor ≡ successor c s.position
    → situation_with c s.position.latches s.position.inputs ≡ s
situation-back c s next = ap (λ t. record { position = s.position; successor = t }) (sym next)

bits-back : (c : Circuit) (situations : List Situation) → All (IsSituation c) situations
    → situations_with c (length situations) (bits_of situations) ≡ situations
bits-back c [] all = refl
bits-back c (s ∷ situations) all =
    let here : IsSituation c s = All-head (IsSituation c) s situations all in
    let latches : List Bool = s.position.latches in
    let inputs : List Bool = s.position.inputs in
    let rest : List Bool = bits_of situations in
    let first : take (length c.latches) (latches ++ (inputs ++ rest)) ≡ latches = take-front (length c.latches) latches (inputs ++ rest) here.possible.position.latches in
    let behind : drop (length c.latches) (latches ++ (inputs ++ rest)) ≡ inputs ++ rest =
    drop-front (length c.latches) latches (inputs ++ rest) here.possible.position.latches
    in
    let second : take (length c.inputs) (drop (length c.latches) (latches ++ (inputs ++ rest))) ≡ inputs =
    ap (take (length c.inputs)) behind ∙ take-front (length c.inputs) inputs rest here.possible.position.inputs
    in
    let later : drop (length c.inputs) (drop (length c.latches) (latches ++ (inputs ++ rest))) ≡ rest =
    ap (drop (length c.inputs)) behind ∙ drop-front (length c.inputs) inputs rest here.possible.position.inputs
    in
    ap₂ (λ a b. a ∷ b) (ap₂ (situation_with c) first second ∙ situation-back c s here.next)
    (ap (situations_with c (length situations)) later ∙ bits-back c situations (All-tail (IsSituation c) s situations all))

bits-size : (c : Circuit) (situations : List Situation) → All (IsSituation c) situations
    → length (bits_of situations) ≡ length situations * (length c.latches + length c.inputs)
bits-size c [] all = omega arith
bits-size c (s ∷ situations) all =
    let here : IsSituation c s = All-head (IsSituation c) s situations all in
    let rest = bits-size c situations (All-tail (IsSituation c) s situations all) in
    let latches : List Bool = s.position.latches in
    let inputs : List Bool = s.position.inputs in
    sized (length situations) (length c.latches) (length c.inputs) (length (latches ++ (inputs ++ bits_of situations))) (length latches) (length inputs)
    (length (bits_of situations)) (length (inputs ++ bits_of situations)) (length-append latches (inputs ++ bits_of situations))
    (length-append inputs (bits_of situations)) here.possible.position.latches here.possible.position.inputs rest
  where
    sized : (n l i whole first second rest behind : ℕ) → whole ≡ first + behind → behind ≡ second + rest → first ≡ l → second ≡ i → rest ≡ n * (l + i)
        → whole ≡ suc n * (l + i)
    sized n l i whole first second rest behind a b d e f = omega (arith, a, b, d, e, f)

-- ---- what a list of entries allows

-- the entries allow the situations with these values
abbrev allows : Circuit → ℕ → List CheckedEntry → List Bool → Bool
allows c n entries bits = allow (numbered (plain entries)) (states_of (situations_with c n bits))

skeleton-allowed : (c : Circuit) (j n : ℕ) (entries : List CheckedEntry) (s : Skeleton) → IsSkeleton c j s → n ≡ length s.situations
    → allows c n entries (bits_of s.situations) ≡ allow (numbered (plain entries)) (places s)
skeleton-allowed c j n entries s is size =
    ap (λ m. allows c m entries (bits_of s.situations)) size
    ∙ ap (λ situations. allow (numbered (plain entries)) (states_of situations)) (bits-back c s.situations is.situations)

plain-more : (before : List CheckedEntry) (e : CheckedEntry) → plain (before ++ e ∷ []) ≡ plain before ++ e.entry ∷ []
plain-more before e = map-append (λ (x : CheckedEntry). x.entry) before (e ∷ [])

fewer-allowed : (c : Circuit) (n : ℕ) (before : List CheckedEntry) (e : CheckedEntry) (bits : List Bool)
    → allows c n (before ++ e ∷ []) bits ≡ true → allows c n before bits ≡ true
fewer-allowed c n before e bits h =
    let states : List (List Bool) = states_of (situations_with c n bits) in
    front_allows (plain before) (e.entry ∷ []) states
    (subst (λ (xs : List Entry). allow (numbered xs) states ≡ true) (plain-more before e) h)

false-if : (b : Bool) → (b ≡ true → ⊥) → b ≡ false
false-if true h = absurd (h refl)
false-if false h = refl

-- an entry that excludes a skeleton does not allow it
excluded-here : (before : List Entry) (e : Entry) (s : Skeleton) → excludes (before ++ e ∷ []) (length before) s ≡ true
    → allow (numbered (before ++ e ∷ [])) (places s) ≡ false
excluded-here before e s excluded =
    false-if (allow (numbered (before ++ e ∷ [])) (places s)) (λ allowed.
    let whole : List Entry = before ++ e ∷ [] in
    let inside : length before < length whole = omega (arith, length-append before (e ∷ [])) in
    let not_so : excludes (whole ++ []) (length before) s ≡ false = not-excluded whole [] (length before) s inside allowed in
    let same : excludes (whole ++ []) (length before) s ≡ true = subst (λ xs. excludes xs (length before) s ≡ true) (sym (append-nil whole)) excluded in
    false≢true (sym not_so ∙ same))

-- how many situations a skeleton of a property has, and how many values these have
abbrev situations : Circuit → ℕ → ℕ
situations c j = max 1 (length (fair_literals c j))

abbrev width : Circuit → ℕ → ℕ
width c j = situations c j * (length c.latches + length c.inputs)

-- how many skeletons of a property the entries allow, and of each of these properties
abbrev left_for : Circuit → List CheckedEntry → ℕ → ℕ
left_for c entries j = count (width c j) (allows c (situations c j) entries)

abbrev left_all : Circuit → List CheckedEntry → List ℕ → ℕ
left_all c entries [] = 0
left_all c entries (j ∷ js) = left_for c entries j + left_all c entries js

left-within : (c : Circuit) (before : List CheckedEntry) (e : CheckedEntry) (j : ℕ) → left_for c (before ++ e ∷ []) j ≤ left_for c before j
left-within c before e j =
    count-within (width c j) (allows c (situations c j) (before ++ e ∷ [])) (allows c (situations c j) before)
    (λ t. fewer-allowed c (situations c j) before e t)

all-within : (c : Circuit) (before : List CheckedEntry) (e : CheckedEntry) (js : List ℕ) → left_all c (before ++ e ∷ []) js ≤ left_all c before js
all-within c before e [] = omega arith
all-within c before e (j ∷ js) =
    sums (left_for c (before ++ e ∷ []) j) (left_for c before j) (left_all c (before ++ e ∷ []) js) (left_all c before js) (left-within c before e j)
    (all-within c before e js)
  where
    sums : (a b m n : ℕ) → a ≤ b → m ≤ n → a + m ≤ b + n
    sums a b m n here rest = omega (arith, here, rest)

-- each find leaves less of its property
find-one : (c : Circuit) (j : ℕ) (before : List CheckedEntry) (e : CheckedEntry) (s : Skeleton) → IsSkeleton c j s → Allow before s
    → excludes (plain before ++ e.entry ∷ []) (length before) s ≡ true → left_for c (before ++ e ∷ []) j + 1 ≤ left_for c before j
find-one c j before e s is allowed excluded =
    let n : ℕ = situations c j in
    let as_many : n ≡ length s.situations = sym is.size in
    let bits : List Bool = bits_of s.situations in
    let long : length bits ≡ width c j =
    bits-size c s.situations is.situations ∙ ap (λ m. m * (length c.latches + length c.inputs)) (sym as_many)
    in
    let out : allows c n (before ++ e ∷ []) bits ≡ false =
    skeleton-allowed c j n (before ++ e ∷ []) s is as_many ∙ ap (λ xs. allow (numbered xs) (places s)) (plain-more before e)
    ∙ excluded-here (plain before) e.entry s
    (subst (λ (m : ℕ). excludes (plain before ++ e.entry ∷ []) m s ≡ true) (sym (length-map before (λ (x : CheckedEntry). x.entry))) excluded)
    in
    let within : allows c n before bits ≡ true = skeleton-allowed c j n before s is as_many ∙ allowed in
    count-less (width c j) (allows c n (before ++ e ∷ [])) (allows c n before) (λ t. fewer-allowed c n before e t) bits long out within

-- and of all
find-all : (c : Circuit) (js : List ℕ) (j : ℕ) (before : List CheckedEntry) (e : CheckedEntry) (s : Skeleton) → Contains js j → IsSkeleton c j s
    → Allow before s → excludes (plain before ++ e.entry ∷ []) (length before) s ≡ true → left_all c (before ++ e ∷ []) js + 1 ≤ left_all c before js
find-all c [] j before e s inside is allowed excluded = absurd (let below : inside.0 < 0 = inside.1 in omega arith)
find-all c (i ∷ js) j before e s inside is allowed excluded =
    elim (member i js j inside) [
      | inl same ↦
          first (left_for c (before ++ e ∷ []) i) (left_for c before i) (left_all c (before ++ e ∷ []) js) (left_all c before js)
          (subst (λ (m : ℕ). left_for c (before ++ e ∷ []) m + 1 ≤ left_for c before m) (sym same) (find-one c j before e s is allowed excluded))
          (all-within c before e js)
      | inr there ↦
          later (left_for c (before ++ e ∷ []) i) (left_for c before i) (left_all c (before ++ e ∷ []) js) (left_all c before js) (left-within c before e i)
          (find-all c js j before e s there is allowed excluded)
    ]
  where
    first : (a b m n : ℕ) → a + 1 ≤ b → m ≤ n → (a + m) + 1 ≤ b + n
    first a b m n here rest = omega (arith, here, rest)

    later : (a b m n : ℕ) → a ≤ b → m + 1 ≤ n → (a + m) + 1 ≤ b + n
    later a b m n here rest = omega (arith, here, rest)

find-by : (c : Circuit) (js : List ℕ) (before : List CheckedEntry) (e : CheckedEntry) (s : Skeleton) → Any (λ j. IsSkeleton c j s) js → Allow before s
    → excludes (plain before ++ e.entry ∷ []) (length before) s ≡ true → left_all c (before ++ e ∷ []) js + 1 ≤ left_all c before js
find-by c js before e s (k, j, below, at, is) allowed excluded = find-all c js j before e s (k, below, at) is allowed excluded

find-less : (c : Circuit) (js : List ℕ) (workers : ℕ) (before : List CheckedEntry) (e : CheckedEntry) (origin : Origin)
    → FromWorker origin (IsFind c js workers before e) → left_all c (before ++ e ∷ []) js + 1 ≤ left_all c before js
find-less c js workers before e Given find = absurd find
find-less c js workers before e (FoundBy work) find = find-by c js before e work.skeleton find.skeleton find.allowed find.excluded

-- one of a property is one of all
one-of-all : (c : Circuit) (entries : List CheckedEntry) (js : List ℕ) (j : ℕ) → Contains js j → left_for c entries j ≤ left_all c entries js
one-of-all c entries [] j inside = absurd (let below : inside.0 < 0 = inside.1 in omega arith)
one-of-all c entries (i ∷ js) j inside =
    elim (member i js j inside) [
      | inl same ↦ subst (λ (m : ℕ). left_for c entries m ≤ left_for c entries i + left_all c entries js) same (first (left_for c entries i) (left_all c entries js))
      | inr there ↦ later (left_for c entries j) (left_for c entries i) (left_all c entries js) (one-of-all c entries js j there)
    ]
  where
    first : (a b : ℕ) → a ≤ a + b
    first a b = omega arith

    later : (m a b : ℕ) → m ≤ b → m ≤ a + b
    later m a b h = omega (arith, h)

least-left : (a b : ℕ) → 1 ≤ a → a ≤ b → 0 + 1 ≤ b
least-left a b some most = omega (arith, some, most)

-- Behind the first entries each excludes a skeleton that those before it allow.
abbrev FindsFrom : Circuit → List ℕ → ℕ → ℕ → List CheckedEntry → Type 0
FindsFrom c js workers first entries =
    (before after : List CheckedEntry) (e : CheckedEntry) → entries ≡ before ++ e ∷ after → first ≤ length before
    → FromWorker e.origin (IsFind c js workers before e)

-- as many skeletons are left as entries follow, and one more
left-after : (c : Circuit) (js : List ℕ) (j workers first : ℕ) (entries before after : List CheckedEntry) (s : Skeleton) → Contains js j
    → entries ≡ before ++ after → FindsFrom c js workers first entries → first ≤ length before → IsSkeleton c j s → Allow entries s
    → length after + 1 ≤ left_all c before js
left-after c js j workers first entries before [] s inside split finds low is allowed =
    let n : ℕ = situations c j in
    let as_many : n ≡ length s.situations = sym is.size in
    let same : entries ≡ before = split ∙ append-nil before in
    let passes : allows c n before (bits_of s.situations) ≡ true =
    skeleton-allowed c j n before s is as_many ∙ subst (λ (xs : List CheckedEntry). Allow xs s) same allowed
    in
    let some : 1 ≤ left_for c before j =
    count-some (width c j) (allows c n before) (bits_of s.situations)
    (bits-size c s.situations is.situations ∙ ap (λ m. m * (length c.latches + length c.inputs)) (sym as_many)) passes
    in
    let most : left_for c before j ≤ left_all c before js = one-of-all c before js j inside in
    least-left (left_for c before j) (left_all c before js) some most
left-after c js j workers first entries before (e ∷ after) s inside split finds low is allowed =
    let more : first ≤ length (before ++ e ∷ []) = omega (arith, low, length-append before (e ∷ [])) in
    let rest : length after + 1 ≤ left_all c (before ++ e ∷ []) js =
    left-after c js j workers first entries (before ++ e ∷ []) after s inside (split ∙ sym (append_assoc before (e ∷ []) after)) finds more is allowed
    in
    let here : left_all c (before ++ e ∷ []) js + 1 ≤ left_all c before js =
    find-less c js workers before e e.origin (finds before after e split low)
    in
    omega (arith, rest, here)

-- there are no more than lists of values
all-most : (c : Circuit) (entries : List CheckedEntry) (js : List ℕ) → left_all c entries js ≤ skeleton_lists c js
all-most c entries [] = omega arith
all-most c entries (j ∷ js) =
    sums (left_for c entries j) (2 ^ width c j) (left_all c entries js) (skeleton_lists c js)
    (count-most (width c j) (allows c (situations c j) entries)) (all-most c entries js)
  where
    sums : (a b m n : ℕ) → a ≤ b → m ≤ n → a + m ≤ b + n
    sums a b m n here rest = omega (arith, here, rest)

-- ---- the law

some-not-none : {X : Type 0} (x : X) → Some x ≡ None → ⊥
some-not-none x e = cc

not-spent : (spent : Spendings) → spent.conflict_limit ≡ None → spent.step_limit ≡ None → IsSpent spent → ⊥
not-spent spent conflicts steps (inl h) = some-not-none spent.conflicts (sym h ∙ conflicts)
not-spent spent conflicts steps (inr h) = some-not-none spent.steps (sym h ∙ steps)

too-many : (whole given found left room most : ℕ) → whole ≡ most → whole ≡ given + found → found + 1 ≤ left → left ≤ room → given + room ≤ most → ⊥
too-many whole given found left room most a b d e f = omega (arith, a, b, d, e, f)

least-self : (n : ℕ) → n ≤ n
least-self n = omega arith

full-not : (task : Task) (report : Report)
    → length task.given + skeleton_lists task.circuit task.properties ≤ min (length task.given + task.limits.skeletons) most_entries
    → IsReport task report → IsFull report.board → ⊥
full-not task report room is full =
    let b : BoardState = report.board in
    let c : Circuit = task.circuit in
    let js : List ℕ = task.properties in
    let first : ℕ = length task.given in
    let found : List CheckedEntry = is.board.entries.0 in
    let split : b.entries ≡ task.given ++ found = is.board.entries.1 in
    let given : b.given ≡ first = is.board.given in
    let finds : FindsFrom c js b.workers first b.entries = λ before after e at low.
    subst (λ (d : Circuit). FromWorker e.origin (IsFind d js b.workers before e)) is.board.circuit
    (subst (λ (is : List ℕ). FromWorker e.origin (IsFind b.circuit is b.workers before e)) is.board.properties
    (is.board.board.found before after e at (omega (arith, given, low))))
    in
    let j : ℕ = is.unanswered.0 in
    let left = full.allows j is.unanswered.1 in
    let inside : Contains js j = subst (λ (is : List ℕ). Contains is j) is.board.properties is.unanswered.1.0 in
    let skeleton : IsSkeleton c j left.0 = subst (λ (d : Circuit). IsSkeleton d j left.0) is.board.circuit left.1.skeleton in
    too-many (length b.entries) first (length found) (left_all c task.given js) (skeleton_lists c js)
    (min (first + task.limits.skeletons) most_entries) (full.full ∙ is.board.limit) (ap length split ∙ length-append task.given found)
    (left-after c js j b.workers first b.entries task.given found left.0 inside split finds (least-self first) skeleton left.1.allowed)
    (all-most c task.given js) room

-- there is a worker with rounds, the first
some-rounds : (workers lassos : ℕ) → 1 ≤ workers → 0 < workers - min lassos (workers - 1)
some-rounds workers lassos some = grind (arith)

first-spent : (workers : List Spendings) (n : ℕ) (d : Spendings) → 0 < n → 0 < length workers → All IsSpent (take n workers) → IsSpent (get_or workers 0 d)
first-spent [] n d some inside all = absurd (omega (arith, inside))
first-spent (w ∷ workers) zero d some inside all = absurd (omega (arith, some))
first-spent (w ∷ workers) (suc n) d some inside all = all 0 d (omega arith)

pub no-report : NoReportWithoutLimits
no-report task report limits conflicts steps room is =
    elim is.cause [
      | inl full ↦ full-not task report room is full
      | inr spent ↦
          let d : Spendings = record { conflicts = 0; conflict_limit = None; steps = 0; step_limit = None } in
          let inside : 0 < length report.workers = omega (arith, is.spent.count, limits.some) in
          let with_limits = (is.spent.each 0 d inside).limits in
          not-spent (get_or report.workers 0 d) (with_limits.conflicts ∙ conflicts) (with_limits.steps ∙ steps)
          (first-spent report.workers (round_workers task.limits) d (some-rounds task.limits.workers task.limits.lassos limits.some) inside spent.rounds)
    ]
