-- Ways that are gone again by the inputs of nodes: they are runs, and a run from a state of the arena to one that may end
-- there stays in the arena.
use Rattle.std.proofs.Common.{◌≡◌, ℕ, zero, suc, ◌+◌, ◌<◌, ◌≤◌, ◌⊎◌, Bool, true, false, not, ◌&&◌, ◌||◌, List, [], ◌∷◌, ◌++◌, length, get_or, take, refl, sym, ap, ap₂, subst, ◌∙◌, inl, inr, arith}
use Rattle.std.proofs.Math.Path.{fun_ext, subst₂}
use Rattle.std.proofs.Math.Seq.{get_or-append_seam}
use Rattle.std.proofs.lemmas.Bool.{false≢true, cases_Bool, cases_lt}
use Rattle.std.proofs.lemmas.List.{length-append, length-map, length-take-le, get_or-take}
use Rattle.std.proofs.lemmas.List.Elements.{All-head, All-tail}
use Rattle.std.proofs.lemmas.Option.{none-some}
use Rattle.std.specs.List.{All, list_all}
use Rattle.std.specs.Prelude.{Option, Some, None}
use Rattle.aig_semantics.specs.declared.traces.Position.{Position}
use Rattle.aig_semantics.specs.Circuits.{Circuit}
use Rattle.aig_semantics.specs.Runs.{position_of, literal_at, successor, MeetsConstraints, IsRun, StartsIn}
use Rattle.proof_semantics.specs.declared.literals.Lit.{Lit}
use Rattle.proof_semantics.specs.Clauses.{cube_value, values_of, bool_eq}
use Rattle.proof_semantics.proofs.LiteralLaws.{bool_eq-true}
use Rattle.fair_semantics.specs.declared.entries.Kind.{Kind}
use Rattle.fair_semantics.specs.declared.entries.Kind.TheVariants.{Reach, Wall}
use Rattle.fair_semantics.specs.declared.entries.Use.{Use}
use Rattle.fair_semantics.specs.States.{meets_clauses}
use Rattle.fair_semantics.specs.Entries.{Entry, used_entries, entry_at, set_at, lies_on}
use Rattle.fair_semantics.specs.Allowing.{allows_by, all_allow}
use Rattle.fair_semantics.specs.Validity.{set_behind, NoStepLeaves, IsValid, AreValid}
use Rattle.fair_semantics.specs.Laws.{LieOn}
use Rattle.fair_semantics.proofs.Alone.{numbered-at, numbered-all, all_allow-each}
use Rattle.fair_semantics.proofs.Certified.{bool_eq-same}
use Rattle.fair_semantics.proofs.Lists.{valid-at}
use Rattle.fair_semantics.proofs.Runs.{AreAllowed, along, back, end_of}
use Rattle.fair_semantics.proofs.Sets.{nothing, sets_of-entry, sets_of-front}
use Rattle.ic3_semantics.specs.declared.questions.Start.{Start}
use Rattle.ic3_semantics.specs.declared.questions.Start.TheVariants.{Initial, State}
use Rattle.ic3_semantics.specs.declared.questions.Goal.{Goal}
use Rattle.ic3_semantics.specs.declared.questions.Goal.TheVariants as goals
use Rattle.ic3_semantics.specs.Arenas.{restricts, keeps_to, in_arena}
use Rattle.ic3_semantics.specs.Searching.{Question, Leads, MeetsLiteral}
use Rattle.ic3_semantics.proofs.Arenas.{steps_keep}
use Rattle.ic3_loops.specs.declared.obligations.Node.{Node}
use Rattle.ic3_loops.specs.declared.obligations.Way.{Way}
use Rattle.ic3_loops.specs.declared.obligations.Way.TheVariants as ways
use Rattle.ic3_loops.specs.Lifting.{IsIn, BreaksToo, EndsAs, MayEnd}
use Rattle.ic3_loops.specs.Blocking.{LeadsOn, way_state, node_at, state_at, cube_at, IsNode, IsWayTo, AreNodes, CanGo, IsGoneAlong}
use Rattle.ic3_generalise.specs.Cubes.{value_literals}
use Rattle.ic3_loops.proofs.Excluding.{part_true}
use Rattle.ic3_loops.proofs.Obliging.{node-is, node-at-is}
use Rattle.ic3_loops.proofs.Starts.{state_has, own_true, same_values}

-- ---- what is kept along a run

abbrev KeepsAlong : Circuit → Start → List Position → Kind → (List Bool → Bool) → Type 0
KeepsAlong c start way kind set =
    All (λ p. (keeps_to start kind set p.latches ≡ true) × (keeps_to start kind set (successor c p) ≡ true)) way

in_both : (a b : Bool) → a ≡ true → b ≡ true → (a && (b && true)) ≡ true
in_both true true e f = refl
in_both true false e f = f
in_both false b e f = e

on_one : (from a b : Bool) → bool_eq from a ≡ true → bool_eq from b ≡ true → ((a && (b && true)) || (not a && (not b && true))) ≡ true
on_one true true true e f = refl
on_one true true false e f = absurd (false≢true f)
on_one true false b e f = absurd (false≢true e)
on_one false true b e f = absurd (false≢true e)
on_one false false true e f = absurd (false≢true f)
on_one false false false e f = refl

keeps-allows : (start : Start) (kind : Kind) (set : List Bool → Bool) (s t : List Bool) → restricts start kind ≡ true
    → keeps_to start kind set s ≡ true → keeps_to start kind set t ≡ true → allows_by kind set (s ∷ t ∷ []) ≡ true
keeps-allows Initial Reach set s t r here there = in_both (set s) (set t) here there
keeps-allows Initial Wall set s t r here there = absurd (false≢true r)
keeps-allows (State from) Reach set s t r here there = in_both (set s) (set t) here there
keeps-allows (State from) Wall set s t r here there = on_one (set from) (set s) (set t) here there

-- from a state outside a wall the end is outside too
abbrev EndsOn : Start → Kind → (List Bool → Bool) → List Bool → Type 0
EndsOn Initial kind set t = Unit {0}
EndsOn (State from) Reach set t = Unit {0}
EndsOn (State from) Wall set t = set from ≡ false → set t ≡ false

-- what begins and ends on a side of a set that no allowed step leaves keeps to it
module _ (c : Circuit) (allowed : List (List Bool) → Bool) (s t : List Bool) (way : List Position) (run : IsRun c way) (starts : StartsIn s way)
    (ends : end_of c s way ≡ t) where
  one-keeps : (start : Start) (kind : Kind) (set : List Bool → Bool) → NoStepLeaves c allowed set
      → (restricts start kind ≡ true → AreAllowed c allowed way) → keeps_to start kind set s ≡ true → EndsOn start kind set t
      → KeepsAlong c start way kind set
  one-keeps Initial Reach set closed able here there = along c allowed set closed s way run starts (able refl) here
  one-keeps Initial Wall set closed able here there = λ k d inside. (refl, refl)
  one-keeps (State from) Reach set closed able here there = along c allowed set closed s way run starts (able refl) here
  one-keeps (State from) Wall set closed able here there =
      let begins : set from ≡ set s = bool_eq-true (set from) (set s) here in
      elim (cases_Bool (set from)) [
        | inl inside ↦
            let lies : LieOn c true set way = along c allowed set closed s way run starts (able refl) (sym begins ∙ inside) in
            λ k d below.
            let both = lies k d below in (
              bool_eq-same (set from) (set (get_or way k d).latches) (both.0 ∙ sym inside),
              bool_eq-same (set from) (set (successor c (get_or way k d))) (both.1 ∙ sym inside),
            )
        | inr outside ↦
            let last : set (end_of c s way) ≡ false = ap set ends ∙ there outside in
            let lies : LieOn c false set way = (back c allowed set closed s way run starts (able refl) last).1 in
            λ k d below.
            let both = lies k d below in (
              bool_eq-same (set from) (set (get_or way k d).latches) (both.0 ∙ sym outside),
              bool_eq-same (set from) (set (successor c (get_or way k d))) (both.1 ∙ sym outside),
            )
      ]

every_kind : (from : List Bool) (kind : Kind) → restricts (State from) kind ≡ true
every_kind from Reach = refl
every_kind from Wall = refl

uses-restrict : (c : Circuit) (before : List Entry) (e : Entry) (start : Start) → IsValid c before e → restricts start e.kind ≡ true
    → All (λ u. restricts start (entry_at before u.entry).kind ≡ true) e.uses
uses-restrict c before e (State from) valid r = λ k d inside. every_kind from (entry_at before (get_or e.uses k d).entry).kind
uses-restrict c before e Initial valid r = λ k d inside. ap (restricts Initial) ((valid.reach (is_reach e.kind r)).uses k d inside)
  where
    is_reach : (kind : Kind) → restricts Initial kind ≡ true → kind ≡ Reach
    is_reach Reach h = refl
    is_reach Wall h = absurd (false≢true h)

may-end : (view : List Entry) (start : Start) (t : List Bool) → in_arena view start t ≡ true → MayEnd view start t
may-end view Initial t h = tt
may-end view (State from) t h = record { end = t; arena = h; breaks = λ k d inside broken. broken }

-- two states that keep to the start lie on one side
one_side : (from : List Bool) (kind : Kind) (set : List Bool → Bool) (a b : List Bool) → keeps_to (State from) kind set a ≡ true
    → keeps_to (State from) kind set b ≡ true → set a ≡ set b
one_side from Reach set a b here there = here ∙ sym there
one_side from Wall set a b here there = sym (bool_eq-true (set from) (set a) here) ∙ bool_eq-true (set from) (set b) there

sides_same : (sets : ℕ → List Bool → Bool) (a b : List Bool) (uses : List Use) → All (λ u. sets u.entry a ≡ sets u.entry b) uses
    → list_all (λ u. lies_on u.side (sets u.entry a)) uses ≡ list_all (λ u. lies_on u.side (sets u.entry b)) uses
sides_same sets a b [] same = refl
sides_same sets a b (u ∷ uses) same =
    let Same : Use → Type 0 = λ x. sets x.entry a ≡ sets x.entry b in
    ap₂ (λ x y. x && y) (ap (lies_on u.side) (All-head Same u uses same)) (sides_same sets a b uses (All-tail Same u uses same))

-- what breaks the clauses where a state outside the set does, and lies on the sides that it lies on, is outside too
outside_too : (met sided kept outcome : Bool) → (met && sided) ≡ false → (met ≡ false → kept ≡ false) → outcome ≡ sided → (kept && outcome) ≡ false
outside_too true sided kept outcome out breaks same = kept_out kept (same ∙ out)
  where
    kept_out : (x : Bool) → outcome ≡ false → (x && outcome) ≡ false
    kept_out true e = e
    kept_out false e = refl
outside_too false sided kept outcome out breaks same = ap (λ x. x && outcome) (breaks refl)

-- From a state outside a wall, what breaks the clauses that a state of the arena breaks is outside it, where it keeps to
-- the sides of the entries before.
outside-end : (c : Circuit) (view : List Entry) (from end t : List Bool) (n : ℕ) → AreValid c view → n < length view
    → in_arena view (State from) end ≡ true → BreaksToo view end t
    → ((m : ℕ) → m < n → keeps_to (State from) (entry_at view m).kind (set_at view m) t ≡ true)
    → (entry_at view n).kind ≡ Wall → set_at view n from ≡ false → set_at view n t ≡ false
outside-end c view from end t n valid below arena breaks prior wall out =
    let before : List Entry = take n view in
    let e : Entry = entry_at view n in
    let is : IsValid c before e = valid-at c view n valid below in
    let size : length before ≡ n = length-take-le n view (omega arith) in
    let at_end : (m : ℕ) → m < length view → keeps_to (State from) (entry_at view m).kind (set_at view m) end ≡ true =
    λ m inside. numbered-at (λ x. keeps_to (State from) x.entry.kind (set_at view x.number) end) 0 view m m inside (omega arith) arena
    in
    let same : list_all (λ u. lies_on u.side (set_at before u.entry t)) e.uses ≡ list_all (λ u. lies_on u.side (set_at before u.entry end)) e.uses =
    sides_same (set_at before) t end e.uses (λ k d inside.
    let u : Use = get_or e.uses k d in
    let lower : u.entry < n = subst (λ m. u.entry < m) size (is.uses.present k d inside) in
    sym (sets_of-front view n u.entry t (omega arith) lower)
    ∙ one_side from (entry_at view u.entry).kind (set_at view u.entry) t end (prior u.entry lower) (at_end u.entry (omega (arith, lower, below)))
    ∙ sets_of-front view n u.entry end (omega arith) lower)
    in
    let there : keeps_to (State from) Wall (set_at view n) end ≡ true =
    subst (λ kind. keeps_to (State from) kind (set_at view n) end ≡ true) wall (at_end n below)
    in
    let end_out : set_at view n end ≡ false = sym (bool_eq-true (set_at view n from) (set_at view n end) there) ∙ out in
    let own : set_behind before e end ≡ false = sym (sets_of-entry view n end below) ∙ end_out in
    sets_of-entry view n t below
    ∙ outside_too (meets_clauses e.clauses end) (list_all (λ u. lies_on u.side (set_at before u.entry end)) e.uses) (meets_clauses e.clauses t)
    (list_all (λ u. lies_on u.side (set_at before u.entry t)) e.uses) own (breaks n nothing below) same

-- the last state of a run keeps what its positions keep
last-keeps : (c : Circuit) (K : List Bool → Type 0) (s t : List Bool) (way : List Position) → All (λ p. K p.latches × K (successor c p)) way
    → K s → end_of c s way ≡ t → K t
last-keeps c K s t [] all here ends = subst K ends here
last-keeps c K s t (p ∷ way) all here ends =
    let Both : Position → Type 0 = λ x. K x.latches × K (successor c x) in
    last-keeps c K (successor c p) t way (All-tail Both p way all) (All-head Both p way all).1 ends

-- ---- runs in the arena

module _ (q : Question) (valid : AreValid q.circuit q.view) (s t : List Bool) (way : List Position) (run : IsRun q.circuit way) (starts : StartsIn s way)
    (ends : end_of q.circuit s way ≡ t) (here : in_arena q.view q.start s ≡ true) (there : MayEnd q.view q.start t) where
  abbrev KeepsNth : ℕ → Type 0
  KeepsNth n = KeepsAlong q.circuit q.start way (entry_at q.view n).kind (set_at q.view n)

  begins-nth : (n : ℕ) → n < length q.view → keeps_to q.start (entry_at q.view n).kind (set_at q.view n) s ≡ true
  begins-nth n below = numbered-at (λ x. keeps_to q.start x.entry.kind (set_at q.view x.number) s) 0 q.view n n below (omega arith) here

  -- the earlier entries keep the end
  ends-before : (n : ℕ) → n < length q.view → KeepsNth n → keeps_to q.start (entry_at q.view n).kind (set_at q.view n) t ≡ true
  ends-before n below keeps =
      last-keeps q.circuit (λ x. keeps_to q.start (entry_at q.view n).kind (set_at q.view n) x ≡ true) s t way keeps (begins-nth n below) ends

  ends-nth : (start : Start) → MayEnd q.view start t → (n : ℕ) → n < length q.view
      → ((m : ℕ) → m < n → keeps_to start (entry_at q.view m).kind (set_at q.view m) t ≡ true)
      → (kind : Kind) → (entry_at q.view n).kind ≡ kind → EndsOn start kind (set_at q.view n) t
  ends-nth Initial may n below prior kind is = tt
  ends-nth (State from) like n below prior Reach is = tt
  ends-nth (State from) like n below prior Wall is = λ out.
      outside-end q.circuit q.view from like.end t n valid below like.arena like.breaks prior is out

  next-keeps : (n : ℕ) → n < length q.view → ((m : ℕ) → m < n → KeepsNth m) → KeepsNth n
  next-keeps n below prior =
      let before : List Entry = take n q.view in
      let e : Entry = entry_at q.view n in
      let is : IsValid q.circuit before e = valid-at q.circuit q.view n valid below in
      let allowed : List (List Bool) → Bool = all_allow (set_at before) (used_entries before e.uses) in
      let size : length before ≡ n = length-take-le n q.view (omega arith) in
      let set : set_behind before e ≡ set_at q.view n = fun_ext (λ x. sym (sets_of-entry q.view n x below)) in
      let earlier : (m : ℕ) → m < n → KeepsAlong q.circuit q.start way (entry_at before m).kind (set_at before m) =
      λ m lower.
      let kind : (entry_at q.view m).kind ≡ (entry_at before m).kind = ap (λ x. x.kind) (sym (get_or-take n q.view m _ lower)) in
      let sets : set_at q.view m ≡ set_at before m = fun_ext (λ x. sets_of-front q.view n m x (omega arith) lower) in
      subst₂ (KeepsAlong q.circuit q.start way) kind sets (prior m lower)
      in
      let able : restricts q.start e.kind ≡ true → AreAllowed q.circuit allowed way =
      λ r k d inside.
      let p : Position = get_or way k d in
      all_allow-each (set_at before) before e.uses (p.latches ∷ successor q.circuit p ∷ []) (λ i f used.
      let u : Use = get_or e.uses i f in
      let lower : u.entry < n = subst (λ m. u.entry < m) size (is.uses.present i f used) in
      let both = earlier u.entry lower k d inside in
      keeps-allows q.start (entry_at before u.entry).kind (set_at before u.entry) p.latches (successor q.circuit p)
      (uses-restrict q.circuit before e q.start is r i f used) both.0 both.1)
      in
      one-keeps q.circuit allowed s t way run starts ends q.start e.kind (set_at q.view n) (subst (NoStepLeaves q.circuit allowed) set is.closed) able
      (begins-nth n below)
      (ends-nth q.start there n below (λ m lower. ends-before m (omega (arith, lower, below)) (prior m lower)) e.kind refl)

  all-keep : (n : ℕ) → n ≤ length q.view → (m : ℕ) → m < n → KeepsNth m
  all-keep zero within m below = absurd (omega arith)
  all-keep (suc n) within m below = elim (cases_lt m n) [
    | inl lower ↦ all-keep n (omega arith) m lower
    | inr same ↦
        let e : n ≡ m = omega arith in
        subst KeepsNth e (next-keeps n (omega arith) (all-keep n (omega arith)))
  ]

  pub run-inside : All (λ p. (in_arena q.view q.start p.latches ≡ true) × (in_arena q.view q.start (successor q.circuit p) ≡ true)) way
  run-inside k d inside =
      let p : Position = get_or way k d in
      let each : (m : ℕ) → m < length q.view → KeepsNth m = all-keep (length q.view) (omega arith) in (
        numbered-all (λ e. keeps_to q.start e.entry.kind (set_at q.view e.number) p.latches) 0 q.view
            (λ m i below place.
            let e : m ≡ i = omega arith in
            subst (λ j. keeps_to q.start (entry_at q.view m).kind (set_at q.view j) p.latches ≡ true) e (each m below k d inside).0),
        numbered-all (λ e. keeps_to q.start e.entry.kind (set_at q.view e.number) (successor q.circuit p)) 0 q.view
            (λ m i below place.
            let e : m ≡ i = omega arith in
            subst (λ j. keeps_to q.start (entry_at q.view m).kind (set_at q.view j) (successor q.circuit p) ≡ true) e (each m below k d inside).1),
      )

abbrev StaysInside : Question → List Position → Type 0
StaysInside q way = All (λ p. (in_arena q.view q.start p.latches ≡ true) × (in_arena q.view q.start (successor q.circuit p) ≡ true)) way

run-leads : (q : Question) (s t : List Bool) (way : List Position) → IsRun q.circuit way → StartsIn s way → end_of q.circuit s way ≡ t
    → StaysInside q way → Leads q s way t
run-leads q s t [] run starts ends inside = ends
run-leads q s t (p ∷ way) run starts ends inside =
    let Inside : Position → Type 0 = λ x. (in_arena q.view q.start x.latches ≡ true) × (in_arena q.view q.start (successor q.circuit x) ≡ true) in
    let first = All-head Inside p way inside in
    let next : List Bool = successor q.circuit p in (
      starts,
      run.0,
      steps_keep q.view q.start s next (ap (in_arena q.view q.start) (sym starts) ∙ first.0) ∙ first.1,
      run-leads q next t way run.2 run.1 ends (All-tail Inside p way inside),
    )

-- ---- one position more

run-push : (c : Circuit) (s t : List Bool) (way : List Position) (p : Position) → IsRun c way → StartsIn s way → end_of c s way ≡ t
    → MeetsConstraints c p → p.latches ≡ t
    → IsRun c (way ++ p ∷ []) × StartsIn s (way ++ p ∷ []) × (end_of c s (way ++ p ∷ []) ≡ successor c p)
run-push c s t [] p run starts ends meets at = ((meets, tt, tt), at ∙ sym ends, refl)
run-push c s t (x ∷ way) p run starts ends meets at =
    let rest = run-push c (successor c x) t way p run.2 run.1 ends meets at in
    ((run.0, rest.1, rest.0), starts, rest.2)

-- ---- the way from a node

-- in the cube lies a state of the arena
pub record HasInside (q : Question) (cube : List Lit) : Type 0 where
  pub state : List Bool
  pub is_in : IsIn q.circuit cube state
  pub arena : in_arena q.view q.start state ≡ true

-- The positions so far are a run from the state of the first node to one of the cube of this one; where there are some,
-- the first state lies in the arena, and so does one of the cube.
pub record IsOnWay (q : Question) (ns : List Node) (first k : ℕ) (way : List Position) (s : List Bool) : Type 0 where
  pub run : IsRun q.circuit way
  pub starts : StartsIn (state_at ns first) way
  pub ends : end_of q.circuit (state_at ns first) way ≡ s
  pub inside : IsIn q.circuit (cube_at ns k) s
  pub came : ((way ≡ []) × (k ≡ first)) ⊎ ((in_arena q.view q.start (state_at ns first) ≡ true) × HasInside q (cube_at ns k))

successor-size : (c : Circuit) (p : Position) → length (successor c p) ≡ length c.latches
successor-size c p = length-map c.latches (λ latch. literal_at c p latch.next)

-- where a way that goes on began in the arena
begun-inside : (q : Question) (ns : List Node) (first k : ℕ) (way : List Position) (s : List Bool) → IsOnWay q ns first k way s
    → in_arena q.view q.start (state_at ns k) ≡ true → in_arena q.view q.start (state_at ns first) ≡ true
begun-inside q ns first k way s on here = elim on.came [
  | inl fresh ↦ subst (λ j. in_arena q.view q.start (state_at ns j) ≡ true) fresh.1 here
  | inr came ↦ came.0
]

-- a state of the cube can go on
pub can-go : (q : Question) (goal : Goal) (k : ℕ) (ns : List Node) (cube : List Lit) (s : List Bool) (way : Way) → IsWayTo q goal k ns cube way
    → IsIn q.circuit cube s → CanGo q.circuit way s
can-go q goal k ns cube s (ways.Goal to) is inside = tt
can-go q (goals.State to) k ns cube s (ways.Last p) is inside = absurd is
can-go q (goals.Literal literal avoid) k ns cube s (ways.Last p) is inside = is.1.possible s inside
can-go q goal k ns cube s (ways.Step p next) is inside = is.3.possible s inside

abbrev or_zero : Option ℕ → ℕ
or_zero None = 0
or_zero (Some k) = k

-- One node further.
pub gone-further : (q : Question) (goal : Goal) (ns : List Node) (first k next : ℕ) (by : Way) (old new : List Position) (s t : List Bool)
    → IsWayTo q goal k ns (cube_at ns k) by → state_at ns k ≡ way_state by → IsOnWay q ns first k old s
    → IsGoneAlong q.circuit by s t old new (Some next) → (next < k) × IsOnWay q ns first next new t
gone-further q goal ns first k next (ways.Goal to) old new s t is at on gone = absurd (none-some next (sym gone.0))
gone-further q goal ns first k next (ways.Last p) old new s t is at on gone = absurd (none-some next (sym gone.0))
gone-further q goal ns first k next (ways.Step p m) old new s t is at on gone =
    let x : Position = position_of s p.inputs in
    let same : m ≡ next = sym (ap or_zero gone.0) in
    let pushed = run-push q.circuit (state_at ns first) s old x on.run on.starts on.ends (is.3.possible s on.inside) refl in
    let begins : in_arena q.view q.start (state_at ns first) ≡ true =
    begun-inside q ns first k old s on (ap (in_arena q.view q.start) at ∙ is.1.state)
    in
    let there : IsOnWay q ns first m new t = record {
      run = subst (IsRun q.circuit) (sym gone.2) pushed.0;
      starts = subst (StartsIn (state_at ns first)) (sym gone.2) pushed.1;
      ends = ap (end_of q.circuit (state_at ns first)) gone.2 ∙ pushed.2 ∙ sym gone.1;
      inside = subst (IsIn q.circuit (cube_at ns m)) (sym gone.1) (record {
        size = successor-size q.circuit x;
        holds = is.3.enters s on.inside;
      });
      came = inr (
        begins,
        record {
          state = successor q.circuit p;
          is_in = record { size = successor-size q.circuit p; holds = is.2 };
          arena = is.1.next;
        },
      );
    } in
    (subst (λ j. j < k) same is.0, subst (λ j. IsOnWay q ns first j new t) same there)

not_last : (before : List Position) (last : Position) → [] ≡ before ++ last ∷ [] → ⊥
not_last before last e =
    let size : 0 ≡ length (before ++ last ∷ []) = ap length e in
    let more : length (before ++ last ∷ []) ≡ length before + 1 = length-append before (last ∷ []) in
    omega (arith, size, more)

one_state : (c : Circuit) (s t : List Bool) → length s ≡ length c.latches → IsIn c (value_literals 0 s) t → t ≡ s
one_state c s t size is = same_values (values_of t) 0 t s (state_has t) (is.size ∙ sym size) is.holds

ending : (view : List Entry) (start : Start) (end t : List Bool) → EndsAs start view end t → in_arena view start end ≡ true → MayEnd view start t
ending view Initial end t like h = tt
ending view (State from) end t like h = record { end = end; arena = h; breaks = like }

-- The last node of a way.
pub gone-last : (q : Question) (goal : Goal) (ns : List Node) (first k : ℕ) (by : Way) (old new : List Position) (s t : List Bool)
    → AreValid q.circuit q.view → length (way_state by) ≡ length q.circuit.latches
    → IsWayTo q goal k ns (cube_at ns k) by → state_at ns k ≡ way_state by → IsOnWay q ns first k old s
    → IsGoneAlong q.circuit by s t old new None → LeadsOn q goal (state_at ns first) new
gone-last q (goals.State to) ns first k (ways.Goal g) old new s t valid size is at on gone =
    let s0 : List Bool = state_at ns first in
    let end : (x : List Bool) → IsIn q.circuit (cube_at ns k) x → x ≡ to.now =
    λ x there. one_state q.circuit g x size (subst (λ cube. IsIn q.circuit cube x) is.1 there) ∙ is.0
    in
    subst (λ way. Leads q s0 way to.now) (sym gone.2) (elim on.came [
      | inl fresh ↦
          subst (λ way. Leads q s0 way to.now) (sym fresh.0)
          (ap (state_at ns) (sym fresh.1) ∙ at ∙ is.0)
      | inr came ↦
          let ends : end_of q.circuit s0 old ≡ to.now = on.ends ∙ end s on.inside in
          let last : in_arena q.view q.start to.now ≡ true = ap (in_arena q.view q.start) (sym (end came.1.state came.1.is_in)) ∙ came.1.arena in
          run-leads q s0 to.now old on.run on.starts ends
          (run-inside q valid s0 to.now old on.run on.starts ends came.0 (may-end q.view q.start to.now last))
    ])
gone-last q (goals.Literal literal avoid) ns first k (ways.Goal g) old new s t valid size is at on gone =
    absurd (not_last is.0.0 is.0.1 is.0.2)
gone-last q (goals.State to) ns first k (ways.Last p) old new s t valid size is at on gone = absurd is
gone-last q (goals.Literal literal avoid) ns first k (ways.Last p) old new s t valid size is at on gone =
    let x : Position = position_of s p.inputs in
    let s0 : List Bool = state_at ns first in
    let end : List Bool = successor q.circuit x in
    let pushed = run-push q.circuit s0 s old x on.run on.starts on.ends (is.1.possible s on.inside) refl in
    let begins : in_arena q.view q.start s0 ≡ true = begun-inside q ns first k old s on (ap (in_arena q.view q.start) at ∙ is.0.state) in
    let within : StaysInside q (old ++ x ∷ []) =
    run-inside q valid s0 end (old ++ x ∷ []) pushed.0 pushed.1 pushed.2 begins (ending q.view q.start (successor q.circuit p) end (is.1.ends s on.inside) is.0.next)
    in
    let last : (in_arena q.view q.start x.latches ≡ true) × (in_arena q.view q.start end ≡ true) = last_of within in
    let meets : MeetsLiteral q literal avoid.now x = record {
      possible = is.1.possible s on.inside;
      holds = is.1.holds s on.inside;
      avoids = is.1.avoids s on.inside;
      state = last.0;
      next = last.1;
    } in
    (old, x, gone.2, meets, subst (λ way. Leads q s0 way end) (sym gone.2) (run-leads q s0 end (old ++ x ∷ []) pushed.0 pushed.1 pushed.2 within))
  where
    last_of : StaysInside q (old ++ position_of s p.inputs ∷ [])
        → (in_arena q.view q.start s ≡ true) × (in_arena q.view q.start (successor q.circuit (position_of s p.inputs)) ≡ true)
    last_of within =
        let x : Position = position_of s p.inputs in
        let Inside : Position → Type 0 = λ y. (in_arena q.view q.start y.latches ≡ true) × (in_arena q.view q.start (successor q.circuit y) ≡ true) in
        let count : length (old ++ x ∷ []) ≡ length old + 1 = length-append old (x ∷ []) in
        subst Inside (get_or-append_seam old x [] x) (within (length old) x (omega (arith, count)))
gone-last q goal ns first k (ways.Step p m) old new s t valid size is at on gone = absurd (none-some m gone.0)

-- ---- in a loop over nodes

-- before the first
pub on-way-first : (q : Question) (goal : Goal) (ns : List Node) (first : ℕ) (s : List Bool) → AreNodes q goal ns → first < length ns
    → s ≡ state_at ns first → IsOnWay q ns first first [] s
on-way-first q goal ns first s are below is =
    let node : IsNode q goal first ns (node_at ns first) = node-at-is q goal ns first are below in
    record {
      run = tt;
      starts = tt;
      ends = sym is;
      inside = record {
        size = ap length is ∙ node.size;
        holds =
            ap (λ x. cube_value (values_of x) (cube_at ns first)) is
            ∙ part_true (values_of (state_at ns first)) (cube_at ns first) (value_literals 0 (state_at ns first)) node.part
            (own_true (values_of (state_at ns first)) 0 (state_at ns first) (state_has (state_at ns first)));
      };
      came = inl (refl, refl);
    }

-- the node with this number can go on,
pub node-can-go : (q : Question) (goal : Goal) (ns : List Node) (first k : ℕ) (way : List Position) (s : List Bool) (n : Node) → AreNodes q goal ns
    → k < length ns → n ≡ get_or ns k n → IsOnWay q ns first k way s → CanGo q.circuit n.way s
node-can-go q goal ns first k way s n are below is on =
    subst (λ x. CanGo q.circuit x.way s) (sym (node-is ns k n below is))
    (can-go q goal k ns (cube_at ns k) s (node_at ns k).way (node-at-is q goal ns k are below).way on.inside)

-- and when it has gone, is followed by another,
pub node-further : (q : Question) (goal : Goal) (ns : List Node) (first k next : ℕ) (n : Node) (old new : List Position) (s t : List Bool)
    (found : Option ℕ) → AreNodes q goal ns → k < length ns → n ≡ get_or ns k n → IsOnWay q ns first k old s → found ≡ Some next
    → IsGoneAlong q.circuit n.way s t old new found → (next < k) × IsOnWay q ns first next new t
node-further q goal ns first k next n old new s t found are below is on some gone =
    let same : n ≡ node_at ns k = node-is ns k n below is in
    gone-further q goal ns first k next (node_at ns k).way old new s t (node-at-is q goal ns k are below).way refl on
    (subst (IsGoneAlong q.circuit (node_at ns k).way s t old new) some (subst (λ x. IsGoneAlong q.circuit x.way s t old new found) same gone))

-- or ends the way.
pub node-last : (q : Question) (goal : Goal) (ns : List Node) (first k : ℕ) (n : Node) (old new : List Position) (s t : List Bool)
    (found : Option ℕ) → AreValid q.circuit q.view → AreNodes q goal ns → k < length ns → n ≡ get_or ns k n → IsOnWay q ns first k old s
    → found ≡ None → IsGoneAlong q.circuit n.way s t old new found → LeadsOn q goal (state_at ns first) new
node-last q goal ns first k n old new s t found valid are below is on none gone =
    let same : n ≡ node_at ns k = node-is ns k n below is in
    let node : IsNode q goal k ns (node_at ns k) = node-at-is q goal ns k are below in
    gone-last q goal ns first k (node_at ns k).way old new s t valid node.size node.way refl on
    (subst (IsGoneAlong q.circuit (node_at ns k).way s t old new) none (subst (λ x. IsGoneAlong q.circuit x.way s t old new found) same gone))
