-- Two neighbouring frames with the same lemmas are a closed set, which separates the starts from the goal.
use Rattle.std.proofs.Common.{◌≡◌, ℕ, zero, suc, ◌+◌, ◌<◌, Bool, true, false, ◌&&◌, cond, List, [], ◌∷◌, map, length, refl, sym, ap, subst, ◌∙◌}
use Rattle.std.specs.List.{All, list_all, filter}
use Rattle.std.proofs.lemmas.Bool.{false≢true, and_parts, and_from}
use Rattle.std.proofs.lemmas.List.Elements.{All-nil, All-cons, All-head, All-tail}
use Rattle.aig_semantics.specs.Circuits.{Circuit}
use Rattle.aig_semantics.specs.Runs.{successor}
use Rattle.proof_semantics.specs.declared.literals.Lit.{Lit}
use Rattle.proof_semantics.specs.Clauses.{values_of}
use Rattle.fair_semantics.specs.States.{meets_clauses}
use Rattle.fair_semantics.specs.declared.entries.Kind.{Kind}
use Rattle.fair_semantics.specs.declared.entries.Kind.TheVariants.{Reach, Wall}
use Rattle.fair_semantics.specs.declared.entries.Use.{Use}
use Rattle.fair_semantics.specs.Entries.{Entry, Numbered, numbered, entry_at, used_entries, lies_on, set_at}
use Rattle.fair_semantics.specs.Allowing.{all_allow}
use Rattle.fair_semantics.specs.Validity.{AreValid, NoStepLeaves}
use Rattle.fair_semantics.proofs.Examples.{no_reach}
use Rattle.ic3_frames.specs.Frames.{frame_at}
use Rattle.ic3_frames.specs.Room.{allowed_by}
use Rattle.ic3_semantics.specs.declared.questions.Start.{Start}
use Rattle.ic3_semantics.specs.declared.questions.Start.TheVariants.{Initial, State}
use Rattle.ic3_semantics.specs.declared.questions.Goal.{Goal}
use Rattle.ic3_semantics.specs.Arenas.{MayStart, restricts, restricting, in_arena}
use Rattle.ic3_semantics.specs.Stepping.{IsArenaStep, IsOver}
use Rattle.ic3_semantics.specs.declared.questions.Reached.{Reached}
use Rattle.ic3_semantics.specs.declared.questions.Reached.TheVariants.{Closed}
use Rattle.ic3_semantics.specs.Searching.{Question, Separates, IsReached, closed_entry}
use Rattle.ic3_loops.specs.Starting.{start_cube}
use Rattle.ic3_loops.specs.Sound.{IsStartCube, has_one_of, IsSound}
use Rattle.ic3_loops.specs.Iterating.{IsClosedAt}
use Rattle.ic3_questions.specs.SteppingClauses.{side_of, start_side, own_use, own_uses}
use Rattle.ic3_questions.proofs.Sides.{sides_are_arena, own_uses_are, own_closed}
use Rattle.ic3_semantics.proofs.Separated.{separated}
use Rattle.ic3_loops.proofs.Narrowing.{all_true, misses_within}
use Rattle.ic3_loops.proofs.Sounds.{Levels, all_parts}
use Rattle.ic3_semantics.proofs.Asked.{reach_alone}

all_frame : (P : List Lit → Type 0) (levels : Levels) (k : ℕ) → All P (frame_at levels 0) → All P (frame_at levels k)
all_frame P [] zero h = h
all_frame P [] (suc k) h = All-nil P
all_frame P (own ∷ levels) zero h = h
all_frame P (own ∷ levels) (suc k) h = all_frame P levels k (all_parts P own (frame_at levels 0) h).1

-- ---- the uses of a search

abbrev lie : (ℕ → List Bool → Bool) → List Bool → List Use → Bool
lie sets s us = list_all (λ u. lies_on u.side (sets u.entry s)) us

-- both ends of an allowed step from the start's sides lie in the arena
step_in_arena : (view : List Entry) (start : Start) (s t : List Bool) → all_allow (set_at view) (restricting start view) (s ∷ t ∷ []) ≡ true
    → lie (set_at view) s (own_uses view start) ≡ true → (in_arena view start s ≡ true) × (in_arena view start t ≡ true)
step_in_arena view start s t may sides =
    and_parts (in_arena view start s) (in_arena view start t)
    (sym (sides_are_arena view start s t)
    ∙ and_from (all_allow (set_at view) (restricting start view) (s ∷ t ∷ [])) (lie (set_at view) s (own_uses view start)) may sides)

-- a state of the arena lies on the start's sides
lies_in_arena : (view : List Entry) (start : Start) (s : List Bool) → in_arena view start s ≡ true → lie (set_at view) s (own_uses view start) ≡ true
lies_in_arena view start s here =
    (and_parts (all_allow (set_at view) (restricting start view) (s ∷ s ∷ [])) (lie (set_at view) s (own_uses view start))
    (sides_are_arena view start s s ∙ and_from (in_arena view start s) (in_arena view start s) here here)).1

-- from a state, this is the state
abbrev IsFrom : Start → List Bool → Type 0
IsFrom Initial s = Unit {0}
IsFrom (State from) s = s ≡ from

lies_own : (inside : Bool) → lies_on (side_of inside) inside ≡ true
lies_own true = refl
lies_own false = refl

-- the start itself lies on its sides
starts_on : (start : Start) (kind : Kind) (set : List Bool → Bool) (s : List Bool) → IsFrom start s
    → lies_on (start_side start kind set) (set s) ≡ true
starts_on Initial kind set s is = refl
starts_on (State from) Reach set s is = refl
starts_on (State from) Wall set s is = ap (λ t. lies_on (side_of (set from)) (set t)) is ∙ lies_own (set from)

all_starts_on : (view : List Entry) (start : Start) (s : List Bool) (es : List Numbered) → IsFrom start s
    → lie (set_at view) s (map (own_use view start) es) ≡ true
all_starts_on view start s [] is = refl
all_starts_on view start s (e ∷ es) is =
    and_from (lies_on (start_side start e.entry.kind (set_at view e.number)) (set_at view e.number s)) (lie (set_at view) s (map (own_use view start) es))
    (starts_on start e.entry.kind (set_at view e.number) s is) (all_starts_on view start s es is)

starts_lie : (view : List Entry) (start : Start) (s : List Bool) → IsFrom start s → lie (set_at view) s (own_uses view start) ≡ true
starts_lie view start s is = all_starts_on view start s (restricting start view) is

-- from the initial states reach entries alone are used
abbrev IsReachEntry : Numbered → Type 0
IsReachEntry e = e.entry.kind ≡ Reach

one_reach : (b : Bool) (e : Numbered) (es : List Numbered) → restricts Initial e.entry.kind ≡ b → All IsReachEntry es
    → All IsReachEntry (cond b (e ∷ es) es)
one_reach true e es is h = All-cons IsReachEntry e es (reach_alone e.entry.kind is) h
one_reach false e es is h = h

only_reach : (es : List Numbered) → All IsReachEntry (filter (λ e. restricts Initial e.entry.kind) es)
only_reach [] = All-nil IsReachEntry
only_reach (e ∷ es) =
    one_reach (restricts Initial e.entry.kind) e (filter (λ f. restricts Initial f.entry.kind) es) refl (only_reach es)

of_used : (view : List Entry) (us : List Use) → All IsReachEntry (used_entries view us) → All (λ u. (entry_at view u.entry).kind ≡ Reach) us
of_used view [] h = All-nil (λ u. (entry_at view u.entry).kind ≡ Reach)
of_used view (u ∷ us) h =
    let first : Numbered = record { number = u.entry; entry = entry_at view u.entry } in
    All-cons (λ v. (entry_at view v.entry).kind ≡ Reach) u us (All-head IsReachEntry first (used_entries view us) h)
    (of_used view us (All-tail IsReachEntry first (used_entries view us) h))

all_reach : (view : List Entry) → All (λ u. (entry_at view u.entry).kind ≡ Reach) (own_uses view Initial)
all_reach view = of_used view (own_uses view Initial) (subst (All IsReachEntry) (sym (own_uses_are view Initial)) (only_reach (numbered view)))

-- the states of a frame on the start's sides
abbrev region : List Entry → Start → List (List Lit) → List Bool → Bool
region view start clauses s = meets_clauses clauses s && lie (set_at view) s (own_uses view start)

from_start : (c : Circuit) (start : Start) (s : List Bool) → MayStart c start s → IsFrom start s
from_start c Initial s may = tt
from_start c (State from) s may = may

region_holds : (q : Question) (cube : List Lit) (levels : Levels) (level : ℕ) → IsStartCube q cube → IsSound q cube levels
    → (s : List Bool) → MayStart q.circuit q.start s → region q.view q.start (frame_at levels level) s ≡ true
region_holds q cube levels level exact sound s may =
    and_from (meets_clauses (frame_at levels level) s) (lie (set_at q.view) s (own_uses q.view q.start))
    (all_true (values_of s) (frame_at levels level) cube (all_frame (λ clause. has_one_of cube clause ≡ true) levels level sound.based)
    ((exact.exactly s).0 may).1)
    (starts_lie q.view q.start s (from_start q.circuit q.start s may))

region_stays : (q : Question) (cube : List Lit) (levels : Levels) (level : ℕ) → IsSound q cube levels → level + 1 < length levels
    → frame_at levels level ≡ frame_at levels (level + 1)
    → NoStepLeaves q.circuit (all_allow (set_at q.view) (used_entries q.view (own_uses q.view q.start)))
    (region q.view q.start (frame_at levels level))
region_stays q cube levels level sound below same s t step allowed inside =
    let F : List (List Lit) = frame_at levels level in
    let parts = and_parts (meets_clauses F s) (lie (set_at q.view) s (own_uses q.view q.start)) inside in
    let may : all_allow (set_at q.view) (restricting q.start q.view) (s ∷ t ∷ []) ≡ true =
    subst (λ es. all_allow (set_at q.view) es (s ∷ t ∷ []) ≡ true) (own_uses_are q.view q.start) allowed
    in
    let ends = step_in_arena q.view q.start s t may parts.1 in
    let arena : IsArenaStep q step.position = record {
      possible = step.possible;
      state = ap (in_arena q.view q.start) step.begins ∙ ends.0;
      next = ap (in_arena q.view q.start) step.ends ∙ ends.1;
    }
    in
    let next : allowed_by (frame_at levels (level + 1)) (successor q.circuit step.position) ≡ true =
    sound.steps level step.position below arena (ap (allowed_by F) step.begins ∙ parts.0)
    in
    and_from (meets_clauses F t) (lie (set_at q.view) t (own_uses q.view q.start))
    (ap (λ clauses. allowed_by clauses t) same ∙ ap (allowed_by (frame_at levels (level + 1))) (sym step.ends) ∙ next)
    (lies_in_arena q.view q.start t ends.1)

first_false : (a b : Bool) → a ≡ false → (a && b) ≡ false
first_false true b e = absurd (false≢true (sym e))
first_false false b e = refl

pub separates : (c : Circuit) (view : List Entry) (start : Start) (goal : Goal) (cube : List Lit) (levels : Levels) (level : ℕ)
    → AreValid c view → cube ≡ start_cube c start
    → IsStartCube (record { circuit = c; view = view; start = start }) cube → IsSound (record { circuit = c; view = view; start = start }) cube levels
    → IsClosedAt (record { circuit = c; view = view; start = start }) goal levels level
    → Separates (record { circuit = c; view = view; start = start }) goal (closed_entry start (frame_at levels level) (own_uses view start))
separates c view Initial goal cube levels level valid is exact sound closed =
    let q : Question = record { circuit = c; view = view; start = Initial } in
    record {
      over = all_frame (IsOver (length c.latches)) levels level sound.over;
      valid = record {
        uses = own_closed c view Initial valid;
        closed = region_stays q cube levels level sound closed.below closed.same;
        reach = λ kind. record { initial = region_holds q cube levels level exact sound; uses = all_reach view };
      };
      base = subst (λ those. All (λ clause. has_one_of those clause ≡ true) (frame_at levels level)) is
          (all_frame (λ clause. has_one_of cube clause ≡ true) levels level sound.based);
      holds = region_holds q cube levels level exact sound;
      misses = misses_within q goal (allowed_by (frame_at levels (level + 1))) (region view Initial (frame_at levels level))
          (λ s out. first_false (meets_clauses (frame_at levels level) s) (lie (set_at view) s (own_uses view Initial)) (ap (λ clauses. allowed_by clauses s) closed.same ∙ out))
          closed.misses;
    }
separates c view (State from) goal cube levels level valid is exact sound closed =
    let q : Question = record { circuit = c; view = view; start = State from } in
    record {
      over = all_frame (IsOver (length c.latches)) levels level sound.over;
      valid = record {
        uses = own_closed c view (State from) valid;
        closed = region_stays q cube levels level sound closed.below closed.same;
        reach = λ kind. no_reach kind;
      };
      base = tt;
      holds = region_holds q cube levels level exact sound;
      misses = misses_within q goal (allowed_by (frame_at levels (level + 1))) (region view (State from) (frame_at levels level))
          (λ s out. first_false (meets_clauses (frame_at levels level) s) (lie (set_at view) s (own_uses view (State from))) (ap (λ clauses. allowed_by clauses s) closed.same ∙ out))
          closed.misses;
    }

pub closed_reached : (c : Circuit) (view : List Entry) (start : Start) (goal : Goal) (cube : List Lit) (levels : Levels) (level : ℕ) (r : Reached)
    → AreValid c view → cube ≡ start_cube c start
    → IsStartCube (record { circuit = c; view = view; start = start }) cube → IsSound (record { circuit = c; view = view; start = start }) cube levels
    → IsClosedAt (record { circuit = c; view = view; start = start }) goal levels level
    → r ≡ Closed (frame_at levels level) (own_uses view start)
    → IsReached (record { circuit = c; view = view; start = start }) goal r
closed_reached c view start goal cube levels level r valid is exact sound closed answer =
    let q : Question = record { circuit = c; view = view; start = start } in
    let apart : Separates q goal (closed_entry start (frame_at levels level) (own_uses view start)) =
    separates c view start goal cube levels level valid is exact sound closed
    in
    subst (IsReached q goal) (sym answer)
    (apart, λ positions path. separated q goal (frame_at levels level) (own_uses view start) positions apart path)
