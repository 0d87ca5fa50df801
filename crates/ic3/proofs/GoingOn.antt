-- Frames are kept from one question to the next: a view that goes on from another has a smaller arena, so that sound frames
-- stay sound.
use Rattle.std.proofs.Common.{◌≡◌, ℕ, suc, ◌+◌, ◌-◌, ◌*◌, ◌^◌, ◌<◌, ◌≤◌, min, max, Bool, true, ◌&&◌, List, [], ◌∷◌, ◌++◌, length, refl, sym, ap, ap₂, subst, ◌∙◌, arith, append-nil}
use Rattle.std.specs.List.{list_all}
use Rattle.std.proofs.Math.Path.{fun_ext}
use Rattle.std.proofs.Math.Nat.{mul-suc}
use Rattle.std.proofs.lemmas.Bool.{and_parts}
use Rattle.std.proofs.lemmas.List.Folds.{list_all-append}
use Rattle.aig_semantics.specs.Circuits.{Circuit}
use Rattle.aig_semantics.specs.Runs.{successor}
use Rattle.proof_semantics.specs.declared.literals.Lit.{Lit}
use Rattle.fair_semantics.specs.Entries.{Entry, Numbered, numbered_from, numbered, set_at}
use Rattle.fair_semantics.proofs.Sets.{sets_of-earlier}
use Rattle.entry.specs.CheckedEntries.{GoesOnFrom}
use Rattle.ic3_frames.specs.Room.{room}
use Rattle.edge.specs.Units.{Spendings}
use Rattle.ic3_semantics.specs.declared.questions.Start.{Start}
use Rattle.ic3_semantics.specs.Arenas.{keeps_to, in_arena}
use Rattle.ic3_semantics.specs.Searching.{Question, CountsSearch}
use Rattle.ic3_semantics.specs.Stepping.{Stepping, no_lemmas}
use Rattle.ic3_loops.specs.Sound.{IsSound, IsSearch, KeepsQuestion}
use Rattle.ic3_semantics.specs.Searching.{CountsUpTo}
use Rattle.ic3_loops.specs.Resuming.{MayGoOn}
use Rattle.ic3.specs.SearchesInside.{GoesFurther}
use Rattle.ic3_frames.proofs.Rooms.{first-room}
use Rattle.ic3_loops.proofs.Sounds.{Levels}
use Rattle.ic3_loops.proofs.Ended.{search_counts}

-- ---- arenas of views that go on

keeps_same : (start : Start) (e : Entry) (f g : List Bool → Bool) (s : List Bool) → ((t : List Bool) → f t ≡ g t)
    → keeps_to start e.kind f s ≡ keeps_to start e.kind g s
keeps_same start e f g s same = ap (λ (h : List Bool → Bool). keeps_to start e.kind h s) (fun_ext same)

-- the tests of the entries from place m on are the same under both lists of sets
tests_same : (start : Start) (these those : ℕ → List Bool → Bool) (s : List Bool) (m : ℕ) (es : List Entry)
    → ((n : ℕ) (t : List Bool) → n < m + length es → these n t ≡ those n t)
    → list_all (λ e. keeps_to start e.entry.kind (these e.number) s) (numbered_from m es)
    ≡ list_all (λ e. keeps_to start e.entry.kind (those e.number) s) (numbered_from m es)
tests_same start these those s m [] same = refl
tests_same start these those s m (e ∷ es) same =
    ap₂ (λ a b. a && b)
    (keeps_same start e (these m) (those m) s (λ t. same m t (omega arith)))
    (tests_same start these those s (m + 1) es (λ n t below. same n t (omega (arith, below))))

numbered_append : (m k : ℕ) (earlier more : List Entry) → m + length earlier ≡ k
    → numbered_from m (earlier ++ more) ≡ numbered_from m earlier ++ numbered_from k more
numbered_append m k [] more place = ap (λ i. numbered_from i more) (let e : m ≡ k = omega (arith, place) in e)
numbered_append m k (e ∷ earlier) more place =
    ap (λ rest. record { number = m; entry = e } ∷ rest) (numbered_append (m + 1) k earlier more (omega (arith, place)))

pub arena_shrinks : (earlier more : List Entry) (start : Start) (s : List Bool)
    → in_arena (earlier ++ more) start s ≡ true → in_arena earlier start s ≡ true
arena_shrinks earlier more start s h =
    let later : List Entry = earlier ++ more in
    let test : Numbered → Bool = λ e. keeps_to start e.entry.kind (set_at later e.number) s in
    let split : list_all test (numbered later) ≡ (list_all test (numbered earlier) && list_all test (numbered_from (length earlier) more)) =
    ap (list_all test) (numbered_append 0 (length earlier) earlier more (omega arith))
    ∙ list_all-append test (numbered earlier) (numbered_from (length earlier) more)
    in
    sym (tests_same start (set_at later) (set_at earlier) s 0 earlier (λ n t below. sets_of-earlier earlier more n t (omega (arith, below))))
    ∙ (and_parts (list_all test (numbered earlier)) (list_all test (numbered_from (length earlier) more)) (sym split ∙ h)).0

sound_on : (c : Circuit) (earlier more : List Entry) (start : Start) (cube : List Lit) (levels : Levels)
    → IsSound (record { circuit = c; view = earlier; start = start }) cube levels
    → IsSound (record { circuit = c; view = earlier ++ more; start = start }) cube levels
sound_on c earlier more start cube levels sound = record {
  over = sound.over;
  based = sound.based;
  starts = sound.starts;
  steps = λ k p below arena from. sound.steps k p below (record {
    possible = arena.possible;
    state = arena_shrinks earlier more start p.latches arena.state;
    next = arena_shrinks earlier more start (successor c p) arena.next;
  }) from;
}

pub goes_on : (c : Circuit) (earlier later : List Entry) (start : Start) (cube : List Lit) (levels : Levels) → GoesOnFrom earlier later
    → MayGoOn (record { circuit = c; view = earlier; start = start }) cube levels
    → MayGoOn (record { circuit = c; view = later; start = start }) cube levels
goes_on c earlier later start cube levels (more, is) may =
    subst (λ view. MayGoOn (record { circuit = c; view = view; start = start }) cube levels) (sym is)
    (λ some. record { two = (may some).two; sound = sound_on c earlier more start cube levels (may some).sound })

pub none_open : (q : Question) (cube : List Lit) → MayGoOn q cube []
none_open q cube some = absurd (omega (arith, some))

pub are_open : (q : Question) (cube : List Lit) (steps : Stepping) (levels : Levels) → steps.question ≡ q → 2 ≤ length levels
    → IsSearch cube steps levels → MayGoOn q cube levels
are_open q cube steps levels is two search some = record { two = two; sound = subst (λ x. IsSound x cube levels) is search.sound }

pub on_same : (earlier later : List Entry) → earlier ≡ later → GoesOnFrom earlier later
on_same earlier later same = ([], sym same ∙ sym (append-nil earlier))

pub same_question : (q : Question) (avoid : List (List Lit)) (steps opened : Stepping) → steps ≡ no_lemmas q avoid → KeepsQuestion steps opened
    → opened.question ≡ q
same_question q avoid steps opened is kept = kept.question ∙ ap (λ s. s.question) is

pub up_to_more : (most more : ℕ) (a b : Spendings) → most ≤ more → CountsUpTo most a b → CountsUpTo more a b
up_to_more most more a b within h = record {
  conflict_limit = h.conflict_limit;
  step_limit = h.step_limit;
  conflicts = h.conflicts;
  steps = h.steps;
  bound = omega (arith, within, h.bound);
}

-- what a solver's search counted, by the room of the frames that were there
pub counts_kept : (q : Question) (avoid : List (List Lit)) (steps opened : Stepping) (old levels : Levels) (a b : Spendings)
    → steps ≡ no_lemmas q avoid → KeepsQuestion steps opened
    → room (length steps.question.circuit.latches) levels ≤ room (length steps.question.circuit.latches) old
    → CountsUpTo (room (length opened.question.circuit.latches) levels) a b → CountsUpTo (room (length q.circuit.latches) old) a b
counts_kept q avoid steps opened old levels a b is kept within counted =
    let n : ℕ = length q.circuit.latches in
    up_to_more (room n levels) (room n old) a b
    (subst (λ x. room (length x.circuit.latches) levels ≤ room (length x.circuit.latches) old) (ap (λ s. s.question) is) within)
    (subst (λ x. CountsUpTo (room (length x.circuit.latches) levels) a b) (same_question q avoid steps opened is kept) counted)

pub paid_kept : (q : Question) (avoid : List (List Lit)) (steps opened : Stepping) (old levels new : Levels) (a b : Spendings)
    → steps ≡ no_lemmas q avoid → KeepsQuestion steps opened
    → room (length steps.question.circuit.latches) levels ≤ room (length steps.question.circuit.latches) old
    → b.steps + room (length opened.question.circuit.latches) new ≤ a.steps + room (length opened.question.circuit.latches) levels
    → b.steps + room (length q.circuit.latches) new ≤ a.steps + room (length q.circuit.latches) old
paid_kept q avoid steps opened old levels new a b is kept within paid =
    let n : ℕ = length q.circuit.latches in
    let less : room n levels ≤ room n old =
    subst (λ x. room (length x.circuit.latches) levels ≤ room (length x.circuit.latches) old) (ap (λ s. s.question) is) within
    in
    let here : b.steps + room n new ≤ a.steps + room n levels =
    subst (λ x. b.steps + room (length x.circuit.latches) new ≤ a.steps + room (length x.circuit.latches) levels)
    (same_question q avoid steps opened is kept) paid
    in
    omega (arith, less, here)

-- where steps were counted by frames alone
pub paid_behind : (q : Question) (starts : List Lit) (before after : Levels) (a b c : Spendings) → b.steps ≡ a.steps
    → GoesFurther q starts before after b c → GoesFurther q starts before after a c
paid_behind q starts before after a b c same h = record {
  ready = h.ready;
  narrows = h.narrows;
  more = h.more;
  paid = omega (arith, same, h.paid);
  fewest = subst (λ n. min (n + (length after - max 2 (length before))) (2 ^ 64 - 1) ≤ c.steps) same h.fewest;
}

-- ---- the room before any question

pub first_left : (n : ℕ) (levels : Levels) → levels ≡ [] → room n levels ≤ (2 ^ n + 2) * (2 ^ n + 2)
first_left n levels none =
    let wide : ℕ = 2 ^ n + 2 in
    let narrow : ℕ = 2 ^ n + 1 in
    let more : wide ≡ suc narrow = omega arith in
    let square : wide * wide ≡ wide * narrow + wide = ap (λ m. wide * m) more ∙ mul-suc wide narrow in
    let first : room n levels ≡ wide * narrow = ap (room n) none ∙ first-room n in
    omega (arith, square, first)

pub counts_first : (n : ℕ) (levels : Levels) (a b : Spendings) → levels ≡ [] → CountsUpTo (room n levels) a b → CountsSearch n a b
counts_first n levels a b none counted = search_counts n (room n levels) a b (let e : room n levels ≡ room n [] = ap (room n) none in omega (arith, e)) counted
