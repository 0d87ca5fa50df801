-- What the turns of a pass leave of what it knows.
use Rattle.std.proofs.Common.{◌≡◌, ◌≢◌, ℕ, ◌+◌, ◌<◌, ◌≤◌, ◌⊎◌, Bool, true, false, cond, Result, List, [], ◌∷◌, ◌++◌, map, Some, None, inl, inr, length, take, refl, sym, ap, ◌∙◌, subst, arith}
use Rattle.std.specs.Prelude.{◌==◌, ◌&&◌, nat_le, nat_lt, Option, Contains, Ok, Err, IfOk, OnOk, OnErr}
use Rattle.std.proofs.lemmas.Bool.{false≢true, cases_eq, eq-eqb, ne_eqb, le-leb, lt-leb, lt-ltb, le-ltb, and_from, cond-true, cond-false}
use Rattle.std.proofs.lemmas.List.{length-append, append_assoc, append-nil, take-append-le, take_all}
use Rattle.std.proofs.lemmas.List.Elements.{All-nil}
use Rattle.aig_semantics.specs.Circuits.{Circuit}
use Rattle.fair_semantics.specs.declared.skeletons.Skeleton.{Skeleton}
use Rattle.entry.specs.Laws.{IsGoodList}
use Rattle.entry.specs.CheckedEntries.{CheckedEntry, StandIn, ClosedUsesStand}
use Rattle.entry.specs.declared.origins.Origin.{Origin}
use Rattle.entry.specs.declared.origins.Origin.TheVariants.{Given, Worker as FoundBy}
use Rattle.wall_store.specs.declared.outcomes.Outcome.{Outcome}
use Rattle.wall_store.specs.declared.outcomes.Served.{Served}
use Rattle.wall_store.specs.declared.outcomes.Posted.{Posted}
use Rattle.wall_store.specs.declared.outcomes.Posted.TheVariants as posts
use Rattle.wall_store.specs.declared.outcomes.Finished.{Finished}
use Rattle.wall_store.specs.declared.outcomes.Finished.TheVariants as ends
use Rattle.wall_store.specs.Boards.{BoardState, IsSoundList, FromWorker, Allow, most_entries, plain, first_board, outcome_of}
use Rattle.wall_store.specs.Events.{entries_after, IsOpen, IsPosted, IsNextOpen}
use Rattle.wall_store.proofs.Kept.{first_keeps, good_entries}
use Rattle.wall_store.proofs.Excluding.{plain-length}
use Rattle.wall_ledger.specs.declared.marks.Shown.{Shown}
use Rattle.wall_ledger.specs.Passes.{Mark, blank, won, closed, Marked, PassState, LedgerState, IsMarkOf, AreMarksOf, IsPassPost, MayPassPost, shown_by, shown_of}
use Rattle.wall_ledger.specs.Turns as passing
use Rattle.wall_ledger.specs.Turns.{Turn, IsShown, closed_unless_won, is_passed}
use Rattle.shared_lists.specs.Knowing.{Keeps, KeepsList, SeesMore, TellsPosted, HasPosted, IsLastOf, HasFinished, HasAsked, IsOwn}
use Rattle.shared_lists.specs.Holding.{is_shown, known_by, IsPassOf, StaysHeld}
use Rattle.shared_lists.proofs.LentBoards.{some-not-none, contains-later, same-number, stands-behind}

-- ---- lists

-- a sound list is that of a board
pub good-list : (c : Circuit) (entries : List CheckedEntry) → length entries ≤ most_entries → IsSoundList c entries → IsGoodList c (plain entries)
good-list c entries few sound =
    good_entries (first_board c [] 1 0 entries)
    (first_keeps c [] 1 0 entries (λ i j d less below. absurd (omega arith)) (All-nil (λ j. j < length c.justice)) (omega arith) (omega arith) few sound)

-- ---- what is shown of a property

abbrev marked : List Marked → List ℕ
marked marks = map (λ m. m.property) marks

abbrev Shows : List Marked → ℕ → Type 0
Shows marks j = is_shown (shown_of marks j) ≡ true

from-eqb : (a b : ℕ) → (a == b) ≡ true → a ≡ b
from-eqb a b e = elim (cases_eq a b) [
  | inl same ↦ same
  | inr apart ↦ absurd (false≢true (sym (ne_eqb a b apart) ∙ e))
]

mark-tells : (m : Mark) (o : Option Outcome) → IsMarkOf m o → is_shown (shown_by m) ≡ true → o ≢ None
mark-tells blank o a h = absurd (false≢true h)
mark-tells (won x) o a h = λ none. some-not-none x (sym a ∙ none)
mark-tells closed o a h = a

tell-by : (m : Marked) (r : Shown) (served : List Served) (j : ℕ) (b : Bool) → (m.property == j) ≡ b → IsMarkOf m.mark (outcome_of served m.property)
    → (is_shown r ≡ true → outcome_of served j ≢ None) → is_shown (cond b (shown_by m.mark) r) ≡ true → outcome_of served j ≢ None
tell-by m r served j true e a rest h =
    subst (λ (i : ℕ). outcome_of served i ≢ None) (from-eqb m.property j e) (mark-tells m.mark (outcome_of served m.property) a h)
tell-by m r served j false e a rest h = rest h

-- where an outcome is shown there is one
pub marks-tell : (marks : List Marked) (served : List Served) (j : ℕ) → AreMarksOf marks served → Shows marks j → outcome_of served j ≢ None
marks-tell [] served j a h = absurd (false≢true h)
marks-tell (m ∷ marks) served j a h =
    tell-by m (shown_of marks j) served j (m.property == j) refl a.0 (marks-tell marks served j a.1) h

-- marks of which those that pass a test are changed
abbrev touched : (ℕ → Bool) → (Mark → Mark) → List Marked → List Marked
touched test change marks = map (λ (m : Marked). cond (test m.property) (record m { mark = change m.mark }) m) marks

touched-marked : (test : ℕ → Bool) (change : Mark → Mark) (marks : List Marked) → marked (touched test change marks) ≡ marked marks
touched-marked test change [] = refl
touched-marked test change (m ∷ marks) =
    elim (test m.property) as (λ b. (cond b (record m { mark = change m.mark }) m).property ∷ marked (touched test change marks) ≡ m.property ∷ marked marks) [
      | true ↦ ap (λ (rest : List ℕ). m.property ∷ rest) (touched-marked test change marks)
      | false ↦ ap (λ (rest : List ℕ). m.property ∷ rest) (touched-marked test change marks)
    ]

changed-shows : (e : Bool) (m n : Mark) (r s : Shown) → is_shown (shown_by n) ≡ true → (is_shown r ≡ true → is_shown s ≡ true)
    → is_shown (cond e (shown_by m) r) ≡ true → is_shown (cond e (shown_by n) s) ≡ true
changed-shows true m n r s shows rest h = shows
changed-shows false m n r s shows rest h = rest h

same-shows : (e : Bool) (m : Mark) (r s : Shown) → (is_shown r ≡ true → is_shown s ≡ true)
    → is_shown (cond e (shown_by m) r) ≡ true → is_shown (cond e (shown_by m) s) ≡ true
same-shows true m r s rest h = h
same-shows false m r s rest h = rest h

-- what is shown stays so, where a mark that is changed shows an outcome
touched-keeps : (test : ℕ → Bool) (change : Mark → Mark) (marks : List Marked) (j : ℕ) → ((m : Mark) → is_shown (shown_by (change m)) ≡ true)
    → Shows marks j → Shows (touched test change marks) j
touched-keeps test change [] j shows h = absurd (false≢true h)
touched-keeps test change (m ∷ marks) j shows h =
    elim (test m.property) as (λ b. Shows (cond b (record m { mark = change m.mark }) m ∷ touched test change marks) j) [
      | true ↦ changed-shows (m.property == j) m.mark (change m.mark) (shown_of marks j) (shown_of (touched test change marks) j) (shows m.mark)
          (touched-keeps test change marks j shows) h
      | false ↦ same-shows (m.property == j) m.mark (shown_of marks j) (shown_of (touched test change marks) j) (touched-keeps test change marks j shows) h
    ]

here-shows : (m : Marked) (n : Mark) (rest : List Marked) (j : ℕ) (b : Bool) → b ≡ true → (m.property == j) ≡ true → is_shown (shown_by n) ≡ true
    → Shows (cond b (record m { mark = n }) m ∷ rest) j
here-shows m n rest j true passes same shows = subst (λ e. is_shown (cond e (shown_by n) (shown_of rest j)) ≡ true) (sym same) shows
here-shows m n rest j false passes same shows = absurd (false≢true passes)

there-shows : (m : Marked) (n : Mark) (rest : List Marked) (j : ℕ) (b : Bool) → (m.property == j) ≡ false → Shows rest j
    → Shows (cond b (record m { mark = n }) m ∷ rest) j
there-shows m n rest j true other h = subst (λ e. is_shown (cond e (shown_by n) (shown_of rest j)) ≡ true) (sym other) h
there-shows m n rest j false other h = subst (λ e. is_shown (cond e (shown_by m.mark) (shown_of rest j)) ≡ true) (sym other) h

-- a property that passes the test is then shown
touched-shows : (test : ℕ → Bool) (change : Mark → Mark) (marks : List Marked) (j : ℕ) → ((m : Mark) → is_shown (shown_by (change m)) ≡ true)
    → Contains (marked marks) j → test j ≡ true → Shows (touched test change marks) j
touched-shows test change [] j shows (k, inside, at) passes = absurd (omega (arith, inside))
touched-shows test change (m ∷ marks) j shows inside passes =
    elim (cases_eq m.property j) [
      | inl same ↦
          here-shows m (change m.mark) (touched test change marks) j (test m.property) (ap test same ∙ passes) (eq-eqb m.property j same) (shows m.mark)
      | inr apart ↦
          let other : (m.property == j) ≡ false = ne_eqb m.property j apart in
          there-shows m (change m.mark) (touched test change marks) j (test m.property) other
          (touched-shows test change marks j shows (contains-later m.property (marked marks) j other inside) passes)
    ]

closed-shows : (m : Mark) → is_shown (shown_by (closed_unless_won m)) ≡ true
closed-shows blank = refl
closed-shows (won o) = refl
closed-shows closed = refl

-- ---- turns

-- What each turn of a pass leaves.
record Moves (p q : PassState) : Type 0 where
  home : q.home ≡ p.home
  number : q.number ≡ p.number
  turns : q.turns ≤ p.turns + 1
  kinds : marked q.marks ≡ marked p.marks
  shown : (j : ℕ) → Shows p.marks j → Shows q.marks j

keeps-by : (l : LedgerState) (p q : PassState) → Moves p q → Keeps (known_by l p) (known_by l q)
keeps-by l p q h = record {
  circuit = refl;
  properties = refl;
  number = h.number;
  given = refl;
  limit = refl;
  turns = h.turns;
  settled = h.shown;
}

pass-on : (l : LedgerState) (p q : PassState) → IsPassOf l p → Moves p q → IsPassOf l q
pass-on l p q is h = record {
  home = h.home ∙ is.home;
  circuit = is.circuit;
  marks = h.kinds ∙ is.marks;
  limit = is.limit;
}

held-on : (l : LedgerState) (p q : PassState) → IsPassOf l p → Moves p q → StaysHeld l p l q
held-on l p q is h = record { pass = pass-on l p q is h; ledger = refl; number = h.number }

moves-by : (l : LedgerState) (p q : PassState) (marks : List Marked) → Turn l p q → q.marks ≡ marks → marked marks ≡ marked p.marks
    → ((j : ℕ) → Shows p.marks j → Shows marks j) → Moves p q
moves-by l p q marks turn same properties stay = record {
  home = turn.home;
  number = turn.number;
  turns = (let one = turn.turns in omega (arith, one));
  kinds = ap marked same ∙ properties;
  shown = λ j h. subst (λ (ms : List Marked). Shows ms j) (sym same) (stay j h);
}

touched-moves : (l : LedgerState) (p q : PassState) (test : ℕ → Bool) (change : Mark → Mark) → Turn l p q → q.marks ≡ touched test change p.marks
    → ((m : Mark) → is_shown (shown_by (change m)) ≡ true) → Moves p q
touched-moves l p q test change turn same shows =
    moves-by l p q (touched test change p.marks) turn same (touched-marked test change p.marks) (λ j h. touched-keeps test change p.marks j shows h)

refused-moves : (p q : PassState) → passing.IsRefused p q → Moves p q
refused-moves p q h = record {
  home = h.home;
  number = h.number;
  turns = elim h.turns [ inl same ↦ omega (arith, same) | inr more ↦ omega (arith, more) ];
  kinds = ap marked h.marks;
  shown = λ j s. subst (λ (ms : List Marked). Shows ms j) (sym h.marks) s;
}

looked-moves : (l : LedgerState) (p q : PassState) → passing.HasLooked l p q → Moves p q
looked-moves l p q h = moves-by l p q p.marks h.turn h.marks refl (λ j s. s)

posted-moves : (l : LedgerState) (p q : PassState) (e : CheckedEntry) (r : Posted) → passing.HasPosted l p e r q → Moves p q
posted-moves l p q e (posts.Appended n) h = moves-by l p q p.marks h.turn h.marks refl (λ j s. s)
posted-moves l p q e (posts.Stale n) h = moves-by l p q p.marks h.turn h.marks refl (λ j s. s)
posted-moves l p q e posts.Full h = moves-by l p q p.marks h.turn h.marks refl (λ j s. s)
posted-moves l p q e posts.Closed h = touched-moves l p q (λ i. true) closed_unless_won h.turn h.marks closed-shows

finished-moves : (l : LedgerState) (p q : PassState) (j : ℕ) (o : Outcome) (r : Finished) → passing.HasFinished l p j o r q → Moves p q
finished-moves l p q j o ends.Won h = touched-moves l p q (λ i. i == j) (λ m. won o) h.turn h.marks (λ m. refl)
finished-moves l p q j o ends.Closed h = touched-moves l p q (λ i. i == j) closed_unless_won h.turn h.marks closed-shows

opened-moves : (l : LedgerState) (p q : PassState) (least : ℕ) (r : Option ℕ) → passing.HasOpened l p least r q → Moves p q
opened-moves l p q least None h = touched-moves l p q (λ i. true) closed_unless_won h.turn h.marks closed-shows
opened-moves l p q least (Some j) h = touched-moves l p q (is_passed least j) closed_unless_won h.turn h.marks closed-shows

-- ---- what is then known

pub refused-known : (l : LedgerState) (p q : PassState) → passing.IsRefused p q → KeepsList (known_by l p) (known_by l q)
refused-known l p q h = record { keeps = keeps-by l p q (refused-moves p q h); list = h.kept.list }

sees-by : (l : LedgerState) (p q : PassState) (turn : Turn l p q) (more : List CheckedEntry) → Moves p q → IsShown p q turn.after
    → turn.after.entries ≡ turn.before.entries ++ more → SeesMore (known_by l p) (known_by l q)
sees-by l p q turn more moves shown grown = record {
  keeps = keeps-by l p q moves;
  list = (
    turn.known.list.0 ++ more,
    shown.list ∙ grown ∙ ap (λ xs. xs ++ more) turn.known.list.1 ∙ append_assoc p.list turn.known.list.0 more,
  );
  within = (let size = ap length shown.list in let within = turn.board_after.board.within in let limit = turn.board_after.limit in omega (arith, size, within, limit));
}

pub looked-known : (l : LedgerState) (p q : PassState) → passing.HasLooked l p q → SeesMore (known_by l p) (known_by l q)
looked-known l p q h =
    sees-by l p q h.turn [] (looked-moves l p q h) h.shown
    (ap (λ (b : BoardState). b.entries) h.event.after ∙ sym (append-nil h.turn.before.entries))

more-of : (entries : List CheckedEntry) (e : CheckedEntry) (r : Posted) → (more : List CheckedEntry) × (entries_after entries e r ≡ entries ++ more)
more-of entries e (posts.Appended n) = (e ∷ [], refl)
more-of entries e (posts.Stale n) = ([], sym (append-nil entries))
more-of entries e posts.Full = ([], sym (append-nil entries))
more-of entries e posts.Closed = ([], sym (append-nil entries))

posted-entries : (l : LedgerState) (p q : PassState) (e : CheckedEntry) (r : Posted) (h : passing.HasPosted l p e r q)
    → h.turn.after.entries ≡ entries_after h.turn.before.entries e r
posted-entries l p q e r h = ap (λ (b : BoardState). b.entries) h.event.after

posted-sees : (l : LedgerState) (p q : PassState) (e : CheckedEntry) (r : Posted) → passing.HasPosted l p e r q → SeesMore (known_by l p) (known_by l q)
posted-sees l p q e r h =
    let more = more-of h.turn.before.entries e r in
    sees-by l p q h.turn more.0 (posted-moves l p q e r h) h.shown (posted-entries l p q e r h ∙ more.1)

-- the list of a pass is a part of the board's
no-longer : (l : LedgerState) (p q : PassState) (turn : Turn l p q) → length p.list ≤ length turn.before.entries
no-longer l p q turn = omega (arith, ap length turn.known.list.1, length-append p.list turn.known.list.0)

front-of : (p : List CheckedEntry) (rest entries : List CheckedEntry) → entries ≡ p ++ rest → take (length p) entries ≡ p
front-of p rest entries e = ap (take (length p)) e ∙ take-append-le (length p) p rest (omega arith) ∙ take_all (length p) p (omega arith)

stale-behind : (l : LedgerState) (p q : PassState) (turn : Turn l p q) (n : ℕ) (skeleton : Skeleton) → Allow p.list skeleton
    → IsPosted turn.before skeleton (posts.Stale n) → length p.list < length turn.before.entries
stale-behind l p q turn n skeleton allowed answer =
    let front : take (length p.list) turn.before.entries ≡ p.list = front-of p.list turn.known.list.0 turn.before.entries turn.known.list.1 in
    let behind = stands-behind turn.before.entries (length p.list) n skeleton (no-longer l p q turn)
    (subst (λ (xs : List CheckedEntry). Allow xs skeleton) (sym front) allowed) answer.1.excluded in
    behind-by n (length p.list) (length turn.before.entries) (length (plain turn.before.entries)) behind (plain-length turn.before.entries) answer.1.inside
  where
    behind-by : (n own size plain_size : ℕ) → (n < own → ⊥) → plain_size ≡ size → n < plain_size → own < size
    behind-by n own size plain_size behind e inside = grind (arith)

posted-tells : (l : LedgerState) (p q : PassState) (e : CheckedEntry) (r : Posted) (skeleton : Skeleton) → IsPassOf l p → (h : passing.HasPosted l p e r q)
    → Allow p.list skeleton → IsPosted h.turn.before skeleton r → TellsPosted (known_by l p) (known_by l q) r
posted-tells l p q e (posts.Appended n) skeleton is h allowed answer =
    omega (arith, no-longer l p q h.turn, ap length h.shown.list, ap length (posted-entries l p q e (posts.Appended n) h), length-append h.turn.before.entries (e ∷ []))
posted-tells l p q e (posts.Stale n) skeleton is h allowed answer =
    omega (arith, stale-behind l p q h.turn n skeleton allowed answer, ap length h.shown.list, ap length (posted-entries l p q e (posts.Stale n) h))
posted-tells l p q e posts.Full skeleton is h allowed answer =
    ap length h.shown.list ∙ ap length (posted-entries l p q e posts.Full h) ∙ answer.1 ∙ h.turn.board.limit
posted-tells l p q e posts.Closed skeleton is h allowed answer =
    λ j inside. subst (λ (ms : List Marked). Shows ms j) (sym h.marks)
    (touched-shows (λ i. true) closed_unless_won p.marks j closed-shows (subst (λ (xs : List ℕ). Contains xs j) (sym is.marks) inside) refl)

posted-known-by : (l : LedgerState) (p q : PassState) (e : CheckedEntry) (r : Posted) (origin : Origin) → IsPassOf l p → (h : passing.HasPosted l p e r q)
    → FromWorker origin (IsOwn (known_by l p) e) → FromWorker origin (λ work. IsPosted h.turn.before work.skeleton r)
    → HasPosted (known_by l p) r (known_by l q)
posted-known-by l p q e r Given is h own answer = absurd own
posted-known-by l p q e r (FoundBy work) is h own answer = record {
  sees = posted-sees l p q e r h;
  tells = posted-tells l p q e r work.skeleton is h own.allowed answer;
}

pub posted-known : (l : LedgerState) (p q : PassState) (e : CheckedEntry) (r : Posted) → IsPassOf l p → passing.HasPosted l p e r q
    → FromWorker e.origin (IsOwn (known_by l p) e) → HasPosted (known_by l p) r (known_by l q)
posted-known l p q e r is h own = posted-known-by l p q e r e.origin is h own h.event.answer

posted-last-by : (l : LedgerState) (p q : PassState) (e : CheckedEntry) (r : Posted) (origin : Origin) → (h : passing.HasPosted l p e r q)
    → FromWorker origin (λ work. IsPosted h.turn.before work.skeleton r) → IsLastOf e (known_by l q) r
posted-last-by l p q e r Given h answer = absurd answer
posted-last-by l p q e (posts.Appended n) (FoundBy work) h answer =
    (h.turn.before.entries, h.shown.list ∙ posted-entries l p q e (posts.Appended n) h, answer.1.1)
posted-last-by l p q e (posts.Stale n) (FoundBy work) h answer = tt
posted-last-by l p q e posts.Full (FoundBy work) h answer = tt
posted-last-by l p q e posts.Closed (FoundBy work) h answer = tt

pub posted-last : (l : LedgerState) (p q : PassState) (e : CheckedEntry) (r : Posted) → passing.HasPosted l p e r q → IsLastOf e (known_by l q) r
posted-last l p q e r h = posted-last-by l p q e r e.origin h h.event.answer

-- what a worker may post by what it knows its pass may
may-by : (l : LedgerState) (p : PassState) (e : CheckedEntry) (origin : Origin) → ClosedUsesStand → FromWorker origin (IsOwn (known_by l p) e)
    → FromWorker origin (IsPassPost l p e)
may-by l p e Given stand own = absurd own
may-by l p e (FoundBy work) stand own = record {
  circuit = own.circuit;
  author = own.author;
  turn = own.turn;
  uses = subst (StandIn (plain p.list)) (sym own.used) (stand (plain p.list) e.entry.uses own.closed);
  skeleton = own.skeleton;
  allowed = own.allowed;
}

pub may-pass : (l : LedgerState) (p : PassState) (e : CheckedEntry) → ClosedUsesStand → FromWorker e.origin (IsOwn (known_by l p) e) → MayPassPost l p e
may-pass l p e stand own = may-by l p e e.origin stand own

finished-shows : (l : LedgerState) (p q : PassState) (j : ℕ) (o : Outcome) (r : Finished) → Contains (marked p.marks) j → passing.HasFinished l p j o r q
    → Shows q.marks j
finished-shows l p q j o ends.Won inside h =
    subst (λ (ms : List Marked). Shows ms j) (sym h.marks)
    (touched-shows (λ i. i == j) (λ m. won o) p.marks j (λ m. refl) inside (same-number j j refl))
finished-shows l p q j o ends.Closed inside h =
    subst (λ (ms : List Marked). Shows ms j) (sym h.marks)
    (touched-shows (λ i. i == j) closed_unless_won p.marks j closed-shows inside (same-number j j refl))

pub finished-known : (l : LedgerState) (p q : PassState) (j : ℕ) (o : Outcome) (r : Finished) → IsPassOf l p → Contains l.properties j
    → passing.HasFinished l p j o r q → HasFinished j (known_by l p) (known_by l q)
finished-known l p q j o r is inside h = record {
  keeps = record { keeps = keeps-by l p q (finished-moves l p q j o r h); list = h.kept.list };
  settled = finished-shows l p q j o r (subst (λ (xs : List ℕ). Contains xs j) (sym is.marks) inside) h;
}

not-true : (b : Bool) → (b ≡ true → ⊥) → b ≡ false
not-true true h = absurd (h refl)
not-true false h = refl

open-of : (served : List Served) (least i : ℕ) → IsNextOpen served least (Some i) → IsOpen served i
open-of served least i (inl first) = first.open_one
open-of served least i (inr (none, first)) = first.open_one

-- what the search for an open property passes over
is-passed : (least j i : ℕ) → least ≤ i → (i < j) ⊎ (j < least) → is_passed least j i ≡ true
is-passed least j i low (inl less) =
    cond-true (nat_le least j) (nat_le least i && nat_lt i j) (cond (nat_lt i j) true (nat_le least i)) (le-leb least j (omega (arith, low, less)))
    ∙ and_from (nat_le least i) (nat_lt i j) (le-leb least i low) (lt-ltb i j less)
is-passed least j i low (inr below) =
    cond-false (nat_le least j) (nat_le least i && nat_lt i j) (cond (nat_lt i j) true (nat_le least i)) (lt-leb least j below)
    ∙ cond-false (nat_lt i j) true (nat_le least i) (le-ltb i j (omega (arith, low, below)))
    ∙ le-leb least i low

pub opened-known : (l : LedgerState) (p q : PassState) (least : ℕ) (r : Option ℕ) → IsPassOf l p → passing.HasOpened l p least r q
    → HasAsked (known_by l p) least r (known_by l q)
opened-known l p q least None is h = record {
  keeps = record { keeps = keeps-by l p q (opened-moves l p q least None h); list = h.kept.list };
  tells = λ j inside. subst (λ (ms : List Marked). Shows ms j) (sym h.marks)
      (touched-shows (λ i. true) closed_unless_won p.marks j closed-shows (subst (λ (xs : List ℕ). Contains xs j) (sym is.marks) inside) refl);
}
opened-known l p q least (Some j) is h =
    let is_open : IsOpen h.turn.before.served j = open-of h.turn.before.served least j h.event.answer in
    let none : outcome_of h.turn.after.served j ≡ None = ap (λ (b : BoardState). outcome_of b.served j) h.event.after ∙ is_open.1 in
    record {
      keeps = record { keeps = keeps-by l p q (opened-moves l p q least (Some j) h); list = h.kept.list };
      tells = record {
        served = subst (λ (xs : List ℕ). Contains xs j) h.turn.board.properties is_open.0;
        unsettled = not-true (is_shown (shown_of q.marks j)) (λ shows. marks-tell q.marks h.turn.after.served j h.turn.known_after.marks shows none);
        passed = λ i inside low way. subst (λ (ms : List Marked). Shows ms i) (sym h.marks)
            (touched-shows (is_passed least j) closed_unless_won p.marks i closed-shows (subst (λ (xs : List ℕ). Contains xs i) (sym is.marks) inside)
            (is-passed least j i low way));
      };
    }

-- ---- what a call leaves

pub refused-held : (l : LedgerState) (p q : PassState) → IsPassOf l p → passing.IsRefused p q → StaysHeld l p l q
refused-held l p q is h = held-on l p q is (refused-moves p q h)

pub looked-held : (l : LedgerState) (p q : PassState) → IsPassOf l p → passing.HasLooked l p q → StaysHeld l p l q
looked-held l p q is h = held-on l p q is (looked-moves l p q h)

pub posted-held : (l : LedgerState) (p q : PassState) (e : CheckedEntry) (r : Posted) → IsPassOf l p → passing.HasPosted l p e r q → StaysHeld l p l q
posted-held l p q e r is h = held-on l p q is (posted-moves l p q e r h)

pub finished-held : (l : LedgerState) (p q : PassState) (j : ℕ) (o : Outcome) (r : Finished) → IsPassOf l p → passing.HasFinished l p j o r q → StaysHeld l p l q
finished-held l p q j o r is h = held-on l p q is (finished-moves l p q j o r h)

pub opened-held : (l : LedgerState) (p q : PassState) (least : ℕ) (r : Option ℕ) → IsPassOf l p → passing.HasOpened l p least r q → StaysHeld l p l q
opened-held l p q least r is h = held-on l p q is (opened-moves l p q least r h)

-- ---- answers of calls

pub on-either : {T E : Type 0} (P Q X : Type 0) (r : Result T E) → OnOk r P → OnErr r Q → (P → X) → (Q → X) → X
on-either P Q X (Ok x) p q f g = f p
on-either P Q X (Err e) p q f g = g q

pub if-either : {T E : Type 0} (P : T → Type 0) (Q X : Type 0) (r : Result T E) → IfOk r P → OnErr r Q → ((x : T) → P x → X) → (Q → X) → X
if-either P Q X (Ok x) p q f g = f x p
if-either P Q X (Err e) p q f g = g q

pub good-pass : (l : LedgerState) (p : PassState) → IsPassOf l p → length p.list ≤ most_entries → IsSoundList p.home.first.circuit p.list
    → IsGoodList l.circuit (plain p.list)
good-pass l p is few sound =
    subst (λ (c : Circuit). IsGoodList c (plain p.list)) (ap (λ h. h.first.circuit) is.home ∙ is.circuit) (good-list p.home.first.circuit p.list few sound)
