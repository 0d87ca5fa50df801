-- What the events of a board leave of it and of a lent board, and what the worker then knows.
use Rattle.std.proofs.Common.{◌≡◌, ◌≢◌, ℕ, zero, suc, ◌+◌, ◌<◌, ◌≤◌, Bool, true, false, not, cond, List, [], ◌∷◌, ◌++◌, Some, None, length, get_or, take, drop, refl, sym, ap, ◌∙◌, subst, arith}
use Rattle.std.specs.Prelude.{◌==◌, Option, is_some, Contains}
use Rattle.std.specs.List.{All, list_all}
use Rattle.std.proofs.lemmas.Bool.{false≢true, and_parts}
use Rattle.std.proofs.lemmas.List.{get_or_append_left, get_or-set_same, get_or-set_other, append-nil, length-append, take-append-drop, map-append, append_assoc, take_all, take-map, length-map, length-take-le}
use Rattle.std.proofs.lemmas.List.Elements.{All-nil, All-cons}
use Rattle.std.proofs.Math.Path.{fun_ext}
use Rattle.std.specs.declared.sync.Arc.{Arc}
use Rattle.aig_semantics.specs.Circuits.{Circuit}
use Rattle.cnf_unroll.specs.Laws.{AreOver}
use Rattle.fair_semantics.proofs.Sets.{sets_of-earlier, entry_at-earlier}
use Rattle.fair_semantics.specs.declared.skeletons.Skeleton.{Skeleton}
use Rattle.fair_semantics.specs.Entries.{Entry, Numbered, numbered_from, numbered, entry_at, set_at, sets_of}
use Rattle.fair_semantics.specs.Allowing.{allows_by, allow}
use Rattle.fair_semantics.specs.Skeletons.{places, excludes}
use Rattle.fair_semantics.specs.Validity.{AreValidBehind}
use Rattle.entry.specs.Laws.{IsGoodList}
use Rattle.entry.specs.CheckedEntries.{CheckedEntry, entry_in, viewed, StandIn}
use Rattle.entry.specs.declared.origins.Origin.{Origin}
use Rattle.entry.specs.declared.origins.Origin.TheVariants.{Given, Worker as FoundBy}
use Rattle.wall_store.specs.declared.outcomes.Outcome.{Outcome}
use Rattle.wall_store.specs.declared.outcomes.Outcome.TheVariants as outcomes
use Rattle.wall_store.specs.declared.outcomes.Served.{Served}
use Rattle.wall_store.specs.declared.outcomes.Posted.{Posted}
use Rattle.wall_store.specs.declared.outcomes.Posted.TheVariants as posts
use Rattle.wall_store.specs.declared.outcomes.Finished.{Finished}
use Rattle.wall_store.specs.declared.outcomes.Finished.TheVariants as ends
use Rattle.wall_store.specs.Boards.{BoardState, IsBoard, FromWorker, IsTrueOf, plain, Allow, properties_of, outcome_of}
use Rattle.wall_store.specs.Events.{seen_by, list_of, shown_to, with_outcome, with_post, entries_after, IsSettled, IsPosted, IsPostOf, Posts, Finishes}
use Rattle.wall_store.specs.Laws.{SeenUsesStand, OutcomesStay}
use Rattle.shared_lists.specs.Knowing.{Known, AreSettled, KeepsList, SeesMore, HasPosted, IsLastOf, HasFinished, IsOwn, MayPostFrom}
use Rattle.shared_lists.specs.declared.lending.LentBoard.{LentBoard}
use Rattle.shared_lists.specs.Lending.{known_at, known_of, IsLent, IsOfTurn, GoesOnBy, StaysLent}

-- ---- boards

pub same-board : (n turn : ℕ) (b : BoardState) → GoesOnBy n turn b b
same-board n turn b = record {
  circuit = refl;
  properties = refl;
  workers = refl;
  limit = refl;
  given = refl;
  entries = ([], sym (append-nil b.entries), All-nil (IsOfTurn n turn));
  outcomes = λ j h. h;
  others = λ m other. refl;
  quiet = λ h. omega arith;
}

pub shown-seen : (n : ℕ) (b : BoardState) → n < length b.seen → seen_by (shown_to b n) n ≡ length b.entries
shown-seen n b inside = get_or-set_same b.seen n (length b.entries) 0 inside

-- a board with more entries, all of which worker n has seen
pub shown-on : (n turn : ℕ) (b : BoardState) (entries more : List CheckedEntry) → n < length b.seen → seen_by b n ≤ length b.entries
    → entries ≡ b.entries ++ more → All (IsOfTurn n turn) more → GoesOnBy n turn b (shown_to (record b { entries = entries }) n)
shown-on n turn b entries more inside within e found = record {
  circuit = refl;
  properties = refl;
  workers = refl;
  limit = refl;
  given = refl;
  entries = (more, e, found);
  outcomes = λ j h. h;
  others = λ m other. get_or-set_other b.seen n m (length entries) 0 other;
  quiet = λ h. (let same = shown-seen n (record b { entries = entries }) inside in omega (arith, h, same, within));
}

-- ---- outcomes

pub some-not-none : {X : Type 0} (x : X) → Some x ≡ None → ⊥
some-not-none x e = cc

properties-kept : (served : List Served) (j : ℕ) (o : Outcome) → properties_of (with_outcome served j o) ≡ properties_of served
properties-kept [] j o = refl
properties-kept (s ∷ served) j o =
    elim (s.property == j) as (λ b. properties_of (cond b (record { property = s.property; outcome = Some o } ∷ served) (s ∷ with_outcome served j o))
    ≡ s.property ∷ properties_of served) [
      | true ↦ refl
      | false ↦ ap (λ rest. s.property ∷ rest) (properties-kept served j o)
    ]

outcomes-kept : (served : List Served) (j i : ℕ) (o : Outcome) → outcome_of served i ≢ None → outcome_of (with_outcome served j o) i ≢ None
outcomes-kept [] j i o h = h
outcomes-kept (s ∷ served) j i o h =
    elim (s.property == j) as (λ b. outcome_of (cond b (record { property = s.property; outcome = Some o } ∷ served) (s ∷ with_outcome served j o)) i ≢ None) [
      | true ↦
          (elim (s.property == i) as (λ m. (cond m s.outcome (outcome_of served i) ≢ None) → cond m (Some o) (outcome_of served i) ≢ None) [
            | true ↦ λ k. some-not-none o
            | false ↦ λ k. k
          ]) h
      | false ↦
          (elim (s.property == i) as (λ m. (cond m s.outcome (outcome_of served i) ≢ None)
          → cond m s.outcome (outcome_of (with_outcome served j o) i) ≢ None) [
            | true ↦ λ k. k
            | false ↦ λ k. outcomes-kept served j i o k
          ]) h
    ]

pub same-number : (n m : ℕ) → n ≡ m → (n == m) ≡ true
same-number n m e = grind (arith)

set-here : (s : Served) (served : List Served) (j : ℕ) (o : Outcome) (b : Bool) → (s.property == j) ≡ b
    → (b ≡ false → outcome_of (with_outcome served j o) j ≢ None)
    → outcome_of (cond b (record { property = s.property; outcome = Some o } ∷ served) (s ∷ with_outcome served j o)) j ≢ None
set-here s served j o true e rest = subst (λ m. cond m (Some o) (outcome_of served j) ≢ None) (sym e) (some-not-none o)
set-here s served j o false e rest =
    subst (λ m. cond m s.outcome (outcome_of (with_outcome served j o) j) ≢ None) (sym e) (rest refl)

pub contains-later : (i : ℕ) (properties : List ℕ) (j : ℕ) → (i == j) ≡ false → Contains (i ∷ properties) j → Contains properties j
contains-later i properties j other (zero, inside, at) = absurd (false≢true (sym other ∙ same-number i j at))
contains-later i properties j other (suc k, inside, at) = (k, omega (arith, inside), at)

-- a served property that got an outcome has one
pub outcome-set : (served : List Served) (j : ℕ) (o : Outcome) → Contains (properties_of served) j → outcome_of (with_outcome served j o) j ≢ None
outcome-set [] j o (k, inside, at) = absurd (omega (arith, inside))
outcome-set (s ∷ served) j o h =
    set-here s served j o (s.property == j) refl
    (λ other. outcome-set served j o (contains-later s.property (properties_of served) j other h))

pub finished-on : (n turn : ℕ) (b : BoardState) (j : ℕ) (o : Outcome) → GoesOnBy n turn b (record b { served = with_outcome b.served j o })
finished-on n turn b j o = record {
  circuit = refl;
  properties = properties-kept b.served j o;
  workers = refl;
  limit = refl;
  given = refl;
  entries = ([], sym (append-nil b.entries), All-nil (IsOfTurn n turn));
  outcomes = λ i h. outcomes-kept b.served j i o h;
  others = λ m other. refl;
  quiet = λ h. omega arith;
}

pub some-is : {X : Type 0} (o : Option X) → o ≢ None → is_some o ≡ true
some-is (Some x) h = refl
some-is None h = absurd (h refl)

pub is-not-none : {X : Type 0} (o : Option X) → is_some o ≡ true → o ≢ None
is-not-none (Some x) h = some-not-none x
is-not-none None h = absurd (false≢true h)

-- where no property is open, each has an outcome
settled-all : (b : BoardState) (n turns : ℕ) → IsSettled b.served → AreSettled (known_at b n turns)
settled-all b n turns settled = λ j inside. some-is (outcome_of b.served j) (λ none. settled j (inside, none))

-- ---- what is allowed is not excluded

allowed-at : (p : Numbered → Bool) (m : ℕ) (entries : List Entry) (k : ℕ) (d : Entry) → k < length entries
    → list_all p (numbered_from m entries) ≡ true → p (record { number = m + k; entry = get_or entries k d }) ≡ true
allowed-at p m [] k d below h = absurd (omega arith)
allowed-at p m (e ∷ entries) zero d below h =
    let here = (and_parts (p (record { number = m; entry = e })) (list_all p (numbered_from (m + 1) entries)) h).0 in
    subst (λ (n : ℕ). p (record { number = n; entry = e }) ≡ true) (let s : m ≡ m + 0 = omega arith in s) here
allowed-at p m (e ∷ entries) (suc k) d below h =
    let later = (and_parts (p (record { number = m; entry = e })) (list_all p (numbered_from (m + 1) entries)) h).1 in
    subst (λ (n : ℕ). p (record { number = n; entry = get_or entries k d }) ≡ true) (let s : (m + 1) + k ≡ m + suc k = omega arith in s)
    (allowed-at p (m + 1) entries k d (omega arith) later)

pub not-excluded : (view more : List Entry) (n : ℕ) (skeleton : Skeleton) → n < length view → allow (numbered view) (places skeleton) ≡ true
    → excludes (view ++ more) n skeleton ≡ false
not-excluded view more n skeleton below h =
    let p : Numbered → Bool = λ e. allows_by e.entry.kind (sets_of (numbered view) e.number) (places skeleton) in
    let none : Entry = entry_at [] 0 in
    let at : p (record { number = 0 + n; entry = entry_at view n }) ≡ true = allowed-at p 0 view n none below h in
    let here : p (record { number = n; entry = entry_at view n }) ≡ true =
    subst (λ (m : ℕ). p (record { number = m; entry = entry_at view n }) ≡ true) (let z : 0 + n ≡ n = omega arith in z) at
    in
    let same : set_at (view ++ more) n ≡ set_at view n = fun_ext (λ s. sets_of-earlier view more n s below) in
    ap (λ (e : Entry). not (allows_by e.kind (set_at (view ++ more) n) (places skeleton))) (entry_at-earlier view more n below)
    ∙ ap (λ (set : List Bool → Bool). not (allows_by (entry_at view n).kind set (places skeleton))) same
    ∙ ap not here

grown-by : (seen n own size plain_size : ℕ) → own ≡ seen → (n < seen → ⊥) → plain_size ≡ size → n < plain_size → own < size
grown-by seen n own size plain_size e behind same inside = grind (arith)

pub stands-behind : (entries : List CheckedEntry) (seen n : ℕ) (skeleton : Skeleton) → seen ≤ length entries → Allow (take seen entries) skeleton
    → excludes (plain entries) n skeleton ≡ true → (n < seen → ⊥)
stands-behind entries seen n skeleton within allowed excluded below =
    let front : List Entry = plain (take seen entries) in
    let size : length front ≡ seen = length-map (take seen entries) (λ (e : CheckedEntry). e.entry) ∙ length-take-le seen entries within in
    let split : plain entries ≡ front ++ plain (drop seen entries) =
    ap plain (sym (take-append-drop seen entries)) ∙ map-append (λ (e : CheckedEntry). e.entry) (take seen entries) (drop seen entries)
    in
    let not_so : excludes (front ++ plain (drop seen entries)) n skeleton ≡ false =
    not-excluded front (plain (drop seen entries)) n skeleton (omega (arith, size, below)) allowed
    in
    let so : excludes (front ++ plain (drop seen entries)) n skeleton ≡ true = subst (λ (xs : List Entry). excludes xs n skeleton ≡ true) split excluded in
    false≢true (sym not_so ∙ so)

pub seen-within : (b : BoardState) (n : ℕ) → IsBoard b → n < b.workers → seen_by b n ≤ length b.entries
seen-within b n is below = is.seen n 0 (omega (arith, is.each_seen))

-- ---- what a worker then knows

pub seen-size : (b : BoardState) (n : ℕ) → IsBoard b → n < b.workers → length (list_of b n) ≡ seen_by b n
seen-size b n is below = length-take-le (seen_by b n) b.entries (seen-within b n is below)

-- a worker that was shown a board has seen all
shown-list : (n : ℕ) (b : BoardState) → n < length b.seen → list_of (shown_to b n) n ≡ b.entries
shown-list n b inside = take_all (seen_by (shown_to b n) n) b.entries (omega (arith, shown-seen n b inside))

sees-more : (n turns : ℕ) (b : BoardState) (entries more : List CheckedEntry) → IsBoard b → n < b.workers → entries ≡ b.entries ++ more
    → length entries ≤ b.limit → SeesMore (known_at b n turns) (known_at (shown_to (record b { entries = entries }) n) n (turns + 1))
sees-more n turns b entries more is below e within =
    let c : BoardState = record b { entries = entries } in
    let whole : list_of (shown_to c n) n ≡ entries = shown-list n c (omega (arith, below, is.each_seen)) in
    let split : b.entries ++ more ≡ list_of b n ++ (drop (seen_by b n) b.entries ++ more) =
    ap (λ xs. xs ++ more) (sym (take-append-drop (seen_by b n) b.entries)) ∙ append_assoc (list_of b n) (drop (seen_by b n) b.entries) more
    in
    record {
      keeps = record { circuit = refl; properties = refl; number = refl; given = refl; limit = refl; turns = omega arith; settled = λ j h. h };
      list = (drop (seen_by b n) b.entries ++ more, whole ∙ e ∙ split);
      within = omega (arith, ap length whole, within);
    }

looked : (n turns : ℕ) (b : BoardState) → IsBoard b → n < b.workers → SeesMore (known_at b n turns) (known_at (shown_to b n) n (turns + 1))
looked n turns b is below = sees-more n turns b b.entries [] is below (sym (append-nil b.entries)) is.within

pub look-known : (n turns : ℕ) (b c : BoardState) → IsBoard b → n < b.workers → c ≡ shown_to b n
    → SeesMore (known_at b n turns) (known_at c n (turns + 1))
look-known n turns b c is below after = subst (λ d. SeesMore (known_at b n turns) (known_at d n (turns + 1))) (sym after) (looked n turns b is below)

grown-list : (n turns : ℕ) (b : BoardState) (entries : List CheckedEntry) → IsBoard b → n < b.workers → seen_by b n < length entries
    → length (list_of b n) < length (list_of (shown_to (record b { entries = entries }) n) n)
grown-list n turns b entries is below grown =
    let c : BoardState = record b { entries = entries } in
    let whole : list_of (shown_to c n) n ≡ entries = shown-list n c (omega (arith, below, is.each_seen)) in
    omega (arith, ap length whole, seen-size b n is below, grown)

posted : (n turns : ℕ) (b : BoardState) (e : CheckedEntry) (r : Posted) (skeleton : Skeleton) → IsBoard b → n < b.workers
    → Allow (list_of b n) skeleton → IsPosted b skeleton r
    → HasPosted (known_at b n turns) r (known_at (shown_to (with_post b e r) n) n (turns + 1))
posted n turns b e (posts.Appended m) skeleton is below allowed answer =
    let size : length (b.entries ++ e ∷ []) ≡ length b.entries + 1 = length-append b.entries (e ∷ []) in
    record {
      sees = sees-more n turns b (b.entries ++ e ∷ []) (e ∷ []) is below refl (omega (arith, size, answer.0.room));
      tells = grown-list n turns b (b.entries ++ e ∷ []) is below (omega (arith, size, seen-within b n is below));
    }
posted n turns b e (posts.Stale m) skeleton is below allowed answer =
    let behind = stands-behind b.entries (seen_by b n) m skeleton (seen-within b n is below) allowed answer.1.excluded in
    let size : length (plain b.entries) ≡ length b.entries = length-map b.entries (λ (x : CheckedEntry). x.entry) in
    record {
      sees = looked n turns b is below;
      tells = grown-list n turns b b.entries is below
          (grown-by (seen_by b n) m (seen_by b n) (length b.entries) (length (plain b.entries)) refl behind size answer.1.inside);
    }
posted n turns b e posts.Full skeleton is below allowed answer = record {
  sees = looked n turns b is below;
  tells = ap length (shown-list n b (omega (arith, below, is.each_seen))) ∙ answer.1;
}
posted n turns b e posts.Closed skeleton is below allowed answer = record {
  sees = looked n turns b is below;
  tells = settled-all b n turns answer;
}

pub post-known : (n turns : ℕ) (b c : BoardState) (e : CheckedEntry) (r : Posted) (origin : Origin) → IsBoard b → n < b.workers
    → FromWorker origin (IsOwn (known_at b n turns) e) → FromWorker origin (λ work. IsPosted b work.skeleton r)
    → c ≡ shown_to (with_post b e r) n → HasPosted (known_at b n turns) r (known_at c n (turns + 1))
post-known n turns b c e r Given is below own answer after = absurd own
post-known n turns b c e r (FoundBy work) is below own answer after =
    subst (λ d. HasPosted (known_at b n turns) r (known_at d n (turns + 1))) (sym after)
    (posted n turns b e r work.skeleton is below own.allowed answer)

posted-last : (n turns : ℕ) (b : BoardState) (e : CheckedEntry) (r : Posted) (skeleton : Skeleton) → IsBoard b → n < b.workers → IsPosted b skeleton r
    → IsLastOf e (known_at (shown_to (with_post b e r) n) n (turns + 1)) r
posted-last n turns b e (posts.Appended m) skeleton is below answer =
    (b.entries, shown-list n (record b { entries = b.entries ++ e ∷ [] }) (omega (arith, below, is.each_seen)), answer.1.1)
posted-last n turns b e (posts.Stale m) skeleton is below answer = tt
posted-last n turns b e posts.Full skeleton is below answer = tt
posted-last n turns b e posts.Closed skeleton is below answer = tt

pub post-last : (n turns : ℕ) (b c : BoardState) (e : CheckedEntry) (r : Posted) (origin : Origin) → IsBoard b → n < b.workers
    → FromWorker origin (λ work. IsPosted b work.skeleton r) → c ≡ shown_to (with_post b e r) n
    → IsLastOf e (known_at c n (turns + 1)) r
post-last n turns b c e r Given is below answer after = absurd answer
post-last n turns b c e r (FoundBy work) is below answer after =
    subst (λ d. IsLastOf e (known_at d n (turns + 1)) r) (sym after) (posted-last n turns b e r work.skeleton is below answer)

pub may-post-on : (n turns : ℕ) (b : BoardState) (e : CheckedEntry) (origin : Origin) → SeenUsesStand b n
    → FromWorker origin (IsOwn (known_at b n turns) e) → FromWorker origin (IsPostOf b n e)
may-post-on n turns b e Given stand own = absurd own
may-post-on n turns b e (FoundBy work) stand own = record {
  circuit = own.circuit;
  author = own.author;
  uses = subst (StandIn (plain b.entries)) (sym own.used) (stand e.entry.uses own.closed);
  skeleton = own.skeleton;
  allowed = own.allowed;
}

-- where the entries stay, and what was seen
kept-list : (n turns : ℕ) (b : BoardState) (served : List Served) → properties_of served ≡ properties_of b.served
    → ((j : ℕ) → outcome_of b.served j ≢ None → outcome_of served j ≢ None)
    → KeepsList (known_at b n turns) (known_at (record b { served = served }) n (turns + 1))
kept-list n turns b served same stay = record {
  keeps = record {
    circuit = refl;
    properties = same;
    number = refl;
    given = refl;
    limit = refl;
    turns = omega arith;
    settled = λ j h. some-is (outcome_of served j) (stay j (is-not-none (outcome_of b.served j) h));
  };
  list = refl;
}

pub finish-known : (n turns : ℕ) (b c : BoardState) (j : ℕ) (o : Outcome) (r : Finished) → Contains (properties_of b.served) j
    → Finishes b j o r c → HasFinished j (known_at b n turns) (known_at c n (turns + 1))
finish-known n turns b c j o ends.Won inside f =
    subst (λ d. HasFinished j (known_at b n turns) (known_at d n (turns + 1))) (sym f.after) (record {
      keeps = kept-list n turns b (with_outcome b.served j o) (properties-kept b.served j o) (λ i h. outcomes-kept b.served j i o h);
      settled = some-is (outcome_of (with_outcome b.served j o) j) (outcome-set b.served j o inside);
    })
finish-known n turns b c j o ends.Closed inside f =
    subst (λ d. HasFinished j (known_at b n turns) (known_at d n (turns + 1))) (sym f.after) (record {
      keeps = kept-list n turns b b.served refl (λ i h. h);
      settled = some-is (outcome_of b.served j) f.answer;
    })

-- ---- lent boards

shown-lent : (b : BoardState) (n : ℕ) (entries more : List CheckedEntry) (s : LentBoard) → IsLent s → s.board ≡ b → s.number ≡ n
    → entries ≡ b.entries ++ more → All (IsOfTurn n s.turns) more → length more ≤ 1 → IsBoard (shown_to (record b { entries = entries }) n)
    → StaysLent s (record { board = shown_to (record b { entries = entries }) n; number = n; seen = length entries; turns = s.turns + 1 })
shown-lent b n entries more s is board number e found few after =
    let inside : n < length b.seen =
    subst (λ (m : ℕ). m < length b.seen) number
    (subst (λ (d : BoardState). s.number < length d.seen) board (omega (arith, is.number, is.board.each_seen)))
    in
    let within : seen_by b n ≤ length b.entries =
    subst (λ (m : ℕ). seen_by b m ≤ length b.entries) number
    (subst (λ (d : BoardState). seen_by d s.number ≤ length d.entries) board (seen-within s.board s.number is.board is.number))
    in
    record {
      lent = record {
        board = after;
        number = subst (λ (m : ℕ). m < b.workers) number (subst (λ (d : BoardState). s.number < d.workers) board is.number);
        seen = sym (shown-seen n (record b { entries = entries }) inside);
      };
      number = sym number;
      board = subst (λ (m : ℕ). GoesOnBy m s.turns s.board (shown_to (record b { entries = entries }) n)) (sym number)
          (subst (λ (d : BoardState). GoesOnBy n s.turns d (shown_to (record b { entries = entries }) n)) (sym board)
          (shown-on n s.turns b entries more inside within e found));
      one = omega arith;
      paid = paid-by (length entries) (length s.board.entries) (length b.entries) (length more) s.turns (ap length e ∙ length-append b.entries more)
          (ap (λ (d : BoardState). length d.entries) board) few;
    }
  where
    paid-by : (after before same more turns : ℕ) → after ≡ same + more → before ≡ same → more ≤ 1 → after + turns ≤ before + (turns + 1)
    paid-by after before same more turns grown is few = omega (arith, grown, is, few)

-- what a post adds is one entry at most, of its worker and turn
grown-by-post : (n turn : ℕ) (entries : List CheckedEntry) (e : CheckedEntry) (r : Posted) → IsOfTurn n turn e
    → (more : List CheckedEntry) × (entries_after entries e r ≡ entries ++ more) × All (IsOfTurn n turn) more × (length more ≤ 1)
grown-by-post n turn entries e (posts.Appended m) own = (e ∷ [], refl, All-cons (IsOfTurn n turn) e [] own (All-nil (IsOfTurn n turn)), omega arith)
grown-by-post n turn entries e (posts.Stale m) own = ([], sym (append-nil entries), All-nil (IsOfTurn n turn), omega arith)
grown-by-post n turn entries e posts.Full own = ([], sym (append-nil entries), All-nil (IsOfTurn n turn), omega arith)
grown-by-post n turn entries e posts.Closed own = ([], sym (append-nil entries), All-nil (IsOfTurn n turn), omega arith)

own-turn : (k : Known) (e : CheckedEntry) (origin : Origin) → FromWorker origin (IsOwn k e)
    → FromWorker origin (λ work. (work.author ≡ k.number) × (work.turn ≡ k.turns))
own-turn k e Given own = own
own-turn k e (FoundBy work) own = (own.author, own.turn)

pub post-lent : (s : LentBoard) (c : BoardState) (e : CheckedEntry) (r : Posted) (seen : ℕ) → IsLent s → IsBoard c → MayPostFrom (known_of s) e
    → Posts s.board s.number e r c → seen ≡ length c.entries → StaysLent s (record { board = c; number = s.number; seen = seen; turns = s.turns + 1 })
post-lent s c e r seen is after may h same =
    let b : BoardState = s.board in
    let n : ℕ = s.number in
    let entries : List CheckedEntry = entries_after b.entries e r in
    let grown = grown-by-post n s.turns b.entries e r (own-turn (known_of s) e e.origin may) in
    subst (λ (m : ℕ). StaysLent s (record { board = c; number = n; seen = m; turns = s.turns + 1 })) (sym same)
    (subst (λ (d : BoardState). StaysLent s (record { board = d; number = n; seen = length d.entries; turns = s.turns + 1 })) (sym h.after)
    (shown-lent b n entries grown.0 s is refl refl grown.1 grown.2 grown.3 (subst IsBoard h.after after)))

finished-board : (n turn : ℕ) (b c : BoardState) (j : ℕ) (o : Outcome) (r : Finished) → Finishes b j o r c → GoesOnBy n turn b c
finished-board n turn b c j o ends.Won f = subst (GoesOnBy n turn b) (sym f.after) (finished-on n turn b j o)
finished-board n turn b c j o ends.Closed f = subst (GoesOnBy n turn b) (sym f.after) (same-board n turn b)

finished-seen : (b c : BoardState) (j : ℕ) (o : Outcome) (r : Finished) → Finishes b j o r c → c.seen ≡ b.seen
finished-seen b c j o r f = ap (λ (d : BoardState). d.seen) f.after

finished-list : (b c : BoardState) (j : ℕ) (o : Outcome) (r : Finished) → Finishes b j o r c → length c.entries ≡ length b.entries
finished-list b c j o r f = ap (λ (d : BoardState). length d.entries) f.after

pub finish-lent : (s : LentBoard) (c : BoardState) (j : ℕ) (o : Outcome) (r : Finished) → IsLent s → IsBoard c → Finishes s.board j o r c
    → StaysLent s (record { board = c; number = s.number; seen = s.seen; turns = s.turns + 1 })
finish-lent s c j o r is after f =
    let on : GoesOnBy s.number s.turns s.board c = finished-board s.number s.turns s.board c j o r f in
    record {
      lent = record {
        board = after;
        number = omega (arith, is.number, on.workers);
        seen = is.seen ∙ sym (ap (λ (xs : List ℕ). get_or xs s.number 0) (finished-seen s.board c j o r f));
      };
      number = refl;
      board = on;
      one = omega arith;
      paid = omega (arith, finished-list s.board c j o r f);
    }

-- ---- views

pub seen-view : {Z : Type 0} (xs : List (Arc CheckedEntry Z)) (s : LentBoard) → viewed xs ≡ plain s.board.entries
    → IsLent s → viewed (take s.seen xs) ≡ plain (known_of s).list
seen-view xs s same is =
    sym (take-map entry_in s.seen xs) ∙ ap (take s.seen) same ∙ take-map (λ (e : CheckedEntry). e.entry) s.seen s.board.entries
    ∙ ap (λ (n : ℕ). plain (take n s.board.entries)) is.seen

all-front : {X : Type 0} (P : X → Type 0) (xs ys : List X) → All P (xs ++ ys) → All P xs
all-front P xs ys h = λ k d below.
    subst P (get_or_append_left xs ys d k below) (h k d (omega (arith, below, length-append xs ys)))

valid-front : (c : Circuit) (before xs ys : List Entry) → AreValidBehind c before (xs ++ ys) → AreValidBehind c before xs
valid-front c before [] ys h = tt
valid-front c before (x ∷ xs) ys h = (h.0, valid-front c (before ++ x ∷ []) xs ys h.1)

-- what a worker has seen of a good list is one
pub good-view : (b : BoardState) (n : ℕ) → IsGoodList b.circuit (plain b.entries) → IsGoodList b.circuit (plain (list_of b n))
good-view b n h =
    let c : Circuit = b.circuit in
    let front : List Entry = plain (list_of b n) in
    let rest : List Entry = plain (drop (seen_by b n) b.entries) in
    let split : plain b.entries ≡ front ++ rest =
    ap plain (sym (take-append-drop (seen_by b n) b.entries)) ∙ map-append (λ (x : CheckedEntry). x.entry) (list_of b n) (drop (seen_by b n) b.entries)
    in
    let whole : IsGoodList c (front ++ rest) = subst (λ (xs : List Entry). IsGoodList c xs) split h in
    record { valid = valid-front c [] front rest whole.valid; over = all-front (λ (x : Entry). AreOver (length c.latches) x.clauses) front rest whole.over }

-- ---- outcomes that are handed in

-- what is true over what a worker has seen is true over the list
pub true-on : (c : Circuit) (b : BoardState) (n j : ℕ) (o : Outcome) → c ≡ b.circuit → OutcomesStay c
    → IsTrueOf b.circuit (list_of b n) j o → IsTrueOf b.circuit b.entries j o
true-on c b n j o e stay h =
    let there : IsTrueOf c (list_of b n) j o = subst (λ k. IsTrueOf k (list_of b n) j o) (sym e) h in
    let more : IsTrueOf c (list_of b n ++ drop (seen_by b n) b.entries) j o = stay (list_of b n) (drop (seen_by b n) b.entries) j o there in
    let whole : IsTrueOf c b.entries j o = subst (λ (xs : List CheckedEntry). IsTrueOf c xs j o) (take-append-drop (seen_by b n) b.entries) more in
    subst (λ k. IsTrueOf k b.entries j o) e whole
