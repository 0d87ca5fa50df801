-- A post, as a turn of a pass in memory.
use Rattle.std.proofs.Common.{Global, ◌≡◌, ℕ, ◌+◌, ◌<◌, ◌≤◌, ◌⊎◌, inl, inr, true, false, List, [], ◌∷◌, ◌++◌, map, length, take, drop, vec_capacity, refl, sym, ap, ◌∙◌, subst, arith}
use Rattle.std.specs.List.{Any}
use Rattle.std.specs.Arc.{arc_value}
use Rattle.std.specs.declared.vec.Vec.{Vec}
use Rattle.std.specs.declared.sync.Arc.{Arc}
use Rattle.std.proofs.lemmas.Bool.{eq-eqb}
use Rattle.std.proofs.lemmas.List.{length-append, length-map, take-append-le}
use Rattle.aig_semantics.specs.Circuits.{Circuit}
use Rattle.fair_semantics.specs.declared.skeletons.Skeleton.{Skeleton}
use Rattle.fair_semantics.specs.Skeletons.{IsSkeleton, excludes}
use Rattle.entry.specs.CheckedEntries.{CheckedEntry, StandIn, StandOn}
use Rattle.entry.specs.declared.checked.Checked.{Checked}
use Rattle.entry.specs.declared.origins.Origin.{Origin}
use Rattle.entry.specs.declared.origins.Origin.TheVariants.{Given, Worker}
use Rattle.entry.specs.declared.origins.Work.{Work}
use Rattle.wall_store.specs.declared.outcomes.Posted.{Posted}
use Rattle.wall_store.specs.declared.outcomes.Posted.TheVariants as posts
use Rattle.wall_store.specs.Boards.{BoardState, IsBoard, IsSoundList, FromWorker, Allow, plain, is_by, found_by, turn_of, Ascend}
use Rattle.wall_store.specs.Events.{seen_by, list_of, shown_to, with_post, entries_after, IsPostOf, MayPost, Posts, IsPosted}
use Rattle.wall_store.specs.Scanning.{IsRefused}
use Rattle.wall_store.proofs.Ascending.{ascend_later, ascend_push, found_own}
use Rattle.wall_store.proofs.Excluding.{allowed_excludes, none_excludes, excludes_earlier, plain-append, plain-split}
use Rattle.wall_ledger.specs.declared.marks.PassMark.{PassMark}
use Rattle.wall_ledger.specs.declared.pass.Hand.{Hand}
use Rattle.wall_ledger.specs.Passes.{IsPassPost, MayPassPost}
use Rattle.wall_ledger.specs.Turns.{HasPosted, marks_posted}
use Rattle.wall_ledger.specs.Rules.{Event, added, shown_face}
use Rattle.wall_ledger.specs.Shows.{shown_posted, was_appended}
use Rattle.wall_ledger.specs.Hands.{face_in, board_in, ticket_in, number_or, pass_of, ledger_of, IsMirror, HasTurn, IsEnding}
use Rattle.wall_ledger.proofs.Marking.{marked_properties, closing_properties}
use Rattle.wall_ledger.proofs.Turned.{posts_}
use Rattle.wall_ledger.proofs.Showing.{posted_shows}
use Rattle.wall_ledger.proofs.Ending.{owned_in, kinds_in, from_first, has_turn}

-- ---- origins

pub worker_map : (o : Origin) (P Q : Work → Type 0) → ((w : Work) → P w → Q w) → FromWorker o P → FromWorker o Q
worker_map Given P Q h a = a
worker_map (Worker w) P Q h a = h w a

pub worker_of : (o : Origin) (P : Work → Type 0) → FromWorker o P → (w : Work) × (o ≡ Worker w) × P w
worker_of Given P a = absurd a
worker_of (Worker w) P a = (w, refl, a)

pub at_worker : (o : Origin) (w : Work) (P : Work → Type 0) → o ≡ Worker w → FromWorker o P → P w
at_worker o w P e h = subst (λ (z : Origin). FromWorker z P) e h

-- ---- a list that allows a skeleton, and its front

front_excludes : (xs : List CheckedEntry) (n : ℕ) (skeleton : Skeleton) → Allow xs skeleton → (m : ℕ) → m < length (plain (take n xs))
    → excludes (plain (take n xs)) m skeleton ≡ false
front_excludes xs n skeleton allowed m below =
    let whole : m < length (plain xs) =
    (let a = ap length (plain-split xs n) in let b = length-append (plain (take n xs)) (plain (drop n xs)) in omega arith) in
    sym (excludes_earlier (plain (take n xs)) (plain (drop n xs)) m skeleton below)
    ∙ (ap (λ es. excludes es m skeleton) (plain-split xs n) ∙ allowed_excludes (plain xs) skeleton m allowed whole)

pub front_allows : (xs : List CheckedEntry) (n : ℕ) (skeleton : Skeleton) → Allow xs skeleton → Allow (take n xs) skeleton
front_allows xs n skeleton allowed = none_excludes (plain (take n xs)) skeleton (front_excludes xs n skeleton allowed)

-- ---- what a pass may post is what the worker may post

module _ (m : Hand) (h : HasTurn m) (mirror : (l : List CheckedEntry) × IsMirror m l (face_in m)) where
  seen_front : list_of (board_in m) m.number ≡ take (seen_by (board_in m) m.number) (face_in m).list
  seen_front = let s = h.told.list in let o = owned_in m h mirror in
      ap (take (seen_by (board_in m) m.number)) s.1 ∙ take-append-le (seen_by (board_in m) m.number) (face_in m).list s.0 o.seen

  may_work : (e : CheckedEntry) (work : Work) → StandOn → IsPassPost (ledger_of m.place.table_id m.first.value.value) (pass_of m.place.table_id (face_in m)) e work
      → IsPostOf (board_in m) m.number e work
  may_work e work stand p = let s = h.told.list in let f = from_first m h mirror in record {
    circuit = p.circuit ∙ sym f.circuit;
    author = p.author ∙ ap number_or mirror.1.number;
    uses = subst (λ es. StandIn es e.used) (sym (ap plain s.1 ∙ plain-append (face_in m).list s.0)) (stand (plain (face_in m).list) (plain s.0) e.used p.uses);
    skeleton = subst (λ (z : Circuit × List ℕ). Any (λ j. IsSkeleton z.0 j work.skeleton) z.1) (λ i. (sym f.circuit i, sym f.properties i)) p.skeleton;
    allowed = subst (λ (l : List CheckedEntry). Allow l work.skeleton) (sym seen_front) (front_allows (face_in m).list (seen_by (board_in m) m.number) work.skeleton p.allowed);
  }

  pub may_post : (e : CheckedEntry) → StandOn → MayPassPost (ledger_of m.place.table_id m.first.value.value) (pass_of m.place.table_id (face_in m)) e
      → MayPost (board_in m) m.number e
  may_post e stand may =
      worker_map e.origin (IsPassPost (ledger_of m.place.table_id m.first.value.value) (pass_of m.place.table_id (face_in m)) e) (IsPostOf (board_in m) m.number e)
      (λ work p. may_work e work stand p) may

-- ---- the turns of own entries, with a new one

by_own : (e : CheckedEntry) (work : Work) (k : ℕ) → e.origin ≡ Worker work → work.author ≡ k → is_by k e.origin ≡ true
by_own e work k from author = ap (is_by k) from ∙ eq-eqb work.author k author

pub posted_ascend : (k : ℕ) (l entries : List CheckedEntry) (e : CheckedEntry) (r : Posted) (t : ℕ) → is_by k e.origin ≡ true → turn_of e.origin ≡ t
    → found_by k entries ≡ found_by k l → Ascend k l t → Ascend k (entries_after entries e r) (t + 1)
posted_ascend k l entries e posts.Closed t mine at same a = ascend_later k l entries t (t + 1) same (omega arith) a
posted_ascend k l entries e posts.Full t mine at same a = ascend_later k l entries t (t + 1) same (omega arith) a
posted_ascend k l entries e (posts.Stale n) t mine at same a = ascend_later k l entries t (t + 1) same (omega arith) a
posted_ascend k l entries e (posts.Appended n) t mine at same a =
    ascend_push k l (entries ++ e ∷ []) e t (found_own k entries e mine ∙ ap (λ (es : List CheckedEntry). es ++ e ∷ []) same) at a

-- ---- the end of the turn

module _ (m : Hand) (h : HasTurn m) (now : IsMirror m (board_in m).entries (face_in m)) (e : CheckedEntry) (r : Posted) (y : BoardState)
    (may : MayPost (board_in m) m.number e) (turned : FromWorker e.origin (λ work. work.turn ≡ (face_in m).turns))
    (event : Posts (board_in m) m.number e r y) where
  work_of : (work : Work) × (e.origin ≡ Worker work) × IsPostOf (board_in m) m.number e work
  work_of = worker_of e.origin (IsPostOf (board_in m) m.number e) may

  pub the_event : Event (ticket_in m) (board_in m) y m.number (face_in m) (shown_face (face_in m) y (ticket_in m) (marks_posted (face_in m).marks r))
  the_event = let w = work_of in
      subst (λ (z : BoardState). Event (ticket_in m) (board_in m) z m.number (face_in m) (shown_face (face_in m) z (ticket_in m) (marks_posted (face_in m).marks r)))
      (sym event.after)
      (posts_ (ticket_in m) (board_in m) m.number (face_in m) now.number h.told e w.0 r w.1 w.2.author (kinds_in m h ((board_in m).entries, now))
      (at_worker e.origin w.0 (λ work. IsPosted (board_in m) work.skeleton r) w.1 event.answer))

  posted_kinds : (s : Posted) → marked_properties (marks_posted (face_in m).marks s) ≡ marked_properties (face_in m).marks
  posted_kinds posts.Closed = closing_properties (λ i. true) (face_in m).marks
  posted_kinds posts.Full = refl
  posted_kinds (posts.Stale n) = refl
  posted_kinds (posts.Appended n) = refl

  entries_now : y.entries ≡ entries_after (board_in m).entries e r
  entries_now = ap (λ (z : BoardState). z.entries) event.after

  pub posts_end : (v : Vec (Arc Checked Global) Global) (w : Vec PassMark Global) → map arc_value v.items ≡ entries_after (board_in m).entries e r
      → vec_capacity v ≡ vec_capacity m.entries → w.items ≡ shown_posted m.marks.items r → IsBoard y
      → IsEnding (record m { entries = v; stamp = ticket_in m + 1; turns = m.turns + 1; marks = w }) y (shown_face (face_in m) y (ticket_in m) (marks_posted (face_in m).marks r))
  posts_end v w listed room shown board = let o = work_of in record {
    event = the_event;
    mirror = record {
      first = now.first;
      number = now.number;
      list = entries_now ∙ sym listed;
      stamp = omega arith;
      turns = ap (λ (t : ℕ). t + 1) now.turns;
      shown = posted_shows (face_in m).marks r ∙ (ap (λ (l : List PassMark). shown_posted l r) now.shown ∙ sym shown);
      kinds = posted_kinds r ∙ now.kinds;
      room = subst (λ (n : ℕ). (face_in m).first.limit ≤ n) (sym room) now.room;
      within = (let a = board.within in let b : y.limit ≡ (face_in m).first.limit = the_limit in omega arith);
      few = now.few;
      sound = subst (λ (c : Circuit). IsSoundList c y.entries) the_circuit board.sound;
    };
    turns = refl;
    ascend = subst (λ (l : List CheckedEntry). Ascend m.number l ((face_in m).turns + 1)) (sym entries_now)
        (posted_ascend m.number (face_in m).list (board_in m).entries e r (face_in m).turns (by_own e o.0 m.number o.1 o.2.author)
        (ap turn_of o.1 ∙ at_worker e.origin o.0 (λ work. work.turn ≡ (face_in m).turns) o.1 turned)
        (owned_in m h ((board_in m).entries, now)).own h.ascend);
  }
    where
      the_circuit : y.circuit ≡ (face_in m).first.circuit
      the_circuit = ap (λ (z : BoardState). z.circuit) event.after ∙ h.told.origin.circuit

      the_limit : y.limit ≡ (face_in m).first.limit
      the_limit = ap (λ (z : BoardState). z.limit) event.after ∙ h.told.origin.limit

  pub has_posted : IsBoard (board_in m) → IsBoard y
      → HasPosted (ledger_of m.place.table_id m.first.value.value) (pass_of m.place.table_id (face_in m)) e r
      (pass_of m.place.table_id (shown_face (face_in m) y (ticket_in m) (marks_posted (face_in m).marks r)))
  has_posted board board' =
      let same : number_or (face_in m).number ≡ m.number = ap number_or now.number in
      let below = h.told.stamp in
      record {
        turn = has_turn m h ((board_in m).entries, now) y (shown_face (face_in m) y (ticket_in m) (marks_posted (face_in m).marks r)) the_event refl board board';
        event = subst (λ (k : ℕ). Posts (board_in m) k e r y) (sym same) event;
        shown = record { list = refl; stamp = omega arith };
        marks = refl;
      }

-- how long the list becomes
pub appended_added : (x y : BoardState) (w n : ℕ) (e : CheckedEntry) → IsBoard x → y ≡ shown_to (with_post x e (posts.Appended n)) w → added y ≡ added x + 1
appended_added x y w n e board is =
    ap added is ∙ (let l : length (x.entries ++ e ∷ []) ≡ length x.entries + 1 = length-append x.entries (e ∷ []) in let g = board.given in omega arith)

pub few_added : (y : BoardState) → IsBoard y → added y < 18446744073709551616
few_added y board = let a = board.within in let b : y.limit ≤ 65536 = board.limit in omega arith

pub room_there : (m : Hand) (w : ℕ) (e : CheckedEntry) (r : Posted) (y : BoardState) → HasTurn m → IsMirror m (board_in m).entries (face_in m)
    → Posts (board_in m) w e r y → (length m.entries.items < vec_capacity m.entries) ⊎ IsRefused r
room_there m w e r y h now event = go r event.answer
  where
    count : length (board_in m).entries ≡ length m.entries.items
    count = ap length now.list ∙ length-map m.entries.items arc_value

    fits : (o : Origin) (n : ℕ) → FromWorker o (λ work. IsPosted (board_in m) work.skeleton (posts.Appended n)) → length m.entries.items < vec_capacity m.entries
    fits o n a = let p = worker_of o (λ work. IsPosted (board_in m) work.skeleton (posts.Appended n)) a in
        let room = p.2.0.room in let limit = h.told.origin.limit in let wide = now.room in let c = count in omega arith

    go : (s : Posted) → FromWorker e.origin (λ work. IsPosted (board_in m) work.skeleton s) → (length m.entries.items < vec_capacity m.entries) ⊎ IsRefused s
    go posts.Closed a = inr tt
    go posts.Full a = inr tt
    go (posts.Stale n) a = inr tt
    go (posts.Appended n) a = inl (fits e.origin n a)

-- how long the list is after the answer
pub longer_after : (x y : BoardState) (w : ℕ) (e : CheckedEntry) (r : Posted) → was_appended r ≡ true → IsBoard x → y ≡ shown_to (with_post x e r) w → added y ≡ added x + 1
longer_after x y w e posts.Closed a board is = cc
longer_after x y w e posts.Full a board is = cc
longer_after x y w e (posts.Stale n) a board is = cc
longer_after x y w e (posts.Appended n) a board is = appended_added x y w n e board is

pub same_after : (x y : BoardState) (w : ℕ) (e : CheckedEntry) (r : Posted) → was_appended r ≡ false → y ≡ shown_to (with_post x e r) w → added y ≡ added x
same_after x y w e posts.Closed a is = ap added is
same_after x y w e posts.Full a is = ap added is
same_after x y w e (posts.Stale n) a is = ap added is
same_after x y w e (posts.Appended n) a is = cc
