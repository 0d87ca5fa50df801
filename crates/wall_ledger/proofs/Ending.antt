-- Turns of a pass in memory, by what happens in them.
use Rattle.std.proofs.Common.{Global, ◌≡◌, ℕ, ◌+◌, ◌≤◌, inr, true, List, map, length, vec_capacity, refl, sym, ap, ◌∙◌, subst, arith}
use Rattle.std.specs.Prelude.{Option, Some, None, ◌==◌}
use Rattle.std.specs.List.{Contains}
use Rattle.std.specs.Arc.{arc_value}
use Rattle.std.specs.declared.vec.Vec.{Vec}
use Rattle.std.specs.declared.sync.Arc.{Arc}
use Rattle.entry.specs.declared.checked.Checked.{Checked}
use Rattle.atomic_table.specs.Seated.{TableId}
use Rattle.aig_semantics.specs.Circuits.{Circuit}
use Rattle.entry.specs.CheckedEntries.{CheckedEntry}
use Rattle.wall_store.specs.declared.outcomes.Outcome.{Outcome}
use Rattle.wall_store.specs.declared.outcomes.Finished.{Finished}
use Rattle.wall_store.specs.declared.outcomes.Finished.TheVariants as ends
use Rattle.wall_store.specs.Boards.{BoardState, IsBoard, IsSoundList, properties_of, found_by}
use Rattle.wall_store.specs.Events.{seen_by, shown_to, Looks, Finishes, OpensNext}
use Rattle.wall_store.proofs.Ascending.{ascend_later}
use Rattle.wall_ledger.specs.declared.marks.PassMark.{PassMark}
use Rattle.wall_ledger.specs.declared.pass.Hand.{Hand}
use Rattle.wall_ledger.specs.Passes.{PassState, LedgerState, IsBoardOf, GoesOn}
use Rattle.wall_ledger.specs.Turns.{Turn, HasLooked, HasFinished, HasOpened, IsRefused, marks_finished, marks_opened, is_passed}
use Rattle.wall_ledger.specs.Rules.{Face, IsFrom, IsOwned, Event, shown_face, kept_face}
use Rattle.wall_ledger.specs.Shows.{shown_finished, shown_opened}
use Rattle.wall_ledger.specs.Hands.{face_in, board_in, ticket_in, number_or, pass_of, state_of, ledger_of, noting, IsMirror, HasTurn, IsEnding}
use Rattle.wall_ledger.specs.Tickets.{IsSameSeat}
use Rattle.wall_ledger.proofs.Charts.{starts_more}
use Rattle.wall_ledger.proofs.Events.{at_number, event_goes}
use Rattle.wall_ledger.proofs.Marking.{marked_properties, there_from, closing_properties, crowning_properties}
use Rattle.wall_ledger.proofs.Turned.{rests, looks, finishes, opens_next}
use Rattle.wall_ledger.proofs.Showing.{finished_shows, opened_shows}

-- ---- what is known in a turn

module _ (m : Hand) (h : HasTurn m) (mirror : (l : List CheckedEntry) × IsMirror m l (face_in m)) where
  pub owned_in : IsOwned (board_in m) (face_in m) m.number
  owned_in = at_number (face_in m) m.number (IsOwned (board_in m) (face_in m)) mirror.1.number h.told.owned

  pub from_first : IsFrom m.first.value.value (board_in m)
  from_first = subst (λ (z : BoardState). IsFrom z (board_in m)) mirror.1.first h.told.origin

  pub serves : (j : ℕ) → Contains (properties_of m.first.value.value.served) j → Contains (properties_of (board_in m).served) j
  serves j inside = subst (λ (is : List ℕ). Contains is j) (sym from_first.properties) inside

  pub kinds_in : marked_properties (face_in m).marks ≡ properties_of (board_in m).served
  kinds_in = mirror.1.kinds ∙ sym h.told.origin.properties

  -- ---- memory as it is at the end

  pub rests_end : IsMirror m (face_in m).list (face_in m) → IsEnding (noting m m.stamp) (board_in m) (kept_face (face_in m) (face_in m).marks)
  rests_end now = record {
    event = rests (ticket_in m) (board_in m) m.number (face_in m) mirror.1.number h.told;
    mirror = record {
      first = now.first;
      number = now.number;
      list = now.list;
      stamp = now.stamp;
      turns = ap (λ (t : ℕ). t + 1) now.turns;
      shown = now.shown;
      kinds = now.kinds;
      room = now.room;
      within = now.within;
      few = now.few;
      sound = now.sound;
    };
    turns = refl;
    ascend = ascend_later m.number (face_in m).list (face_in m).list (face_in m).turns ((face_in m).turns + 1) refl (omega arith) h.ascend;
  }

  pub looks_end : IsMirror m (board_in m).entries (face_in m)
      → IsEnding (noting m (ticket_in m + 1)) (shown_to (board_in m) m.number)
      (shown_face (face_in m) (shown_to (board_in m) m.number) (ticket_in m) (face_in m).marks)
  looks_end now = record {
    event = looks (ticket_in m) (board_in m) m.number (face_in m) mirror.1.number h.told;
    mirror = record {
      first = now.first;
      number = now.number;
      list = now.list;
      stamp = omega arith;
      turns = ap (λ (t : ℕ). t + 1) now.turns;
      shown = now.shown;
      kinds = now.kinds;
      room = now.room;
      within = now.within;
      few = now.few;
      sound = now.sound;
    };
    turns = refl;
    ascend = ascend_later m.number (face_in m).list (board_in m).entries (face_in m).turns ((face_in m).turns + 1) owned_in.own (omega arith) h.ascend;
  }

  finished_kinds : (j : ℕ) (o : Outcome) (r : Finished) → marked_properties (marks_finished (face_in m).marks j o r) ≡ marked_properties (face_in m).marks
  finished_kinds j o ends.Won = crowning_properties j o (face_in m).marks
  finished_kinds j o ends.Closed = closing_properties (λ i. i == j) (face_in m).marks

  pub finishes_end : (j : ℕ) (o : Outcome) (r : Finished) (y : BoardState) (v : Vec PassMark Global) → Contains (properties_of m.first.value.value.served) j
      → Finishes (board_in m) j o r y → IsMirror m (face_in m).list (face_in m) → v.items ≡ shown_finished m.marks.items j r
      → IsEnding (record m { turns = m.turns + 1; marks = v }) y (kept_face (face_in m) (marks_finished (face_in m).marks j o r))
  finishes_end j o r y v served event now is = record {
    event = subst (λ (z : BoardState). Event (ticket_in m) (board_in m) z m.number (face_in m) (kept_face (face_in m) (marks_finished (face_in m).marks j o r)))
        (sym event.after)
        (finishes (ticket_in m) (board_in m) m.number (face_in m) mirror.1.number h.told j o r
        (there_from (properties_of (board_in m).served) j (serves j served)) kinds_in event.answer);
    mirror = record {
      first = now.first;
      number = now.number;
      list = now.list;
      stamp = now.stamp;
      turns = ap (λ (t : ℕ). t + 1) now.turns;
      shown = finished_shows (face_in m).marks j o r ∙ (ap (λ (l : List PassMark). shown_finished l j r) now.shown ∙ sym is);
      kinds = finished_kinds j o r ∙ now.kinds;
      room = now.room;
      within = now.within;
      few = now.few;
      sound = now.sound;
    };
    turns = refl;
    ascend = ascend_later m.number (face_in m).list (face_in m).list (face_in m).turns ((face_in m).turns + 1) refl (omega arith) h.ascend;
  }

  opened_kinds : (least : ℕ) (r : Option ℕ) → marked_properties (marks_opened (face_in m).marks least r) ≡ marked_properties (face_in m).marks
  opened_kinds least None = closing_properties (λ i. true) (face_in m).marks
  opened_kinds least (Some j) = closing_properties (is_passed least j) (face_in m).marks

  pub opens_end : (least : ℕ) (r : Option ℕ) (y : BoardState) (v : Vec PassMark Global)
      → OpensNext (board_in m) least r y → IsMirror m (face_in m).list (face_in m) → v.items ≡ shown_opened m.marks.items least r
      → IsEnding (record m { turns = m.turns + 1; marks = v }) y (kept_face (face_in m) (marks_opened (face_in m).marks least r))
  opens_end least r y v event now is = record {
    event = subst (λ (z : BoardState). Event (ticket_in m) (board_in m) z m.number (face_in m) (kept_face (face_in m) (marks_opened (face_in m).marks least r)))
        (sym event.after)
        (opens_next (ticket_in m) (board_in m) m.number (face_in m) mirror.1.number h.told least r kinds_in event.answer);
    mirror = record {
      first = now.first;
      number = now.number;
      list = now.list;
      stamp = now.stamp;
      turns = ap (λ (t : ℕ). t + 1) now.turns;
      shown = opened_shows (face_in m).marks least r ∙ (ap (λ (l : List PassMark). shown_opened l least r) now.shown ∙ sym is);
      kinds = opened_kinds least r ∙ now.kinds;
      room = now.room;
      within = now.within;
      few = now.few;
      sound = now.sound;
    };
    turns = refl;
    ascend = ascend_later m.number (face_in m).list (face_in m).list (face_in m).turns ((face_in m).turns + 1) refl (omega arith) h.ascend;
  }

  -- ---- what a turn comes to

  pub board_of : IsBoard (board_in m) → IsBoardOf (ledger_of m.place.table_id m.first.value.value) (board_in m)
  board_of board = record {
    board = board;
    circuit = from_first.circuit;
    properties = from_first.properties;
    workers = from_first.workers;
    limit = from_first.limit;
    given = from_first.given;
    front = from_first.front;
  }

  pub known_in : GoesOn (pass_of m.place.table_id (face_in m)) (board_in m)
  known_in = let same : number_or (face_in m).number ≡ m.number = ap number_or mirror.1.number in record {
    list = h.told.list;
    seen = subst (λ (k : ℕ). seen_by (board_in m) k ≤ length (face_in m).list) (sym same) owned_in.seen;
    own = subst (λ (k : ℕ). found_by k (board_in m).entries ≡ found_by k (face_in m).list) (sym same) owned_in.own;
    marks = owned_in.marks;
  }

  abbrev pub has_turn : (y : BoardState) (g : Face) → Event (ticket_in m) (board_in m) y m.number (face_in m) g → g.turns ≡ (face_in m).turns + 1
      → IsBoard (board_in m) → IsBoard y
      → Turn (ledger_of m.place.table_id m.first.value.value) (pass_of m.place.table_id (face_in m)) (pass_of m.place.table_id g)
  has_turn y g e turns board board' = record {
    before = board_in m;
    after = y;
    board = board_of board;
    known = known_in;
    board_after = record {
      board = board';
      circuit = e.circuit ∙ from_first.circuit;
      properties = e.properties ∙ from_first.properties;
      workers = e.workers ∙ from_first.workers;
      limit = e.limit ∙ from_first.limit;
      given = e.given ∙ from_first.given;
      front = (let s = starts_more m.first.value.value.entries (board_in m).entries e.more from_first.front in (s.0, e.longer ∙ s.1));
    };
    known_after = event_goes m.first.value.value (ticket_in m) (board_in m) y m.number (face_in m) g e (pass_of m.place.table_id g)
        (ap number_or e.number) refl refl h.told.list;
    home = ap (λ (z : BoardState). record { lock = m.place.table_id; first = z }) e.home;
    number = ap number_or (e.number ∙ sym e.was);
    turns = turns;
  }

  pub has_finished : (j : ℕ) (o : Outcome) (r : Finished) (y : BoardState) → Contains (properties_of m.first.value.value.served) j
      → Finishes (board_in m) j o r y → IsBoard (board_in m) → IsBoard y
      → HasFinished (ledger_of m.place.table_id m.first.value.value) (pass_of m.place.table_id (face_in m)) j o r
      (pass_of m.place.table_id (kept_face (face_in m) (marks_finished (face_in m).marks j o r)))
  has_finished j o r y served event board board' =
      let g : Face = kept_face (face_in m) (marks_finished (face_in m).marks j o r) in
      let e : Event (ticket_in m) (board_in m) y m.number (face_in m) g =
      subst (λ (z : BoardState). Event (ticket_in m) (board_in m) z m.number (face_in m) g) (sym event.after)
      (finishes (ticket_in m) (board_in m) m.number (face_in m) mirror.1.number h.told j o r
      (there_from (properties_of (board_in m).served) j (serves j served)) kinds_in event.answer) in
      record {
        turn = has_turn y g e refl board board';
        event = event;
        kept = record { list = refl; stamp = refl };
        marks = refl;
      }

  pub has_opened : (least : ℕ) (r : Option ℕ) (y : BoardState) → OpensNext (board_in m) least r y → IsBoard (board_in m) → IsBoard y
      → HasOpened (ledger_of m.place.table_id m.first.value.value) (pass_of m.place.table_id (face_in m)) least r
      (pass_of m.place.table_id (kept_face (face_in m) (marks_opened (face_in m).marks least r)))
  has_opened least r y event board board' =
      let g : Face = kept_face (face_in m) (marks_opened (face_in m).marks least r) in
      let e : Event (ticket_in m) (board_in m) y m.number (face_in m) g =
      subst (λ (z : BoardState). Event (ticket_in m) (board_in m) z m.number (face_in m) g) (sym event.after)
      (opens_next (ticket_in m) (board_in m) m.number (face_in m) mirror.1.number h.told least r kinds_in event.answer) in
      record {
        turn = has_turn y g e refl board board';
        event = event;
        kept = record { list = refl; stamp = refl };
        marks = refl;
      }

  pub has_looked : (count : ℕ) (y : BoardState) → Looks (board_in m) m.number count y → IsBoard (board_in m) → IsBoard y
      → HasLooked (ledger_of m.place.table_id m.first.value.value) (pass_of m.place.table_id (face_in m))
      (pass_of m.place.table_id (shown_face (face_in m) (shown_to (board_in m) m.number) (ticket_in m) (face_in m).marks))
  has_looked count y event board board' =
      let z : BoardState = shown_to (board_in m) m.number in
      let g : Face = shown_face (face_in m) z (ticket_in m) (face_in m).marks in
      let same : number_or (face_in m).number ≡ m.number = ap number_or mirror.1.number in
      let below = h.told.stamp in
      record {
        turn = has_turn z g (looks (ticket_in m) (board_in m) m.number (face_in m) mirror.1.number h.told) refl board (subst IsBoard event.after board');
        event = record { answer = refl; after = ap (shown_to (board_in m)) (sym same) };
        shown = record { list = refl; stamp = omega arith };
        marks = refl;
      }

-- ---- from the pass in the turn to the pass before and after it

pub to_state : (R : LedgerState → PassState → PassState → Type 0) (s m : Hand) (q r : PassState)
    → IsSameSeat s.place m.place × (m.first ≡ s.first) × (m.number ≡ s.number) → face_in m ≡ face_in s → r ≡ q
    → R (ledger_of m.place.table_id m.first.value.value) (pass_of m.place.table_id (face_in m)) q
    → R (ledger_of s.place.table_id s.first.value.value) (state_of s) r
to_state R s m q r same face after h =
    subst (λ (z : (LedgerState × PassState) × PassState). R z.0.0 z.0.1 z.1)
    (λ i. ((ledger_of (same.0.0 i) (same.1 i).value.value, pass_of (same.0.0 i) (face i)), sym after i)) h

pub from_state : (R : LedgerState → PassState → Type 0) (s m : Hand) → IsSameSeat s.place m.place × (m.first ≡ s.first) × (m.number ≡ s.number) → face_in m ≡ face_in s
    → R (ledger_of s.place.table_id s.first.value.value) (state_of s) → R (ledger_of m.place.table_id m.first.value.value) (pass_of m.place.table_id (face_in m))
from_state R s m same face h =
    subst (λ (z : LedgerState × PassState). R z.0 z.1)
    (λ i. (ledger_of (sym same.0.0 i) (sym same.1 i).value.value, pass_of (sym same.0.0 i) (sym face i))) h

-- ---- handles that were copied

pub turn_with : (m : Hand) (v : Vec (Arc Checked Global) Global) → HasTurn m → HasTurn (record m { entries = v })
turn_with m v h = record { only = h.only; stage = h.stage; out = h.out; budget = h.budget; ascend = h.ascend; told = h.told }

pub mirror_with : (m : Hand) (v : Vec (Arc Checked Global) Global) (l : List CheckedEntry) → IsMirror m (face_in m).list (face_in m) → l ≡ map arc_value v.items
    → vec_capacity v ≡ vec_capacity m.entries → length l ≤ (face_in m).first.limit → IsSoundList (face_in m).first.circuit l
    → IsMirror (record m { entries = v }) l (face_in m)
mirror_with m v l now is room within sound = record {
  first = now.first;
  number = now.number;
  list = is;
  stamp = now.stamp;
  turns = now.turns;
  shown = now.shown;
  kinds = now.kinds;
  room = subst (λ (n : ℕ). (face_in m).first.limit ≤ n) (sym room) now.room;
  within = within;
  few = now.few;
  sound = sound;
}

-- ---- a turn in which memory was refused

pub was_refused : (lock : TableId) (f : Face) → IsRefused (pass_of lock f) (pass_of lock (kept_face f f.marks))
was_refused lock f = record {
  home = refl;
  number = refl;
  kept = record { list = refl; stamp = refl };
  marks = refl;
  turns = inr refl;
}

-- ---- handles that were copied, in the turn

pub mirror_copied : (m : Hand) (v : Vec (Arc Checked Global) Global) → HasTurn m → IsMirror m (face_in m).list (face_in m) → IsBoard (board_in m)
    → map arc_value v.items ≡ (board_in m).entries → vec_capacity v ≡ vec_capacity m.entries → IsMirror (record m { entries = v }) (board_in m).entries (face_in m)
mirror_copied m v h mirror board is room =
    let within : length (board_in m).entries ≤ (face_in m).first.limit = (let a = board.within in let b = h.told.origin.limit in omega arith) in
    mirror_with m v (board_in m).entries mirror (sym is) room within
    (subst (λ (c : Circuit). IsSoundList c (board_in m).entries) h.told.origin.circuit board.sound)

pub mirror_again : (m : Hand) (v : Vec (Arc Checked Global) Global) → IsMirror m (face_in m).list (face_in m) → map arc_value v.items ≡ map arc_value m.entries.items
    → vec_capacity v ≡ vec_capacity m.entries → IsMirror (record m { entries = v }) (face_in m).list (face_in m)
mirror_again m v mirror is room = mirror_with m v (face_in m).list mirror (mirror.list ∙ sym is) room mirror.within mirror.sound
