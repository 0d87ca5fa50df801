-- Passes that meet, in memory.
use Rattle.std.proofs.Common.{Global, ◌≡◌, ℕ, ◌-◌, ◌<◌, ◌≤◌, List, [], ◌∷◌, ◌++◌, map, length, vec_capacity, sym, ap, ◌∙◌, subst, arith, append-nil}
use Rattle.std.specs.Prelude.{Option, None}
use Rattle.std.specs.List.{All, AllPairs}
use Rattle.std.specs.Arc.{arc_value}
use Rattle.std.proofs.lemmas.List.{length-map}
use Rattle.std.specs.declared.vec.Vec.{Vec}
use Rattle.std.specs.declared.sync.Arc.{Arc}
use Rattle.atomic_table.specs.declared.shared.Seat.{Seat}
use Rattle.entry.specs.declared.checked.Checked.{Checked}
use Rattle.entry.specs.CheckedEntries.{CheckedEntry}
use Rattle.wall_store.specs.Boards.{BoardState, IsSoundList, found_by, turn_of, Ascend}
use Rattle.wall_ledger.specs.declared.pass.Hand.{Hand}
use Rattle.wall_ledger.specs.declared.lock.Doing.{Doing}
use Rattle.wall_ledger.specs.declared.lock.Stage.TheVariants.{Idle}
use Rattle.wall_ledger.specs.Passes.{PassState, StartsWith}
use Rattle.wall_ledger.specs.Turns.{taking, HasTaken, HaveMet}
use Rattle.wall_ledger.specs.Tickets.{Sees, idle}
use Rattle.wall_ledger.specs.Rules.{Face, Kept}
use Rattle.wall_ledger.specs.Seats.{note_of, AreMeeting, IsBefore}
use Rattle.wall_ledger.specs.Hands.{head_or, number_or, face_in, pass_of, state_of, IsMirror, IsResting}
use Rattle.wall_ledger.proofs.Events.{at_number}
use Rattle.wall_ledger.proofs.Seating.{meets}

abbrev Chair : Type 0
Chair = Seat (Option BoardState) (Doing BoardState (List Face))

abbrev pub note : Face → Face
note f = record { first = f.first; number = None; list = f.list; stamp = f.stamp; turns = 0; marks = [] }

abbrev pub with_list : Face → Face → Face
with_list f h = record f { list = h.list; stamp = h.stamp }

pub sees_note : (key : BoardState) (seat : ℕ) (v : List Face) (f h : Face) → f.stamp ≤ h.stamp → v ≡ f ∷ note h ∷ [] → Sees (Kept key) seat v AreMeeting
sees_note key seat v f h le e =
    subst (λ (w : List Face). Sees (Kept key) seat w AreMeeting) (sym e) (meets key seat f (note h) le (λ j o w. w))

pub meeting_told : (v w : List Face) (f h : Face) → v ≡ f ∷ note h ∷ [] → AreMeeting v w → (w ≡ with_list f h ∷ []) × IsBefore f (note h)
meeting_told v w f h e told = subst (λ (z : List Face). AreMeeting z w) e told

module _ (s : Hand) (h : Face) (rests : IsResting s) (place : Chair) (v : Vec (Arc Checked Global) Global) (stamp : ℕ)
    (client : place.me.0.client ≡ with_list (face_in s) h ∷ []) where
  pub taken_face : face_in (record s { place = place; entries = v; stamp = stamp }) ≡ with_list (face_in s) h
  taken_face = ap (head_or (record { first = s.first.value.value; number = None; list = []; stamp = 0; turns = 0; marks = [] })) client

  pub taken_rests : IsBefore (face_in s) (note h) → place.me.0.stage ≡ Idle → place.me.1 ≡ [] → place.me.0.budget ≡ s.place.me.0.budget
      → h.list ≡ map arc_value v.items → vec_capacity v ≡ vec_capacity s.entries → length h.list ≤ (face_in s).first.limit
      → IsSoundList (face_in s).first.circuit h.list → h.stamp ≡ stamp → IsResting (record s { place = place; entries = v; stamp = stamp })
  taken_rests before stage empty budget list room within sound stamped =
      let t : Hand = record s { place = place; entries = v; stamp = stamp } in
      let m = rests.mirror in
      record {
        only = client ∙ ap (λ (f : Face). f ∷ []) (sym taken_face);
        mirror = subst (λ (f : Face). IsMirror t f.list f) (sym taken_face) (record {
          first = m.first;
          number = m.number;
          list = list;
          stamp = stamped;
          turns = m.turns;
          shown = m.shown;
          kinds = m.kinds;
          room = subst (λ (n : ℕ). (face_in s).first.limit ≤ n) (sym room) m.room;
          within = within;
          few = m.few;
          sound = sound;
        });
        ascend = subst (λ (f : Face). Ascend s.number f.list s.turns) (sym taken_face)
            (subst (λ (es : List CheckedEntry). AllPairs (λ i j. i < j) (map (λ e. turn_of e.origin) es) × All (λ e. turn_of e.origin < s.turns) es)
            (sym (own_of before)) rests.ascend);
        stage = stage;
        empty = empty;
        budget = (let b = rests.budget in omega arith);
      }
    where
      own_of : IsBefore (face_in s) (note h) → found_by s.number h.list ≡ found_by s.number (face_in s).list
      own_of b = at_number (face_in s) s.number (λ k. found_by k h.list ≡ found_by k (face_in s).list) rests.mirror.number b.own

pub taken : (s m : Hand) (place : Chair) (v : Vec (Arc Checked Global) Global) (stamp : ℕ) → IsResting s → place.table_id ≡ s.place.table_id
    → place.me.0.client ≡ with_list (face_in s) (face_in m) ∷ [] → IsBefore (face_in s) (note (face_in m))
    → HasTaken (state_of s) (state_of m) (state_of (record s { place = place; entries = v; stamp = stamp }))
taken s m place v stamp rests seat client before = record {
  takes = record {
    front = before.front;
    own = subst (λ (k : ℕ). found_by k (face_in m).list ≡ found_by k (face_in s).list) (sym (ap number_or rests.mirror.number))
        (at_number (face_in s) s.number (λ k. found_by k (face_in m).list ≡ found_by k (face_in s).list) rests.mirror.number before.own);
    after = ap (λ lock. pass_of lock (face_in (record s { place = place; entries = v; stamp = stamp }))) seat
        ∙ ap (pass_of s.place.table_id) (taken_face s (face_in m) rests place v stamp client);
  };
  same = before.same;
}

-- ---- both directions

same_taken : (p q : PassState) → p.list ≡ q.list → p.stamp ≡ q.stamp → taking p q ≡ p
same_taken p q l e = λ i. record p { list = sym l i; stamp = sym e i }

pub have_met : (p q p' q' : PassState) → p.stamp ≤ q.stamp → HasTaken p q p' → q' ≡ q → HaveMet p q p' q'
have_met p q p' q' le h same = record {
  one = λ _. (h.takes, same);
  other = λ (ge : q.stamp ≤ p.stamp).
      let e : p.stamp ≡ q.stamp = omega arith in
      let l : p.list ≡ q.list = h.same e in (
        record {
          front = ([], l ∙ sym (append-nil q.list));
          own = ap (found_by q.number) l;
          after = same ∙ sym (same_taken q p (sym l) (sym e));
        },
        h.takes.after ∙ same_taken p q l e,
      );
}

pub met_other : (p q p' q' : PassState) → HaveMet q p q' p' → HaveMet p q p' q'
met_other p q p' q' h = record { one = h.other; other = h.one }

-- ---- the note beside the pass

pub joined_view : (s m : Hand) (joined noted : List Face) → IsResting s → IsResting m → joined ≡ s.place.me.0.client ++ noted → noted ≡ note_of m.place.me.0.client
    → joined ≡ face_in s ∷ note (face_in m) ∷ []
joined_view s m joined noted rs rm e n = e ∙ (λ i. rs.only i ++ (n ∙ ap note_of rm.only) i)

pub no_less : (s m : Hand) → IsResting s → IsResting m → s.stamp ≤ m.stamp → (face_in s).stamp ≤ (face_in m).stamp
no_less s m rs rm le = let a = rs.mirror.stamp in let b = rm.mirror.stamp in omega arith

pub room_for : (s m : Hand) → IsResting s → IsResting m → (face_in s).first ≡ (face_in m).first → length (face_in m).list ≤ (face_in s).first.limit
room_for s m rs rm same = let a = rm.mirror.within in let b : (face_in s).first.limit ≡ (face_in m).first.limit = ap (λ (z : BoardState). z.limit) same in omega arith

pub sound_for : (s m : Hand) → IsResting m → (face_in s).first ≡ (face_in m).first → IsSoundList (face_in s).first.circuit (face_in m).list
sound_for s m rm same = subst (λ (z : BoardState). IsSoundList z.circuit (face_in m).list) (sym same) rm.mirror.sound

-- the same pass, with handles that were copied again
pub resting_with : (s : Hand) (v : Vec (Arc Checked Global) Global) → IsResting s → map arc_value v.items ≡ map arc_value s.entries.items
    → vec_capacity v ≡ vec_capacity s.entries → IsResting (record s { entries = v })
resting_with s v r same room = record {
  only = r.only;
  mirror = record {
    first = r.mirror.first;
    number = r.mirror.number;
    list = r.mirror.list ∙ sym same;
    stamp = r.mirror.stamp;
    turns = r.mirror.turns;
    shown = r.mirror.shown;
    kinds = r.mirror.kinds;
    room = subst (λ (n : ℕ). (face_in s).first.limit ≤ n) (sym room) r.mirror.room;
    within = r.mirror.within;
    few = r.mirror.few;
    sound = r.mirror.sound;
  };
  ascend = r.ascend;
  stage = r.stage;
  empty = r.empty;
  budget = r.budget;
}

-- what may be copied
pub room_copy : (s m : Hand) (all : List (Arc Checked Global)) → IsResting s → IsResting m → (face_in s).first ≡ (face_in m).first → all ≡ m.entries.items
    → length all ≤ vec_capacity s.entries
room_copy s m all rs rm same is =
    let a = room_for s m rs rm same in let b = rs.mirror.room in let c : length (face_in m).list ≡ length (map arc_value m.entries.items) = ap length rm.mirror.list in
    let d = length-map m.entries.items arc_value in let e : length all ≡ length m.entries.items = ap length is in omega arith

-- what was copied
pub copied : (s m : Hand) (all now : List (Arc Checked Global)) → IsResting s → IsResting m → all ≡ m.entries.items → StartsWith (face_in s).list (face_in m).list
    → (StartsWith (map arc_value s.entries.items) (map arc_value all) → map arc_value now ≡ map arc_value all) → (face_in m).list ≡ map arc_value now
copied s m all now rs rm is front copy =
    let whole : (face_in m).list ≡ map arc_value all = rm.mirror.list ∙ ap (map arc_value) (sym is) in
    whole ∙ sym (copy (subst (λ (z : List CheckedEntry × List CheckedEntry). StartsWith z.0 z.1) (λ i. (rs.mirror.list i, whole i)) front))

-- a pass from whose seat a note was split
module _ (s : Hand) (place : Chair) (r : IsResting s) (left : place.me ≡ (idle (s.place.me.0.budget - 0) s.place.me.0.client, [])) where
  noted_client : place.me.0.client ≡ s.place.me.0.client
  noted_client = ap (λ z. z.0.client) left

  noted_face : face_in (record s { place = place }) ≡ face_in s
  noted_face = ap (head_or (record { first = s.first.value.value; number = None; list = []; stamp = 0; turns = 0; marks = [] })) noted_client

  pub noted_rests : IsResting (record s { place = place })
  noted_rests = record {
    only = noted_client ∙ (r.only ∙ ap (λ (f : Face). f ∷ []) (sym noted_face));
    mirror = subst (λ (f : Face). IsMirror (record s { place = place }) f.list f) (sym noted_face) (record {
      first = r.mirror.first;
      number = r.mirror.number;
      list = r.mirror.list;
      stamp = r.mirror.stamp;
      turns = r.mirror.turns;
      shown = r.mirror.shown;
      kinds = r.mirror.kinds;
      room = r.mirror.room;
      within = r.mirror.within;
      few = r.mirror.few;
      sound = r.mirror.sound;
    });
    ascend = subst (λ (f : Face). Ascend s.number f.list s.turns) (sym noted_face) r.ascend;
    stage = ap (λ z. z.0.stage) left;
    empty = ap (λ z. z.1) left;
    budget = (let b : place.me.0.budget ≡ s.place.me.0.budget - 0 = ap (λ z. z.0.budget) left in let a = r.budget in omega arith);
  }

  pub noted_state : place.table_id ≡ s.place.table_id → state_of (record s { place = place }) ≡ state_of s
  noted_state seat = λ i. pass_of (seat i) (noted_face i)
