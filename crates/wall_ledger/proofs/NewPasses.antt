-- The passes of a new ledger.
use Rattle.std.proofs.Common.{◌≡◌, ◌≢◌, ℕ, zero, suc, ◌+◌, ◌-◌, ◌<◌, ◌≤◌, inl, inr, Bool, true, false, List, [], ◌∷◌, ◌++◌, map, length, take, vec_capacity, refl, sym, ap, ◌∙◌, subst, arith, append-nil}
use Rattle.std.specs.Prelude.{Option, Some, None, IfSome, ◌==◌, if◌then◌else◌}
use Rattle.std.specs.List.{All, AllByRecursion}
use Rattle.std.specs.Arc.{arc_value}
use mathlib.Core.Option.{some, some-injective, some-ne-none}
use lib.ListN.{get_elem?}
use Rattle.atomic_table.specs.Seated.{TableId}
use Rattle.std.proofs.lemmas.List.{take_all}
use Rattle.aig_semantics.specs.Circuits.{Circuit}
use Rattle.entry.specs.CheckedEntries.{CheckedEntry}
use Rattle.entry.specs.declared.origins.Origin.TheVariants.{Given}
use Rattle.wall_store.specs.declared.outcomes.Outcome.{Outcome}
use Rattle.wall_store.specs.declared.outcomes.Served.{Served}
use Rattle.wall_store.specs.Boards.{BoardState, IsBoard, properties_of, outcome_of, first_board, Ascend}
use Rattle.wall_store.proofs.Ascending.{none_found, ascend_empty}
use Rattle.wall_ledger.specs.declared.marks.PassMark.{PassMark}
use Rattle.wall_ledger.specs.declared.pass.Hand.{Hand}
use Rattle.wall_ledger.specs.Passes.{blank, won, Marked, PassState, LedgerState, AreMarksOf, new_pass, new_passes}
use Rattle.wall_ledger.specs.Turns.{HasWon, IsBegun}
use Rattle.wall_ledger.specs.Tickets.{Forks, idle}
use Rattle.wall_ledger.specs.Rules.{Face, Chart, Fits, Kept, fresh, fresh_from, blank_marks, first_faces}
use Rattle.wall_ledger.specs.Seats.{tail_of, head_of, unseated, IsStart}
use Rattle.wall_ledger.specs.Shows.{mark_shown, blank_shown}
use Rattle.wall_ledger.specs.Hands.{head_or, face_in, pass_of, state_of, ledger_of, IsMirror, IsResting}
use Rattle.wall_ledger.proofs.Seating.{WonNothing, cuts}

-- ---- no marks yet

abbrev blank_on : ℕ → Marked
blank_on j = record { property = j; mark = blank }

not_won : (o : Outcome) → blank ≡ won o → ⊥
not_won o e = cc

no_marks : (j : ℕ) (o : Outcome) (is : List ℕ) → HasWon j o (map blank_on is) → ⊥
no_marks j o [] h = h
no_marks j o (i ∷ is) (inl h) = not_won o h.1
no_marks j o (i ∷ is) (inr h) = no_marks j o is h

blank_true : (is : List ℕ) (served : List Served) → AreMarksOf (map blank_on is) served
blank_true [] served = tt
blank_true (i ∷ is) served = (tt, blank_true is served)

blank_kinds : (is : List ℕ) → map (λ (m : Marked). m.property) (map blank_on is) ≡ is
blank_kinds [] = refl
blank_kinds (i ∷ is) = ap (λ (js : List ℕ). i ∷ js) (blank_kinds is)

blanks_shown : (is : List ℕ) → map mark_shown (map blank_on is) ≡ map blank_shown is
blanks_shown [] = refl
blanks_shown (i ∷ is) = ap (λ (ms : List PassMark). blank_shown i ∷ ms) (blanks_shown is)

-- ---- cutting off

fresh_apart : (first : BoardState) (marks : List Marked) (k m more : ℕ) → k < m → AllByRecursion (λ g. IfSome g.number (λ w. w ≢ k)) (fresh_from first marks m more)
fresh_apart first marks k m zero below = tt
fresh_apart first marks k m (suc more) below = ((λ (e : m ≡ k). absurd (omega arith)), fresh_apart first marks k (m + 1) more (omega arith))

fresh_won : (first : BoardState) (m more : ℕ) → AllByRecursion WonNothing (fresh_from first (blank_marks first) m more)
fresh_won first m zero = tt
fresh_won first m (suc more) = ((λ j o h. no_marks j o (properties_of first.served) h), fresh_won first (m + 1) more)

cut_one : (key first : BoardState) (seat k more : ℕ)
    → Forks (Kept key) seat (fresh first (blank_marks first) k ∷ fresh_from first (blank_marks first) (k + 1) more)
    (fresh_from first (blank_marks first) (k + 1) more) (fresh first (blank_marks first) k ∷ [])
cut_one key first seat k more =
    cuts key seat k (fresh first (blank_marks first) k) (fresh_from first (blank_marks first) (k + 1) more) refl
    (fresh_apart first (blank_marks first) k (k + 1) more (omega arith)) (λ j o h. no_marks j o (properties_of first.served) h) (fresh_won first (k + 1) more)

from_one : (first : BoardState) (marks : List Marked) (k n m : ℕ) → n ≡ suc m → fresh_from first marks k n ≡ fresh first marks k ∷ fresh_from first marks (k + 1) m
from_one first marks k n m e = ap (fresh_from first marks k) e

pub unseated_step : (first : BoardState) (k : ℕ) → k < first.workers → unseated first k ≡ fresh first (blank_marks first) k ∷ unseated first (k + 1)
unseated_step first k below =
    let e : first.workers - k ≡ suc (first.workers - (k + 1)) = omega arith in
    from_one first (blank_marks first) k (first.workers - k) (first.workers - (k + 1)) e

pub cut_off : (key first : BoardState) (seat k : ℕ) (v : List Face) → k < first.workers → v ≡ unseated first k → Forks (Kept key) seat v (tail_of v) (head_of v)
cut_off key first seat k v below is =
    subst (λ (fs : List Face). Forks (Kept key) seat fs (tail_of fs) (head_of fs)) (sym (is ∙ unseated_step first k below))
    (cut_one key first seat k (first.workers - (k + 1)))

pub cut_left : (first : BoardState) (k : ℕ) (v : List Face) → k < first.workers → v ≡ unseated first k → tail_of v ≡ unseated first (k + 1)
cut_left first k v below is = ap tail_of (is ∙ unseated_step first k below)

pub cut_right : (first : BoardState) (k : ℕ) (v : List Face) → k < first.workers → v ≡ unseated first k → head_of v ≡ fresh first (blank_marks first) k ∷ []
cut_right first k v below is = ap head_of (is ∙ unseated_step first k below)

-- ---- the pass at its seat

module _ (s : Hand) (start : IsStart s.first.value.value) (client : List Face)
    (me : s.place.me ≡ (idle 4294967295 client, [])) (one : client ≡ fresh s.first.value.value (blank_marks s.first.value.value) s.number ∷ []) where
  new_client : s.place.me.0.client ≡ fresh s.first.value.value (blank_marks s.first.value.value) s.number ∷ []
  new_client = ap (λ m. m.0.client) me ∙ one

  new_face : face_in s ≡ fresh s.first.value.value (blank_marks s.first.value.value) s.number
  new_face = ap (head_or (record { first = s.first.value.value; number = None; list = []; stamp = 0; turns = 0; marks = [] })) new_client

  pub new_state : state_of s ≡ new_pass (ledger_of s.place.table_id s.first.value.value) s.number
  new_state = ap (pass_of s.place.table_id) new_face

  pub new_rests : s.stamp ≡ 0 → s.turns ≡ 0 → map arc_value s.entries.items ≡ s.first.value.value.entries
      → s.marks.items ≡ map blank_shown (properties_of s.first.value.value.served) → s.first.value.value.limit ≤ vec_capacity s.entries → IsResting s
  new_rests stamp turns entries marks room =
      let f : Face = fresh s.first.value.value (blank_marks s.first.value.value) s.number in
      record {
        only = new_client ∙ ap (λ (g : Face). g ∷ []) (sym new_face);
        mirror = subst (λ (g : Face). IsMirror s g.list g) (sym new_face) (record {
          first = refl;
          number = refl;
          list = sym entries;
          stamp = sym stamp;
          turns = sym turns;
          shown = blanks_shown (properties_of s.first.value.value.served) ∙ sym marks;
          kinds = blank_kinds (properties_of s.first.value.value.served);
          room = room;
          within = start.board.within;
          few = start.board.limit;
          sound = start.board.sound;
        });
        ascend = subst (λ (g : Face). Ascend s.number g.list s.turns) (sym new_face) (ascend_empty s.number s.first.value.value.entries s.turns (none_found s.number s.first.value.value.entries start.origins));
        stage = ap (λ m. m.0.stage) me;
        empty = ap (λ m. m.1) me;
        budget = (let b : s.place.me.0.budget ≡ 4294967295 = ap (λ m. m.0.budget) me in omega arith);
      }

-- ---- the ledger begins

abbrev chart_first : BoardState → Chart
chart_first first = record { owner = λ k. 0; reach = λ i. length first.entries; champion = λ j. 0 }

all_there : (l : List CheckedEntry) → l ≡ take (length l) l
all_there l = sym (take_all (length l) l (omega arith))

fresh_fits : (first : BoardState) (k more : ℕ) → IsStart first → k + more ≤ first.workers
    → AllByRecursion (Fits first first 0 (chart_first first) 0) (fresh_from first (blank_marks first) k more)
fresh_fits first k zero start below = tt
fresh_fits first k (suc more) start below = (
  record {
    home = refl;
    list = all_there first.entries;
    stamp = omega arith;
    owned = (
      record {
        below = omega arith;
        seen = start.board.seen k 0 (let e = start.board.each_seen in omega arith);
        own = refl;
        marks = blank_true (properties_of first.served) first.served;
      },
      record { at = refl; champions = λ j o h. absurd (no_marks j o (properties_of first.served) h) },
    );
  },
  fresh_fits first (k + 1) more start (omega arith),
)

only_seat : (P : ℕ → List Face → Type 0) (v : List Face) (i : ℕ) (fs : List Face) → get_elem? (v ∷ []) i ≡ some fs → P 0 v → P i fs
only_seat P v zero fs e p = subst (P 0) (some-injective v fs e) p
only_seat P v (suc i) fs e p = absurd (some-ne-none fs (sym e))

none_some : (p : Option Outcome) (o : Outcome) → p ≡ None → p ≡ Some o → ⊥
none_some p o e f = cc

pub begins : (first : BoardState) → IsStart first → Kept first 0 first (first_faces first ∷ [])
begins first start = record {
  chart = chart_first first;
  origin = record {
    circuit = refl;
    properties = refl;
    workers = refl;
    limit = refl;
    given = start.count;
    front = ([], sym (append-nil first.entries));
  };
  rising = λ i j le. (let r : length first.entries ≤ length first.entries = omega arith in r);
  within = λ i. (let r : length first.entries ≤ length first.entries = omega arith in r);
  seats = λ i fs there. only_seat (λ k gs. AllByRecursion (Fits first first 0 (chart_first first) k) gs) (first_faces first) i fs there
      (fresh_fits first 0 first.workers start (omega arith));
  winners = λ j o is. absurd (none_some (outcome_of first.served j) o (start.outcomes j) is);
}

-- ---- the first board

either_none : (b : Bool) (p : Option Outcome) → p ≡ None → (if b then None else p) ≡ None
either_none true p e = refl
either_none false p e = e

abbrev open_on : ℕ → Served
open_on j = record { property = j; outcome = None }

no_outcome : (is : List ℕ) (j : ℕ) → outcome_of (map open_on is) j ≡ None
no_outcome [] j = refl
no_outcome (i ∷ is) j = either_none (i == j) (outcome_of (map open_on is) j) (no_outcome is j)

pub first_properties : (is : List ℕ) → properties_of (map open_on is) ≡ is
first_properties [] = refl
first_properties (i ∷ is) = ap (λ (js : List ℕ). i ∷ js) (first_properties is)

pub starts : (c : Circuit) (properties : List ℕ) (workers more : ℕ) (given : List CheckedEntry) → All (λ e. e.origin ≡ Given) given
    → IsBoard (first_board c properties workers more given) → IsStart (first_board c properties workers more given)
starts c properties workers more given origins board = record {
  board = board;
  outcomes = no_outcome properties;
  count = refl;
  origins = origins;
}

-- ---- one pass more

pub new_more : (l : LedgerState) (n more : ℕ) → new_passes l n (suc more) ≡ new_passes l n more ++ new_pass l (n + more) ∷ []
new_more l n zero = ap (λ (k : ℕ). new_pass l k ∷ []) (omega arith)
new_more l n (suc more) =
    ap (λ (ps : List PassState). new_pass l n ∷ ps)
    (new_more l (n + 1) more ∙ ap (λ (k : ℕ). new_passes l (n + 1) more ++ new_pass l k ∷ []) (omega arith))

pub begun : (lock : TableId) (key : BoardState) (c : Circuit) (js : List ℕ) (w more : ℕ) (es : List CheckedEntry) → key ≡ first_board c js w more es
    → IsBegun c js w more es (ledger_of lock key) (new_passes (ledger_of lock key) 0 w)
begun lock key c js w more es e = record {
  first = e;
  circuit = ap (λ (b : BoardState). b.circuit) e;
  properties = ap (λ (b : BoardState). properties_of b.served) e ∙ first_properties js;
  workers = ap (λ (b : BoardState). b.workers) e;
  limit = ap (λ (b : BoardState). b.limit) e;
  given = ap (λ (b : BoardState). b.entries) e;
  passes = refl;
}

pub new_next : (l : LedgerState) (k : ℕ) (ps : List PassState) (p : PassState) → ps ≡ new_passes l 0 k → p ≡ new_pass l k → ps ++ p ∷ [] ≡ new_passes l 0 (k + 1)
new_next l k ps p these is =
    let e : k ≡ 0 + k = omega arith in
    let f : suc k ≡ k + 1 = omega arith in
    (λ i. these i ++ (is ∙ ap (new_pass l) e) i ∷ []) ∙ (sym (new_more l 0 k) ∙ ap (new_passes l 0) f)

pub begun_with : (lock : TableId) (key first : BoardState) (c : Circuit) (js : List ℕ) (w more : ℕ) (es : List CheckedEntry) (ps : List PassState)
    → key ≡ first → first ≡ first_board c js w more es → ps ≡ new_passes (ledger_of lock first) 0 w → IsBegun c js w more es (ledger_of lock key) ps
begun_with lock key first c js w more es ps same is all =
    subst (IsBegun c js w more es (ledger_of lock key)) (sym (all ∙ ap (λ (b : BoardState). new_passes (ledger_of lock b) 0 w) (sym same)))
    (begun lock key c js w more es (same ∙ is))
