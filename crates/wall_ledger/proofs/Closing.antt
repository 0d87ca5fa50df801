-- The end of a ledger: what all passes know of the last board.
use Rattle.std.proofs.Common.{◌≡◌, ℕ, zero, suc, ◌+◌, ◌<◌, ◌≤◌, inl, inr, List, [], ◌∷◌, length, get_or, refl, sym, ap, ◌∙◌, subst, arith}
use Rattle.std.specs.Prelude.{Option, Some}
use Rattle.std.specs.List.{All, Any, Contains, AllByRecursion, remove}
use mathlib.Core.Option.{some-injective}
use lib.ListN.{get_elem?}
use Rattle.atomic_table.specs.Seated.{TableId}
use Rattle.wall_store.specs.declared.outcomes.Outcome.{Outcome}
use Rattle.wall_store.specs.Boards.{BoardState, IsBoard}
use Rattle.wall_ledger.specs.Passes.{PassState, LedgerState, GoesOn}
use Rattle.wall_ledger.specs.Turns.{HasWon, WonBy, AreAll, IsClosed}
use Rattle.wall_ledger.specs.Tickets.{IsLast}
use Rattle.wall_ledger.specs.Rules.{Face, Fits, AmongThem, HasNumber, Kept}
use Rattle.wall_ledger.specs.declared.pass.Hand.{Hand}
use Rattle.wall_ledger.specs.Hands.{number_or, pass_of, face_in, state_of, ledger_of, IsResting}
use Rattle.wall_ledger.specs.Seats.{face_of, faces_of}
use Rattle.wall_ledger.proofs.Seating.{number_seat, lists_start, whole_start}

-- what is so of all faces, of the one at a place
fits_at : (P : Face → Type 0) (ps : List PassState) (k : ℕ) (d : PassState) → AllByRecursion P (faces_of ps) → k < length ps → P (face_of (get_or ps k d))
fits_at P [] k d a below = absurd (omega arith)
fits_at P (p ∷ ps) zero d a below = a.0
fits_at P (p ∷ ps) (suc k) d a below = fits_at P ps k d a.1 (omega arith)

fits_in : (P : Face → Type 0) (ps : List PassState) (p : PassState) → AllByRecursion P (faces_of ps) → Contains ps p → P (face_of p)
fits_in P ps p a (k, below, here) = subst (λ (z : PassState). P (face_of z)) here (fits_at P ps k p a below)

numbered_from : (ps : List PassState) (k i : ℕ) (p : PassState) → i < length ps → get_or ps i p ≡ p → p.number ≡ k → HasNumber k (faces_of ps)
numbered_from [] k i p below here is = absurd (omega arith)
numbered_from (q ∷ ps) k zero p below here is = inl (ap (λ (n : ℕ). Some n) (ap (λ (z : PassState). z.number) here ∙ is))
numbered_from (q ∷ ps) k (suc i) p below here is = inr (numbered_from ps k i p (omega arith) here is)

pub all_numbered : (lock : TableId) (first : BoardState) (ps : List PassState) → AreAll (ledger_of lock first) ps → (k : ℕ) → k < first.workers → HasNumber k (faces_of ps)
all_numbered lock first ps all k below = let a = all k below in numbered_from ps k a.0 a.1 a.2 a.3 a.4

won_among : (ps : List PassState) (j : ℕ) (o : Outcome) → AmongThem (λ f. HasWon j o f.marks) (faces_of ps) → Any (WonBy j o) ps
won_among [] j o a = absurd a
won_among (p ∷ ps) j o (inl h) = (0, p, omega arith, refl, h)
won_among (p ∷ ps) j o (inr a) = let r = won_among ps j o a in (suc r.0, r.1, (let b = r.2 in omega arith), r.3, r.4)

module _ (lock : TableId) (first b : BoardState) (seat : ℕ) (ps : List PassState) (board : IsBoard b)
    (all : AreAll (ledger_of lock first) ps) (last : IsLast (Kept first) seat (faces_of ps) b) where
  kept : Kept first last.0 b last.1
  kept = last.2

  fits : AllByRecursion (Fits first b last.0 kept.chart seat) (faces_of ps)
  fits = kept.seats seat (faces_of ps) last.3

  goes : (p : PassState) → Fits first b last.0 kept.chart seat (face_of p) → GoesOn p b
  goes p f = record {
    list = whole_start first b last.0 kept.chart seat (face_of p) f;
    seen = f.owned.0.seen;
    own = f.owned.0.own;
    marks = f.owned.0.marks;
  }

  pub closes : IsClosed (ledger_of lock first) ps b
  closes = record {
    board = record {
      board = board;
      circuit = kept.origin.circuit;
      properties = kept.origin.properties;
      workers = kept.origin.workers;
      limit = kept.origin.limit;
      given = kept.origin.given;
      front = kept.origin.front;
    };
    known = λ k d below. goes (get_or ps k d) (fits_at (Fits first b last.0 kept.chart seat) ps k d fits below);
    stamps = λ p q inp inq le.
        lists_start first b last.0 kept.chart seat seat (face_of p) (face_of q) kept.rising
        (fits_in (Fits first b last.0 kept.chart seat) ps p fits inp) (fits_in (Fits first b last.0 kept.chart seat) ps q fits inq) le;
    outcomes = λ j o is. let w = kept.winners j o is in
        let here = (number_seat first b last.0 kept.chart seat (kept.chart.champion j) (faces_of ps) fits
        (all_numbered lock first ps all (kept.chart.champion j) (subst (λ (n : ℕ). kept.chart.champion j < n) kept.origin.workers w.0))).1 in
        won_among ps j o (subst (AmongThem (λ (f : Face). HasWon j o f.marks))
        (some-injective w.1.0 (faces_of ps) (sym w.1.1 ∙ (ap (get_elem? last.1) here ∙ last.3))) w.1.2);
    winners = λ j o u p q inp inq wp wq.
        sym ((fits_in (Fits first b last.0 kept.chart seat) ps p fits inp).owned.1.champions j o wp)
        ∙ (fits_in (Fits first b last.0 kept.chart seat) ps q fits inq).owned.1.champions j u wq;
  }

-- ---- the faces of all passes at one seat

named : (o : Option ℕ) (k : ℕ) → o ≡ Some k → Some (number_or o) ≡ o
named o k e = ap (λ (z : Option ℕ). Some (number_or z)) e ∙ sym e

pub face_same : (lock : TableId) (f : Face) (k : ℕ) → f.number ≡ Some k → face_of (pass_of lock f) ≡ f
face_same lock f k e = λ i. record f { number = named f.number k e i }

pub seat_faces : (s : Hand) (p : PassState) → IsResting s → state_of s ≡ p → s.place.me.0.client ≡ face_of p ∷ []
seat_faces s p rests is =
    rests.only ∙ ap (λ (f : Face). f ∷ []) (sym (face_same s.place.table_id (face_in s) s.number rests.mirror.number) ∙ ap face_of is)

pub first_and_rest : (ps : List PassState) (d : PassState) → 0 < length ps → face_of (get_or ps 0 d) ∷ faces_of (remove ps 0) ≡ faces_of ps
first_and_rest [] d below = absurd (omega arith)
first_and_rest (p ∷ ps) d below = refl

pub some_pass : (l : LedgerState) (ps : List PassState) → 1 ≤ l.workers → AreAll l ps → 0 < length ps
some_pass l ps staffed all = let a = all 0 (omega arith) in let b = a.2 in omega arith

pub locks_rest : (lock : TableId) (ps : List PassState) → All (λ p. p.home.lock ≡ lock) ps → All (λ p. p.home.lock ≡ lock) (remove ps 0)
locks_rest lock [] own = own
locks_rest lock (p ∷ ps) own = λ k d below. own (suc k) d (omega arith)

pub one_less : (ps : List PassState) → 0 < length ps → length (remove ps 0) + 1 ≡ length ps
one_less [] below = absurd (omega arith)
one_less (p ∷ ps) below = (let e : length (remove (p ∷ ps) 0) ≡ length ps = refl in let f : length (p ∷ ps) ≡ suc (length ps) = refl in omega arith)

pub none_left : (ps : List PassState) → length ps ≡ 0 → ps ≡ []
none_left [] e = refl
none_left (p ∷ ps) e = absurd (let f : length (p ∷ ps) ≡ suc (length ps) = refl in omega arith)
