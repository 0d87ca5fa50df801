-- Closed uses of a list can be understood by themselves.
use Rattle.std.proofs.Common.{◌≡◌, ℕ, zero, suc, ◌<◌, ◌≤◌, ◌⊎◌, List, [], ◌∷◌, length, get_or, refl, ap, subst, ◌∙◌, inl, inr, arith}
use Rattle.std.specs.List.{All, AllPairs, Contains}
use Rattle.std.proofs.lemmas.Bool.{cases_eq}
use Rattle.std.proofs.lemmas.List.Elements.{All-head, All-tail}
use Rattle.aig_semantics.specs.Circuits.{Circuit}
use Rattle.fair_semantics.specs.declared.entries.Kind.{Kind}
use Rattle.fair_semantics.specs.declared.entries.Kind.TheVariants.{Reach, Wall}
use Rattle.fair_semantics.specs.declared.entries.Use.{Use}
use Rattle.fair_semantics.specs.Entries.{Entry, entry_at, used_entries, IsSigned, Uses, AreClosed}
use Rattle.fair_semantics.proofs.Alone.{Uses-each}
use Rattle.cnf_unroll.specs.Laws.{AreOver, NameKnown, walls_for, walls_with, walls_among, AreReadable, IsPlain, IsUnderstood}

pub uses-cases : (u : Use) (rest : List Use) (n : ℕ) → Uses (u ∷ rest) n → (u.entry ≡ n) ⊎ Uses rest n
uses-cases u rest n (zero, x, below, at, is) = inl (ap (λ w. w.entry) at ∙ is)
uses-cases u rest n (suc k, x, below, at, is) = inr (k, x, omega arith, at, is)

above_first : (u : Use) (rest : List Use) → AllPairs (λ v w. v.entry < w.entry) (u ∷ rest) → (n : ℕ) → Uses (u ∷ rest) n → u.entry ≤ n
above_first u rest ascend n (zero, x, below, at, is) = let e = ap (λ (w : Use). w.entry) at in omega arith
above_first u rest ascend n (suc k, x, below, at, is) =
    let e = ap (λ (w : Use). w.entry) at in
    let lt = ascend 0 (suc k) x (omega arith) below in
    omega arith

pub named_by : (kind : Kind) (walls : List ℕ) (uses : List Use) → (kind ≡ Reach → All (λ u. IsSigned u → ⊥) uses) → All (λ u. IsSigned u → Contains walls u.entry) uses → NameKnown (walls_for kind walls) uses
named_by Reach walls uses none known = λ k d below signed. absurd (none refl k d below signed)
named_by Wall walls uses none known = known

wall_is_there : (kind : Kind) (number : ℕ) (walls : List ℕ) → kind ≡ Wall → Contains (walls_with kind number walls) number
wall_is_there Reach number walls e = absurd (cc)
wall_is_there Wall number walls e = (0, omega arith, refl)

walls_stay : (kind : Kind) (number : ℕ) (walls : List ℕ) (k : ℕ) → Contains walls k → Contains (walls_with kind number walls) k
walls_stay Reach number walls k there = there
walls_stay Wall number walls k there = (suc there.0, (let l : there.0 < length walls = there.1 in omega arith), there.2)

-- the uses before the rest: their numbers are below those of the rest, and the walls among them are these
record Front (before : List Entry) (uses : List Use) (seen walls : List ℕ) (rest : List Use) : Type 0 where
  low : (k : ℕ) → Contains seen k → All (λ u. k < u.entry) rest
  met : (k : ℕ) → Uses uses k → (Uses rest k → ⊥) → (entry_at before k).kind ≡ Wall → Contains walls k

-- what is asked of the rest of the uses
record IsRest (before : List Entry) (uses : List Use) (rest : List Use) : Type 0 where
  ascend : AllPairs (λ u w. u.entry < w.entry) rest
  present : All (λ u. u.entry < length before) rest
  closed : All (λ u. All (λ named. IsSigned named → (named.entry < u.entry) × Uses uses named.entry) (entry_at before u.entry).uses) rest

rest_of : (before : List Entry) (uses : List Use) (u : Use) (rest : List Use) → IsRest before uses (u ∷ rest) → IsRest before uses rest
rest_of before uses u rest r = record {
  ascend = λ i j d lt below. r.ascend (suc i) (suc j) d (omega arith) (omega arith);
  present = All-tail (λ w. w.entry < length before) u rest r.present;
  closed = All-tail (λ w. All (λ named. IsSigned named → (named.entry < w.entry) × Uses uses named.entry) (entry_at before w.entry).uses) u rest r.closed;
}

low_of : (before : List Entry) (uses : List Use) (seen walls : List ℕ) (u : Use) (rest : List Use) → IsRest before uses (u ∷ rest) → Front before uses seen walls (u ∷ rest) → (k : ℕ) → Contains (u.entry ∷ seen) k → All (λ w. k < w.entry) rest
low_of before uses seen walls u rest r front k (zero, below, at) = λ i d inside. let lt = r.ascend 0 (suc i) d (omega arith) (omega arith) in omega arith
low_of before uses seen walls u rest r front k (suc n, below, at) = All-tail (λ w. k < w.entry) u rest (front.low k (n, omega arith, at))

front_of : (before : List Entry) (uses : List Use) (seen walls : List ℕ) (u : Use) (rest : List Use) → IsRest before uses (u ∷ rest) → Front before uses seen walls (u ∷ rest) → Front before uses (u.entry ∷ seen) (walls_with (entry_at before u.entry).kind u.entry walls) rest
front_of before uses seen walls u rest r front = record {
  low = low_of before uses seen walls u rest r front;
  met = λ k used other wall. elim (cases_eq u.entry k) [
    | inl e ↦
        subst (λ n. Contains (walls_with (entry_at before u.entry).kind u.entry walls) n) e
        (wall_is_there (entry_at before u.entry).kind u.entry walls (ap (λ n. (entry_at before n).kind) e ∙ wall))
    | inr ne ↦
        walls_stay (entry_at before u.entry).kind u.entry walls k
        (front.met k used (λ there. elim (uses-cases u rest k there) [ inl e ↦ ne e | inr behind ↦ other behind ]) wall)
  ];
}

readable : (n : ℕ) (before : List Entry) (uses : List Use) → All (IsPlain n before) before → (seen walls : List ℕ) (rest : List Use) → IsRest before uses rest → Front before uses seen walls rest → AreReadable n seen walls (used_entries before rest)
readable n before uses plain seen walls [] r front = tt
readable n before uses plain seen walls (u ∷ rest) r front =
    let here : IsPlain n before (entry_at before u.entry) = plain u.entry (record { kind = Reach; clauses = []; uses = [] }) (All-head (λ w. w.entry < length before) u rest r.present) in
    let closed = All-head (λ w. All (λ named. IsSigned named → (named.entry < w.entry) × Uses uses named.entry) (entry_at before w.entry).uses) u rest r.closed in (
      record {
        fresh = λ there. let lt = All-head (λ w. u.entry < w.entry) u rest (front.low u.entry there) in omega arith;
        over = here.over;
        named =
            named_by (entry_at before u.entry).kind walls (entry_at before u.entry).uses here.reach
            (λ k d below signed.
            let known = closed k d below signed in
            front.met (get_or (entry_at before u.entry).uses k d).entry known.1
            (λ there. let low = above_first u rest r.ascend (get_or (entry_at before u.entry).uses k d).entry there in let lt = known.0 in omega arith)
            (here.walls k d below signed));
      },
      readable n before uses plain (u.entry ∷ seen) (walls_with (entry_at before u.entry).kind u.entry walls) rest (rest_of before uses u rest r) (front_of before uses seen walls u rest r front),
    )

walls_met : (before : List Entry) (uses : List Use) (seen walls : List ℕ) (rest : List Use) → IsRest before uses rest → Front before uses seen walls rest → (k : ℕ) → Uses uses k → (entry_at before k).kind ≡ Wall → Contains (walls_among walls (used_entries before rest)) k
walls_met before uses seen walls [] r front k used wall = front.met k used (λ there. let l : there.0 < 0 = there.2 in omega arith) wall
walls_met before uses seen walls (u ∷ rest) r front k used wall =
    walls_met before uses (u.entry ∷ seen) (walls_with (entry_at before u.entry).kind u.entry walls) rest (rest_of before uses u rest r) (front_of before uses seen walls u rest r front) k used wall

pub understood : (c : Circuit) (before : List Entry) (e : Entry) → All (IsPlain (length c.latches) before) before → AreClosed before e.uses → AreOver (length c.latches) e.clauses → IsUnderstood c (used_entries before e.uses) e
understood c before e plain closed over =
    let r : IsRest before e.uses e.uses = record { ascend = closed.ascend; present = closed.present; closed = closed.closed } in
    let front : Front before e.uses [] [] e.uses = record {
      low = λ k there. let l : there.0 < 0 = there.1 in absurd (omega arith);
      met = λ k used other wall. absurd (other used);
    } in
    record {
      used = readable (length c.latches) before e.uses plain [] [] e.uses r front;
      over = over;
      named = λ k d below signed. walls_met before e.uses [] [] e.uses r front (get_or e.uses k d).entry (Uses-each e.uses k d below) (closed.walls k d below signed);
    }
