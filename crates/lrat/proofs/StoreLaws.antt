-- Laws of the clauses that are held, by lists of ids, of marks and of clauses.
use Rattle.std.proofs.Common.{◌≡◌, ◌≢◌, ℕ, zero, suc, ◌+◌, ◌-◌, ◌<◌, ◌≤◌, min, Bool, true, false, not, ◌||◌, cond, eqb, leb, List, [], ◌∷◌, ◌++◌, length, get_or, take, set, Some, None, refl, ap, sym, subst, ◌∙◌, inl, inr, arith}
use Rattle.std.specs.List.{list_any}
use Rattle.std.proofs.lemmas.Bool.{eq-eqb, ne_eqb, cases_order, cases_eq, cases_lt, cond-true, cond-false}
use Rattle.std.specs.Prelude.{slice_range, slice_get}
use Rattle.std.proofs.lemmas.Option.{slice_get-get_or, slice_get_read, get_or_from_slice_get}
use Rattle.proof_semantics.specs.Proofs.{ProofState, clause_at, without, with_addition, with_deletion, numbered, start, is_empty}
use Rattle.proof_semantics.specs.declared.literals.Lit.{Lit}
use Rattle.lrat.specs.Ascending.{Ascend}
use Rattle.lrat.specs.ArenaOf.{clause_in, clauses_at, clauses_in, ids_at, flags_at, filled_front, AreNumbered, AreDeletedBelow, IsPacked, IsGiven}
use Rattle.lrat.specs.StoreOf.{held_of, last_of, state_of, IsOrderly}
use Rattle.lrat.specs.declared.arena.Arena.{Arena}
use Rattle.lrat.specs.declared.arena.Place.{Place}
use Rattle.lrat.proofs.ArenaLaws.{clauses-put, clauses_in-put, ids-put, flags-put, flags_all, filled-take, filled-empty, take_within, default_free, IsPacked-put, AreNumbered-take, AreDeletedBelow-put, AreDeletedBelow-take}
use Rattle.lrat.specs.declared.store.Store.TheInside.{Inside}
use Rattle.std.proofs.Common.{length-append}
use Rattle.std.proofs.Math.Seq.{map-set_same}
use Rattle.std.proofs.lemmas.List.{get_or_append_left, get_or_push, get_or_past, get_or-map, take-append-le, take_all, length-map, length-set, length-take-le, map-set, get_or-set_same, get_or-set_other}

-- no place of the ids has the id
abbrev Lacks : List ℕ → ℕ → Type 0
Lacks ids id = (k : ℕ) → k < length ids → get_or ids k 0 ≢ id

-- no place but k has the id
abbrev LacksBut : List ℕ → ℕ → ℕ → Type 0
LacksBut ids k id = (j : ℕ) → j < length ids → j ≢ k → get_or ids j 0 ≢ id

lacks_first : (first : ℕ) (ids : List ℕ) (id : ℕ) → Lacks (first ∷ ids) id → first ≢ id
lacks_first first ids id lacks = lacks 0 (omega arith)

lacks_rest : (first : ℕ) (ids : List ℕ) (id : ℕ) → Lacks (first ∷ ids) id → Lacks ids id
lacks_rest first ids id lacks = λ k below. lacks (suc k) (omega arith)

-- a clause of another id in front, held or not, changes nothing
passed : (flag : Bool) (first id : ℕ) (clause : List Lit) (rest : List (ℕ × List Lit)) → first ≢ id
    → clause_at (cond flag ((first, clause) ∷ rest) rest) id ≡ clause_at rest id
passed true first id clause rest differs = cond-false (eqb first id) (Some clause) (clause_at rest id) (ne_eqb first id differs)
passed false first id clause rest differs = refl

pub held_of-absent : (ids : List ℕ) (flags : List Bool) (clauses : List (List Lit)) (id : ℕ) → Lacks ids id → clause_at (held_of ids flags clauses) id ≡ None
held_of-absent [] flags clauses id lacks = refl
held_of-absent (first ∷ ids) [] clauses id lacks = refl
held_of-absent (first ∷ ids) (flag ∷ flags) [] id lacks = refl
held_of-absent (first ∷ ids) (flag ∷ flags) (clause ∷ clauses) id lacks =
    passed flag first id clause (held_of ids flags clauses) (lacks_first first ids id lacks)
    ∙ held_of-absent ids flags clauses id (lacks_rest first ids id lacks)

-- the clause of a place, if it is marked
at_front : (flag : Bool) (first id : ℕ) (clause : List Lit) (rest : List (ℕ × List Lit)) → first ≡ id → clause_at rest id ≡ None
    → clause_at (cond flag ((first, clause) ∷ rest) rest) id ≡ cond flag (Some clause) None
at_front true first id clause rest same none = cond-true (eqb first id) (Some clause) (clause_at rest id) (eq-eqb first id same)
at_front false first id clause rest same none = none

pub held_of-at : (ids : List ℕ) (flags : List Bool) (clauses : List (List Lit)) (k id : ℕ) → k < length ids → k < length flags → k < length clauses
    → get_or ids k 0 ≡ id → LacksBut ids k id → clause_at (held_of ids flags clauses) id ≡ cond (get_or flags k false) (Some (get_or clauses k [])) None
held_of-at [] flags clauses k id i f c same lacks = absurd (omega arith)
held_of-at (first ∷ ids) [] clauses k id i f c same lacks = absurd (omega arith)
held_of-at (first ∷ ids) (flag ∷ flags) [] k id i f c same lacks = absurd (omega arith)
held_of-at (first ∷ ids) (flag ∷ flags) (clause ∷ clauses) zero id i f c same lacks =
    at_front flag first id clause (held_of ids flags clauses) same
    (held_of-absent ids flags clauses id (λ k below. lacks (suc k) (omega arith) (omega arith)))
held_of-at (first ∷ ids) (flag ∷ flags) (clause ∷ clauses) (suc k) id i f c same lacks =
    passed flag first id clause (held_of ids flags clauses) (lacks 0 (omega arith) (omega arith))
    ∙ held_of-at ids flags clauses k id (omega arith) (omega arith) (omega arith) same
    (λ j below differs. lacks (suc j) (omega arith) (omega arith))

-- ascending ids have an id at one place only
pub lacks_from_ascend : (ids : List ℕ) (k id : ℕ) → Ascend ids → k < length ids → get_or ids k 0 ≡ id → LacksBut ids k id
lacks_from_ascend ids k id ascend below same j inside differs is =
    elim (cases_order j k) [
      | inl equal ↦ differs equal
      | inr (inl less) ↦ omega (arith, ascend j k less below)
      | inr (inr more) ↦ omega (arith, ascend k j more inside)
    ]

-- one more clause, which is held
pub held_of-push : (ids : List ℕ) (flags : List Bool) (clauses : List (List Lit)) (id : ℕ) (clause : List Lit) → length ids ≡ length clauses
    → length flags ≡ length clauses → held_of (ids ++ id ∷ []) (flags ++ true ∷ []) (clauses ++ clause ∷ []) ≡ held_of ids flags clauses ++ (id, clause) ∷ []
held_of-push [] [] [] id clause i f = refl
held_of-push [] (flag ∷ flags) [] id clause i f = absurd (omega arith)
held_of-push [] flags (c ∷ clauses) id clause i f = absurd (omega arith)
held_of-push (first ∷ ids) flags [] id clause i f = absurd (omega arith)
held_of-push (first ∷ ids) [] (c ∷ clauses) id clause i f = absurd (omega arith)
held_of-push (first ∷ ids) (true ∷ flags) (c ∷ clauses) id clause i f =
    ap (λ rest. (first, c) ∷ rest) (held_of-push ids flags clauses id clause (omega arith) (omega arith))
held_of-push (first ∷ ids) (false ∷ flags) (c ∷ clauses) id clause i f =
    held_of-push ids flags clauses id clause (omega arith) (omega arith)

-- where no id is deleted, all stays
kept_entry : (flag : Bool) (first id : ℕ) (clause : List Lit) (rest : List (ℕ × List Lit)) → first ≢ id
    → without (cond flag ((first, clause) ∷ rest) rest) (id ∷ []) ≡ cond flag ((first, clause) ∷ without rest (id ∷ [])) (without rest (id ∷ []))
kept_entry true first id clause rest differs =
    ap (λ t. cond (not (t || false)) ((first, clause) ∷ without rest (id ∷ [])) (without rest (id ∷ []))) (ne_eqb first id differs)
kept_entry false first id clause rest differs = refl

pub without-absent : (ids : List ℕ) (flags : List Bool) (clauses : List (List Lit)) (id : ℕ) → Lacks ids id
    → without (held_of ids flags clauses) (id ∷ []) ≡ held_of ids flags clauses
without-absent [] flags clauses id lacks = refl
without-absent (first ∷ ids) [] clauses id lacks = refl
without-absent (first ∷ ids) (flag ∷ flags) [] id lacks = refl
without-absent (first ∷ ids) (flag ∷ flags) (clause ∷ clauses) id lacks =
    kept_entry flag first id clause (held_of ids flags clauses) (lacks_first first ids id lacks)
    ∙ ap (λ rest. cond flag ((first, clause) ∷ rest) rest) (without-absent ids flags clauses id (lacks_rest first ids id lacks))

-- a place whose mark is taken away
dropped_entry : (flag : Bool) (first id : ℕ) (clause : List Lit) (rest : List (ℕ × List Lit)) → first ≡ id → without rest (id ∷ []) ≡ rest
    → without (cond flag ((first, clause) ∷ rest) rest) (id ∷ []) ≡ rest
dropped_entry true first id clause rest same gone =
    ap (λ t. cond (not (t || false)) ((first, clause) ∷ without rest (id ∷ [])) (without rest (id ∷ []))) (eq-eqb first id same) ∙ gone
dropped_entry false first id clause rest same gone = gone

pub held_of-unset : (ids : List ℕ) (flags : List Bool) (clauses : List (List Lit)) (k id : ℕ) → k < length ids → k < length flags → k < length clauses
    → get_or ids k 0 ≡ id → LacksBut ids k id → held_of ids (set flags k false) clauses ≡ without (held_of ids flags clauses) (id ∷ [])
held_of-unset [] flags clauses k id i f c same lacks = absurd (omega arith)
held_of-unset (first ∷ ids) [] clauses k id i f c same lacks = absurd (omega arith)
held_of-unset (first ∷ ids) (flag ∷ flags) [] k id i f c same lacks = absurd (omega arith)
held_of-unset (first ∷ ids) (flag ∷ flags) (clause ∷ clauses) zero id i f c same lacks =
    sym (dropped_entry flag first id clause (held_of ids flags clauses) same
    (without-absent ids flags clauses id (λ k below. lacks (suc k) (omega arith) (omega arith))))
held_of-unset (first ∷ ids) (flag ∷ flags) (clause ∷ clauses) (suc k) id i f c same lacks =
    ap (λ rest. cond flag ((first, clause) ∷ rest) rest)
    (held_of-unset ids flags clauses k id (omega arith) (omega arith) (omega arith) same (λ j below differs. lacks (suc j) (omega arith) (omega arith)))
    ∙ sym (kept_entry flag first id clause (held_of ids flags clauses) (lacks 0 (omega arith) (omega arith)))

-- deleting ids one after another
pub without-nil : (held : List (ℕ × List Lit)) → without held [] ≡ held
without-nil [] = refl
without-nil (entry ∷ held) = ap (λ rest. entry ∷ rest) (without-nil held)

without_entry : (here later : Bool) (entry : ℕ × List Lit) (more : List ℕ) (held : List (ℕ × List Lit)) → list_any (eqb entry.0) more ≡ later
    → without (cond (not (here || false)) (entry ∷ held) held) more ≡ cond (not (here || later)) (entry ∷ without held more) (without held more)
without_entry true later entry more held e = refl
without_entry false later entry more held e = ap (λ t. cond (not t) (entry ∷ without held more) (without held more)) e

pub without-cons : (held : List (ℕ × List Lit)) (id : ℕ) (more : List ℕ) → without (without held (id ∷ [])) more ≡ without held (id ∷ more)
without-cons [] id more = refl
without-cons (entry ∷ held) id more =
    without_entry (eqb entry.0 id) (list_any (eqb entry.0) more) entry more (without held (id ∷ [])) refl
    ∙ ap (λ rest. cond (not (eqb entry.0 id || list_any (eqb entry.0) more)) (entry ∷ rest) rest) (without-cons held id more)

-- the given clauses, numbered
pub held_of-numbered : (ids : List ℕ) (flags : List Bool) (clauses : List (List Lit)) (n : ℕ) → length ids ≡ length clauses → length flags ≡ length clauses
    → ((k : ℕ) → k < length clauses → get_or ids k 0 ≡ n + k) → ((k : ℕ) → k < length clauses → get_or flags k true ≡ true)
    → held_of ids flags clauses ≡ numbered n clauses
held_of-numbered [] [] [] n i f is all = refl
held_of-numbered [] (flag ∷ flags) [] n i f is all = absurd (omega arith)
held_of-numbered (first ∷ ids) flags [] n i f is all = absurd (omega arith)
held_of-numbered [] flags (c ∷ clauses) n i f is all = absurd (omega arith)
held_of-numbered (first ∷ ids) [] (c ∷ clauses) n i f is all = absurd (omega arith)
held_of-numbered (first ∷ ids) (flag ∷ flags) (c ∷ clauses) n i f is all =
    let marked : flag ≡ true = all 0 (omega arith) in
    let same : first ≡ n = omega (arith, is 0 (omega arith)) in
    let rest = held_of-numbered ids flags clauses (n + 1) (omega arith) (omega arith)
    (λ k below. omega (arith, is (suc k) (omega arith))) (λ k below. all (suc k) (omega arith)) in
    ap (λ t. cond t ((first, c) ∷ held_of ids flags clauses) (held_of ids flags clauses)) marked
    ∙ ap (λ m. (m, c) ∷ held_of ids flags clauses) same ∙ ap (λ more. (n, c) ∷ more) rest

-- the same, by what a look among ascending ids answers
pub found_absent : (ids seen : List ℕ) (flags : List Bool) (clauses : List (List Lit)) (id : ℕ) → seen ≡ ids → Lacks seen id
    → clause_at (held_of ids flags clauses) id ≡ None
found_absent ids seen flags clauses id same lacks =
    held_of-absent ids flags clauses id (subst (λ xs. Lacks xs id) same lacks)

pub found_at : (ids seen : List ℕ) (flags : List Bool) (clauses : List (List Lit)) (k id : ℕ) (read flag : Bool) → seen ≡ ids → length ids ≡ length clauses
    → length flags ≡ length clauses → Ascend ids → k < length seen → get_or seen k 0 ≡ id → read ≡ get_or flags k read → read ≡ flag
    → clause_at (held_of ids flags clauses) id ≡ cond flag (slice_get clauses k) None
found_at ids seen flags clauses k id read flag same i f ascend below is reads marked =
    let inside_flags : k < length flags = omega (arith, ap length same) in
    let at = get_or_from_slice_get flags k read false (slice_get_read flags (length flags) k read refl inside_flags reads) ∙ marked in
    let inside : k < length ids = omega (arith, ap length same) in
    let there : get_or ids k 0 ≡ id = ap (λ xs. get_or xs k 0) (sym same) ∙ is in
    held_of-at ids flags clauses k id inside (omega arith) (omega arith) there (lacks_from_ascend ids k id ascend inside there)
    ∙ ap (λ t. cond t (Some (get_or clauses k [])) None) at
    ∙ ap (λ o. cond flag o None) (sym (slice_get-get_or clauses k [] (omega arith)))

pub unset_at : (ids seen : List ℕ) (flags : List Bool) (clauses : List (List Lit)) (k id : ℕ) → seen ≡ ids → length ids ≡ length clauses
    → length flags ≡ length clauses → Ascend ids → k < length seen → get_or seen k 0 ≡ id
    → held_of ids (set flags k false) clauses ≡ without (held_of ids flags clauses) (id ∷ [])
unset_at ids seen flags clauses k id same i f ascend below is =
    let inside : k < length ids = omega (arith, ap length same) in
    let there : get_or ids k 0 ≡ id = ap (λ xs. get_or xs k 0) (sym same) ∙ is in
    held_of-unset ids flags clauses k id inside (omega arith) (omega arith) there (lacks_from_ascend ids k id ascend inside there)

-- what a binary search that finds nothing says
non_decreasing : (ids : List ℕ) → Ascend ids → (i j : ℕ) → i ≤ j → j < length ids → get_or ids i 0 ≤ get_or ids j 0
non_decreasing ids ascend i j before below =
    elim (cases_eq i j) [
      | inl same ↦ omega (arith, ap (λ k. get_or ids k 0) same)
      | inr differs ↦ omega (arith, ascend i j (omega arith) below)
    ]

pub absent_unset : (ids seen : List ℕ) (flags : List Bool) (clauses : List (List Lit)) (id : ℕ) → seen ≡ ids → Lacks seen id
    → without (held_of ids flags clauses) (id ∷ []) ≡ held_of ids flags clauses
absent_unset ids seen flags clauses id same lacks =
    without-absent ids flags clauses id (subst (λ xs. Lacks xs id) same lacks)

-- Ids that ascend, and one above the last of them.
push_below : (ids : List ℕ) (id i : ℕ) → Ascend ids → last_of ids < id → i < length ids → get_or ids i 0 < id
push_below ids id i ascend later inside = omega (arith, non_decreasing ids ascend i (length ids - 1) (omega arith) (omega arith))

pub Ascend-push : (ids : List ℕ) (id : ℕ) → Ascend ids → last_of ids < id → Ascend (ids ++ id ∷ [])
Ascend-push ids id ascend later i j before below =
    let count : length (ids ++ id ∷ []) ≡ length ids + 1 = length-append ids (id ∷ []) in
    elim (cases_lt j (length ids)) [
      | inl inside ↦ omega (arith, ascend i j before inside, get_or_append_left ids (id ∷ []) 0 i (omega arith), get_or_append_left ids (id ∷ []) 0 j inside)
      | inr past ↦ omega (arith, push_below ids id i ascend later (omega arith), get_or_append_left ids (id ∷ []) 0 i (omega arith), get_or_push ids id 0 j (omega arith))
    ]

last_of-push : (ids : List ℕ) (id : ℕ) → last_of (ids ++ id ∷ []) ≡ id
last_of-push ids id = get_or_push ids id 0 _ (omega (arith, length-append ids (id ∷ [])))

-- a store with one more clause
pub state_push : (s t : Inside) (p : Place) (clause : List Lit) → IsOrderly s
    → t.arena.literals.items ≡ s.arena.literals.items ++ clause → t.arena.places.items ≡ s.arena.places.items ++ p ∷ []
    → p.start ≡ length s.arena.literals.items → p.end ≡ length s.arena.literals.items + length clause → p.deleted ≢ s.round
    → t.given ≡ s.given → t.round ≡ s.round → t.finished ≡ (s.finished || is_empty clause) → state_of t ≡ with_addition (state_of s) p.id clause
state_push s t p clause rules ls ps start end alive g r f =
    let ids : ids_at t.arena.places.items ≡ ids_at s.arena.places.items ++ p.id ∷ [] = ap ids_at ps ∙ ids-put s.arena.places.items p in
    let clauses : clauses_in t.arena ≡ clauses_in s.arena ++ clause ∷ [] =
    (λ i. clauses_at (ls i) (ps i)) ∙ clauses-put s.arena.literals.items clause s.arena.places.items p rules.packed start end in
    let flags : flags_at t.round t.arena.places.items ≡ flags_at s.round s.arena.places.items ++ true ∷ [] =
    (λ i. flags_at (r i) (ps i)) ∙ flags-put s.arena.places.items p s.round alive in
    let count : length (clauses_in s.arena) ≡ length s.arena.places.items = length-map s.arena.places.items (clause_in s.arena.literals.items) in
    let given : take t.given (clauses_in t.arena) ≡ take s.given (clauses_in s.arena) =
    ap (λ n. take n (clauses_in t.arena)) g ∙ ap (take s.given) clauses ∙ take-append-le s.given (clauses_in s.arena) (clause ∷ []) (omega (arith, rules.given)) in
    let held : held_of (ids_at t.arena.places.items) (flags_at t.round t.arena.places.items) (clauses_in t.arena)
    ≡ held_of (ids_at s.arena.places.items) (flags_at s.round s.arena.places.items) (clauses_in s.arena) ++ (p.id, clause) ∷ [] =
    (λ i. held_of (ids i) (flags i) (clauses i))
    ∙ held_of-push (ids_at s.arena.places.items) (flags_at s.round s.arena.places.items) (clauses_in s.arena) p.id clause
    (omega (arith, length-map s.arena.places.items (λ (q : Place). q.id))) (omega (arith, length-map s.arena.places.items (λ (q : Place). not (eqb q.deleted s.round)))) in
    let last : last_of (ids_at t.arena.places.items) ≡ p.id = ap last_of ids ∙ last_of-push (ids_at s.arena.places.items) p.id in
    λ i. record { given = given i; held = held i; last = last i; finished = f i }

pub IsOrderly-push : (s t : Inside) (p : Place) (clause : List Lit) → IsOrderly s → last_of (ids_at s.arena.places.items) < p.id
    → t.arena.literals.items ≡ s.arena.literals.items ++ clause → t.arena.places.items ≡ s.arena.places.items ++ p ∷ []
    → p.start ≡ length s.arena.literals.items → p.end ≡ length s.arena.literals.items + length clause → p.deleted ≡ 0
    → t.given ≡ s.given → t.filled ≡ s.filled → t.round ≡ s.round → IsOrderly t
IsOrderly-push s t p clause rules later ls ps start end alive g fi r =
    let old = s.arena.places.items in
    let ids : ids_at t.arena.places.items ≡ ids_at old ++ p.id ∷ [] = ap ids_at ps ∙ ids-put old p in
    let more : length t.arena.places.items ≡ length old + 1 = ap length ps ∙ length-append old (p ∷ []) in
    let count : length (ids_at old) ≡ length old = length-map old (λ (q : Place). q.id) in
    let clauses : clauses_in t.arena ≡ clauses_in s.arena ++ clause ∷ [] = clauses_in-put s.arena t.arena p clause rules.packed ls ps start end in
    let held : length (clauses_in s.arena) ≡ length old = length-map old (clause_in s.arena.literals.items) in
    record {
      packed = subst (λ (qs : List Place). IsPacked t.arena.literals.items qs) (sym ps)
          (subst (λ (xs : List Lit). IsPacked xs (old ++ p ∷ [])) (sym ls) (IsPacked-put s.arena.literals.items clause old p rules.packed start end));
      given = omega (arith, rules.given);
      ascending = subst Ascend (sym ids) (Ascend-push (ids_at old) p.id rules.ascending later);
      numbered = λ k below. ap (λ xs. get_or xs k 0) ids ∙ get_or_append_left (ids_at old) (p.id ∷ []) 0 k (omega (arith, rules.given)) ∙ rules.numbered k (omega arith);
      filled = fi ∙ rules.filled ∙ ap filled_front (sym (take-append-le s.given (clauses_in s.arena) (clause ∷ []) (omega (arith, rules.given))))
          ∙ ap (λ cs. filled_front (take s.given cs)) (sym clauses) ∙ ap (λ n. filled_front (take n (clauses_in t.arena))) (sym g);
      rounds = subst (λ n. AreDeletedBelow (n + 1) t.arena.places.items) (sym r)
          (subst (λ (qs : List Place). AreDeletedBelow (s.round + 1) qs) (sym ps) (AreDeletedBelow-put old p (s.round + 1) rules.rounds (omega arith)));
      begun = omega (arith, rules.begun);
    }

-- a look by halves among ascending ids
pub search_low : (ps : List Place) (m id : ℕ) (d : Place) → Ascend (ids_at ps) → m < length ps → (get_or ps m d).id < id
    → (k : ℕ) → k < m + 1 → get_or (ids_at ps) k 0 < id
search_low ps m id d ascend inside less k below =
    let count : length (ids_at ps) ≡ length ps = length-map ps (λ (q : Place). q.id) in
    omega (arith, non_decreasing (ids_at ps) ascend k m (omega arith) (omega arith), get_or-map (λ (q : Place). q.id) ps m d 0 inside)

pub search_high : (ps : List Place) (m id : ℕ) (d : Place) → Ascend (ids_at ps) → m < length ps → id ≤ (get_or ps m d).id → ((get_or ps m d).id ≡ id → ⊥)
    → (k : ℕ) → m ≤ k → k < length ps → id < get_or (ids_at ps) k 0
search_high ps m id d ascend inside least differs k above below =
    let count : length (ids_at ps) ≡ length ps = length-map ps (λ (q : Place). q.id) in
    let before : get_or (ids_at ps) m 0 ≤ get_or (ids_at ps) k 0 = non_decreasing (ids_at ps) ascend m k above (omega arith) in
    let at : get_or (ids_at ps) m 0 ≡ (get_or ps m d).id = get_or-map (λ (q : Place). q.id) ps m d 0 inside in
    elim (cases_eq (get_or ps m d).id id) [
      | inl same ↦ absurd (differs same)
      | inr other ↦ omega arith
    ]

-- a store of the given clauses alone
numbered_last : (ids : List ℕ) (n : ℕ) → length ids ≡ n → ((k : ℕ) → k < length ids → get_or ids k 0 ≡ k + 1) → last_of ids ≡ n
numbered_last ids zero e is = get_or_past ids (length ids - 1) 0 (omega arith)
numbered_last ids (suc n) e is = omega (arith, is (length ids - 1) (omega arith))

abbrev numbered_from : List (List Lit) → List (ℕ × List Lit)
numbered_from given = numbered 1 given

pub state_new : (s : Inside) (given : List (List Lit)) → clauses_in s.arena ≡ given → s.given ≡ length s.arena.places.items
    → AreNumbered (length s.arena.places.items) s.arena.places.items → AreDeletedBelow s.round s.arena.places.items → s.finished ≡ list_any is_empty given
    → state_of s ≡ start given
state_new s given cs g is fresh f =
    let ps = s.arena.places.items in
    let count : length (clauses_in s.arena) ≡ length ps = length-map ps (clause_in s.arena.literals.items) in
    let ids : length (ids_at ps) ≡ length ps = length-map ps (λ (q : Place). q.id) in
    let marks : length (flags_at s.round ps) ≡ length ps = length-map ps (λ (q : Place). not (eqb q.deleted s.round)) in
    let whole : take s.given (clauses_in s.arena) ≡ given = take_all s.given (clauses_in s.arena) (omega arith) ∙ cs in
    let held : held_of (ids_at ps) (flags_at s.round ps) (clauses_in s.arena) ≡ numbered_from given =
    held_of-numbered (ids_at ps) (flags_at s.round ps) (clauses_in s.arena) 1 (omega arith) (omega arith)
    (λ k below. omega (arith, is k (omega arith))) (λ k below. flags_all ps s.round fresh k (omega arith)) ∙ ap numbered_from cs in
    let last : last_of (ids_at ps) ≡ length given = numbered_last (ids_at ps) (length given) (omega (arith, ap length cs)) (λ k below. is k (omega arith)) in
    λ j. record { given = whole j; held = held j; last = last j; finished = f j }

-- the clauses that are kept at a restart
kept_clauses : (s : Inside) (r k : Arena) (kept : ℕ) → r.literals.items ≡ s.arena.literals.items → r.places.items ≡ s.arena.places.items
    → clauses_in k ≡ take kept (clauses_in r) → clauses_in k ≡ take kept (clauses_in s.arena)
kept_clauses s r k kept ls ps cs = cs ∙ (λ i. take kept (clauses_at (ls i) (ps i)))

pub restart_given : (s : Inside) (r k : Arena) (kept n : ℕ) → IsOrderly s → kept ≤ s.given → r.literals.items ≡ s.arena.literals.items
    → r.places.items ≡ s.arena.places.items → k.places.items ≡ take kept r.places.items → clauses_in k ≡ take kept (clauses_in r)
    → IsPacked k.literals.items k.places.items → n ≡ min s.filled kept → IsGiven k n
restart_given s r k kept n rules within ls ps places cs packed is =
    let clauses = kept_clauses s r k kept ls ps cs in
    let same : k.places.items ≡ take kept s.arena.places.items = places ∙ ap (take kept) ps in
    let count : length k.places.items ≡ kept = ap length same ∙ length-take-le kept s.arena.places.items (omega (arith, rules.given)) in
    record {
      packed = packed;
      numbered = λ i below. ap (λ (qs : List Place). get_or (ids_at qs) i 0) same ∙ AreNumbered-take s.arena.places.items s.given kept rules.numbered within i (omega arith);
      front = is ∙ ap (λ f. min f kept) rules.filled ∙ sym (filled-take kept (take s.given (clauses_in s.arena)))
          ∙ ap filled_front (take_within kept s.given (clauses_in s.arena) within) ∙ ap filled_front (sym clauses);
    }

pub restart_orderly : (t : Inside) → IsGiven t.arena t.filled → t.given ≡ length t.arena.places.items → AreDeletedBelow t.round t.arena.places.items → 0 < t.round → IsOrderly t
restart_orderly t given g fresh begun =
    let ps = t.arena.places.items in
    let count : length (ids_at ps) ≡ length ps = length-map ps (λ (q : Place). q.id) in
    let held : length (clauses_in t.arena) ≡ length ps = length-map ps (clause_in t.arena.literals.items) in
    record {
      packed = given.packed;
      given = omega arith;
      ascending = λ i j less below. omega (arith, given.numbered i (omega arith), given.numbered j (omega arith));
      numbered = λ k below. given.numbered k (omega arith);
      filled = given.front ∙ ap filled_front (sym (take_all t.given (clauses_in t.arena) (omega arith)));
      rounds = λ i d below. omega (arith, fresh i d below);
      begun = begun;
    }

pub restart_state : (s t : Inside) (r k : Arena) (kept : ℕ) (more : List (List Lit)) (before : ProofState) → state_of s ≡ before → kept ≤ s.given
    → r.literals.items ≡ s.arena.literals.items → r.places.items ≡ s.arena.places.items → clauses_in k ≡ take kept (clauses_in r)
    → clauses_in t.arena ≡ clauses_in k ++ more → IsGiven t.arena t.filled → t.given ≡ length t.arena.places.items
    → AreDeletedBelow t.round t.arena.places.items → t.finished ≡ leb (suc t.filled) t.given → state_of t ≡ start (take kept before.given ++ more)
restart_state s t r k kept more before view within ls ps cs added given g fresh f =
    let held : length (clauses_in t.arena) ≡ length t.arena.places.items = length-map t.arena.places.items (clause_in t.arena.literals.items) in
    let kept_are : clauses_in k ≡ take kept before.given =
    kept_clauses s r k kept ls ps cs ∙ sym (take_within kept s.given (clauses_in s.arena) within) ∙ ap (λ (x : ProofState). take kept x.given) view in
    let all : clauses_in t.arena ≡ take kept before.given ++ more = added ∙ ap (λ xs. xs ++ more) kept_are in
    let finished : t.finished ≡ list_any is_empty (clauses_in t.arena) =
    f ∙ ap (λ n. leb (suc n) t.given) given.front ∙ ap (leb (suc (filled_front (clauses_in t.arena)))) (omega arith) ∙ sym (filled-empty (clauses_in t.arena)) in
    state_new t (take kept before.given ++ more) all g given.numbered fresh (finished ∙ ap (list_any is_empty) all)

pub restart_fresh : (s : Inside) (places : List Place) (kept round : ℕ) → IsOrderly s → kept ≤ s.given → places ≡ take kept s.arena.places.items
    → round ≡ s.round + 1 → AreDeletedBelow round places
restart_fresh s places kept round rules within same next =
    subst (λ (qs : List Place). AreDeletedBelow round qs) (sym same)
    (AreDeletedBelow-take s.arena.places.items kept round (subst (λ n. AreDeletedBelow n s.arena.places.items) (sym next) rules.rounds) (omega (arith, rules.given)))

pub given_count : (s : Inside) (before : ProofState) → IsOrderly s → state_of s ≡ before → length before.given ≡ s.given
given_count s before rules view =
    ap (λ (x : ProofState). length x.given) (sym view)
    ∙ length-take-le s.given (clauses_in s.arena) (omega (arith, rules.given, length-map s.arena.places.items (clause_in s.arena.literals.items)))

-- what a look among the places says of the clause that is held
pub find_none : (s : Inside) (seen : List Place) (id : ℕ) → seen ≡ s.arena.places.items → ((k : ℕ) → k < length seen → get_or (ids_at seen) k 0 ≢ id)
    → clause_at (state_of s).held id ≡ None
find_none s seen id same lacks =
    found_absent (ids_at s.arena.places.items) (ids_at seen) (flags_at s.round s.arena.places.items) (clauses_in s.arena) id (ap ids_at same)
    (λ k below. lacks k (omega (arith, length-map seen (λ (q : Place). q.id))))

pub find_at : (s : Inside) (seen : List Place) (n id : ℕ) (p : Place) (b : Bool) → IsOrderly s → seen ≡ s.arena.places.items → n < length seen
    → get_or (ids_at seen) n 0 ≡ id → p ≡ get_or s.arena.places.items n p → eqb p.deleted s.round ≡ b
    → clause_at (state_of s).held id ≡ cond (not b) (Some (clause_in s.arena.literals.items p)) None
find_at s seen n id p b rules same below there is test =
    let ps = s.arena.places.items in
    let ls = s.arena.literals.items in
    let inside : n < length ps = omega (arith, ap length same) in
    let ids : length (ids_at ps) ≡ length ps = length-map ps (λ (q : Place). q.id) in
    let clauses : length (clauses_in s.arena) ≡ length ps = length-map ps (clause_in ls) in
    let flags : length (flags_at s.round ps) ≡ length ps = length-map ps (λ (q : Place). not (eqb q.deleted s.round)) in
    let flag : (e : Bool) → not b ≡ get_or (flags_at s.round ps) n e = λ e.
    ap not (sym test) ∙ ap (λ (q : Place). not (eqb q.deleted s.round)) is ∙ sym (get_or-map (λ (q : Place). not (eqb q.deleted s.round)) ps n p e inside) in
    found_at (ids_at ps) (ids_at seen) (flags_at s.round ps) (clauses_in s.arena) n id (not b) (not b) (ap ids_at same) (omega arith) (omega arith) rules.ascending
    (omega (arith, length-map seen (λ (q : Place). q.id))) there (flag (not b)) refl
    ∙ ap (λ o. cond (not b) o None)
    (slice_get-get_or (clauses_in s.arena) n [] (omega arith) ∙ ap (λ c. Some c) (get_or-map (clause_in ls) ps n p [] inside ∙ ap (clause_in ls) (sym is)))

-- a store of which one clause is deleted
pub set_at : {B : Type 0} (f : Place → B) (ps : List Place) (n : ℕ) (q p : Place) → n < length ps → f q ≡ f p → p ≡ get_or ps n p
    → (i : ℕ) (d : Place) → i < length ps → f (get_or (set ps n q) i d) ≡ f (get_or ps i d)
set_at f ps n q p inside same is i d below =
    elim (cases_eq i n) [
      | inl here ↦
          ap (λ k. f (get_or (set ps n q) k d)) here ∙ ap f (get_or-set_same ps n q d inside) ∙ same ∙ ap f is ∙ ap f (default_free ps n p d inside)
          ∙ ap (λ k. f (get_or ps k d)) (sym here)
      | inr other ↦ ap f (get_or-set_other ps n i q d other)
    ]

pub ids-set : (ps : List Place) (n : ℕ) (q p : Place) → q.id ≡ p.id → p ≡ get_or ps n p → ids_at (set ps n q) ≡ ids_at ps
ids-set ps n q p same is = map-set_same (λ (x : Place). x.id) ps n q p (same ∙ ap (λ (x : Place). x.id) is)

clauses-set : (ls : List Lit) (ps : List Place) (n : ℕ) (q p : Place) → q.start ≡ p.start → q.end ≡ p.end → p ≡ get_or ps n p → clauses_at ls (set ps n q) ≡ clauses_at ls ps
clauses-set ls ps n q p start end is = map-set_same (clause_in ls) ps n q p ((λ i. slice_range ls (start i) (end i)) ∙ ap (clause_in ls) is)

pub IsOrderly-unset : (s t : Inside) (n : ℕ) (q p : Place) → IsOrderly s → n < length s.arena.places.items → p ≡ get_or s.arena.places.items n p
    → q.id ≡ p.id → q.start ≡ p.start → q.end ≡ p.end → q.deleted ≡ s.round → t.arena.literals.items ≡ s.arena.literals.items
    → t.arena.places.items ≡ set s.arena.places.items n q → t.given ≡ s.given → t.filled ≡ s.filled → t.round ≡ s.round → IsOrderly t
IsOrderly-unset s t n q p rules inside is id start end gone ls ps g fi r =
    let old = s.arena.places.items in
    let count : length t.arena.places.items ≡ length old = ap length ps ∙ length-set old n q in
    let starts : (i : ℕ) (d : Place) → i < length old → (get_or t.arena.places.items i d).start ≡ (get_or old i d).start = λ i d below.
    ap (λ (xs : List Place). (get_or xs i d).start) ps ∙ set_at (λ (x : Place). x.start) old n q p inside start is i d below in
    let ends : (i : ℕ) (d : Place) → i < length old → (get_or t.arena.places.items i d).end ≡ (get_or old i d).end = λ i d below.
    ap (λ (xs : List Place). (get_or xs i d).end) ps ∙ set_at (λ (x : Place). x.end) old n q p inside end is i d below in
    let ids : ids_at t.arena.places.items ≡ ids_at old = ap ids_at ps ∙ ids-set old n q p id is in
    let clauses : clauses_in t.arena ≡ clauses_in s.arena = (λ i. clauses_at (ls i) (ps i)) ∙ clauses-set s.arena.literals.items old n q p start end is in
    record {
      packed = record {
        forward = λ i d below. omega (arith, starts i d (omega arith), ends i d (omega arith), rules.packed.forward i d (omega arith));
        inside = λ i d below. omega (arith, ends i d (omega arith), rules.packed.inside i d (omega arith), ap length ls);
        apart = λ i j d less below. omega (arith, ends i d (omega arith), starts j d (omega arith), rules.packed.apart i j d less (omega arith));
      };
      given = omega (arith, rules.given);
      ascending = subst Ascend (sym ids) rules.ascending;
      numbered = λ k below. ap (λ xs. get_or xs k 0) ids ∙ rules.numbered k (omega arith);
      filled = fi ∙ rules.filled ∙ ap (λ cs. filled_front (take s.given cs)) (sym clauses) ∙ ap (λ m. filled_front (take m (clauses_in t.arena))) (sym g);
      rounds = λ i d below. elim (cases_eq i n) [
        | inl here ↦
            omega (
              arith,
              ap (λ (xs : List Place). (get_or xs i d).deleted) ps,
              ap (λ k. (get_or (set old n q) k d).deleted) here,
              ap (λ (x : Place). x.deleted) (get_or-set_same old n q d inside),
            )
        | inr other ↦
            omega (
              arith,
              ap (λ (xs : List Place). (get_or xs i d).deleted) ps,
              ap (λ (x : Place). x.deleted) (get_or-set_other old n i q d other),
              rules.rounds i d (omega arith),
            )
      ];
      begun = omega (arith, rules.begun);
    }

pub state_unset : (s t : Inside) (seen : List Place) (n id : ℕ) (q p : Place) → IsOrderly s → seen ≡ s.arena.places.items → n < length seen
    → get_or (ids_at seen) n 0 ≡ id → p ≡ get_or s.arena.places.items n p
    → q.id ≡ p.id → q.start ≡ p.start → q.end ≡ p.end → q.deleted ≡ s.round → t.arena.literals.items ≡ s.arena.literals.items
    → t.arena.places.items ≡ set s.arena.places.items n q → t.given ≡ s.given → t.round ≡ s.round → t.finished ≡ s.finished
    → state_of t ≡ with_deletion (state_of s) (id ∷ [])
state_unset s t seen n id q p rules same below there is qid start end gone ls ps g r f =
    let old = s.arena.places.items in
    let ids : ids_at t.arena.places.items ≡ ids_at old = ap ids_at ps ∙ ids-set old n q p qid is in
    let clauses : clauses_in t.arena ≡ clauses_in s.arena = (λ i. clauses_at (ls i) (ps i)) ∙ clauses-set s.arena.literals.items old n q p start end is in
    let flags : flags_at t.round t.arena.places.items ≡ set (flags_at s.round old) n false =
    (λ i. flags_at (r i) (ps i)) ∙ map-set (λ (x : Place). not (eqb x.deleted s.round)) old n q
    ∙ ap (λ b. set (flags_at s.round old) n (not b)) (eq-eqb q.deleted s.round gone) in
    let held : held_of (ids_at t.arena.places.items) (flags_at t.round t.arena.places.items) (clauses_in t.arena)
    ≡ without (held_of (ids_at old) (flags_at s.round old) (clauses_in s.arena)) (id ∷ []) =
    (λ i. held_of (ids i) (flags i) (clauses i))
    ∙ unset_at (ids_at old) (ids_at seen) (flags_at s.round old) (clauses_in s.arena) n id (ap ids_at same)
    (omega (arith, length-map old (λ (x : Place). x.id), length-map old (clause_in s.arena.literals.items)))
    (omega (arith, length-map old (λ (x : Place). not (eqb x.deleted s.round)), length-map old (clause_in s.arena.literals.items)))
    rules.ascending (omega (arith, length-map seen (λ (x : Place). x.id))) there in
    let given : take t.given (clauses_in t.arena) ≡ take s.given (clauses_in s.arena) = (λ i. take (g i) (clauses i)) in
    λ i. record { given = given i; held = held i; last = last_of (ids i); finished = f i }

pub state_same : (s : Inside) (seen : List Place) (id : ℕ) → seen ≡ s.arena.places.items → ((k : ℕ) → k < length seen → get_or (ids_at seen) k 0 ≢ id)
    → state_of s ≡ with_deletion (state_of s) (id ∷ [])
state_same s seen id same lacks =
    ap (λ held. record (state_of s) { held = held })
    (sym (absent_unset (ids_at s.arena.places.items) (ids_at seen) (flags_at s.round s.arena.places.items) (clauses_in s.arena) id (ap ids_at same)
    (λ k below. lacks k (omega (arith, length-map seen (λ (q : Place). q.id))))))

-- to delete one id and then more
pub delete_step : (s t u : ProofState) (id : ℕ) (more all : List ℕ) → t ≡ with_deletion s (id ∷ []) → with_deletion s all ≡ u → all ≡ id ∷ more
    → with_deletion t more ≡ u
delete_step s t u id more all e before is =
    ap (λ (x : ProofState). with_deletion x more) e ∙ ap (λ held. record s { held = held }) (without-cons s.held id more)
    ∙ ap (with_deletion s) (sym is) ∙ before

pub delete_end : (s u : ProofState) (all : List ℕ) → with_deletion s all ≡ u → all ≡ [] → s ≡ u
delete_end s u all before none =
    ap (λ held. record s { held = held }) (sym (without-nil s.held)) ∙ ap (with_deletion s) (sym none) ∙ before
