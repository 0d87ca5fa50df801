-- Laws of clauses that stand one behind the other.
use Rattle.std.proofs.Common.{◌≡◌, ◌≢◌, ℕ, zero, suc, ◌+◌, ◌-◌, ◌<◌, ◌≤◌, min, Bool, true, false, not, ◌&&◌, ◌||◌, cond, eqb, leb, List, [], ◌∷◌, ◌++◌, length, get_or, take, drop, map, refl, ap, sym, subst, ◌∙◌, inl, inr, arith, length-append, lt_irrefl, add-one}
use Rattle.std.specs.List.{list_any}
use Rattle.std.proofs.lemmas.Bool.{cases_lt, ne_eqb, le-leb}
use Rattle.std.proofs.lemmas.List.{get_or_append_left, get_or_push, get_or-take, take_all, take-append-le, drop-append-le, drop-take, length-drop, length-take-le, length-map, map-append, take-map}
use Rattle.std.proofs.Math.Seq.{drop-append_seam, drop-cons}
use Rattle.std.proofs.Math.Dec.{eqb-suc-suc, eqb-zero-suc, leb-suc-suc}
use Rattle.std.proofs.Math.Nat.{min-eq_left, min-eq_right}
use Rattle.proof_semantics.specs.Proofs.{is_empty}
use Rattle.proof_semantics.specs.declared.literals.Lit.{Lit}
use Rattle.lrat.specs.ArenaOf.{clause_in, clauses_at, clauses_in, ids_at, flags_at, filled_front, literal_count, IsGiven, IsPacked, AreNumbered, AreDeletedBelow}
use Rattle.lrat.specs.declared.arena.Arena.{Arena}
use Rattle.lrat.specs.declared.arena.Place.{Place}

map_same : {X Y : Type 0} (f g : X → Y) (xs : List X) → ((i : ℕ) (d : X) → i < length xs → f (get_or xs i d) ≡ g (get_or xs i d)) → map f xs ≡ map g xs
map_same f g [] same = refl
map_same f g (x ∷ xs) same =
    ap (λ y. y ∷ map f xs) (same 0 x (omega arith)) ∙ ap (λ ys. g x ∷ ys) (map_same f g xs (λ i d below. same (suc i) d (omega arith)))

pub take_within : {X : Type 0} (n m : ℕ) (xs : List X) → n ≤ m → take n (take m xs) ≡ take n xs
take_within zero m xs within = refl
take_within (suc n) zero xs within = absurd (omega arith)
take_within (suc n) (suc m) [] within = refl
take_within (suc n) (suc m) (x ∷ xs) within = ap (λ ys. x ∷ ys) (take_within n m xs (omega arith))

-- a clause stays where literals are put behind it, or cut off behind it
clause_in-append : (ls more : List Lit) (p : Place) → p.start ≤ p.end → p.end ≤ length ls → clause_in (ls ++ more) p ≡ clause_in ls p
clause_in-append ls more p forward inside =
    ap (take (p.end - p.start)) (drop-append-le p.start ls more (omega arith))
    ∙ take-append-le (p.end - p.start) (drop p.start ls) more (omega (arith, length-drop p.start ls))

clause_in-take : (ls : List Lit) (m : ℕ) (p : Place) → p.start ≤ p.end → p.end ≤ m → clause_in (take m ls) p ≡ clause_in ls p
clause_in-take ls m p forward inside =
    let whole : m ≡ p.start + (m - p.start) = omega arith in
    ap (λ n. take (p.end - p.start) (drop p.start (take n ls))) whole
    ∙ ap (take (p.end - p.start)) (drop-take p.start (m - p.start) ls)
    ∙ take_within (p.end - p.start) (m - p.start) (drop p.start ls) (omega arith)

clause_in-new : (ls c : List Lit) (p : Place) → p.start ≡ length ls → p.end ≡ length ls + length c → clause_in (ls ++ c) p ≡ c
clause_in-new ls c p start end =
    ap (λ n. take (p.end - p.start) (drop n (ls ++ c))) start
    ∙ ap (take (p.end - p.start)) (drop-append_seam ls c)
    ∙ take_all (p.end - p.start) c (omega arith)

pub clauses-put : (ls c : List Lit) (ps : List Place) (p : Place) → IsPacked ls ps → p.start ≡ length ls → p.end ≡ length ls + length c
    → clauses_at (ls ++ c) (ps ++ p ∷ []) ≡ clauses_at ls ps ++ c ∷ []
clauses-put ls c ps p packed start end =
    map-append (clause_in (ls ++ c)) ps (p ∷ [])
    ∙ ap (λ cs. cs ++ clause_in (ls ++ c) p ∷ [])
    (map_same (clause_in (ls ++ c)) (clause_in ls) ps (λ i d below. clause_in-append ls c (get_or ps i d) (packed.forward i d below) (packed.inside i d below)))
    ∙ ap (λ x. clauses_at ls ps ++ x ∷ []) (clause_in-new ls c p start end)

-- an element that is there is the same whatever stands for those that are not
pub default_free : (ps : List Place) (i : ℕ) (e d : Place) → i < length ps → get_or ps i e ≡ get_or ps i d
default_free [] i e d below = absurd (omega arith)
default_free (p ∷ ps) zero e d below = refl
default_free (p ∷ ps) (suc i) e d below = default_free ps i e d (omega arith)

pub clauses-cut : (ls : List Lit) (ps : List Place) (k : ℕ) (d : Place) → IsPacked ls ps → k < length ps
    → clauses_at (take (get_or ps k d).start ls) (take k ps) ≡ take k (clauses_at ls ps)
clauses-cut ls ps k d packed below =
    map_same (clause_in (take (get_or ps k d).start ls)) (clause_in ls) (take k ps)
    (λ i e inside.
    let within : i < k = omega (arith, length-take-le k ps (omega arith)) in
    let same : get_or (take k ps) i e ≡ get_or ps i d = get_or-take k ps i e within ∙ default_free ps i e d (omega arith) in
    subst (λ p. clause_in (take (get_or ps k d).start ls) p ≡ clause_in ls p) (sym same)
    (clause_in-take ls (get_or ps k d).start (get_or ps i d) (packed.forward i d (omega arith)) (packed.apart i k d within below)))
    ∙ sym (take-map (clause_in ls) k ps)

pub IsPacked-put : (ls c : List Lit) (ps : List Place) (p : Place) → IsPacked ls ps → p.start ≡ length ls → p.end ≡ length ls + length c → IsPacked (ls ++ c) (ps ++ p ∷ [])
IsPacked-put ls c ps p packed start end =
    let more : length (ps ++ p ∷ []) ≡ length ps + 1 = length-append ps (p ∷ []) in
    let literals : length (ls ++ c) ≡ length ls + length c = length-append ls c in
    let old : (i : ℕ) (d : Place) → i < length ps → get_or (ps ++ p ∷ []) i d ≡ get_or ps i d = λ i d below. get_or_append_left ps (p ∷ []) d i below in
    let new : (i : ℕ) (d : Place) → length ps ≡ i → get_or (ps ++ p ∷ []) i d ≡ p = λ i d is. get_or_push ps p d i is in
    record {
      forward = λ i d below. elim (cases_lt i (length ps)) [
        | inl before ↦ subst (λ (q : Place). q.start ≤ q.end) (sym (old i d before)) (packed.forward i d before)
        | inr past ↦ subst (λ (q : Place). q.start ≤ q.end) (sym (new i d (omega arith))) (omega arith)
      ];
      inside = λ i d below. elim (cases_lt i (length ps)) [
        | inl before ↦ subst (λ (q : Place). q.end ≤ length (ls ++ c)) (sym (old i d before)) (omega (arith, packed.inside i d before))
        | inr past ↦ subst (λ (q : Place). q.end ≤ length (ls ++ c)) (sym (new i d (omega arith))) (omega arith)
      ];
      apart = λ i j d less below. elim (cases_lt j (length ps)) [
        | inl before ↦
            subst (λ (q : Place). q.end ≤ (get_or (ps ++ p ∷ []) j d).start) (sym (old i d (omega arith)))
            (subst (λ (q : Place). (get_or ps i d).end ≤ q.start) (sym (old j d before)) (packed.apart i j d less before))
        | inr past ↦
            subst (λ (q : Place). q.end ≤ (get_or (ps ++ p ∷ []) j d).start) (sym (old i d (omega arith)))
            (subst (λ (q : Place). (get_or ps i d).end ≤ q.start) (sym (new j d (omega arith))) (omega (arith, packed.inside i d (omega arith))))
      ];
    }

pub IsPacked-cut : (ls : List Lit) (ps : List Place) (k : ℕ) (e : Place) → IsPacked ls ps → k < length ps → IsPacked (take (get_or ps k e).start ls) (take k ps)
IsPacked-cut ls ps k e packed inside =
    let fewer : length (take k ps) ≡ k = length-take-le k ps (omega arith) in
    let bound : (get_or ps k e).start ≤ length ls = omega (arith, packed.forward k e inside, packed.inside k e inside) in
    let literals : length (take (get_or ps k e).start ls) ≡ (get_or ps k e).start = length-take-le (get_or ps k e).start ls bound in
    let old : (i : ℕ) (d : Place) → i < k → get_or (take k ps) i d ≡ get_or ps i d = λ i d below. get_or-take k ps i d below in
    record {
      forward = λ i d below. subst (λ (q : Place). q.start ≤ q.end) (sym (old i d (omega arith))) (packed.forward i d (omega arith));
      inside = λ i d below.
          subst (λ (q : Place). q.end ≤ length (take (get_or ps k e).start ls)) (sym (old i d (omega arith) ∙ default_free ps i d e (omega arith)))
          (omega (arith, packed.apart i k e (omega arith) inside));
      apart = λ i j d less below.
          subst (λ (q : Place). q.end ≤ (get_or (take k ps) j d).start) (sym (old i d (omega arith)))
          (subst (λ (q : Place). (get_or ps i d).end ≤ q.start) (sym (old j d (omega arith))) (packed.apart i j d less (omega arith)));
    }

-- ids
pub ids-put : (ps : List Place) (p : Place) → ids_at (ps ++ p ∷ []) ≡ ids_at ps ++ p.id ∷ []
ids-put ps p = map-append (λ (q : Place). q.id) ps (p ∷ [])

pub AreNumbered-put : (ps : List Place) (p : Place) → AreNumbered (length ps) ps → p.id ≡ length ps + 1 → AreNumbered (length (ps ++ p ∷ [])) (ps ++ p ∷ [])
AreNumbered-put ps p numbered is k below =
    let more : length (ps ++ p ∷ []) ≡ length ps + 1 = length-append ps (p ∷ []) in
    let count : length (ids_at ps) ≡ length ps = length-map ps (λ (q : Place). q.id) in
    elim (cases_lt k (length ps)) [
      | inl before ↦ omega (arith, numbered k before, ap (λ xs. get_or xs k 0) (ids-put ps p), get_or_append_left (ids_at ps) (p.id ∷ []) 0 k (omega arith))
      | inr past ↦ omega (arith, ap (λ xs. get_or xs k 0) (ids-put ps p), get_or_push (ids_at ps) p.id 0 k (omega arith))
    ]

pub AreNumbered-take : (ps : List Place) (n k : ℕ) → AreNumbered n ps → k ≤ n → AreNumbered k (take k ps)
AreNumbered-take ps n k numbered within i below =
    ap (λ xs. get_or xs i 0) (sym (take-map (λ (q : Place). q.id) k ps)) ∙ get_or-take k (ids_at ps) i 0 below ∙ numbered i (omega arith)

-- rounds
pub AreDeletedBelow-put : (ps : List Place) (p : Place) (round : ℕ) → AreDeletedBelow round ps → p.deleted < round → AreDeletedBelow round (ps ++ p ∷ [])
AreDeletedBelow-put ps p round old new i d below =
    let more : length (ps ++ p ∷ []) ≡ length ps + 1 = length-append ps (p ∷ []) in
    elim (cases_lt i (length ps)) [
      | inl before ↦ subst (λ (q : Place). q.deleted < round) (sym (get_or_append_left ps (p ∷ []) d i before)) (old i d before)
      | inr past ↦ subst (λ (q : Place). q.deleted < round) (sym (get_or_push ps p d i (omega arith))) new
    ]

pub AreDeletedBelow-take : (ps : List Place) (k round : ℕ) → AreDeletedBelow round ps → k ≤ length ps → AreDeletedBelow round (take k ps)
AreDeletedBelow-take ps k round old within i d below =
    let fewer : length (take k ps) ≡ k = length-take-le k ps within in
    subst (λ (q : Place). q.deleted < round) (sym (get_or-take k ps i d (omega arith))) (old i d (omega arith))

pub flags-put : (ps : List Place) (p : Place) (round : ℕ) → p.deleted ≢ round → flags_at round (ps ++ p ∷ []) ≡ flags_at round ps ++ true ∷ []
flags-put ps p round alive =
    map-append (λ (q : Place). not (eqb q.deleted round)) ps (p ∷ []) ∙ ap (λ b. flags_at round ps ++ not b ∷ []) (ne_eqb p.deleted round alive)

pub flags_all : (ps : List Place) (round : ℕ) → AreDeletedBelow round ps → (k : ℕ) → k < length ps → get_or (flags_at round ps) k true ≡ true
flags_all [] round old k below = absurd (omega arith)
flags_all (p ∷ ps) round old zero below = ap not (ne_eqb p.deleted round (λ same. lt_irrefl round (subst (λ n. n < round) same (old 0 p (omega arith)))))
flags_all (p ∷ ps) round old (suc k) below = flags_all ps round (λ i d inside. old (suc i) d (omega arith)) k (omega arith)

-- the front of clauses that are not empty
one_more : (t : Bool) (f : ℕ) → suc (cond t (f + 1) f) ≡ cond t (suc f + 1) (suc f)
one_more true f = omega arith
one_more false f = refl

put_none : (b : Bool) → ◌≡◌ {A = ℕ} (cond b 0 1) (cond (not b) 1 0)
put_none true = refl
put_none false = refl

put_step : (b e : Bool) (f n g : ℕ) → g ≡ cond (eqb f n && e) (f + 1) f
    → cond b 0 (suc g) ≡ cond (eqb (cond b 0 (suc f)) (suc n) && e) (cond b 0 (suc f) + 1) (cond b 0 (suc f))
put_step true e f n g is = ap (λ t. cond (t && e) 1 0) (sym (eqb-zero-suc n))
put_step false e f n g is = ap suc is ∙ one_more (eqb f n && e) f ∙ ap (λ t. cond (t && e) (suc f + 1) (suc f)) (sym (eqb-suc-suc f n))

pub filled-put : (cs : List (List Lit)) (c : List Lit)
    → filled_front (cs ++ c ∷ []) ≡ cond (eqb (filled_front cs) (length cs) && not (is_empty c)) (filled_front cs + 1) (filled_front cs)
filled-put [] c = put_none (is_empty c)
filled-put (x ∷ cs) c = put_step (is_empty x) (not (is_empty c)) (filled_front cs) (length cs) (filled_front (cs ++ c ∷ [])) (filled-put cs c)

short_step : (b : Bool) (f g k : ℕ) → (f ≤ k → g ≡ f) → cond b 0 (suc f) ≤ suc k → cond b 0 (suc g) ≡ cond b 0 (suc f)
short_step true f g k same below = refl
short_step false f g k same below = ap suc (same (omega arith))

filled_short : (k : ℕ) (cs : List (List Lit)) → filled_front cs ≤ k → filled_front (take k cs) ≡ filled_front cs
filled_short zero cs below = omega arith
filled_short (suc k) [] below = refl
filled_short (suc k) (x ∷ cs) below = short_step (is_empty x) (filled_front cs) (filled_front (take k cs)) k (filled_short k cs) below

long_step : (b : Bool) (f g k : ℕ) → (k ≤ f → g ≡ k) → suc k ≤ cond b 0 (suc f) → cond b 0 (suc g) ≡ suc k
long_step true f g k same above = absurd (omega arith)
long_step false f g k same above = ap suc (same (omega arith))

filled_long : (k : ℕ) (cs : List (List Lit)) → k ≤ filled_front cs → filled_front (take k cs) ≡ k
filled_long zero cs above = refl
filled_long (suc k) [] above = absurd (omega arith)
filled_long (suc k) (x ∷ cs) above = long_step (is_empty x) (filled_front cs) (filled_front (take k cs)) k (filled_long k cs) above

pub filled-take : (k : ℕ) (cs : List (List Lit)) → filled_front (take k cs) ≡ min (filled_front cs) k
filled-take k cs = elim (cases_lt k (filled_front cs)) [
  | inl long ↦ filled_long k cs (omega arith) ∙ sym (min-eq_right (omega arith))
  | inr short ↦ filled_short k cs short ∙ sym (min-eq_left short)
]

empty_step : (b t : Bool) (f n : ℕ) → t ≡ leb (suc f) n → (b || t) ≡ leb (suc (cond b 0 (suc f))) (suc n)
empty_step true t f n is = sym (le-leb 1 (suc n) (omega arith))
empty_step false t f n is = is ∙ sym (leb-suc-suc (suc f) n)

pub filled-empty : (cs : List (List Lit)) → list_any is_empty cs ≡ leb (suc (filled_front cs)) (length cs)
filled-empty [] = refl
filled-empty (x ∷ cs) = empty_step (is_empty x) (list_any is_empty cs) (filled_front cs) (length cs) (filled-empty cs)

-- the first of the elements that are left
pub drop_first : {A : Type 0} → (xs : List A) (i : ℕ) (d : A) → i < length xs → drop i xs ≡ get_or xs i d ∷ drop (i + 1) xs
drop_first xs i d below = rw (add-one, drop-cons xs i d) refl

-- the literals of the clauses from a place on
pub literal_count-drop : (cs : List (List Lit)) (i : ℕ) (d : List Lit) → i < length cs
    → literal_count (drop i cs) ≡ length (get_or cs i d) + literal_count (drop (i + 1) cs)
literal_count-drop cs i d below = ap literal_count (drop_first cs i d below)

-- an arena with one more clause, which has the number of its place
pub clauses_in-put : (a b : Arena) (p : Place) (clause : List Lit) → IsPacked a.literals.items a.places.items → b.literals.items ≡ a.literals.items ++ clause
    → b.places.items ≡ a.places.items ++ p ∷ [] → p.start ≡ length a.literals.items → p.end ≡ length a.literals.items + length clause
    → clauses_in b ≡ clauses_in a ++ clause ∷ []
clauses_in-put a b p clause packed ls ps start end =
    (λ i. clauses_at (ls i) (ps i)) ∙ clauses-put a.literals.items clause a.places.items p packed start end

pub IsGiven-put : (a b : Arena) (filled : ℕ) (p : Place) (clause : List Lit) → IsGiven a filled → b.literals.items ≡ a.literals.items ++ clause
    → b.places.items ≡ a.places.items ++ p ∷ [] → p.start ≡ length a.literals.items → p.end ≡ length a.literals.items + length clause
    → p.id ≡ length a.places.items + 1 → IsGiven b (cond (eqb filled (length a.places.items) && not (is_empty clause)) (filled + 1) filled)
IsGiven-put a b filled p clause given ls ps start end is =
    let clauses = clauses_in-put a b p clause given.packed ls ps start end in
    let count : length (clauses_in a) ≡ length a.places.items = length-map a.places.items (clause_in a.literals.items) in
    record {
      packed = subst (λ (qs : List Place). IsPacked b.literals.items qs) (sym ps)
          (subst (λ (xs : List Lit). IsPacked xs (a.places.items ++ p ∷ [])) (sym ls) (IsPacked-put a.literals.items clause a.places.items p given.packed start end));
      numbered = subst (λ (qs : List Place). AreNumbered (length qs) qs) (sym ps) (AreNumbered-put a.places.items p given.numbered is);
      front =
          ap (λ f. cond (eqb f (length a.places.items) && not (is_empty clause)) (f + 1) f) given.front
          ∙ ap (λ n. cond (eqb (filled_front (clauses_in a)) n && not (is_empty clause)) (filled_front (clauses_in a) + 1) (filled_front (clauses_in a))) (sym count)
          ∙ sym (filled-put (clauses_in a) clause) ∙ ap filled_front (sym clauses);
    }
