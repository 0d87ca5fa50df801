-- Laws of the steps that write a proof.
use Rattle.std.proofs.Common.{◌≡◌, ℕ, zero, suc, ◌+◌, ◌-◌, ◌^◌, ◌<◌, ◌≤◌, true, false, take, List, [], ◌∷◌, ◌++◌, length, get_or, map, Option, Some, None, refl, ap, sym, subst, ◌∙◌, ◌⊎◌, inl, inr, arith}
use Rattle.std.specs.Prelude.{slice_get, is_some, nat_lt, nat_le}
use Rattle.std.specs.List.{list_all}
use Rattle.std.specs.Option.{unwrap_or}
use Rattle.std.proofs.lemmas.Bool.{cases_Bool, false≢true, and_parts, and_from, le-leb, leb-true, leb-false}
use Rattle.std.proofs.lemmas.List.{length-append}
use Rattle.std.proofs.lemmas.Option.{none-some, slice_get_within, slice_get-get_or, get_or_from_slice_get}
use Rattle.proof_semantics.specs.Clauses.{negation}
use Rattle.proof_semantics.specs.Propagation.{hints_fault}
use Rattle.proof_semantics.specs.Lines.{AreSized, text_of}
use Rattle.proof_semantics.specs.declared.literals.Lit.{Lit}
use Rattle.cnf.specs.Clauses.{clause_numbered}
use Rattle.cdcl_log.specs.LoggedClauses.{LoggedClauses, added_of, IsLog}
use Rattle.cdcl_log.specs.Ids.{ids_from, count_added, given_id}
use Rattle.cdcl_log.specs.IdsOf.{id_in}
use Rattle.cdcl_log.specs.UnitClauses.{unit_clauses}
use Rattle.cdcl_log.specs.WithUnits.{no_sources, with_units}
use Rattle.cdcl_log.specs.Writing.{line_by, IsPartialProof, Proves}
use Rattle.cdcl_log.specs.WritingOf.{IsPartialProofIn, HaveIds, HasAllIds, HasLine, HasPut, HasVisited}
use Rattle.cdcl_log.specs.declared.writing.Writing.{Writing}
use Rattle.cdcl_log.proofs.LoggedLaws.{number_at-place}
use Rattle.cdcl_log.proofs.IdLaws.{counted_added, long_ids, id_found, id_given, given_near, given_far, unit_given}
use Rattle.cdcl_log.proofs.WithUnitsLaws.{units_log, slice_behind, none_at, long_sources, long_units, hints_more, same_hints, all_needed}
use Rattle.cdcl_log.proofs.WritingLaws.{number_put, number_above, hints_named, hints_renamed, some_has, written_none, written_put, written_proves, written_kept}

get_first : {X : Type 0} (xs ys : List X) (i : ℕ) → i < length xs → slice_get (xs ++ ys) i ≡ slice_get xs i
get_first [] ys i e = absurd (omega (arith, e))
get_first (x ∷ xs) ys zero e = refl
get_first (x ∷ xs) ys (suc i) e = get_first xs ys i (omega (arith, e))

one_before : (n : ℕ) → (n ≡ 0 → ⊥) → n ≡ (n - 1) + 1
one_before zero above = absurd (above refl)
one_before (suc n) above = omega arith

part_or_behind : (p m : ℕ) → (p < m) ⊎ ((i : ℕ) × (p ≡ m + i))
part_or_behind p m = elim (cases_Bool (nat_lt p m)) [
  | inl less ↦ inl (leb-true (suc p) m less)
  | inr more ↦ inr (p - m, apart p m more)
]
  where
    below : (m p : ℕ) → nat_le m p ≡ false → suc p ≤ m
    below m p e = omega (arith, leb-false m p e)

    apart : (p m : ℕ) → nat_lt p m ≡ false → p ≡ m + (p - m)
    apart p m e = elim (cases_Bool (nat_le m p)) [
      | inl is ↦ omega (arith, leb-true m p is)
      | inr isnt ↦ absurd (false≢true (sym e ∙ le-leb (suc p) m (below m p isnt)))
    ]

less : (n p : ℕ) → n ≡ p + 1 → n - 1 ≡ p
less n p is = omega (arith, is)

-- The first step.

begun_given : (log : LoggedClauses) (units : List Lit) (ids : ℕ → ℕ) → length units < 2 ^ 60 → count_added log.sources < 2 ^ 60
    → ((n : ℕ) → ids n ≡ given_id (ids_from 0 log.sources) (count_added log.sources) (length units) n)
    → (i : ℕ) → slice_get (log.sources ++ no_sources units) i ≡ Some None → nat_lt 0 (ids (i + 1)) ≡ true
begun_given log units ids few few_added is i source = elim (part_or_behind i (length log.sources)) [
  | inl near ↦
      ap (nat_lt 0) (is (i + 1) ∙ given_near (ids_from 0 log.sources) (count_added log.sources) (length units) (i + 1) i refl (omega (arith, near, long_ids 0 log.sources)))
      ∙ id_given 0 log.sources i (sym (get_first log.sources (no_sources units) i near) ∙ source)
  | inr far ↦
      ap (nat_lt 0)
      (is (i + 1)
      ∙ given_far (ids_from 0 log.sources) (count_added log.sources) (length units) (i + 1) i far.0 refl (omega (arith, far.1, long_ids 0 log.sources))
      ∙ unit_given (count_added log.sources) (length units) far.0
      (omega (arith, slice_get_within (log.sources ++ no_sources units) i None source, length-append log.sources (no_sources units), long_sources units, far.1)) few few_added)
      ∙ le-leb 1 (count_added log.sources + far.0 + 1) (omega arith)
]

begun_found : (log : LoggedClauses) (units : List Lit) (ids : ℕ → ℕ) → IsLog log → length units < 2 ^ 60 → count_added log.sources < 2 ^ 60
    → ((n : ℕ) → ids n ≡ given_id (ids_from 0 log.sources) (count_added log.sources) (length units) n)
    → (n : ℕ) (c : List Lit) → clause_numbered (log.clauses ++ unit_clauses units) n ≡ Some c → nat_lt 0 (ids n) ≡ true
    → (j : ℕ) × (ids n ≡ 1 + j) × (slice_get (added_of log ++ unit_clauses units) j ≡ Some c)
begun_found log units ids islog few few_added is n c at has =
    let number : n ≡ (n - 1) + 1 = one_before n (number_above (log.clauses ++ unit_clauses units) n c at) in
    let got : slice_get (log.clauses ++ unit_clauses units) (n - 1) ≡ Some c = number_at-place (log.clauses ++ unit_clauses units) n c at in
    elim (part_or_behind (n - 1) (length log.clauses)) [
      | inl near ↦
          let within : n - 1 < length (ids_from 0 log.sources) = omega (arith, near, long_ids 0 log.sources, islog.beside) in
          let value : ids n ≡ unwrap_or (slice_get (ids_from 0 log.sources) (n - 1)) 0 =
          is n ∙ given_near (ids_from 0 log.sources) (count_added log.sources) (length units) n (n - 1) number within in
          let found = slice_get-get_or (ids_from 0 log.sources) (n - 1) 0 within in
          let same : ids n ≡ get_or (ids_from 0 log.sources) (n - 1) 0 = value ∙ ap (λ o. unwrap_or o 0) found in
          let r = id_found 0 log.sources log.clauses (n - 1) (ids n) c (found ∙ ap (λ x. Some x) (sym same)) has (sym (get_first log.clauses (unit_clauses units) (n - 1) near) ∙ got) in
          (r.0, omega (arith, r.1), get_first (added_of log) (unit_clauses units) r.0 (slice_get_within (added_of log) r.0 c r.2) ∙ r.2)
      | inr far ↦
          let unit : slice_get (unit_clauses units) far.0 ≡ Some c = sym (slice_behind log.clauses (unit_clauses units) far.0 (n - 1) far.1) ∙ got in
          let value : ids n ≡ count_added log.sources + far.0 + 1 =
          is n
          ∙ given_far (ids_from 0 log.sources) (count_added log.sources) (length units) n (n - 1) far.0 number (omega (arith, far.1, long_ids 0 log.sources, islog.beside))
          ∙ unit_given (count_added log.sources) (length units) far.0 (omega (arith, slice_get_within (unit_clauses units) far.0 c unit, long_units units)) few few_added in (
            count_added log.sources + far.0,
            omega (arith, value),
            slice_behind (added_of log) (unit_clauses units) far.0 (count_added log.sources + far.0) (ap (λ m. m + far.0) (counted_added log.sources log.clauses islog.beside)) ∙ unit,
          )
    ]

-- Nothing is written.
pub begun : (log : LoggedClauses) (units : List Lit) (ids : ℕ → ℕ) (lines : List (List ℕ)) (greatest : ℕ) → IsLog log → AreSized units → length units < 2 ^ 60 → count_added log.sources < 2 ^ 60
    → ((n : ℕ) → ids n ≡ given_id (ids_from 0 log.sources) (count_added log.sources) (length units) n) → lines ≡ []
    → greatest ≡ count_added log.sources + length units → IsPartialProof (with_units log units) ids lines greatest
begun log units ids lines greatest islog sized few few_added is none last =
    let added : added_of (with_units log units) ≡ added_of log ++ unit_clauses units = (units_log log units islog sized).1 in
    written_none (with_units log units) ids lines greatest
    (last ∙ ap (λ m. m + length units) (counted_added log.sources log.clauses islog.beside) ∙ ap (λ m. length (added_of log) + m) (sym (long_units units))
    ∙ sym (length-append (added_of log) (unit_clauses units)) ∙ sym (ap length added))
    none (begun_given log units ids few few_added is)
    (λ n c at has. found_in added (begun_found log units ids islog few few_added is n c at has))
  where
    found_in : {xs ys : List (List Lit)} {id : ℕ} {c : List Lit} → xs ≡ ys → (j : ℕ) × (id ≡ 1 + j) × (slice_get ys j ≡ Some c) → (j : ℕ) × (id ≡ 1 + j) × (slice_get xs j ≡ Some c)
    found_in same r = (r.0, r.1, ap (λ cs. slice_get cs r.0) same ∙ r.2)

-- One step.

take_first : {X : Type 0} (xs : List X) (i n : ℕ) (x : X) → slice_get (take i xs) n ≡ Some x → slice_get xs n ≡ Some x
take_first xs zero n x e = absurd (none-some x e)
take_first [] (suc i) n x e = absurd (none-some x e)
take_first (y ∷ xs) (suc i) zero x e = e
take_first (y ∷ xs) (suc i) (suc n) x e = take_first xs i n x e

take_short : {X : Type 0} (xs : List X) (i n : ℕ) (x : X) → slice_get (take i xs) n ≡ Some x → n < i
take_short xs zero n x e = absurd (none-some x e)
take_short [] (suc i) n x e = absurd (none-some x e)
take_short (y ∷ xs) (suc i) zero x e = omega arith
take_short (y ∷ xs) (suc i) (suc n) x e = omega (arith, take_short xs i n x e)

put_written : (logged : LoggedClauses) (old new : Writing) (number : ℕ) (c : List Lit) (hints : List ℕ) → clause_numbered logged.clauses number ≡ Some c → AreSized c
    → hints_fault (clause_numbered logged.clauses) (map negation c) hints ≡ None → HaveIds old hints → HasPut old new number c hints → IsPartialProofIn logged old → IsPartialProofIn logged new
put_written logged old new number c hints at sized follows ready put written =
    written_put logged (id_in old.ids) (id_in new.ids) old.lines.items new.lines.items old.last new.last number c hints at put.small sized follows ready put.ids put.lines put.last written

reached_by : (logged : LoggedClauses) (old new : Writing) (number : ℕ) (s : Option (List ℕ)) (c : List Lit) → clause_numbered logged.clauses number ≡ Some c → AreSized c
    → ((hints : List ℕ) → s ≡ Some hints → hints_fault (clause_numbered logged.clauses) (map negation c) hints ≡ None)
    → HasVisited old new number s c → IsPartialProofIn logged old → IsPartialProofIn logged new
reached_by logged old new number None c at sized follows same written = subst (IsPartialProofIn logged) (sym same) written
reached_by logged old new number (Some hints) c at sized follows reached written = elim reached.step [
  | inl same ↦ subst (IsPartialProofIn logged) (sym same) written
  | inr put ↦ put_written logged old new number c hints at sized (follows hints refl) put.0 put.1 written
]

reached_kept : (old new : Writing) (number : ℕ) (s : Option (List ℕ)) (c : List Lit) (n : ℕ) → HasVisited old new number s c → nat_lt 0 (id_in old.ids n) ≡ true
    → nat_lt 0 (id_in new.ids n) ≡ true
reached_kept old new number None c n same has = subst (λ (w : Writing). nat_lt 0 (id_in w.ids n) ≡ true) (sym same) has
reached_kept old new number (Some hints) c n reached has = elim reached.step [
  | inl same ↦ subst (λ (w : Writing). nat_lt 0 (id_in w.ids n) ≡ true) (sym same) has
  | inr put ↦ written_kept (id_in old.ids) (id_in new.ids) number old.last n put.1.ids has
]

-- What the clause at a place follows from, among all clauses.
explained_at : (log : LoggedClauses) (units : List Lit) (place : ℕ) (c : List Lit) (hints : List ℕ) → IsLog log → slice_get log.clauses place ≡ Some c
    → slice_get log.sources place ≡ Some (Some hints) → hints_fault (clause_numbered (take place log.clauses)) (map negation c) hints ≡ None
explained_at log units place c hints islog at source =
    ap (λ d. hints_fault (clause_numbered (take place log.clauses)) (map negation d) hints) (sym (get_or_from_slice_get log.clauses place c [] at)) ∙ islog.explained place hints source

hints_taken : (clauses : List (List Lit)) (place : ℕ) (assumed : List Lit) (hints : List ℕ) → hints_fault (clause_numbered (take place clauses)) assumed hints ≡ None
    → hints_fault (clause_numbered clauses) assumed hints ≡ None
hints_taken clauses place assumed hints follows =
    ap (hints_fault (clause_numbered clauses) assumed) (sym (same_hints hints))
    ∙ hints_renamed (clause_numbered (take place clauses)) (clause_numbered clauses) (λ n. n) (λ _. true) assumed hints
    (λ n c is _. number_put clauses n c (number_above (take place clauses) n c is) (take_first clauses place (n - 1) c (number_at-place (take place clauses) n c is)))
    (all_needed hints) follows

-- a clause is reached
pub reached_written : (log : LoggedClauses) (units : List Lit) (old new : Writing) (place number : ℕ) (s : Option (List ℕ)) (c : List Lit) → IsLog log → AreSized units
    → number ≡ place + 1 → slice_get log.clauses place ≡ Some c → slice_get log.sources place ≡ Some s → HasVisited old new number s c
    → IsPartialProofIn (with_units log units) old → IsPartialProofIn (with_units log units) new
reached_written log units old new place number s c islog sized is at source reached written =
    reached_by (with_units log units) old new number s c
    (number_put (log.clauses ++ unit_clauses units) number c (λ e. omega (arith, e, is))
    (ap (slice_get (log.clauses ++ unit_clauses units)) (less number place is) ∙ get_first log.clauses (unit_clauses units) place (slice_get_within log.clauses place c at) ∙ at))
    (subst AreSized (get_or_from_slice_get log.clauses place c [] at) (islog.sized place))
    (λ hints same. hints_more log.clauses (unit_clauses units) (map negation c) hints
    (hints_taken log.clauses place (map negation c) hints (explained_at log units place c hints islog at (source ∙ ap (λ o. Some o) same))))
    reached written

-- hints of a clause are numbers of those before it
ready_before : (clauses : List (List Lit)) (place : ℕ) (w : Writing) (hints : List ℕ) → HasAllIds place w → list_all (λ n. is_some (clause_numbered (take place clauses) n)) hints ≡ true
    → HaveIds w hints
ready_before clauses place w [] all named = refl
ready_before clauses place w (n ∷ hints) all named =
    let names = and_parts _ _ named in
    let found = some_has (clause_numbered (take place clauses) n) names.0 in
    let number : n ≡ (n - 1) + 1 = one_before n (number_above (take place clauses) n found.0 found.1) in
    and_from _ _
    (all n (omega (arith, number)) (omega (arith, number, take_short clauses place (n - 1) found.0 (number_at-place (take place clauses) n found.0 found.1))))
    (ready_before clauses place w hints all names.1)

next_id : (log : LoggedClauses) (units : List Lit) (old new : Writing) (place number : ℕ) (s : Option (List ℕ)) (c : List Lit) → IsLog log
    → number ≡ place + 1 → slice_get log.clauses place ≡ Some c → slice_get log.sources place ≡ Some s → HasVisited old new number s c
    → IsPartialProofIn (with_units log units) old → HasAllIds place old → (n : ℕ) → n ≡ number → nat_lt 0 (id_in new.ids n) ≡ true
next_id log units old new place number None c islog is at source same written all n here =
    ap (λ m. nat_lt 0 (id_in new.ids m)) (here ∙ is)
    ∙ ap (λ (w : Writing). nat_lt 0 (id_in w.ids (place + 1))) same
    ∙ written.given place (get_first log.sources (no_sources units) place (slice_get_within log.sources place None source) ∙ source)
next_id log units old new place number (Some hints) c islog is at source reached written all n here =
    ap (λ m. nat_lt 0 (id_in new.ids m)) here
    ∙ reached.done (ready_before log.clauses place old hints all (hints_named _ _ hints (explained_at log units place c hints islog at source)))

unit_has : (log : LoggedClauses) (units : List Lit) (w : Writing) (n : ℕ) → IsLog log → IsPartialProofIn (with_units log units) w → length log.clauses < n
    → n ≤ length (log.clauses ++ unit_clauses units) → nat_lt 0 (id_in w.ids n) ≡ true
unit_has log units w n islog written behind below =
    let place : n ≡ (length log.clauses + (n - 1 - length log.clauses)) + 1 = omega (arith, behind) in
    ap (λ m. nat_lt 0 (id_in w.ids m)) place
    ∙ written.given (length log.clauses + (n - 1 - length log.clauses))
    (slice_behind log.sources (no_sources units) (n - 1 - length log.clauses) (length log.clauses + (n - 1 - length log.clauses)) (ap (λ m. m + (n - 1 - length log.clauses)) (sym islog.beside))
    ∙ none_at units (n - 1 - length log.clauses) (omega (arith, below, behind, length-append log.clauses (unit_clauses units), long_units units)))

-- all clauses before a place have ids, and so has the next one
pub reached_more : (log : LoggedClauses) (units : List Lit) (old new : Writing) (place number : ℕ) (s : Option (List ℕ)) (c : List Lit) → IsLog log
    → number ≡ place + 1 → slice_get log.clauses place ≡ Some c → slice_get log.sources place ≡ Some s → HasVisited old new number s c
    → IsPartialProofIn (with_units log units) old → HasAllIds place old → HasAllIds (place + 1) new
reached_more log units old new place number s c islog is at source reached written all n above below = elim (cases_Bool (nat_le n place)) [
  | inl before ↦ reached_kept old new number s c n reached (all n above (leb-true n place before))
  | inr here ↦ next_id log units old new place number s c islog is at source reached written all n (omega (arith, is, below, leb-false n place here))
]

pub units_have : (log : LoggedClauses) (units : List Lit) (w : Writing) (i : ℕ) → IsLog log → length log.clauses ≤ i → IsPartialProofIn (with_units log units) w → HasAllIds i w
    → HasAllIds (length (log.clauses ++ unit_clauses units)) w
units_have log units w i islog past written all n above below = elim (cases_Bool (nat_le n (length log.clauses))) [
  | inl before ↦ all n above (omega (arith, past, leb-true n (length log.clauses) before))
  | inr behind ↦ unit_has log units w n islog written (omega (arith, leb-false n (length log.clauses) behind)) below
]

pub ready_all : (clauses : List (List Lit)) (w : Writing) (hints : List ℕ) → HasAllIds (length clauses) w → list_all (λ n. is_some (clause_numbered clauses n)) hints ≡ true → HaveIds w hints
ready_all clauses w [] all named = refl
ready_all clauses w (n ∷ hints) all named =
    let names = and_parts _ _ named in
    let found = some_has (clause_numbered clauses n) names.0 in
    let number : n ≡ (n - 1) + 1 = one_before n (number_above clauses n found.0 found.1) in
    and_from _ _ (all n (omega (arith, number)) (omega (arith, number, slice_get_within clauses (n - 1) found.0 (number_at-place clauses n found.0 found.1)))) (ready_all clauses w hints all names.1)

-- the last line
pub line_proves : (log : LoggedClauses) (units : List Lit) (old new : Writing) (c : List Lit) (hints : List ℕ) → IsLog log → AreSized units → AreSized c
    → hints_fault (clause_numbered (log.clauses ++ unit_clauses units)) (map negation c) hints ≡ None → HaveIds old hints → HasLine old new c hints
    → IsPartialProofIn (with_units log units) old → Proves (added_of log ++ unit_clauses units) new.lines.items c
line_proves log units old new c hints islog sized_units sized follows ready line written =
    subst (λ ls. Proves (added_of log ++ unit_clauses units) ls c) (sym line.lines)
    (subst (λ cs. Proves cs (old.lines.items ++ text_of (line_by (id_in old.ids) (old.last + 1) c hints) ∷ []) c) (units_log log units islog sized_units).1
    (written_proves (with_units log units) (id_in old.ids) old.lines.items old.last c hints written line.small sized follows ready))

-- The same, by what the code reads.

got_at : {X : Type 0} (seen xs : List X) (i : ℕ) (item : X) → seen ≡ xs → i < length seen → item ≡ get_or seen i item → slice_get xs i ≡ Some item
got_at seen xs i item same below at = ap (λ ys. slice_get ys i) (sym same) ∙ slice_get-get_or seen i item below ∙ ap (λ x. Some x) (sym at)

pub code_reached : (log : LoggedClauses) (units : List Lit) (old new : Writing) (place : ℕ) (seen : List (List Lit)) (seen_sources : List (Option (List ℕ))) (item c : List Lit) (s : Option (List ℕ))
    → IsLog log → AreSized units → seen ≡ log.clauses → seen_sources ≡ log.sources → place < length seen → item ≡ get_or seen place item → c ≡ item → s ≡ get_or seen_sources place s
    → HasVisited old new (place + 1) s c → IsPartialProofIn (with_units log units) old → IsPartialProofIn (with_units log units) new
code_reached log units old new place seen seen_sources item c s islog sized same same_sources below at reads source reached written =
    reached_written log units old new place (place + 1) s c islog sized refl
    (got_at seen log.clauses place item same below at ∙ ap (λ x. Some x) (sym reads))
    (got_at seen_sources log.sources place s same_sources (omega (arith, below, ap length same, ap length same_sources, islog.beside)) source) reached written

pub code_more : (log : LoggedClauses) (units : List Lit) (old new : Writing) (place : ℕ) (seen : List (List Lit)) (seen_sources : List (Option (List ℕ))) (item c : List Lit) (s : Option (List ℕ))
    → IsLog log → seen ≡ log.clauses → seen_sources ≡ log.sources → place < length seen → item ≡ get_or seen place item → c ≡ item → s ≡ get_or seen_sources place s
    → HasVisited old new (place + 1) s c → IsPartialProofIn (with_units log units) old → HasAllIds place old → HasAllIds (place + 1) new
code_more log units old new place seen seen_sources item c s islog same same_sources below at reads source reached written all =
    reached_more log units old new place (place + 1) s c islog refl
    (got_at seen log.clauses place item same below at ∙ ap (λ x. Some x) (sym reads))
    (got_at seen_sources log.sources place s same_sources (omega (arith, below, ap length same, ap length same_sources, islog.beside)) source) reached written all
