-- A trimmed proof refutes what the proof refutes, and is its own trimming.
use Rattle.std.proofs.Common.{◌≡◌, ◌⊎◌, ℕ, zero, suc, ◌+◌, ◌<◌, ◌≤◌, Bool, true, false, not, cond, List, [], ◌∷◌, ◌++◌, length, map, get_or, refl, sym, ap, ◌∙◌, subst, inl, inr, arith, Option, Some, None, Result, Ok, Err}
use Rattle.std.specs.Prelude.{◌==◌, if◌then◌else◌, nat_eq, All, Contains, IsOkAnd}
use Rattle.std.specs.List.{Any, list_any, filter}
use Rattle.std.proofs.lemmas.Bool.{false≢true, eqb-true, eq-eqb, or_left, or_right}
use Rattle.std.proofs.lemmas.List.Elements.{All-head, All-tail}
use Rattle.proof_semantics.specs.declared.literals.Lit.{Lit}
use Rattle.proof_semantics.specs.declared.faults.LratFault.{LratFault}
use Rattle.proof_semantics.specs.Clauses.{negation}
use Rattle.proof_semantics.specs.Lines.{Line, addition, deletion, line_of}
use Rattle.proof_semantics.specs.Proofs.{ProofState, start, numbered, clause_at, with_addition, with_deletion, ids_of, is_empty, judge, judge_next, judge_all, Refutes}
use Rattle.proof_semantics.specs.Acceptance.{EndsInConflict, Accepts}
use Rattle.proof_semantics.proofs.AcceptanceLaws.{judges_accepted}
use Rattle.proof_semantics.proofs.LineLaws.{reads_spelled}
use Rattle.cert_tools.specs.Kept.{Keeps, Reaches}
use Rattle.cert_tools.specs.TrimmedProofs.{AddsClause, Hints, IsFirstEmpty, IsReachedLine, IsTrimmedProof}
use Rattle.cert_tools.proofs.KeptLaws.{In, in_right, kept_has, kept_is, keeps_all, reaches_more, leads_so}

abbrev Lines : Type 0
Lines = List (List ℕ)

abbrev Held : Type 0
Held = List (ℕ × List Lit)

-- ---- what is held under an id

at_none : (rest : Option (List Lit)) (test : Bool) (clause : List Lit) → (if test then Some clause else rest) ≡ None → (test ≡ false) × (rest ≡ None)
at_none rest true clause e = absurd (cc e)
at_none rest false clause e = (refl, e)

-- one more clause
at_more_some : (held : Held) (e : ℕ × List Lit) (id : ℕ) (clause : List Lit) → clause_at held id ≡ Some clause → clause_at (held ++ e ∷ []) id ≡ Some clause
at_more_some [] e id clause h = absurd (cc h)
at_more_some (x ∷ held) e id clause h = by (x.0 == id) (at_more_some held e id clause) h
  where
    by : (b : Bool) → (clause_at held id ≡ Some clause → clause_at (held ++ e ∷ []) id ≡ Some clause) → (if b then Some x.1 else clause_at held id) ≡ Some clause
        → (if b then Some x.1 else clause_at (held ++ e ∷ []) id) ≡ Some clause
    by true more is = is
    by false more is = more is

at_more_none : (held : Held) (e : ℕ × List Lit) (id : ℕ) → clause_at held id ≡ None → clause_at (held ++ e ∷ []) id ≡ (if e.0 == id then Some e.1 else None)
at_more_none [] e id h = refl
at_more_none (x ∷ held) e id h = by (x.0 == id) (at_more_none held e id) h
  where
    by : (b : Bool) → (clause_at held id ≡ None → clause_at (held ++ e ∷ []) id ≡ (if e.0 == id then Some e.1 else None)) → (if b then Some x.1 else clause_at held id) ≡ None
        → (if b then Some x.1 else clause_at (held ++ e ∷ []) id) ≡ (if e.0 == id then Some e.1 else None)
    by true more is = absurd (cc is)
    by false more is = more is

option_cases : (o : Option (List Lit)) → ((clause : List Lit) × (o ≡ Some clause)) ⊎ (o ≡ None)
option_cases (Some clause) = inl (clause, refl)
option_cases None = inr refl

some_same : (a b : List Lit) → ◌≡◌ {A = Option (List Lit)} (Some a) (Some b) → a ≡ b
some_same a b e = cc e

new_one : (e : ℕ × List Lit) (id : ℕ) (clause : List Lit) → (if e.0 == id then Some e.1 else None) ≡ Some clause → (e.0 ≡ id) × (e.1 ≡ clause)
new_one e id clause h = by (e.0 == id) refl h
  where
    by : (b : Bool) → (e.0 == id) ≡ b → (if b then Some e.1 else None) ≡ Some clause → (e.0 ≡ id) × (e.1 ≡ clause)
    by true is same = (eqb-true e.0 id is, some_same e.1 clause same)
    by false is same = absurd (cc same)

-- the clause that is held under an id with one more is the one that was held, or the new one
pub at_more_cases : (held : Held) (e : ℕ × List Lit) (id : ℕ) (clause : List Lit) → clause_at (held ++ e ∷ []) id ≡ Some clause
    → (clause_at held id ≡ Some clause) ⊎ ((clause_at held id ≡ None) × (e.0 ≡ id) × (e.1 ≡ clause))
at_more_cases held e id clause h = elim (option_cases (clause_at held id)) [
  | inl (x, is) ↦ inl (is ∙ (sym (at_more_some held e id x is) ∙ h))
  | inr none ↦ (let new = new_one e id clause (sym (at_more_none held e id none) ∙ h) in inr (none, new.0, new.1))
]

-- fewer clauses: what is still held was held
unfoldable pub passes : List ℕ → ℕ × List Lit → Bool
passes ids e = not (list_any (nat_eq e.0) ids)

still_passes : (held : Held) (ids : List ℕ) (id : ℕ) (clause : List Lit) → clause_at (filter (passes ids) held) id ≡ Some clause → not (list_any (nat_eq id) ids) ≡ true
unfolding passes
still_passes [] ids id clause h = absurd (cc h)
still_passes (x ∷ held) ids id clause h = by (not (list_any (nat_eq x.0) ids)) refl (still_passes held ids id clause) h
  where
    at : (b : Bool) → (x.0 == id) ≡ b → not (list_any (nat_eq x.0) ids) ≡ true → (clause_at (filter (passes ids) held) id ≡ Some clause → not (list_any (nat_eq id) ids) ≡ true) → (if b then Some x.1 else clause_at (filter (passes ids) held) id) ≡ Some clause → not (list_any (nat_eq id) ids) ≡ true
    at true is keeps more same = subst (λ n. not (list_any (nat_eq n) ids) ≡ true) (eqb-true x.0 id is) keeps
    at false is keeps more same = more same

    by : (b : Bool) → not (list_any (nat_eq x.0) ids) ≡ b → (clause_at (filter (passes ids) held) id ≡ Some clause → not (list_any (nat_eq id) ids) ≡ true) → clause_at (cond b (x ∷ filter (passes ids) held) (filter (passes ids) held)) id ≡ Some clause → not (list_any (nat_eq id) ids) ≡ true
    by true keeps more same = at (x.0 == id) refl keeps more same
    by false drops more same = more same

pub was_held : (held : Held) (ids : List ℕ) (id : ℕ) (clause : List Lit) → clause_at (filter (passes ids) held) id ≡ Some clause → clause_at held id ≡ Some clause
unfolding passes
was_held [] ids id clause h = h
was_held (x ∷ held) ids id clause h = by (not (list_any (nat_eq x.0) ids)) refl (was_held held ids id clause) h
  where
    kept : (b : Bool) → (clause_at (filter (passes ids) held) id ≡ Some clause → clause_at held id ≡ Some clause) → (if b then Some x.1 else clause_at (filter (passes ids) held) id) ≡ Some clause → (if b then Some x.1 else clause_at held id) ≡ Some clause
    kept true more same = same
    kept false more same = more same

    dropped : (b : Bool) → (x.0 == id) ≡ b → not (list_any (nat_eq x.0) ids) ≡ false → (clause_at (filter (passes ids) held) id ≡ Some clause → clause_at held id ≡ Some clause) → clause_at (filter (passes ids) held) id ≡ Some clause → (if b then Some x.1 else clause_at held id) ≡ Some clause
    dropped true is drops more same =
        let passed : not (list_any (nat_eq x.0) ids) ≡ true = subst (λ n. not (list_any (nat_eq n) ids) ≡ true) (sym (eqb-true x.0 id is)) (still_passes held ids id clause same) in
        absurd (false≢true (sym drops ∙ passed))
    dropped false is drops more same = more same

    by : (b : Bool) → not (list_any (nat_eq x.0) ids) ≡ b → (clause_at (filter (passes ids) held) id ≡ Some clause → clause_at held id ≡ Some clause) → clause_at (cond b (x ∷ filter (passes ids) held) (filter (passes ids) held)) id ≡ Some clause → clause_at (x ∷ held) id ≡ Some clause
    by true keeps more same = kept (x.0 == id) more same
    by false drops more same = dropped (x.0 == id) refl drops more same

-- ---- hints over other clauses

-- under each id the clause that is held is held there too
abbrev AreThere : Held → Held → List ℕ → Type 0
AreThere held other ids = All (λ id. (clause : List Lit) → clause_at held id ≡ Some clause → clause_at other id ≡ Some clause) ids

ends_there : (held other : Held) (assumed : List Lit) (ids : List ℕ) → AreThere held other ids → EndsInConflict held assumed ids → EndsInConflict other assumed ids
ends_there held other assumed [] there h = h
ends_there held other assumed (id ∷ []) there (clause, at, false_ones) =
    (clause, All-head (λ i. (k : List Lit) → clause_at held i ≡ Some k → clause_at other i ≡ Some k) id [] there clause at, false_ones)
ends_there held other assumed (id ∷ next ∷ ids) there (clause, at, (a, unit, more)) =
    let P : ℕ → Type 0 = λ i. (k : List Lit) → clause_at held i ≡ Some k → clause_at other i ≡ Some k in
    (clause, All-head P id (next ∷ ids) there clause at, (a, unit, ends_there held other (assumed ++ a ∷ []) (next ∷ ids) (All-tail P id (next ∷ ids) there) more))

-- ---- a proof and what is kept of it

-- what was kept has the clauses of the ids that count
record Follows (R : ℕ → Type 0) (s t : ProofState) : Type 0 where
  there : (id : ℕ) → R id → (clause : List Lit) → clause_at s.held id ≡ Some clause → clause_at t.held id ≡ Some clause
  low : (id : ℕ) (clause : List Lit) → clause_at t.held id ≡ Some clause → id ≤ t.last
  last : t.last ≤ s.last

follows_kept : (R : ℕ → Type 0) (s t : ProofState) (id : ℕ) (clause : List Lit) → Follows R s t → s.last < id → Follows R (with_addition s id clause) (with_addition t id clause)
follows_kept R s t id clause f above = record {
  there = λ n r k h. elim (at_more_cases s.held (id, clause) n k h) [
    | inl was ↦ at_more_some t.held (id, clause) n k (f.there n r k was)
    | inr (none, same, is) ↦ elim (option_cases (clause_at t.held n)) [
      | inl (x, at) ↦ (let most = f.low n x at in let least = f.last in absurd (omega (arith, most, least, above, same)))
      | inr empty ↦ at_more_none t.held (id, clause) n empty ∙ ap (λ b. if b then Some clause else None) (eq-eqb id n same) ∙ ap (λ (x : List Lit). Some x) is
    ]
  ];
  low = λ n k h. elim (at_more_cases t.held (id, clause) n k h) [
    | inl was ↦ (let most = f.low n k was in let least = f.last in omega (arith, most, least, above))
    | inr (none, same, is) ↦ omega (arith, same)
  ];
  last = omega arith;
}

follows_dropped : (R : ℕ → Type 0) (s t : ProofState) (id : ℕ) (clause : List Lit) → Follows R s t → s.last < id → (R id → ⊥) → Follows R (with_addition s id clause) t
follows_dropped R s t id clause f above none = record {
  there = λ n r k h. elim (at_more_cases s.held (id, clause) n k h) [
    | inl was ↦ f.there n r k was
    | inr (gone, same, is) ↦ absurd (none (subst R (sym same) r))
  ];
  low = f.low;
  last = (let least = f.last in omega (arith, least, above));
}

follows_deleted : (R : ℕ → Type 0) (s t : ProofState) (ids : List ℕ) → Follows R s t → Follows R (with_deletion s ids) t
unfolding passes
follows_deleted R s t ids f = record {
  there = λ n r k h. f.there n r k (was_held s.held ids n k h);
  low = f.low;
  last = f.last;
}

-- a judged line, by its cases
pub record Judged (s u : ProofState) (line : List ℕ) : Type 0 where
  pub of : Line
  pub is : line_of line ≡ Some of
  pub accepts : Accepts s of u

pub judged : (s u : ProofState) (line : List ℕ) → judge s line ≡ Ok u → Judged s u line
judged s u line e = let (of, (sizes, spelled), accepts) = (judges_accepted s u line).0 e in record { of = of; is = (reads_spelled line of).1 (sizes, spelled); accepts = accepts }

judge_back : (s u : ProofState) (line : List ℕ) (of : Line) → line_of line ≡ Some of → Accepts s of u → judge s line ≡ Ok u
judge_back s u line of is accepts = (judges_accepted s u line).1 (of, (reads_spelled line of).0 is, accepts)

pub next_ok : (first : Result ProofState LratFault) (rest : ProofState → Result ProofState LratFault) (e : ProofState) → judge_next first rest ≡ Ok e → (u : ProofState) × (first ≡ Ok u) × (rest u ≡ Ok e)
next_ok (Ok u) rest e h = (u, refl, h)
next_ok (Err fault) rest e h = absurd (cc h)

same_addition : (line : List ℕ) (id other : ℕ) (clause another hints more : List Lit) → AddsClause line id clause hints → AddsClause line other another more
    → (id ≡ other) × (clause ≡ another) × (hints ≡ more)
same_addition line id other clause another hints more h k =
    let e : ◌≡◌ {A = Option Line} (Some (addition id clause hints)) (Some (addition other another more)) = sym h ∙ k in (cc e, cc e, cc e)

no_deletion : (line : List ℕ) (id other : ℕ) (clause hints : List Lit) (ids : List ℕ) → AddsClause line id clause hints → line_of line ≡ Some (deletion other ids) → ⊥
no_deletion line id other clause hints ids h k = let e : ◌≡◌ {A = Option Line} (Some (addition id clause hints)) (Some (deletion other ids)) = sym h ∙ k in cc e

in_any : (P : List ℕ → Type 0) (line : List ℕ) (lines : Lines) → In line lines → P line → Any P lines
in_any P line [] at p = absurd at
in_any P line (y ∷ lines) (inl same) p = (0, y, omega arith, refl, subst P same p)
in_any P line (y ∷ lines) (inr at) p = let (k, x, below, place, q) = in_any P line lines at p in (suc k, x, omega (arith, below), place, q)

any_in : (P : List ℕ → Type 0) (lines : Lines) → Any P lines → (line : List ℕ) × In line lines × P line
any_in P [] (k, x, below, same, p) = absurd (omega (arith, below))
any_in P (y ∷ lines) (zero, x, below, same, p) = (y, inl refl, subst P (sym same) p)
any_in P (y ∷ lines) (suc k, x, below, same, p) = let (line, at, q) = any_in P lines (k, x, omega (arith, below), same, p) in (line, inr at, q)

all_in : (P : ℕ → Type 0) (xs : List ℕ) → ((x : ℕ) → Contains xs x → P x) → All P xs
all_in P xs h = λ k d below. h (get_or xs k d) (k, below, got xs k d below)
  where
    got : (xs : List ℕ) (k d : ℕ) → k < length xs → get_or xs k (get_or xs k d) ≡ get_or xs k d
    got [] k d below = absurd (omega (arith, below))
    got (x ∷ xs) zero d below = refl
    got (x ∷ xs) (suc k) d below = got xs k d (omega (arith, below))

module _ (all : Lines) (last : ℕ) where
  abbrev R : ℕ → Type 0
  R id = Reaches (Hints all) last id

  -- the clauses of the hints of an addition that is reached are there
  hints_there : (s t : ProofState) (line : List ℕ) (id : ℕ) (clause hints : List Lit) → Follows R s t → In line all → AddsClause line id clause hints → R id → AreThere s.held t.held (ids_of hints)
  hints_there s t line id clause hints f at adds r =
      all_in (λ n. (k : List Lit) → clause_at s.held n ≡ Some k → clause_at t.held n ≡ Some k) (ids_of hints)
      (λ n among. f.there n (reaches_more (Hints all) last id n r (in_any (λ l. (k : List Lit) × (hs : List Lit) × AddsClause l id k hs × Contains (ids_of hs) n) line all at (clause, hints, adds, among))))

  abbrev Ends : ProofState → Lines → ProofState → Type 0
  Ends t lines e = (judge_all t lines ≡ Ok e)

  -- the kept line is accepted too
  kept_judged : (s u t : ProofState) (line : List ℕ) (id : ℕ) (clause hints : List Lit) → Follows R s t → In line all → AddsClause line id clause hints → R id → judge s line ≡ Ok u
      → (s.last < id) × (u ≡ with_addition s id clause) × (judge t line ≡ Ok (with_addition t id clause))
  kept_judged s u t line id clause hints f at adds r e = by (judged s u line e)
    where
      by : Judged s u line → (s.last < id) × (u ≡ with_addition s id clause) × (judge t line ≡ Ok (with_addition t id clause))
      by j = cases j.of j.is j.accepts
        where
          cases : (of : Line) → line_of line ≡ Some of → Accepts s of u → (s.last < id) × (u ≡ with_addition s id clause) × (judge t line ≡ Ok (with_addition t id clause))
          cases (addition other another more) is (above, signs, ends, becomes) =
              let (ids, clauses, hintss) = same_addition line other id another clause more hints is adds in
              let low : s.last < id = subst (λ n. s.last < n) ids above in
              let least = f.last in
              let below : t.last < id = omega (arith, least, low) in
              let positive : All (λ hint. hint.positive ≡ true) hints = subst (All (λ hint. hint.positive ≡ true)) hintss signs in
              let here_ends : EndsInConflict s.held (map negation clause) (ids_of hints) =
              subst (λ hs. EndsInConflict s.held (map negation clause) (ids_of hs)) hintss (subst (λ k. EndsInConflict s.held (map negation k) (ids_of more)) clauses ends) in
              let there_ends = ends_there s.held t.held (map negation clause) (ids_of hints) (hints_there s t line id clause hints f at adds r) here_ends in (
                low,
                becomes ∙ ap (λ n. with_addition s n another) ids ∙ ap (with_addition s id) clauses,
                judge_back t (with_addition t id clause) line (addition id clause hints) adds (below, positive, there_ends, refl),
              )
          cases (deletion other ids) is accepts = absurd (no_deletion line id other clause hints ids adds is)

  -- a line that is not kept
  dropped_judged : (s u t : ProofState) (line : List ℕ) → Follows R s t → (IsReachedLine all last line → ⊥) → judge s line ≡ Ok u → Follows R u t
  dropped_judged s u t line f none e = by (judged s u line e)
    where
      by : Judged s u line → Follows R u t
      by j = cases j.of j.is j.accepts
        where
          cases : (of : Line) → line_of line ≡ Some of → Accepts s of u → Follows R u t
          cases (addition id clause hints) is (above, signs, ends, becomes) =
              subst (λ x. Follows R x t) (sym becomes) (follows_dropped R s t id clause f above (λ r. none (id, clause, hints, is, r)))
          cases (deletion id ids) is (held, becomes) = subst (λ x. Follows R x t) (sym becomes) (follows_deleted R s t ids f)

  abbrev WillEnd : ProofState → Lines → Type 0
  WillEnd t lines = (t.finished ≡ true) ⊎ IsFirstEmpty lines last

  -- the lines that are kept are accepted, and the first empty addition is among them
  kept_ends : (s t e : ProofState) (front lines kept : Lines) → all ≡ front ++ lines → Follows R s t → judge_all s lines ≡ Ok e → Keeps (IsReachedLine all last) lines kept → WillEnd t lines
      → (end : ProofState) × (judge_all t kept ≡ Ok end) × (end.finished ≡ true)
  kept_ends s t e front [] kept split f judges none (inl done) = (t, ap (judge_all t) none, done)
  kept_ends s t e front [] kept split f judges none (inr never) = absurd never
  kept_ends s t e front (line ∷ lines) kept split f judges (inl ((id, clause, hints, adds, r), (rest, is, keeps))) will =
      let (u, first, others) = next_ok (judge s line) (λ x. judge_all x lines) e judges in
      let at : In line all = subst (In line) (sym split) (in_right line front (line ∷ lines) (inl refl)) in
      let (above, becomes, accepted) = kept_judged s u t line id clause hints f at adds r first in
      let f2 : Follows R u (with_addition t id clause) = subst (λ x. Follows R x (with_addition t id clause)) (sym becomes) (follows_kept R s t id clause f above) in
      let split2 : all ≡ (front ++ line ∷ []) ++ lines = split ∙ regroup front line lines in
      let (end, ends, finished) = kept_ends u (with_addition t id clause) e (front ++ line ∷ []) lines rest split2 f2 others keeps (still will) in
      (end, ap (judge_all t) is ∙ ap (λ x. judge_next x (λ y. judge_all y rest)) accepted ∙ ends, finished)
    where
      regroup : (front : Lines) (line : List ℕ) (lines : Lines) → front ++ line ∷ lines ≡ (front ++ line ∷ []) ++ lines
      regroup [] line lines = refl
      regroup (x ∷ front) line lines = ap (λ (ls : Lines). x ∷ ls) (regroup front line lines)

      still : WillEnd t (line ∷ lines) → WillEnd (with_addition t id clause) lines
      still (inl done) = inl (or_left t.finished (is_empty clause) done)
      still (inr (inl (hs, empty))) =
          let (ids, clauses, more) = same_addition line id last clause [] hints hs adds empty in
          inl (or_right t.finished (is_empty clause) (ap is_empty clauses))
      still (inr (inr (none, later_one))) = inr later_one
  kept_ends s t e front (line ∷ lines) kept split f judges (inr (none, keeps)) will =
      let (u, first, others) = next_ok (judge s line) (λ x. judge_all x lines) e judges in
      kept_ends u t e (front ++ line ∷ []) lines kept (split ∙ regroup front line lines) (dropped_judged s u t line f none first) others keeps (still will)
    where
      regroup : (front : Lines) (line : List ℕ) (lines : Lines) → front ++ line ∷ lines ≡ (front ++ line ∷ []) ++ lines
      regroup [] line lines = refl
      regroup (x ∷ front) line lines = ap (λ (ls : Lines). x ∷ ls) (regroup front line lines)

      still : WillEnd t (line ∷ lines) → WillEnd t lines
      still (inl done) = inl done
      still (inr (inl (hs, empty))) = absurd (none (last, [], hs, empty, ([], refl)))
      still (inr (inr (no_empty, later_one))) = inr later_one

-- ---- the whole proof

pub low_at : (n : ℕ) (given : List (List Lit)) (id : ℕ) (clause : List Lit) → clause_at (numbered n given) id ≡ Some clause → id < n + length given
low_at n [] id clause h = absurd (cc h)
low_at n (k ∷ given) id clause h = by (n == id) refl (low_at (n + 1) given id clause) h
  where
    by : (b : Bool) → (n == id) ≡ b → (clause_at (numbered (n + 1) given) id ≡ Some clause → id < (n + 1) + length given) → (if b then Some k else clause_at (numbered (n + 1) given) id) ≡ Some clause → id < n + suc (length given)
    by true is more same = (let e = eqb-true n id is in omega (arith, e))
    by false is more same = (let h = more same in omega (arith, h))

pub ok_state : (r : Result ProofState LratFault) → IsOkAnd r (λ s. s.finished ≡ true) → (s : ProofState) × (r ≡ Ok s) × (s.finished ≡ true)
ok_state (Ok s) h = (s, refl, h)
ok_state (Err fault) h = absurd h

ok_back : (r : Result ProofState LratFault) (s : ProofState) → r ≡ Ok s → s.finished ≡ true → IsOkAnd r (λ x. x.finished ≡ true)
ok_back r s e done = subst (λ x. IsOkAnd x (λ y. y.finished ≡ true)) (sym e) done

pub trimmed_refutes : (given : List (List Lit)) (lines kept : Lines) → Refutes given lines → IsTrimmedProof given lines kept → Refutes given kept
trimmed_refutes given lines kept h (inl (empty, none)) = subst (Refutes given) (sym none) empty
trimmed_refutes given lines kept h (inr (full, last, first, keeps)) =
    let (e, judges, done) = ok_state (judge_all (start given) lines) h in
    let f : Follows (λ id. Reaches (Hints lines) last id) (start given) (start given) = record {
      there = λ id r clause at. at;
      low = λ id clause at. (let below = low_at 1 given id clause at in omega (arith, below));
      last = omega arith;
    } in
    let (end, ends, finished) = kept_ends lines last (start given) (start given) e [] lines kept refl f judges keeps (inr first) in
    ok_back (judge_all (start given) kept) end ends finished

-- ---- trimmed again

first_kept : (P : List ℕ → Type 0) (last : ℕ) (lines kept : Lines) → Keeps P lines kept → ((line : List ℕ) (hints : List Lit) → AddsClause line last [] hints → P line) → IsFirstEmpty lines last → IsFirstEmpty kept last
first_kept P last [] kept keeps has never = absurd never
first_kept P last (line ∷ lines) kept (inl (p, (rest, is, keeps))) has (inl empty) = subst (λ ls. IsFirstEmpty ls last) (sym is) (inl empty)
first_kept P last (line ∷ lines) kept (inl (p, (rest, is, keeps))) has (inr (none, more)) = subst (λ ls. IsFirstEmpty ls last) (sym is) (inr (none, first_kept P last lines rest keeps has more))
first_kept P last (line ∷ lines) kept (inr (gone, keeps)) has (inl (hints, empty)) = absurd (gone (has line hints empty))
first_kept P last (line ∷ lines) kept (inr (gone, keeps)) has (inr (none, more)) = first_kept P last lines kept keeps has more

pub trimmed_again : (given : List (List Lit)) (lines kept : Lines) → IsTrimmedProof given lines kept → IsTrimmedProof given kept kept
trimmed_again given lines kept (inl (empty, none)) = inl (empty, none)
trimmed_again given lines kept (inr (full, last, first, keeps)) =
    inr (
      full,
      last,
      first_kept (IsReachedLine lines last) last lines kept keeps (λ line hints empty. (last, [], hints, empty, ([], refl))) first,
      keeps_all (IsReachedLine kept last) kept (λ line at. again line (kept_is (IsReachedLine lines last) lines kept line keeps at)),
    )
  where
    step : (v w : ℕ) → Reaches (Hints lines) last v → Hints lines v w → Reaches (Hints lines) last w × Hints kept v w
    step v w r h =
        let (line, at, (clause, hints, adds, among)) = any_in (λ l. (k : List Lit) × (hs : List Lit) × AddsClause l v k hs × Contains (ids_of hs) w) lines h in (
          reaches_more (Hints lines) last v w r h,
          in_any (λ l. (k : List Lit) × (hs : List Lit) × AddsClause l v k hs × Contains (ids_of hs) w) line kept (kept_has (IsReachedLine lines last) lines kept line keeps at (v, clause, hints, adds, r)) (clause, hints, adds, among),
        )

    again : (line : List ℕ) → IsReachedLine lines last line → IsReachedLine kept last line
    again line (id, clause, hints, adds, (through, leads)) =
        (id, clause, hints, adds, (leads_so (Hints lines) (Hints kept) (λ n. n) (λ n. Reaches (Hints lines) last n) step last through id ([], refl) leads).1)
