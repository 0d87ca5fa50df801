-- Laws of the clauses that a solver holds.
use Rattle.std.proofs.Common.{◌≡◌, ℕ, zero, suc, ◌+◌, ◌-◌, ◌<◌, Bool, true, List, [], ◌∷◌, ◌++◌, length, get_or, take, map, eqb, Option, Some, None, refl, ap, sym, subst, ◌∙◌, ◌⊎◌, inl, inr, arith}
use Rattle.std.specs.Prelude.{slice_get}
use Rattle.std.proofs.lemmas.Bool.{cases_Bool, false≢true, and_parts, and_from, cond-true, cond-false}
use Rattle.std.proofs.lemmas.Option.{none-some, same_Some}
use Rattle.std.proofs.lemmas.List.{take-append-le, length-append}
use Rattle.std.proofs.Math.ListN.{get_or-append}
use Rattle.std.proofs.Math.Seq.{get_or-append_seam, take-append_seam}
use Rattle.proof_semantics.specs.Clauses.{negation, clause_value, clauses_value, IsImplied}
use Rattle.proof_semantics.specs.Propagation.{hints_fault}
use Rattle.proof_semantics.specs.declared.literals.Lit.{Lit}
use Rattle.proof_semantics.proofs.Soundness.{conflict_implies}
use Rattle.cnf.specs.Clauses.{clause_numbered}
use Rattle.cdcl_log.specs.LoggedClauses.{LoggedClauses, with_added, with_learned, added_in, learned_in, added_of, learned_of, AreExplained, IsLog}
use Rattle.proof_semantics.specs.Lines.{AreSized}

-- One more clause.

added_with : (s : Option (List ℕ)) (c : List Lit) (xs ys : List (List Lit)) → with_added s c (xs ++ ys) ≡ with_added s c xs ++ ys
added_with None c xs ys = refl
added_with (Some hints) c xs ys = refl

learned_with : (s : Option (List ℕ)) (c : List Lit) (xs ys : List (List Lit)) → with_learned s c (xs ++ ys) ≡ with_learned s c xs ++ ys
learned_with None c xs ys = refl
learned_with (Some hints) c xs ys = refl

pub added_push : (sources : List (Option (List ℕ))) (clauses : List (List Lit)) (s : Option (List ℕ)) (c : List Lit) → length sources ≡ length clauses
    → added_in (sources ++ s ∷ []) (clauses ++ c ∷ []) ≡ added_in sources clauses ++ with_added s c []
added_push [] [] s c e = refl
added_push [] (d ∷ clauses) s c e = absurd (omega (arith, e))
added_push (t ∷ sources) [] s c e = absurd (omega (arith, e))
added_push (t ∷ sources) (d ∷ clauses) s c e =
    ap (with_added t d) (added_push sources clauses s c (omega (arith, e))) ∙ added_with t d (added_in sources clauses) (with_added s c [])

pub learned_push : (sources : List (Option (List ℕ))) (clauses : List (List Lit)) (s : Option (List ℕ)) (c : List Lit) → length sources ≡ length clauses
    → learned_in (sources ++ s ∷ []) (clauses ++ c ∷ []) ≡ learned_in sources clauses ++ with_learned s c []
learned_push [] [] s c e = refl
learned_push [] (d ∷ clauses) s c e = absurd (omega (arith, e))
learned_push (t ∷ sources) [] s c e = absurd (omega (arith, e))
learned_push (t ∷ sources) (d ∷ clauses) s c e =
    ap (with_learned t d) (learned_push sources clauses s c (omega (arith, e))) ∙ learned_with t d (learned_in sources clauses) (with_learned s c [])

pub get_push : {X : Type 0} (xs : List X) (x : X) (i : ℕ) (y : X) → slice_get (xs ++ x ∷ []) i ≡ Some y
    → ((i < length xs) × (slice_get xs i ≡ Some y)) ⊎ ((i ≡ length xs) × (x ≡ y))
get_push [] x zero y e = inr (refl, same_Some x y e)
get_push [] x (suc i) y e = absurd (none-some y e)
get_push (z ∷ xs) x zero y e = inl (omega arith, e)
get_push (z ∷ xs) x (suc i) y e =
    elim (get_push xs x i y e) [
      | inl before ↦ inl (omega (arith, before.0), before.1)
      | inr last ↦ inr (omega (arith, last.0), last.1)
    ]

explained_push : (clauses : List (List Lit)) (sources : List (Option (List ℕ))) (c : List Lit) (s : Option (List ℕ)) → length sources ≡ length clauses
    → AreExplained clauses sources
    → ((hints : List ℕ) → s ≡ Some hints → hints_fault (clause_numbered clauses) (map negation c) hints ≡ None)
    → AreExplained (clauses ++ c ∷ []) (sources ++ s ∷ [])
explained_push clauses sources c s beside explained last i hints is =
    elim (get_push sources s i (Some hints) is) [
      | inl before ↦
          let below : i < length clauses = omega (arith, before.0, beside) in
          ap (λ cs. hints_fault (clause_numbered cs) (map negation (get_or (clauses ++ c ∷ []) i [])) hints) (take-append-le i clauses (c ∷ []) (omega (arith, below)))
          ∙ ap (λ d. hints_fault (clause_numbered (take i clauses)) (map negation d) hints) (get_or-append clauses (c ∷ []) [] i below)
          ∙ explained i hints before.1
      | inr same ↦
          let place : i ≡ length clauses = same.0 ∙ beside in
          ap (λ n. hints_fault (clause_numbered (take n (clauses ++ c ∷ []))) (map negation (get_or (clauses ++ c ∷ []) n [])) hints) place
          ∙ ap (λ cs. hints_fault (clause_numbered cs) (map negation (get_or (clauses ++ c ∷ []) (length clauses) [])) hints) (take-append_seam clauses (c ∷ []))
          ∙ ap (λ d. hints_fault (clause_numbered clauses) (map negation d) hints) (get_or-append_seam clauses c [] [])
          ∙ last hints same.1
    ]

sized_push : (clauses : List (List Lit)) (c : List Lit) → ((i : ℕ) → AreSized (get_or clauses i [])) → AreSized c → (i : ℕ) → AreSized (get_or (clauses ++ c ∷ []) i [])
sized_push [] c before last zero = last
sized_push [] c before last (suc i) = λ a has. absurd (false≢true has)
sized_push (d ∷ clauses) c before last zero = before zero
sized_push (d ∷ clauses) c before last (suc i) = sized_push clauses c (λ j. before (suc j)) last i

pub values_append : (v : ℕ → Bool) (xs ys : List (List Lit)) → clauses_value v xs ≡ true → clauses_value v ys ≡ true → clauses_value v (xs ++ ys) ≡ true
values_append v [] ys e f = f
values_append v (x ∷ xs) ys e f = let parts = and_parts _ _ e in and_from _ _ parts.0 (values_append v xs ys parts.1 f)

pub values_parts : (v : ℕ → Bool) (xs ys : List (List Lit)) → clauses_value v (xs ++ ys) ≡ true → (clauses_value v xs ≡ true) × (clauses_value v ys ≡ true)
values_parts v [] ys e = (refl, e)
values_parts v (x ∷ xs) ys e =
    let parts = and_parts _ _ e in
    let rest = values_parts v xs ys parts.1 in
    (and_from _ _ parts.0 rest.0, rest.1)

value_at : (v : ℕ → Bool) (clauses : List (List Lit)) (i : ℕ) (c : List Lit) → clauses_value v clauses ≡ true → slice_get clauses i ≡ Some c → clause_value v c ≡ true
value_at v [] i c all e = absurd (none-some c e)
value_at v (d ∷ clauses) zero c all e = ap (clause_value v) (sym (same_Some d c e)) ∙ (and_parts _ _ all).0
value_at v (d ∷ clauses) (suc i) c all e = value_at v clauses i c (and_parts _ _ all).1 e

pub number_at-place : (clauses : List (List Lit)) (n : ℕ) (c : List Lit) → clause_numbered clauses n ≡ Some c → slice_get clauses (n - 1) ≡ Some c
number_at-place clauses n c e =
    elim (cases_Bool (eqb n 0)) [
      | inl none ↦ absurd (none-some c (sym (cond-true (eqb n 0) None (slice_get clauses (n - 1)) none) ∙ e))
      | inr some ↦ sym (cond-false (eqb n 0) None (slice_get clauses (n - 1)) some) ∙ e
    ]

get_more : (xs ys : List (List Lit)) (i : ℕ) (c : List Lit) → slice_get xs i ≡ Some c → slice_get (xs ++ ys) i ≡ Some c
get_more [] ys i c e = absurd (none-some c e)
get_more (x ∷ xs) ys zero c e = e
get_more (x ∷ xs) ys (suc i) c e = get_more xs ys i c e

pub numbered_more : (clauses more : List (List Lit)) (n : ℕ) (c : List Lit) → clause_numbered clauses n ≡ Some c → clause_numbered (clauses ++ more) n ≡ Some c
numbered_more clauses more n c e =
    elim (cases_Bool (eqb n 0)) [
      | inl zeroth ↦ absurd (none-some c (sym (cond-true (eqb n 0) None (slice_get clauses (n - 1)) zeroth) ∙ e))
      | inr some ↦
          cond-false (eqb n 0) None (slice_get (clauses ++ more) (n - 1)) some
          ∙ get_more clauses more (n - 1) c (sym (cond-false (eqb n 0) None (slice_get clauses (n - 1)) some) ∙ e)
    ]

pub numbered_true : (v : ℕ → Bool) (clauses : List (List Lit)) → clauses_value v clauses ≡ true → (n : ℕ) (c : List Lit) → clause_numbered clauses n ≡ Some c → clause_value v c ≡ true
numbered_true v clauses all n c e = value_at v clauses (n - 1) c all (number_at-place clauses n c e)

-- What follows along hints from clauses that are implied is implied.
pub hinted_implied : (logged : LoggedClauses) (c : List Lit) (hints : List ℕ) → IsLog logged → hints_fault (clause_numbered logged.clauses) (map negation c) hints ≡ None
    → IsImplied (added_of logged) c
hinted_implied logged c hints log e v holds =
    conflict_implies v (clause_numbered logged.clauses) c hints (numbered_true v logged.clauses (log.implied v holds)) e

pub added-IsLog : (before after : LoggedClauses) (c : List Lit) → IsLog before → AreSized c
    → after.clauses ≡ before.clauses ++ c ∷ [] → after.sources ≡ before.sources ++ None ∷ []
    → IsLog after × (added_of after ≡ added_of before ++ c ∷ []) × (learned_of after ≡ learned_of before)
added-IsLog before after c log sized same_clauses same_sources =
    let added : added_of after ≡ added_of before ++ c ∷ [] =
    ap (λ cs. added_in after.sources cs) same_clauses ∙ ap (λ ss. added_in ss (before.clauses ++ c ∷ [])) same_sources
    ∙ added_push before.sources before.clauses None c log.beside in
    let learned : learned_of after ≡ learned_of before ++ [] =
    ap (λ cs. learned_in after.sources cs) same_clauses ∙ ap (λ ss. learned_in ss (before.clauses ++ c ∷ [])) same_sources
    ∙ learned_push before.sources before.clauses None c log.beside in (
      record {
        beside = ap length same_sources ∙ length-append before.sources (None ∷ []) ∙ ap (λ n. n + 1) log.beside ∙ sym (length-append before.clauses (c ∷ [])) ∙ sym (ap length same_clauses);
        explained = subst (λ cs. AreExplained cs after.sources) (sym same_clauses) (subst (λ ss. AreExplained (before.clauses ++ c ∷ []) ss) (sym same_sources)
            (explained_push before.clauses before.sources c None log.beside log.explained (λ hints is. absurd (none-some hints is))));
        implied = λ v holds.
            let parts = values_parts v (added_of before) (c ∷ []) (ap (clauses_value v) (sym added) ∙ holds) in
            ap (clauses_value v) same_clauses ∙ values_append v before.clauses (c ∷ []) (log.implied v parts.0) parts.1;
        sized = λ i. subst (λ cs. AreSized (get_or cs i [])) (sym same_clauses) (sized_push before.clauses c log.sized sized i);
      },
      added,
      learned ∙ append_nothing (learned_of before),
    )
  where
    append_nothing : (xs : List (List Lit)) → xs ++ [] ≡ xs
    append_nothing [] = refl
    append_nothing (x ∷ xs) = ap (λ ys. x ∷ ys) (append_nothing xs)

pub learned-IsLog : (before after : LoggedClauses) (c : List Lit) (hints : List ℕ) → IsLog before → AreSized c
    → hints_fault (clause_numbered before.clauses) (map negation c) hints ≡ None
    → after.clauses ≡ before.clauses ++ c ∷ [] → after.sources ≡ before.sources ++ Some hints ∷ []
    → IsLog after × (added_of after ≡ added_of before) × (learned_of after ≡ learned_of before ++ c ∷ [])
learned-IsLog before after c hints log sized follows same_clauses same_sources =
    let added : added_of after ≡ added_of before ++ [] =
    ap (λ cs. added_in after.sources cs) same_clauses ∙ ap (λ ss. added_in ss (before.clauses ++ c ∷ [])) same_sources
    ∙ added_push before.sources before.clauses (Some hints) c log.beside in
    let learned : learned_of after ≡ learned_of before ++ c ∷ [] =
    ap (λ cs. learned_in after.sources cs) same_clauses ∙ ap (λ ss. learned_in ss (before.clauses ++ c ∷ [])) same_sources
    ∙ learned_push before.sources before.clauses (Some hints) c log.beside in (
      record {
        beside = ap length same_sources ∙ length-append before.sources (Some hints ∷ []) ∙ ap (λ n. n + 1) log.beside ∙ sym (length-append before.clauses (c ∷ [])) ∙ sym (ap length same_clauses);
        explained = subst (λ cs. AreExplained cs after.sources) (sym same_clauses) (subst (λ ss. AreExplained (before.clauses ++ c ∷ []) ss) (sym same_sources)
            (explained_push before.clauses before.sources c (Some hints) log.beside log.explained
            (λ others is. ap (hints_fault (clause_numbered before.clauses) (map negation c)) (sym (same_Some hints others is)) ∙ follows)));
        implied = λ v holds.
            let holds_before : clauses_value v (added_of before) ≡ true = ap (clauses_value v) (sym (added ∙ append_nothing (added_of before))) ∙ holds in
            ap (clauses_value v) same_clauses
            ∙ values_append v before.clauses (c ∷ []) (log.implied v holds_before) (and_from _ _ (hinted_implied before c hints log follows v holds_before) refl);
        sized = λ i. subst (λ cs. AreSized (get_or cs i [])) (sym same_clauses) (sized_push before.clauses c log.sized sized i);
      },
      added ∙ append_nothing (added_of before),
      learned,
    )
  where
    append_nothing : (xs : List (List Lit)) → xs ++ [] ≡ xs
    append_nothing [] = refl
    append_nothing (x ∷ xs) = ap (λ ys. x ∷ ys) (append_nothing xs)
