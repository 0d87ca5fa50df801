-- The obligations of a valid entry have no model, and proofs of them are the entry's.
use Rattle.std.proofs.Common.{◌≡◌, ℕ, zero, suc, ◌<◌, Bool, true, List, [], ◌∷◌, ◌++◌, length, get_or, refl, sym, ap, subst, ◌∙◌, arith, Result, Ok, Err, IfOk}
use Rattle.std.proofs.lemmas.List.{get_or_default}
use Rattle.std.specs.List.{All, list_all}
use Rattle.std.proofs.lemmas.Bool.{and_parts, true≢false, false_from_ne_true}
use Rattle.aig_semantics.specs.Circuits.{Circuit}
use Rattle.proof_semantics.specs.declared.literals.Lit.{Lit}
use Rattle.proof_semantics.specs.Clauses.{clause_value, clauses_value, values_of, IsUnsatisfiable}
use Rattle.fair_semantics.specs.Entries.{Entry, used_entries}
use Rattle.fair_semantics.specs.Validity.{set_behind, IsValid}
use Rattle.fair_semantics.specs.Laws.{StandAlone}
use Rattle.fair_semantics.proofs.Alone.{uses_stand_alone}
use Rattle.cnf_unroll.specs.Obligations.{units, shared_clauses, broken_literals}
use Rattle.cnf_unroll.specs.Laws.{ObligationsTell, BreaksClause, IsUnderstood, AreOver}
use Rattle.edge.specs.declared.solve_end.SolveEnd.{SolveEnd}
use Rattle.proof_semantics.specs.Proofs.{Refutes}
use Rattle.entry.specs.Proved.{obligation_of, AreProofs}
use Rattle.entry.specs.Laws.{IsGoodList}
use Rattle.entry.proofs.Readable.{uses_readable, own_named}
use Rattle.certify.specs.Refuted.{AreRefuted}

one_of : (p : List Lit → Bool) (clauses : List (List Lit)) (i : ℕ) → i < length clauses → list_all p clauses ≡ true → p (get_or clauses i []) ≡ true
one_of p [] i below h = absurd (omega arith)
one_of p (clause ∷ clauses) zero below h = (and_parts _ _ h).0
one_of p (clause ∷ clauses) (suc i) below h = one_of p clauses i (omega arith) (and_parts _ _ h).1

-- a step that breaks a clause of a valid entry would leave its set
unbroken : (c : Circuit) (before : List Entry) (e : Entry) (i : ℕ) → IsValid c before e → i < length e.clauses
    → BreaksClause c (used_entries before e.uses) e i → ⊥
unbroken c before e i valid below breaks =
    let alone : StandAlone before e.uses = uses_stand_alone before e.uses valid.uses in
    let inside : set_behind before e breaks.from ≡ true = sym (alone.entry e refl breaks.from) ∙ breaks.inside in
    let stays : set_behind before e breaks.to ≡ true =
    valid.closed breaks.from breaks.to breaks.step (sym (alone.allowed _) ∙ breaks.allowed) inside in
    true≢false (sym (one_of (clause_value (values_of breaks.to)) e.clauses i below (and_parts _ _ stays).0) ∙ breaks.broken)

pub no_model : (c : Circuit) (before : List Entry) (e : Entry) (i : ℕ) → ObligationsTell c → IsGoodList c before → IsValid c before e
    → AreOver (length c.latches) e.clauses → i < length e.clauses → IsUnsatisfiable (obligation_of c before e i)
no_model c before e i tell good valid over below v =
    let known : IsUnderstood c (used_entries before e.uses) e =
    record { used = uses_readable c before e.uses good valid.uses; over = over; named = own_named before e.uses valid.uses } in
    false_from_ne_true (clauses_value v (obligation_of c before e i)) (λ holds.
    unbroken c before e i valid below ((tell (used_entries before e.uses) e i known below).0 (v, holds)))

-- the clauses with those that break clause i, by what the solver and the loop have
pub broken_at : (c : Circuit) (i : ℕ) (added given items clauses : List (List Lit)) (clause d literals : List Lit) → added ≡ given → items ≡ clauses → i < length items
    → clause ≡ get_or items i d → literals ≡ broken_literals c clause → added ++ units literals ≡ given ++ units (broken_literals c (get_or clauses i []))
broken_at c i added given items clauses clause d literals kept same below is are =
    ap (λ cs. cs ++ units literals) kept
    ∙ ap (λ ls. given ++ units ls) are
    ∙ ap (λ x. given ++ units (broken_literals c x)) (is ∙ get_or_default items i d [] below ∙ ap (λ cs. get_or cs i []) same)

-- no clause of a valid entry can be broken
pub none_broken : (c : Circuit) (before : List Entry) (e : Entry) (added : List (List Lit)) → ObligationsTell c → IsGoodList c before → IsValid c before e
    → AreOver (length c.latches) e.clauses → added ≡ shared_clauses c (used_entries before e.uses) e.uses e.clauses
    → All (λ clause. IsUnsatisfiable (added ++ units (broken_literals c clause))) e.clauses
none_broken c before e added tell good valid over shared = λ i d below v.
    ap (λ x. clauses_value v (added ++ units (broken_literals c x))) (get_or_default e.clauses i d [] below)
    ∙ ap (λ cs. clauses_value v (cs ++ units (broken_literals c (get_or e.clauses i [])))) shared
    ∙ no_model c before e i tell good valid over below v

proofs_are : (c : Circuit) (before : List Entry) (e : Entry) (added : List (List Lit)) (proofs : List (List (List ℕ)))
    → added ≡ shared_clauses c (used_entries before e.uses) e.uses e.clauses → AreRefuted c added e.clauses proofs → AreProofs c before e proofs
proofs_are c before e added proofs shared h = record {
  count = h.count;
  refute = λ i below. subst (λ cs. Refutes (cs ++ units (broken_literals c (get_or e.clauses i []))) (get_or proofs i [])) shared (h.each i below);
}

pub proofs_if : (c : Circuit) (before : List Entry) (e : Entry) (added : List (List Lit)) (result : Result (List (List (List ℕ))) SolveEnd)
    → added ≡ shared_clauses c (used_entries before e.uses) e.uses e.clauses → IfOk result (AreRefuted c added e.clauses) → IfOk result (AreProofs c before e)
proofs_if c before e added (Ok proofs) shared h = proofs_are c before e added proofs shared h
proofs_if c before e added (Err end) shared h = tt

-- with one more a fact of each place of a list
one_more_each : (P : ℕ → List (List ℕ) → Type 0) (xs : List (List (List ℕ))) (x : List (List ℕ))
    → ((k : ℕ) → k < length xs → P k (get_or xs k [])) → P (length xs) x
    → (k : ℕ) → k < length (xs ++ x ∷ []) → P k (get_or (xs ++ x ∷ []) k [])
one_more_each P [] x each last zero below = last
one_more_each P [] x each last (suc k) below = absurd (omega arith)
one_more_each P (y ∷ xs) x each last zero below = each 0 (omega arith)
one_more_each P (y ∷ xs) x each last (suc k) below =
    one_more_each (λ n. P (suc n)) xs x (λ n there. each (suc n) (omega arith)) last k (omega arith)

pub pushed_each : (P : ℕ → List (List ℕ) → Type 0) (xs new : List (List (List ℕ))) (x : List (List ℕ)) (i : ℕ)
    → length xs ≡ i → new ≡ xs ++ x ∷ [] → ((k : ℕ) → k < length xs → P k (get_or xs k [])) → P i x
    → (k : ℕ) → k < length new → P k (get_or new k [])
pushed_each P xs new x i count is each here =
    subst (λ ys. (k : ℕ) → k < length ys → P k (get_or ys k [])) (sym is)
    (one_more_each P xs x each (subst (λ j. P j x) (sym count) here))
