-- Over an entry whose last clause is that the last latch is false, the clauses that this latch is true have no model; and the
-- entry and a refutation of them are an answer.
use Rattle.std.proofs.Common.{◌≡◌, ℕ, ◌-◌, ◌<◌, ◌≤◌, Bool, true, false, not, ◌||◌, List, [], ◌∷◌, ◌++◌, map, length, get_or, refl, sym, ap, ◌∙◌, subst, arith}
use Rattle.std.specs.List.{All, list_all}
use Rattle.std.proofs.lemmas.Bool.{and_parts, false≢true, false_from_ne_true}
use Rattle.std.proofs.lemmas.List.Folds.{list_all-append}
use Rattle.std.proofs.lemmas.List.Elements.{All-nil, All-cons}
use Rattle.std.proofs.lemmas.List.Kept.{AllPairs-cons}
use Rattle.aig_semantics.specs.Circuits.{Circuit}
use Rattle.proof_semantics.specs.declared.literals.Lit.{Lit}
use Rattle.proof_semantics.specs.Clauses.{clause_value, clauses_value, IsUnsatisfiable}
use Rattle.proof_semantics.specs.Proofs.{Refutes}
use Rattle.fair_semantics.specs.declared.entries.Kind.TheVariants.{Reach, Wall}
use Rattle.fair_semantics.specs.Entries.{IsSigned, NamesUsed, entry_at}
use Rattle.cnf_unroll.specs.Numbers.{state_place, clause_at_place}
use Rattle.entry.specs.declared.entries.Entry.{Entry as WithProofs}
use Rattle.entry.specs.Entries.{said}
use Rattle.entry.specs.Proved.{IsProved}
use Rattle.round_answers.specs.declared.rounds.KnownRounds.{KnownRounds}
use Rattle.round_answers.specs.declared.rounds.KnownRounds.TheVariants.{Fewer}
use Rattle.certificate.specs.Refuted.{state_clauses}
use Rattle.round_answers.specs.Answers.{last_latch}
use Rattle.round_answers.specs.Writing.{AreFull}
use Rattle.k_live.specs.Asking.{reach_entry, last_false, first_use, refuted_clauses, IsClaim, IsShownBySet}

-- ---- no model

-- of clauses that are mapped, the last
last-met : (f : List Lit → List Lit) (p : List Lit → Bool) (front : List (List Lit)) (x : List Lit)
    → list_all p (map f (front ++ x ∷ []) ++ []) ≡ true → p (f x) ≡ true
last-met f p [] x h = (and_parts (p (f x)) true h).0
last-met f p (y ∷ front) x h = last-met f p front x (and_parts (p (f y)) (list_all p (map f (front ++ x ∷ []) ++ [])) h).1

clash : (b : Bool) → (not b || false) ≡ true → (b || false) ≡ true → ⊥
clash true h g = false≢true h
clash false h g = false≢true g

unmet : (t : Circuit) (front : List (List Lit)) → IsUnsatisfiable (refuted_clauses t (front ++ last_false t ∷ []))
unmet t front v =
    let at_state : List Lit → List Lit = clause_at_place (state_place t 0) in
    let n : ℕ = get_or (state_place t 0) (length t.latches - 1) 0 in
    let own : List (List Lit) = map at_state (front ++ last_false t ∷ []) ++ [] in
    let goal : List (List Lit) = at_state (last_latch t ∷ []) ∷ [] in
    false_from_ne_true (clauses_value v (own ++ goal)) (λ h.
    let both = and_parts (list_all (clause_value v) own) (list_all (clause_value v) goal) (sym (list_all-append (clause_value v) own goal) ∙ h) in
    clash (v n) (last-met at_state (clause_value v) front (last_false t) both.0) (and_parts (v n || false) true both.1).0)

pub no-model : (t : Circuit) (set clauses : List (List Lit)) → IsClaim t set → clauses ≡ refuted_clauses t set → IsUnsatisfiable clauses
no-model t set clauses claim is =
    subst IsUnsatisfiable (sym is)
    (subst (λ s. IsUnsatisfiable (refuted_clauses t s)) (sym claim.last) (unmet t claim.front))

-- ---- the answer

unsigned-first : All (λ u. IsSigned u → ⊥) (first_use ∷ [])
unsigned-first = All-cons (λ u. IsSigned u → ⊥) first_use [] (λ signed. signed refl) (All-nil _)

pub full : (t : Circuit) (set : List (List Lit)) (e : WithProofs) (clauses : List (List Lit)) (proof : List (List ℕ))
    → said e ≡ reach_entry set → IsProved t [] (said e) e.proofs → clauses ≡ refuted_clauses t set → Refutes clauses proof
    → AreFull t (e ∷ []) (record { uses = first_use ∷ []; proof = proof })
full t set e clauses proof is proved over refutes = record {
  few = (let one : 1 ≤ 65536 = omega arith in one);
  reach = All-cons (λ x. x.kind ≡ Reach) e [] (ap (λ x. x.kind) is) (All-nil _);
  proved = (proved, tt);
  refuted = record {
    closed = record {
      ascend = AllPairs-cons (λ u w. u.entry < w.entry) first_use [] (All-nil _) (λ i j d lt below. absurd (omega (arith, below)));
      present = All-cons (λ u. u.entry < 1) first_use [] (omega arith) (All-nil _);
      walls =
          All-cons (λ u. IsSigned u → (entry_at (said e ∷ []) u.entry).kind ≡ Wall) first_use [] (λ signed. absurd (signed refl)) (All-nil _);
      closed =
          All-cons (λ u. NamesUsed (first_use ∷ []) u.entry (entry_at (said e ∷ []) u.entry)) first_use []
          (subst (λ x. NamesUsed (first_use ∷ []) 0 x) (sym is) (All-nil _)) (All-nil _);
    };
    unsigned = unsigned-first;
    refutes =
        subst (λ x. Refutes (state_clauses t (last_latch t) (record { number = 0; entry = x } ∷ [])) proof) (sym is)
        (subst (λ cs. Refutes cs proof) over refutes);
  };
}

pub shown : (t : Circuit) (set : List (List Lit)) (e : WithProofs) (clauses : List (List Lit)) (proof : List (List ℕ)) (r : KnownRounds)
    → r ≡ Fewer (e ∷ []) (record { uses = first_use ∷ []; proof = proof })
    → said e ≡ reach_entry set → IsProved t [] (said e) e.proofs → clauses ≡ refuted_clauses t set → Refutes clauses proof → IsShownBySet t r
shown t set e clauses proof r is same proved over refutes = subst (IsShownBySet t) (sym is) (full t set e clauses proof same proved over refutes)
