-- An entry has no fault exactly where it is proved, and a refutation exactly where it is good.
use Rattle.std.proofs.Common.{◌≡◌, ℕ, zero, suc, ◌+◌, ◌<◌, Bool, true, false, not, List, [], ◌∷◌, length, get_or, refl, ap, subst, ◌∙◌, arith, Some, None, Option, Ok, Err, Result}
use Rattle.std.specs.Prelude.{IsOkAnd}
use Rattle.std.specs.List.{All, list_any}
use Rattle.std.proofs.lemmas.List.Elements.{All-cons, All-nil, All-head, All-tail, All-weaker}
use Rattle.aig_semantics.specs.Circuits.{Circuit}
use Rattle.proof_semantics.specs.declared.literals.Lit.{Lit}
use Rattle.proof_semantics.specs.declared.faults.LratFault.{LratFault}
use Rattle.proof_semantics.specs.Clauses.{has_literal}
use Rattle.proof_semantics.specs.Proofs.{ProofState, start, judge, judge_next, judge_all, Refutes}
use Rattle.fair_semantics.specs.declared.entries.Kind.{Kind}
use Rattle.fair_semantics.specs.declared.entries.Kind.TheVariants.{Reach, Wall}
use Rattle.fair_semantics.specs.declared.entries.Side.{Side}
use Rattle.fair_semantics.specs.declared.entries.Side.TheVariants as sides
use Rattle.fair_semantics.specs.States.{initial_cube}
use Rattle.fair_semantics.specs.Entries.{Entry, used_entries}
use Rattle.cnf_unroll.specs.Obligations.{skeleton_clauses}
use Rattle.cnf_unroll.specs.Laws.{AreOver}
use Rattle.proof_semantics.proofs.LiteralLaws.{common-swap}
use Rattle.entry.specs.declared.uses.User.TheVariants as users
use Rattle.entry.specs.declared.faults.EntryFault.{EntryFault}
use Rattle.entry.specs.declared.faults.EntryFault.TheVariants.{BadUse, Base}
use Rattle.entry.specs.Faults.{is_signed, may_use, first_bad_use, baseless_from, first_baseless, unfinished_at, line_fault, fault_from, proof_fault, clause_fault, proofs_fault, or_else, first_fault}
use Rattle.entry.specs.Proved.{holds_initial, obligation_of, IsProved, IsGoodRefutation}
use Rattle.entry.specs.Laws.{FaultlessIsProved, FaultlessIsGood}
use Rattle.entry.proofs.Closed.{split-none, closed-from_none, none-from_closed}

-- ---- the base

based : (c : Circuit) (i : ℕ) (clauses : List (List Lit)) → baseless_from i (initial_cube c) clauses ≡ None → All (holds_initial c) clauses
based c i [] h = All-nil (holds_initial c)
based c i (clause ∷ clauses) h =
    let both = split-none (list_any (has_literal (initial_cube c)) clause) _ i h in
    All-cons (holds_initial c) clause clauses both.0 (based c (i + 1) clauses both.1)

not-baseless : (c : Circuit) (i : ℕ) (clauses : List (List Lit)) → All (holds_initial c) clauses → baseless_from i (initial_cube c) clauses ≡ None
not-baseless c i [] h = refl
not-baseless c i (clause ∷ clauses) h = rw (All-head (holds_initial c) clause clauses h) (not-baseless c (i + 1) clauses (All-tail (holds_initial c) clause clauses h))

reach-based : (c : Circuit) (kind : Kind) (clauses : List (List Lit)) → first_baseless c kind clauses ≡ None → kind ≡ Reach → All (holds_initial c) clauses
reach-based c Reach clauses h is = based c 0 clauses h
reach-based c Wall clauses h is = absurd (cc)

none-baseless : (c : Circuit) (kind : Kind) (clauses : List (List Lit)) → (kind ≡ Reach → All (holds_initial c) clauses) → first_baseless c kind clauses ≡ None
none-baseless c Reach clauses h = not-baseless c 0 clauses (h refl)
none-baseless c Wall clauses h = refl

-- ---- proofs

abbrev pub IsDone : ProofState → Type 0
IsDone s = s.finished ≡ true

pub finished-from_none : (line : ℕ) (b : Bool) → unfinished_at line b ≡ None → b ≡ true
finished-from_none line true h = refl
finished-from_none line false h = absurd (cc)

pass-next : (line : ℕ) (r : Result ProofState LratFault) (lines : List (List ℕ))
    → ((t : ProofState) → fault_from (line + 1) t lines ≡ None → IsOkAnd (judge_all t lines) IsDone)
    → line_fault line r (λ t. fault_from (line + 1) t lines) ≡ None → IsOkAnd (judge_next r (λ t. judge_all t lines)) IsDone
pass-next line (Ok t) lines later h = later t h
pass-next line (Err fault) lines later h = absurd (cc)

done-from_none : (line : ℕ) (s : ProofState) (lines : List (List ℕ)) → fault_from line s lines ≡ None → IsOkAnd (judge_all s lines) IsDone
done-from_none line s [] h = finished-from_none line s.finished h
done-from_none line s (bytes ∷ lines) h = pass-next line (judge s bytes) lines (λ t g. done-from_none (line + 1) t lines g) h

none-next : (line : ℕ) (r : Result ProofState LratFault) (lines : List (List ℕ))
    → ((t : ProofState) → IsOkAnd (judge_all t lines) IsDone → fault_from (line + 1) t lines ≡ None)
    → IsOkAnd (judge_next r (λ t. judge_all t lines)) IsDone → line_fault line r (λ t. fault_from (line + 1) t lines) ≡ None
none-next line (Ok t) lines later h = later t h
none-next line (Err fault) lines later h = absurd h

none-from_done : (line : ℕ) (s : ProofState) (lines : List (List ℕ)) → IsOkAnd (judge_all s lines) IsDone → fault_from line s lines ≡ None
none-from_done line s [] h = ap (unfinished_at line) h
none-from_done line s (bytes ∷ lines) h = none-next line (judge s bytes) lines (λ t g. none-from_done (line + 1) t lines g) h

pub refutes-from_none : (given : List (List Lit)) (lines : List (List ℕ)) → proof_fault given lines ≡ None → Refutes given lines
refutes-from_none given lines h = done-from_none 0 (start given) lines h

pub none-from_refutes : (given : List (List Lit)) (lines : List (List ℕ)) → Refutes given lines → proof_fault given lines ≡ None
none-from_refutes given lines h = none-from_done 0 (start given) lines h

pub clause-none : (i : ℕ) (r : Option (ℕ × LratFault)) (rest : Option EntryFault) → clause_fault i r rest ≡ None → (r ≡ None) × (rest ≡ None)
clause-none i None rest h = (refl, h)
clause-none i (Some found) rest h = absurd (cc)

each-refutes : (ob : ℕ → List (List Lit)) (n : ℕ) (proofs : List (List (List ℕ))) → proofs_fault ob n proofs ≡ None
    → (i k : ℕ) → i < length proofs → n + i ≡ k → Refutes (ob k) (get_or proofs i [])
each-refutes ob n [] h i k below place = absurd (omega arith)
each-refutes ob n (proof ∷ proofs) h zero k below place =
    let both = clause-none n (proof_fault (ob n) proof) _ h in
    let e : n ≡ k = omega arith in
    subst (λ m. Refutes (ob m) proof) e (refutes-from_none (ob n) proof both.0)
each-refutes ob n (proof ∷ proofs) h (suc i) k below place =
    let both = clause-none n (proof_fault (ob n) proof) _ h in
    each-refutes ob (n + 1) proofs both.1 i k (omega arith) (omega arith)

none-faulty : (ob : ℕ → List (List Lit)) (n : ℕ) (proofs : List (List (List ℕ)))
    → ((i k : ℕ) → i < length proofs → n + i ≡ k → Refutes (ob k) (get_or proofs i [])) → proofs_fault ob n proofs ≡ None
none-faulty ob n [] h = refl
none-faulty ob n (proof ∷ proofs) h =
    let first : proof_fault (ob n) proof ≡ None = none-from_refutes (ob n) proof (h 0 n (omega arith) (omega arith)) in
    let rest : proofs_fault ob (n + 1) proofs ≡ None = none-faulty ob (n + 1) proofs (λ i k below place. h (suc i) k (omega arith) (omega arith)) in
    ap (λ r. clause_fault n r (proofs_fault ob (n + 1) proofs)) first ∙ rest

-- ---- uses

reach-kind : (kind used : Kind) (side : Side) → may_use (users.Entry kind) used side ≡ true → kind ≡ Reach → used ≡ Reach
reach-kind Reach Reach side h is = refl
reach-kind Reach Wall side h is = absurd (cc)
reach-kind Wall used side h is = absurd (cc)

pub unsigned : (side : Side) → ((side ≡ sides.Any → ⊥) → ⊥) → not (is_signed side) ≡ true
unsigned sides.Any h = refl
unsigned sides.In h = absurd (h (λ e. cc))
unsigned sides.Out h = absurd (h (λ e. cc))

reach-or-wall : Reach ≡ Wall → ⊥
reach-or-wall e = cc

wall-or-reach : Wall ≡ Reach → ⊥
wall-or-reach e = cc

entry-may : (kind used : Kind) (side : Side) → (kind ≡ Reach → used ≡ Reach) → ((side ≡ sides.Any → ⊥) → used ≡ Wall) → may_use (users.Entry kind) used side ≡ true
entry-may Reach Reach side reach wall = unsigned side (λ signed. reach-or-wall (wall signed))
entry-may Reach Wall side reach wall = absurd (wall-or-reach (reach refl))
entry-may Wall Reach side reach wall = unsigned side (λ signed. reach-or-wall (wall signed))
entry-may Wall Wall side reach wall = refl

-- ---- the whole

pub else-none : {X : Type 0} (r : Option X) (f : X → EntryFault) (rest : Option EntryFault) → or_else r f rest ≡ None → (r ≡ None) × (rest ≡ None)
else-none None f rest h = (refl, h)
else-none (Some x) f rest h = absurd (cc)

none-else : {X : Type 0} (r : Option X) (f : X → EntryFault) (rest : Option EntryFault) → r ≡ None → rest ≡ None → or_else r f rest ≡ None
none-else r f rest none h = ap (λ x. or_else x f rest) none ∙ h

proved : (c : Circuit) (before : List Entry) (e : Entry) (proofs : List (List (List ℕ))) → AreOver (length c.latches) e.clauses → length proofs ≡ length e.clauses
    → first_fault c before e proofs ≡ None → IsProved c before e proofs
proved c before e proofs over count h =
    let uses = else-none (first_bad_use (users.Entry e.kind) before e.uses) BadUse _ h in
    let clauses = else-none (first_baseless c e.kind e.clauses) Base _ uses.1 in
    let stand = closed-from_none (users.Entry e.kind) before e.uses uses.0 in
    record {
      closed = stand.0;
      over = over;
      reach = λ is. record {
        uses = λ k d inside. reach-kind e.kind _ _ (stand.1 k d inside) is;
        clauses = reach-based c e.kind e.clauses clauses.0 is;
      };
      each = record {
        count = count;
        refute = λ i below. each-refutes (obligation_of c before e) 0 proofs clauses.1 i i (omega arith) (omega arith);
      };
    }

faultless : (c : Circuit) (before : List Entry) (e : Entry) (proofs : List (List (List ℕ))) → IsProved c before e proofs → first_fault c before e proofs ≡ None
faultless c before e proofs is =
    let uses : first_bad_use (users.Entry e.kind) before e.uses ≡ None =
    none-from_closed (users.Entry e.kind) before e.uses is.closed (λ k d inside.
    entry-may e.kind _ _ (λ reach. (is.reach reach).uses k d inside) (is.closed.walls k d inside))
    in
    let clauses : first_baseless c e.kind e.clauses ≡ None = none-baseless c e.kind e.clauses (λ reach. (is.reach reach).clauses) in
    let refuted : proofs_fault (obligation_of c before e) 0 proofs ≡ None =
    none-faulty (obligation_of c before e) 0 proofs (λ i k below place.
    let same : i ≡ k = omega arith in
    let count = is.each.count in
    subst (λ m. Refutes (obligation_of c before e m) (get_or proofs i [])) same (is.each.refute i (omega arith)))
    in
    none-else (first_bad_use (users.Entry e.kind) before e.uses) BadUse _ uses (none-else (first_baseless c e.kind e.clauses) Base _ clauses refuted)

pub faultless_is_proved : (c : Circuit) → FaultlessIsProved c
faultless_is_proved c before e proofs over count = (proved c before e proofs over count, faultless c before e proofs)

-- ---- refutations

pub not-signed : (side : Side) → not (is_signed side) ≡ true → (side ≡ sides.Any → ⊥) → ⊥
not-signed sides.Any h signed = signed refl
not-signed sides.In h signed = absurd (cc)
not-signed sides.Out h signed = absurd (cc)

pub faultless_is_good : (c : Circuit) → FaultlessIsGood c
faultless_is_good c entries j uses proof =
    let given = skeleton_clauses c j (used_entries entries uses) in
    let good : ((first_bad_use users.Refutation entries uses ≡ None) × (proof_fault given proof ≡ None)) → IsGoodRefutation c entries j uses proof =
    λ h.
    let stand = closed-from_none users.Refutation entries uses h.0 in
    record {
      closed = stand.0;
      unsigned = λ k d inside. not-signed _ (stand.1 k d inside);
      refutes = refutes-from_none given proof h.1;
    }
    in
    let back : IsGoodRefutation c entries j uses proof → ((first_bad_use users.Refutation entries uses ≡ None) × (proof_fault given proof ≡ None)) =
    λ is. (
      none-from_closed users.Refutation entries uses is.closed (λ k d inside. unsigned _ (is.unsigned k d inside)),
      none-from_refutes given proof is.refutes,
    )
    in
    (good, back)

-- a base, from the clause or from the initial cube
pub base-swap : (c : Circuit) (clauses : List (List Lit))
    → All (λ clause. list_any (has_literal clause) (initial_cube c) ≡ true) clauses → All (holds_initial c) clauses
base-swap c clauses h =
    All-weaker (λ clause. list_any (has_literal clause) (initial_cube c) ≡ true) (holds_initial c)
    (λ clause e. common-swap clause (initial_cube c) e) clauses h
