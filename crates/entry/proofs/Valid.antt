-- A proved entry behind a good list is valid, and a good refutation over one leaves no fair lasso.
use Rattle.std.proofs.Common.{◌≡◌, ℕ, suc, ◌<◌, Bool, true, false, not, ◌&&◌, ◌||◌, List, [], ◌∷◌, length, get_or, refl, sym, ap, ◌∙◌, inl, inr, arith}
use Rattle.std.specs.List.{All, list_any, list_all}
use Rattle.std.proofs.lemmas.Bool.{and_parts, and_from, or_cases, or_left, or_right, true_from_ne_false, false_from_ne_true, true≢false}
use Rattle.std.proofs.lemmas.List.Elements.{All-head, All-tail, All-nil, All-cons, All-append}
use Rattle.aig_semantics.specs.Circuits.{Circuit}
use Rattle.proof_semantics.specs.declared.literals.Lit.{Lit}
use Rattle.proof_semantics.specs.Clauses.{lit_eq, has_literal, bool_eq, literal_value, clause_value, values_of}
use Rattle.proof_semantics.proofs.LiteralLaws.{lit_eq-true}
use Rattle.proof_semantics.proofs.Soundness.{refuted-unsatisfiable}
use Rattle.fair_semantics.specs.declared.entries.Kind.{Kind}
use Rattle.fair_semantics.specs.declared.entries.Kind.TheVariants.{Reach, Wall}
use Rattle.fair_semantics.specs.declared.entries.Side.{Side}
use Rattle.fair_semantics.specs.declared.entries.Side.TheVariants as sides
use Rattle.fair_semantics.specs.declared.entries.Use.{Use}
use Rattle.fair_semantics.specs.States.{initial_cube, meets_clauses}
use Rattle.fair_semantics.specs.Entries.{Entry, entry_at, used_entries, set_at, lies_on, IsSigned, AreClosed}
use Rattle.fair_semantics.specs.Allowing.{allows_by, all_allow, allow}
use Rattle.fair_semantics.specs.Skeletons.{places}
use Rattle.fair_semantics.specs.Validity.{set_behind, NoStepLeaves, IsReachBase}
use Rattle.fair_semantics.specs.Laws.{StandAlone}
use Rattle.fair_semantics.proofs.Alone.{uses_stand_alone}
use Rattle.fair_semantics.proofs.Lists.{valid-push}
use Rattle.fair_semantics.proofs.Certified.{uses_certify}
use Rattle.fair_semantics.proofs.Initial.{initial-in_cube}
use Rattle.cnf_unroll.specs.Obligations.{skeleton_clauses}
use Rattle.cnf_unroll.specs.Laws.{ObligationsTell, SkeletonClausesTell, BreaksClause, IsUnderstood, AreOver}
use Rattle.entry.specs.Proved.{IsProved, HasBase, obligation_of}
use Rattle.entry.specs.Laws.{IsGoodList, ProvedIsValid, GoodListsGrow, RefutedAllowsNone, RefutedHasNoLasso}
use Rattle.entry.proofs.Readable.{uses_readable, own_named}

-- ---- sides over a step

same_side : (a b : Bool) → ((bool_eq true a && (bool_eq true b && true)) || (bool_eq false a && (bool_eq false b && true))) ≡ true → a ≡ b
same_side true true h = refl
same_side true false h = sym h
same_side false true h = h
same_side false false h = refl

pub wall-side : (kind : Kind) (set : List Bool → Bool) (s t : List Bool) → kind ≡ Wall → allows_by kind set (s ∷ t ∷ []) ≡ true → set s ≡ set t
wall-side Reach set s t is h = absurd (cc)
wall-side Wall set s t is h = same_side (set s) (set t) h

pub side-kept : (side : Side) (kind : Kind) (set : List Bool → Bool) (s t : List Bool) → ((side ≡ sides.Any → ⊥) → kind ≡ Wall)
    → allows_by kind set (s ∷ t ∷ []) ≡ true → lies_on side (set s) ≡ true → lies_on side (set t) ≡ true
side-kept sides.Any kind set s t wall h lies = refl
side-kept sides.In kind set s t wall h lies = sym (wall-side kind set s t (wall (λ e. cc)) h) ∙ lies
side-kept sides.Out kind set s t wall h lies = ap not (sym (wall-side kind set s t (wall (λ e. cc)) h)) ∙ lies

pub sides-kept : (sets : ℕ → List Bool → Bool) (before : List Entry) (uses : List Use) (s t : List Bool)
    → All (λ u. IsSigned u → (entry_at before u.entry).kind ≡ Wall) uses
    → all_allow sets (used_entries before uses) (s ∷ t ∷ []) ≡ true
    → list_all (λ u. lies_on u.side (sets u.entry s)) uses ≡ true → list_all (λ u. lies_on u.side (sets u.entry t)) uses ≡ true
sides-kept sets before [] s t walls h lies = refl
sides-kept sets before (u ∷ uses) s t walls h lies =
    let P : Use → Type 0 = λ v. IsSigned v → (entry_at before v.entry).kind ≡ Wall in
    let both = and_parts _ _ h in
    let parts = and_parts _ _ lies in
    and_from _ _ (side-kept u.side (entry_at before u.entry).kind (sets u.entry) s t (All-head P u uses walls) both.0 parts.0)
    (sides-kept sets before uses s t (All-tail P u uses walls) both.1 parts.1)

unsigned-lies : (side : Side) (b : Bool) → ((side ≡ sides.Any → ⊥) → ⊥) → lies_on side b ≡ true
unsigned-lies sides.Any b h = refl
unsigned-lies sides.In b h = absurd (h (λ e. cc))
unsigned-lies sides.Out b h = absurd (h (λ e. cc))

none-named : (sets : ℕ → List Bool → Bool) (uses : List Use) (s : List Bool) → All (λ u. IsSigned u → ⊥) uses
    → list_all (λ u. lies_on u.side (sets u.entry s)) uses ≡ true
none-named sets [] s h = refl
none-named sets (u ∷ uses) s h =
    let P : Use → Type 0 = λ v. IsSigned v → ⊥ in
    and_from _ _ (unsigned-lies u.side (sets u.entry s) (All-head P u uses h)) (none-named sets uses s (All-tail P u uses h))

-- ---- clauses

pub each-true : (p : List Lit → Bool) (clauses : List (List Lit)) → ((i : ℕ) → i < length clauses → p (get_or clauses i []) ≡ true) → list_all p clauses ≡ true
each-true p [] h = refl
each-true p (clause ∷ clauses) h = and_from _ _ (h 0 (omega arith)) (each-true p clauses (λ i below. h (suc i) (omega arith)))

in-cube : (v : ℕ → Bool) (cube : List Lit) (l : Lit) → list_any (lit_eq l) cube ≡ true → list_all (literal_value v) cube ≡ true → literal_value v l ≡ true
in-cube v [] l has h = absurd (cc)
in-cube v (a ∷ cube) l has h =
    let both = and_parts _ _ h in
    elim (or_cases (lit_eq l a) (list_any (lit_eq l) cube) has) [
      | inl same ↦ ap (literal_value v) (lit_eq-true l a same) ∙ both.0
      | inr later ↦ in-cube v cube l later both.1
    ]

cube-holds : (v : ℕ → Bool) (cube clause : List Lit) → list_any (has_literal cube) clause ≡ true → list_all (literal_value v) cube ≡ true
    → list_any (literal_value v) clause ≡ true
cube-holds v cube [] has h = absurd (cc)
cube-holds v cube (l ∷ clause) has h =
    elim (or_cases (has_literal cube l) (list_any (has_literal cube) clause) has) [
      | inl here ↦ or_left _ _ (in-cube v cube l here h)
      | inr later ↦ or_right _ _ (cube-holds v cube clause later h)
    ]

-- ---- the laws

unbroken : (c : Circuit) (before : List Entry) (e : Entry) (proofs : List (List (List ℕ))) → ObligationsTell c → IsGoodList c before → IsProved c before e proofs
    → (i : ℕ) → i < length e.clauses → BreaksClause c (used_entries before e.uses) e i → ⊥
unbroken c before e proofs tell good proved i below breaks =
    let known : IsUnderstood c (used_entries before e.uses) e = record { used = uses_readable c before e.uses good proved.closed; over = proved.over; named = own_named before e.uses proved.closed } in
    let model = (tell (used_entries before e.uses) e i known below).1 breaks in
    true≢false (sym model.1 ∙ refuted-unsatisfiable (obligation_of c before e i) (get_or proofs i []) (proved.each.refute i below) model.0)

closed : (c : Circuit) (before : List Entry) (e : Entry) (proofs : List (List (List ℕ))) → ObligationsTell c → IsGoodList c before → IsProved c before e proofs
    → NoStepLeaves c (all_allow (set_at before) (used_entries before e.uses)) (set_behind before e)
closed c before e proofs tell good proved s t step allowed inside =
    let alone : StandAlone before e.uses = uses_stand_alone before e.uses proved.closed in
    let both = and_parts _ _ inside in
    let clauses : meets_clauses e.clauses t ≡ true =
    each-true (clause_value (values_of t)) e.clauses (λ i below.
    true_from_ne_false (clause_value (values_of t) (get_or e.clauses i [])) (λ broken.
    unbroken c before e proofs tell good proved i below (record {
      from = s;
      to = t;
      step = step;
      allowed = alone.allowed (s ∷ t ∷ []) ∙ allowed;
      inside = alone.entry e refl s ∙ inside;
      broken = broken;
    })))
    in
    and_from _ _ clauses (sides-kept (set_at before) before e.uses s t proved.closed.walls allowed both.1)

kinds-apart : (kind : Kind) → kind ≡ Reach → kind ≡ Wall → ⊥
kinds-apart Reach r w = cc
kinds-apart Wall r w = cc

base : (c : Circuit) (before : List Entry) (e : Entry) → AreClosed before e.uses → HasBase c before e → IsReachBase c before e
base c before e closed has =
    let unsigned : All (λ u. IsSigned u → ⊥) e.uses = λ k d inside signed. kinds-apart _ (has.uses k d inside) (closed.walls k d inside signed) in
    record {
      initial = λ s is.
          let cube = ((initial-in_cube c s).0 is).1 in
          and_from _ _ (each-true (clause_value (values_of s)) e.clauses (λ i below. cube-holds (values_of s) (initial_cube c) _ (has.clauses i [] below) cube))
          (none-named (set_at before) e.uses s unsigned);
      uses = has.uses;
    }

pub proved_is_valid : (c : Circuit) → ObligationsTell c → ProvedIsValid c
proved_is_valid c tell before e proofs good proved = record {
  uses = proved.closed;
  closed = closed c before e proofs tell good proved;
  reach = λ is. base c before e proved.closed (proved.reach is);
}

pub refuted_allows_none : (c : Circuit) → SkeletonClausesTell c → RefutedAllowsNone c
refuted_allows_none c tell entries j uses proof good there refutation skeleton is =
    let us = used_entries entries uses in
    false_from_ne_true (allow us (places skeleton)) (λ allowed.
    let model = (tell us j (uses_readable c entries uses good refutation.closed) there).1 (skeleton, is, allowed) in
    true≢false (sym model.1 ∙ refuted-unsatisfiable (skeleton_clauses c j us) proof refutation.refutes model.0))

pub refuted_has_no_lasso : (c : Circuit) → SkeletonClausesTell c → RefutedHasNoLasso c
refuted_has_no_lasso c tell entries j uses proof good there refutation =
    uses_certify c entries uses j good.valid refutation.closed (refuted_allows_none c tell entries j uses proof good there refutation)

pub good_lists_grow : (c : Circuit) → ObligationsTell c → GoodListsGrow c
good_lists_grow c tell = record {
  none = record { valid = tt; over = All-nil (λ e. AreOver (length c.latches) e.clauses) };
  more = λ before e proofs good proved. record {
    valid = valid-push c [] before e good.valid (proved_is_valid c tell before e proofs good proved);
    over = All-append (λ f. AreOver (length c.latches) f.clauses) before (e ∷ []) good.over
        (All-cons (λ f. AreOver (length c.latches) f.clauses) e [] proved.over (All-nil (λ f. AreOver (length c.latches) f.clauses)));
  };
}
