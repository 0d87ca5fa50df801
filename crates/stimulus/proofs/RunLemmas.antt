-- Runs that a stimulus lays out, position by position.
use Rattle.std.proofs.Common.{◌≡◌, ℕ, zero, suc, ◌+◌, ◌-◌, ◌<◌, ◌≤◌, Bool, true, false, List, [], ◌∷◌, ◌++◌, length, take, drop, if◌then◌else◌, ◌⊎◌, inl, inr, subst, length-drop, refl, sym, ap, ◌∙◌, Some, slice_get, IsTrue, All, Any, arith, length-append}
use native.Mathlib.Numerals.{unary_clauses}
use Rattle.std.proofs.lemmas.Bool.{false≢true}
use Rattle.std.proofs.lemmas.List.{drop_all}
use Rattle.std.proofs.lemmas.List.Quantifiers.{Any-push}
use Rattle.std.proofs.lemmas.List.Elements.{All-head, All-tail, All-cons, All-nil}
use Rattle.aig_semantics.specs.declared.traces.Position.{Position}
use Rattle.aig_semantics.specs.Circuits.{Circuit}
use Rattle.aig_semantics.specs.Runs.{position_of, successor, IsRun, MeetsConstraints}
use Rattle.aig_semantics.specs.Stimuli.{simulated, state_after}
use Rattle.circuit.proofs.RoundsAlong.{any_head, any_tail, any_cases, none_any}
use Rattle.stimulus.specs.Walks.{IsEndOf}

pub state_after-push : (c : Circuit) (latches : List Bool) (inputs : List (List Bool)) (now : List Bool) → state_after c latches (inputs ++ now ∷ []) ≡ successor c (position_of (state_after c latches inputs) now)
unfolding state_after
state_after-push c latches [] now = refl
state_after-push c latches (first ∷ inputs) now = state_after-push c (successor c (position_of latches first)) inputs now

pub simulated-push : (c : Circuit) (latches : List Bool) (inputs : List (List Bool)) (now : List Bool) → simulated c latches (inputs ++ now ∷ []) ≡ simulated c latches inputs ++ position_of (state_after c latches inputs) now ∷ []
unfolding state_after simulated
simulated-push c latches [] now = refl
simulated-push c latches (first ∷ inputs) now = ap (λ run. position_of latches first ∷ run) (simulated-push c (successor c (position_of latches first)) inputs now)

pub simulated-take : (c : Circuit) (k : ℕ) (latches : List Bool) (inputs : List (List Bool)) → simulated c latches (take k inputs) ≡ take k (simulated c latches inputs)
unfolding simulated
simulated-take c zero latches inputs = refl
simulated-take c (suc k) latches [] = refl
simulated-take c (suc k) latches (first ∷ inputs) = ap (λ run. position_of latches first ∷ run) (simulated-take c k (successor c (position_of latches first)) inputs)

-- positions that are simulated are a run where each meets the constraints
pub IsRun-from_meets : (c : Circuit) (latches : List Bool) (inputs : List (List Bool)) → All (MeetsConstraints c) (simulated c latches inputs) → IsRun c (simulated c latches inputs)
unfolding simulated
IsRun-from_meets c latches [] h = tt
IsRun-from_meets c latches (now ∷ []) h = (All-head (MeetsConstraints c) (position_of latches now) [] h, tt, tt)
IsRun-from_meets c latches (now ∷ next ∷ inputs) h =
    let p = position_of latches now in
    let later = simulated c (successor c p) (next ∷ inputs) in
    (All-head (MeetsConstraints c) p later h, refl, IsRun-from_meets c (successor c p) (next ∷ inputs) (All-tail (MeetsConstraints c) p later h))

pub IsRun-meets : (c : Circuit) (run : List Position) → IsRun c run → All (MeetsConstraints c) run
IsRun-meets c [] h = All-nil (MeetsConstraints c)
IsRun-meets c (p ∷ run) h = All-cons (MeetsConstraints c) p run h.0 (IsRun-meets c run h.2)

-- the last position's successor is the state after the run
pub last_position : (c : Circuit) (latches : List Bool) (inputs : List (List Bool)) → 0 < length inputs → (last : Position) × (slice_get (simulated c latches inputs) (length (simulated c latches inputs) - 1) ≡ Some last) × (successor c last ≡ state_after c latches inputs)
unfolding simulated state_after
last_position c latches [] h = absurd (omega arith)
last_position c latches (now ∷ []) h = (position_of latches now, refl, refl)
last_position c latches (now ∷ next ∷ inputs) h = simp unary_clauses (simp unary_clauses at (last_position c (successor c (position_of latches now)) (next ∷ inputs) (omega arith)))

-- from place k on, with one more element at the end
any_drop-last : {X : Type 0} (P : X → Type 0) (k : ℕ) (xs : List X) (x : X) → k ≤ length xs → P x → Any P (drop k (xs ++ x ∷ []))
any_drop-last P zero xs x h here = Any-push P xs x here
any_drop-last P (suc k) [] x h here = absurd (omega arith)
any_drop-last P (suc k) (y ∷ xs) x h here = any_drop-last P k xs x (omega arith) here

any_append : {X : Type 0} (P : X → Type 0) (xs : List X) (x : X) → Any P xs → Any P (xs ++ x ∷ [])
any_append P [] x h = absurd (none_any P h)
any_append P (y ∷ xs) x h = any_append_cases (any_cases P y xs h) (any_append P xs x)
  where
    any_append_cases : P y ⊎ Any P xs → (Any P xs → Any P (xs ++ x ∷ [])) → Any P (y ∷ xs ++ x ∷ [])
    any_append_cases (inl here) later = any_head P y (xs ++ x ∷ []) here
    any_append_cases (inr h) later = any_tail P y (xs ++ x ∷ []) (later h)

any_append-back : {X : Type 0} (P : X → Type 0) (xs : List X) (x : X) → (P x → ⊥) → Any P (xs ++ x ∷ []) → Any P xs
any_append-back P [] x not_here h = absurd (alone (any_cases P x [] h))
  where
    alone : P x ⊎ Any P [] → ⊥
    alone (inl here) = not_here here
    alone (inr none) = none_any P none
any_append-back P (y ∷ xs) x not_here h = back (any_cases P y (xs ++ x ∷ []) h) (any_append-back P xs x not_here)
  where
    back : P y ⊎ Any P (xs ++ x ∷ []) → (Any P (xs ++ x ∷ []) → Any P xs) → Any P (y ∷ xs)
    back (inl here) later = any_head P y xs here
    back (inr h) later = any_tail P y xs (later h)

any_drop-more : {X : Type 0} (P : X → Type 0) (k : ℕ) (xs : List X) (x : X) → Any P (drop k xs) → Any P (drop k (xs ++ x ∷ []))
any_drop-more P zero xs x h = any_append P xs x h
any_drop-more P (suc k) [] x h = absurd (none_any P h)
any_drop-more P (suc k) (y ∷ xs) x h = any_drop-more P k xs x h

any_drop-back : {X : Type 0} (P : X → Type 0) (k : ℕ) (xs : List X) (x : X) → (P x → ⊥) → Any P (drop k (xs ++ x ∷ [])) → Any P (drop k xs)
any_drop-back P zero xs x not_here h = any_append-back P xs x not_here h
any_drop-back P (suc k) [] x not_here h = absurd (none_any P (subst (Any P) (drop_all k [] (omega arith)) h))
any_drop-back P (suc k) (y ∷ xs) x not_here h = any_drop-back P k xs x not_here h

any_drop-inside : {X : Type 0} (P : X → Type 0) (k : ℕ) (xs : List X) → Any P (drop k xs) → k < length xs
any_drop-inside P k xs h = omega (arith, h.2, length-drop k xs)

-- the place behind the last element that passes, when one more comes
pub IsEndOf-none : {X : Type 0} (test : X → Bool) → IsEndOf test [] 0
IsEndOf-none test = record {
  within = λ k h. absurd (omega arith);
  behind = λ k h. absurd (none_any (λ x. IsTrue (test x)) (subst (Any (λ x. IsTrue (test x))) (drop_all k [] (omega arith)) h));
}

pub IsEndOf-push : {X : Type 0} (test : X → Bool) (xs : List X) (x : X) (end number : ℕ) → number ≡ length xs + 1 → IsEndOf test xs end → IsEndOf test (xs ++ x ∷ []) (if test x then number else end)
IsEndOf-push {X} test xs x end number is h = by_test (test x) refl
  where
    P : X → Type 0
    P x = IsTrue (test x)

    by_test : (b : Bool) → test x ≡ b → IsEndOf test (xs ++ x ∷ []) (if b then number else end)
    by_test true e = record {
      within = λ k inside. any_drop-last P k xs x (omega arith) e;
      behind = λ k h. omega (arith, any_drop-inside P k (xs ++ x ∷ []) h, length-append xs (x ∷ []));
    }
    by_test false e = record {
      within = λ k inside. any_drop-more P k xs x (h.within k inside);
      behind = λ k some. h.behind k (any_drop-back P k xs x (λ t. false≢true (sym e ∙ t)) some);
    }
