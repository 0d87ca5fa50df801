-- What the solver's answers say of skeletons.
use Rattle.std.proofs.Common.{◌≡◌, ℕ, suc, ◌-◌, ◌<◌, Bool, true, List, [], ◌++◌, map, length, sym, ap, subst, ◌∙◌, append-nil, arith}
use Rattle.std.proofs.lemmas.Bool.{true≢false, false_from_ne_true}
use Rattle.std.proofs.lemmas.List.{length-map}
use Rattle.aig_semantics.specs.Circuits.{Circuit, IsChecked}
use Rattle.aig_semantics.specs.Valuations.{HasOneValuation}
use Rattle.proof_semantics.specs.declared.literals.Lit.{Lit}
use Rattle.proof_semantics.specs.Clauses.{clauses_value, cube_value, values_of, is_part}
use Rattle.proof_semantics.specs.Proofs.{Refutes}
use Rattle.proof_semantics.proofs.Soundness.{refuted-unsatisfiable}
use Rattle.fair_semantics.specs.declared.skeletons.Skeleton.{Skeleton}
use Rattle.fair_semantics.specs.declared.entries.Use.{Use}
use Rattle.fair_semantics.specs.Entries.{Entry, numbered}
use Rattle.cnf_unroll.specs.Numbers.{number, state_place}
use Rattle.cnf_unroll.specs.Obligations.{skeleton_clauses}
use Rattle.cnf_unroll.specs.Situations.{situations_in}
use Rattle.cnf_unroll.proofs.SkeletonLaws.{skeleton_of_model, model_of_skeleton}
use Rattle.cdcl.specs.Solving.{HasNoModel}
use Rattle.cdcl_log.specs.UnitClauses.{unit_clauses}
use Rattle.entry.specs.Proved.{IsGoodRefutation}
use Rattle.entry.specs.Laws.{IsGoodList}
use Rattle.skeleton.specs.Finding.{IsAllowed, AllowsNone, first_state, BeginsNone}
use Rattle.skeleton.specs.Reading.{situation_count, uses_from, state_literals, core_cube}
use Rattle.skeleton.proofs.Using.{used_all, closed_all, unsigned, readable_all}
use Rattle.skeleton.proofs.StateLaws.{literals_told, cube_holds, cube_latches, cube_core}

-- the first situation has the values of the first block's latches
first_of_some : (c : Circuit) (n m : ℕ) (v : ℕ → Bool) → n ≡ suc m
    → first_state (record { situations = situations_in c 0 n v }) ≡ map v (state_place c 0)
first_of_some c n m v e = ap (λ k. first_state (record { situations = situations_in c 0 k v })) e

first_read : (c : Circuit) (j : ℕ) (v : ℕ → Bool)
    → first_state (record { situations = situations_in c 0 (situation_count c j) v }) ≡ map v (state_place c 0)
first_read c j v = first_of_some c (situation_count c j) (situation_count c j - 1) v (omega arith)

module _ (c : Circuit) (checked : IsChecked c) (law : HasOneValuation c) (j : ℕ) (inside : j < length c.justice) (entries : List Entry) (good : IsGoodList c entries) where
  -- what a model gives is an allowed skeleton
  pub model_allowed : (v : ℕ → Bool) (s : Skeleton) → clauses_value v (skeleton_clauses c j (numbered entries)) ≡ true
      → s.situations ≡ situations_in c 0 (situation_count c j) v → IsAllowed c j entries s
  model_allowed v s holds is =
      let read = skeleton_of_model c checked law (numbered entries) j (readable_all c entries good) inside v holds in
      subst (λ ss. IsAllowed c j entries (record { situations = ss })) (sym is) (record { skeleton = read.skeleton; allowed = read.allowed })

  -- where the clauses are refuted there is none
  pub refuted_none : (proof : List (List ℕ)) → Refutes (skeleton_clauses c j (numbered entries)) proof → AllowsNone c j entries
  refuted_none proof refutes s is =
      let w = model_of_skeleton c checked law (numbered entries) j (readable_all c entries good) s is.skeleton is.allowed in
      true≢false (sym w.holds ∙ refuted-unsatisfiable (skeleton_clauses c j (numbered entries)) proof refutes w.value)

  pub refutation_good : (uses : List Use) (proof : List (List ℕ)) → uses ≡ uses_from 0 entries
      → Refutes (skeleton_clauses c j (numbered entries)) proof → IsGoodRefutation c entries j uses proof
  refutation_good uses proof e refutes =
      subst (λ us. IsGoodRefutation c entries j us proof) (sym e) (record {
        closed = closed_all c entries good;
        unsigned = unsigned entries;
        refutes = subst (λ us. Refutes (skeleton_clauses c j us) proof) (sym (used_all entries)) refutes;
      })

  -- a model of the state's literals begins in the state
  pub model_begins : (v : ℕ → Bool) (s : Skeleton) (state : List Bool) → length state ≡ length c.latches
      → s.situations ≡ situations_in c 0 (situation_count c j) v
      → cube_value v (state_literals (state_place c 0) state) ≡ true → first_state s ≡ state
  model_begins v s state l is holds =
      ap (λ ss. first_state (record { situations = ss })) is ∙ first_read c j v
      ∙ literals_told v (state_place c 0) state (l ∙ sym (length-map c.latches (λ latch. number 0 latch.var))) holds

  -- where a core is refused, no allowed skeleton begins in its cube
  pub core_begins_none : (core : List Lit) (state : List Bool) → length state ≡ length c.latches
      → is_part core (state_literals (state_place c 0) state) ≡ true
      → HasNoModel (skeleton_clauses c j (numbered entries)) core
      → BeginsNone c j entries (core_cube core 0 (state_literals (state_place c 0) state))
  core_begins_none core state l part refused =
      let place = state_place c 0 in
      let long : length place ≡ length c.latches = length-map c.latches (λ latch. number 0 latch.var) in
      record {
        over = cube_latches core place state (length c.latches) (l ∙ sym long) long;
        none = λ s is.
            let w = model_of_skeleton c checked law (numbered entries) j (readable_all c entries good) s is.skeleton is.allowed in
            false_from_ne_true (cube_value (values_of (first_state s)) (core_cube core 0 (state_literals place state))) (λ inside.
            refused w.value (record {
              clauses = w.holds;
              assumed = cube_core w.value core place state part
                  (ap (λ t. cube_value (values_of t) (core_cube core 0 (state_literals place state))) w.begins ∙ inside);
            }));
      }

  pub core_never : (core : List Lit) (state : List Bool) (assumptions cube : List Lit) → length state ≡ length c.latches
      → assumptions ≡ state_literals (state_place c 0) state → cube ≡ core_cube core 0 assumptions
      → is_part core assumptions ≡ true → HasNoModel (skeleton_clauses c j (numbered entries)) core
      → BeginsNone c j entries cube × (cube_value (values_of state) cube ≡ true)
  core_never core state assumptions cube l are is part refused =
      let place = state_place c 0 in
      let same : cube ≡ core_cube core 0 (state_literals place state) = is ∙ ap (core_cube core 0) are in (
        subst (BeginsNone c j entries) (sym same) (core_begins_none core state l (sym (ap (is_part core) are) ∙ part) refused),
        ap (cube_value (values_of state)) same ∙ cube_holds core place state,
      )

-- without unit clauses
pub without_units : (clauses : List (List Lit)) → clauses ++ unit_clauses [] ≡ clauses
without_units clauses = append-nil clauses
