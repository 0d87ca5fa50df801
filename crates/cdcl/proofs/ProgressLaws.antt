-- Laws of a search's progress.
use Rattle.std.proofs.Common.{◌≡◌, ℕ, zero, suc, ◌+◌, ◌-◌, ◌<◌, ◌≤◌, ◌^◌, Bool, true, false, List, [], ◌∷◌, ◌++◌, length, get_or, Option, Some, None, Result, Ok, Err, refl, ap, sym, subst, ◌∙◌, inl, inr, arith, append_assoc, eqb-true}
use Rattle.std.specs.Prelude.{nat_eq, OnOk, OnErr}
use Rattle.std.specs.List.{list_any, list_all}
use Rattle.std.proofs.lemmas.Bool.{false≢true, and_parts, and_from, or_cases, or_left, or_right}
use Rattle.std.proofs.lemmas.List.{append-nil, length-append}
use Rattle.std.proofs.lemmas.List.Folds.{list_any-append}
use Rattle.proof_semantics.specs.Clauses.{has_literal, clause_value, IsImplied, is_subsumed}
use Rattle.proof_semantics.specs.Lines.{IsSize, AreSized}
use Rattle.proof_semantics.specs.declared.literals.Lit.{Lit}
use Rattle.proof_semantics.proofs.LiteralLaws.{lit_eq-true, lit_eq-same}
use Rattle.edge.specs.Faults.{one_more}
use Rattle.edge.specs.Units.{Spendings, SpentConflict}
use Rattle.edge.specs.Ends.{CountsConflicts}
use Rattle.cdcl_learn.specs.declared.learning.Learned.{Learned}
use Rattle.cdcl_trail.proofs.TrailLaws.{or_both, or_neither}
use Rattle.cdcl.specs.Counting.{IsRefutedAtOnce}
use Rattle.cdcl_log.specs.LoggedClauses.{LoggedClauses, with_added, with_learned, added_in, learned_in, added_of, learned_of, IsLog}
use Rattle.cdcl.specs.Room.{clause_room, literal_variables, variables_in}
use Rattle.cdcl.specs.Searching.{is_over, are_over, IsNewClause}
use Rattle.cdcl.specs.Solving.{Solving, IsNewImplicate, AreLearned, Learns, IsBounded, more_conflicts, with_conflicts}
use Rattle.cdcl.specs.Progress.{growth, IsSearched, AreIrredundant, IsSolverLog}
use Rattle.cdcl_log.proofs.LoggedLaws.{hinted_implied, learned-IsLog}
use Rattle.cdcl.proofs.RoomLaws.{room_falls, room_small, over_append, all_over, own_over}

-- Results.

pub on_either : {T E : Type 0} (r : Result T E) (P Q R S : Type 0) → OnOk r P → OnOk r Q → OnErr r R → (P → Q → S) → (R → S) → S
on_either (Ok x) P Q R S p q r f g = f p q
on_either (Err x) P Q R S p q r f g = g r

pub on_ok : {T E : Type 0} (r : Result T E) (P Q S : Type 0) → OnOk r P → OnOk r Q → (P → Q → S) → OnOk r S
on_ok (Ok x) P Q S p q f = f p q
on_ok (Err x) P Q S p q f = tt

pub on_err : {T E : Type 0} (r : Result T E) (R S : Type 0) → OnErr r R → (R → S) → OnErr r S
on_err (Ok x) R S r g = tt
on_err (Err x) R S r g = g r

-- Added and learned clauses among those that are held.

with_added_none : (f : List Lit → Bool) (s : Option (List ℕ)) (c : List Lit) (rest : List (List Lit)) → f c ≡ false → list_any f rest ≡ false → list_any f (with_added s c rest) ≡ false
with_added_none f None c rest e g = or_both _ _ e g
with_added_none f (Some hints) c rest e g = g

with_learned_none : (f : List Lit → Bool) (s : Option (List ℕ)) (c : List Lit) (rest : List (List Lit)) → f c ≡ false → list_any f rest ≡ false → list_any f (with_learned s c rest) ≡ false
with_learned_none f None c rest e g = g
with_learned_none f (Some hints) c rest e g = or_both _ _ e g

added_none : (f : List Lit → Bool) (sources : List (Option (List ℕ))) (clauses : List (List Lit)) → list_any f clauses ≡ false → list_any f (added_in sources clauses) ≡ false
added_none f [] clauses e = refl
added_none f (s ∷ sources) [] e = refl
added_none f (s ∷ sources) (c ∷ clauses) e =
    let parts = or_neither _ _ e in with_added_none f s c (added_in sources clauses) parts.0 (added_none f sources clauses parts.1)

learned_none : (f : List Lit → Bool) (sources : List (Option (List ℕ))) (clauses : List (List Lit)) → list_any f clauses ≡ false → list_any f (learned_in sources clauses) ≡ false
learned_none f [] clauses e = refl
learned_none f (s ∷ sources) [] e = refl
learned_none f (s ∷ sources) (c ∷ clauses) e =
    let parts = or_neither _ _ e in with_learned_none f s c (learned_in sources clauses) parts.0 (learned_none f sources clauses parts.1)

with_added_all : (f : List Lit → Bool) (s : Option (List ℕ)) (c : List Lit) (rest : List (List Lit)) → f c ≡ true → list_all f rest ≡ true → list_all f (with_added s c rest) ≡ true
with_added_all f None c rest e g = and_from _ _ e g
with_added_all f (Some hints) c rest e g = g

-- what makes every held clause true makes the added ones true
pub added_all : (f : List Lit → Bool) (sources : List (Option (List ℕ))) (clauses : List (List Lit)) → list_all f clauses ≡ true → list_all f (added_in sources clauses) ≡ true
added_all f [] clauses e = refl
added_all f (s ∷ sources) [] e = refl
added_all f (s ∷ sources) (c ∷ clauses) e =
    let parts = and_parts _ _ e in with_added_all f s c (added_in sources clauses) parts.0 (added_all f sources clauses parts.1)

with_learned_all : (f : List Lit → Bool) (s : Option (List ℕ)) (c : List Lit) (rest : List (List Lit)) → f c ≡ true → list_all f rest ≡ true → list_all f (with_learned s c rest) ≡ true
with_learned_all f None c rest e g = g
with_learned_all f (Some hints) c rest e g = and_from _ _ e g

pub learned_all : (f : List Lit → Bool) (sources : List (Option (List ℕ))) (clauses : List (List Lit)) → list_all f clauses ≡ true → list_all f (learned_in sources clauses) ≡ true
learned_all f [] clauses e = refl
learned_all f (s ∷ sources) [] e = refl
learned_all f (s ∷ sources) (c ∷ clauses) e =
    let parts = and_parts _ _ e in with_learned_all f s c (learned_in sources clauses) parts.0 (learned_all f sources clauses parts.1)

all_from_both : (f : List Lit → Bool) (s : Option (List ℕ)) (c : List Lit) (added learned : List (List Lit)) → list_all f (with_added s c added) ≡ true
    → list_all f (with_learned s c learned) ≡ true → (f c ≡ true) × (list_all f added ≡ true) × (list_all f learned ≡ true)
all_from_both f None c added learned e g = let parts = and_parts _ _ e in (parts.0, parts.1, g)
all_from_both f (Some hints) c added learned e g = let parts = and_parts _ _ g in (parts.0, e, parts.1)

pub all_of_both : (f : List Lit → Bool) (sources : List (Option (List ℕ))) (clauses : List (List Lit)) → length sources ≡ length clauses
    → list_all f (added_in sources clauses) ≡ true → list_all f (learned_in sources clauses) ≡ true → list_all f clauses ≡ true
all_of_both f [] [] same e g = refl
all_of_both f [] (c ∷ clauses) same e g = absurd (omega (arith, same))
all_of_both f (s ∷ sources) [] same e g = refl
all_of_both f (s ∷ sources) (c ∷ clauses) same e g =
    let parts = all_from_both f s c (added_in sources clauses) (learned_in sources clauses) e g in
    and_from _ _ parts.0 (all_of_both f sources clauses (omega (arith, same)) parts.1 parts.2)

-- Sizes.

sized_of : (lits : List Lit) → AreSized lits → (n : ℕ) → list_any (nat_eq n) (literal_variables lits) ≡ true → IsSize n
sized_of [] sized n e = absurd (false≢true e)
sized_of (a ∷ lits) sized n e =
    elim (or_cases _ _ e) [
      | inl same ↦ subst IsSize (sym (eqb-true n a.var same)) (sized a (or_left _ _ (lit_eq-same a)))
      | inr later ↦ sized_of lits (λ b has. sized b (or_right _ _ has)) n later
    ]

sized_in : (clauses : List (List Lit)) → ((i : ℕ) → AreSized (get_or clauses i [])) → (n : ℕ) → list_any (nat_eq n) (variables_in clauses) ≡ true → IsSize n
sized_in [] sized n e = absurd (false≢true e)
sized_in (c ∷ clauses) sized n e =
    elim (or_cases _ _ (sym (list_any-append (nat_eq n) (literal_variables c) (variables_in clauses)) ∙ e)) [
      | inl here ↦ sized_of c (sized zero) n here
      | inr later ↦ sized_in clauses (λ i. sized (suc i)) n later
    ]

over_has : (vars : List ℕ) (c : List Lit) (a : Lit) → is_over vars c ≡ true → has_literal c a ≡ true → list_any (nat_eq a.var) vars ≡ true
over_has vars [] a all has = absurd (false≢true has)
over_has vars (b ∷ c) a all has =
    elim (or_cases _ _ has) [
      | inl same ↦ ap (λ (x : Lit). list_any (nat_eq x.var) vars) (lit_eq-true a b same) ∙ (and_parts _ _ all).0
      | inr later ↦ over_has vars c a (and_parts _ _ all).1 later
    ]

-- the variables of what a search begins with
abbrev pub first_variables : List (List Lit) → List Lit → List ℕ
first_variables clauses assumptions = variables_in clauses ++ literal_variables assumptions

new_sized : (clauses : List (List Lit)) (assumptions : List Lit) (learned : Learned) → ((i : ℕ) → AreSized (get_or clauses i [])) → AreSized assumptions
    → IsNewClause clauses assumptions learned → AreSized learned.clause
new_sized clauses assumptions learned sized sized_too new a has =
    let vars = first_variables clauses assumptions in
    let over = new.over vars (all_over clauses (literal_variables assumptions)) (own_over assumptions (variables_in clauses)) in
    elim (or_cases _ _ (sym (list_any-append (nat_eq a.var) (variables_in clauses) (literal_variables assumptions)) ∙ over_has vars learned.clause a over has)) [
      | inl here ↦ sized_in clauses sized a.var here
      | inr there ↦ sized_of assumptions sized_too a.var there
    ]

-- Learning.

learned_append : (added before more : List (List Lit)) (c : List Lit) → AreLearned added before more → IsNewImplicate added (before ++ more) c → AreLearned added before (more ++ c ∷ [])
learned_append added before [] c all last = (subst (λ b. IsNewImplicate added b c) (append-nil before) last, tt)
learned_append added before (d ∷ more) c all last =
    (all.0, learned_append added (before ++ d ∷ []) more c all.1 (subst (λ b. IsNewImplicate added b c) (sym (append_assoc before (d ∷ []) more)) last))

learns_more : (added start now next : List (List Lit)) (c : List Lit) → Learns added start now → next ≡ now ++ c ∷ [] → IsNewImplicate added now c → Learns added start next
learns_more added start now next c learns same last = record {
  more = learns.more ++ c ∷ [];
  behind = same ∙ ap (λ xs. xs ++ c ∷ []) learns.behind ∙ append_assoc start learns.more (c ∷ []);
  learned = learned_append added start learns.more c learns.learned (subst (λ b. IsNewImplicate added b c) learns.behind last);
}

learns_long : (added start now : List (List Lit)) → Learns added start now → length start ≤ length now
learns_long added start now learns = omega (arith, ap length learns.behind, length-append start learns.more)

nothing_more : (c n : ℕ) → c ≡ more_conflicts c (n - n)
nothing_more c n = ap (more_conflicts c) (zero_left n)
  where
    zero_left : (n : ℕ) → 0 ≡ n - n
    zero_left n = omega arith

one_conflict_more : (c g next : ℕ) → next ≡ g + 1 → one_more (more_conflicts c g) ≡ more_conflicts c next
one_conflict_more c g next e = ap (more_conflicts c) (next_is g next e)
  where
    next_is : (g next : ℕ) → next ≡ g + 1 → suc g ≡ next
    next_is g next e = omega (arith, e)

pub searched_none : (assumptions : List Lit) (start : LoggedClauses) (meter : Spendings) → IsSearched assumptions start start meter meter
searched_none assumptions start meter = record {
  added = refl;
  learned = record { more = []; behind = sym (append-nil (learned_of start)); learned = tt };
  counted = ap (λ n. record meter { conflicts = n }) (nothing_more meter.conflicts (length (learned_of start)));
  less = λ vars over _. record { over = over; less = omega arith };
}

-- A clause that a search learned is worth a conflict.
pub new_spent : (now : LoggedClauses) (assumptions : List Lit) (learned : Learned) → IsLog now → IsNewClause now.clauses assumptions learned → SpentConflict now.clauses learned.clause
new_spent now assumptions learned log new = record {
  implied = λ v holds. hinted_implied now learned.clause learned.hints log new.hinted v (added_all (clause_value v) now.sources now.clauses holds);
  no_tautology = new.no_tautology;
  not_subsumed = new.not_subsumed;
}

pub searched_more : (assumptions : List Lit) (start now next : LoggedClauses) (earlier later latest : Spendings) (learned : Learned) → IsLog now → AreSized assumptions
    → IsNewClause now.clauses assumptions learned → next.clauses ≡ now.clauses ++ learned.clause ∷ [] → next.sources ≡ now.sources ++ Some learned.hints ∷ []
    → latest ≡ record later { conflicts = one_more later.conflicts } → IsSearched assumptions start now earlier later
    → (IsRefutedAtOnce (added_of now ++ learned_of now) [] → ⊥)
    → IsLog next × IsSearched assumptions start next earlier latest
searched_more assumptions start now next earlier later latest learned log sized new same_clauses same_sources counts searched unrefuted =
    let c = learned.clause in
    let all = learned-IsLog now next c learned.hints log (new_sized now.clauses assumptions learned log.sized sized new) new.hinted same_clauses same_sources in
    let long = learns_long _ _ _ searched.learned in
    let longer : length (learned_of next) ≡ length (learned_of now) + 1 = ap length all.2 ∙ length-append (learned_of now) (c ∷ []) in
    let grows : growth start next ≡ growth start now + 1 = omega (arith, long, longer) in
    let none_learned : is_subsumed (added_of start ++ learned_of now) c ≡ false =
    list_any-append _ (added_of start) (learned_of now)
    ∙ or_both _ _ (ap (λ cs. is_subsumed cs c) (sym searched.added) ∙ added_none _ now.sources now.clauses new.not_subsumed) (learned_none _ now.sources now.clauses new.not_subsumed) in (
      all.0,
      record {
        added = all.1 ∙ searched.added;
        learned = learns_more (added_of start) (learned_of start) (learned_of now) (learned_of next) c searched.learned all.2 (record {
          implied = subst (λ cs. IsImplied cs c) searched.added (hinted_implied now c learned.hints log new.hinted);
          no_tautology = new.no_tautology;
          not_empty = new.not_empty;
          new = none_learned;
          unrefuted = subst (λ cs. IsRefutedAtOnce (cs ++ learned_of now) [] → ⊥) searched.added unrefuted;
        });
        counted = counts ∙ ap (λ (s : Spendings). record s { conflicts = one_more s.conflicts }) searched.counted
            ∙ ap (λ n. record earlier { conflicts = n }) (one_conflict_more earlier.conflicts (growth start now) (growth start next) grows);
        less = λ vars over over_too.
            let before = searched.less vars over over_too in
            let own : is_over vars c ≡ true = new.over vars before.over over_too in
            let falls : clause_room vars next.clauses < clause_room vars now.clauses =
            subst (λ cs. clause_room vars cs < clause_room vars now.clauses) (sym same_clauses) (room_falls vars now.clauses c new.not_subsumed new.no_tautology own) in
            record {
              over = ap (are_over vars) same_clauses ∙ over_append vars now.clauses c before.over own;
              less = omega (arith, falls, grows, before.less);
            };
      },
    )

-- Room falls over the variables of what a search begins with.
pub first_room_falls : (assumptions : List Lit) (start now next : LoggedClauses) (earlier later : Spendings) (learned : Learned)
    → IsNewClause now.clauses assumptions learned → next.clauses ≡ now.clauses ++ learned.clause ∷ [] → IsSearched assumptions start now earlier later
    → clause_room (first_variables start.clauses assumptions) next.clauses < clause_room (first_variables start.clauses assumptions) now.clauses
first_room_falls assumptions start now next earlier later learned new same_clauses searched =
    let vars = first_variables start.clauses assumptions in
    let over_too = own_over assumptions (variables_in start.clauses) in
    let before = searched.less vars (all_over start.clauses (literal_variables assumptions)) over_too in
    subst (λ cs. clause_room vars cs < clause_room vars now.clauses) (sym same_clauses)
    (room_falls vars now.clauses learned.clause new.not_subsumed new.no_tautology (new.over vars before.over over_too))

-- How many clauses stand apart over some variables.

apart_append : (before xs ys : List (List Lit)) → AreIrredundant before xs → AreIrredundant (before ++ xs) ys → AreIrredundant before (xs ++ ys)
apart_append before [] ys first later = subst (λ b. AreIrredundant b ys) (append-nil before) later
apart_append before (x ∷ xs) ys first later =
    (first.0, first.1, apart_append (before ++ x ∷ []) xs ys first.2 (subst (λ b. AreIrredundant b ys) (sym (append_assoc before (x ∷ []) xs)) later))

apart_learned : (added before more : List (List Lit)) → AreLearned added before more → AreIrredundant before more
apart_learned added before [] all = tt
apart_learned added before (c ∷ more) all =
    let new = or_neither _ _ (sym (list_any-append _ added before) ∙ all.0.new) in
    (all.0.no_tautology, new.1, apart_learned added (before ++ c ∷ []) more all.1)

apart_small : (vars : List ℕ) (before more : List (List Lit)) → AreIrredundant before more → are_over vars more ≡ true → length more + clause_room vars (before ++ more) ≤ clause_room vars before
apart_small vars before [] apart over = subst (λ b. 0 + clause_room vars b ≤ clause_room vars before) (sym (append-nil before)) (omega arith)
apart_small vars before (c ∷ more) apart over =
    let parts = and_parts _ _ over in
    let falls = room_falls vars before c apart.1 apart.0 parts.0 in
    let rest : length more + clause_room vars ((before ++ c ∷ []) ++ more) ≤ clause_room vars (before ++ c ∷ []) = apart_small vars (before ++ c ∷ []) more apart.2 parts.1 in
    omega (arith, falls, rest, ap (clause_room vars) (append_assoc before (c ∷ []) more))

-- what a solver keeps stays through a search, and where a clause is added
pub kept_searched : (assumptions : List Lit) (start now : LoggedClauses) (earlier later : Spendings) → IsSolverLog start → IsLog now → IsSearched assumptions start now earlier later → IsSolverLog now
kept_searched assumptions start now earlier later kept log searched =
    let learns = searched.learned in
    record {
      log = log;
      apart = subst (λ xs. AreIrredundant [] xs) (sym learns.behind)
          (apart_append [] (learned_of start) learns.more kept.apart (apart_learned (added_of start) (learned_of start) learns.more learns.learned));
    }

pub kept_added : (start now : LoggedClauses) → IsSolverLog start → IsLog now → learned_of now ≡ learned_of start → IsSolverLog now
kept_added start now kept log same = record { log = log; apart = subst (λ xs. AreIrredundant [] xs) (sym same) kept.apart }

pub searched_bounded : (assumptions : List Lit) (solver : Solving) (start now : LoggedClauses) (earlier later : Spendings) → solver.added ≡ added_of start → solver.learned ≡ learned_of start
    → IsSolverLog start → IsSolverLog now → IsSearched assumptions start now earlier later → IsBounded solver assumptions (learned_of now)
searched_bounded assumptions solver start now earlier later same_added same_learned kept kept_now searched vars over_added over_learned over_too =
    let over = all_of_both (is_over vars) start.sources start.clauses kept.log.beside (ap (are_over vars) (sym same_added) ∙ over_added) (ap (are_over vars) (sym same_learned) ∙ over_learned) in
    let over_now = learned_all (is_over vars) now.sources now.clauses (searched.less vars over over_too).over in
    let small = apart_small vars [] (learned_of now) kept_now.apart over_now in
    (over_now, omega (arith, small, room_small [] vars []))

-- What a question counts.

grows : (count m : ℕ) → count ≤ m → m < 2 ^ 64 → count ≤ one_more m
grows count m low high = omega arith

capped : (m : ℕ) → one_more m < 2 ^ 64
capped m = omega arith

stays_small : (count n : ℕ) → count < 2 ^ 64 → (count ≤ more_conflicts count n) × (more_conflicts count n < 2 ^ 64)
stays_small count zero small = (omega arith, small)
stays_small count (suc n) small =
    let before = stays_small count n small in (grows count (more_conflicts count n) before.0 before.1, capped (more_conflicts count n))

pub counts_conflicts : (old new : Spendings) (n : ℕ) → old.conflicts < 2 ^ 64 → new ≡ with_conflicts old n → CountsConflicts old new
counts_conflicts old new n small e =
    subst (CountsConflicts old) (sym e) (record {
      conflict_limit = refl;
      step_limit = refl;
      steps = refl;
      conflicts = (stays_small old.conflicts n small).0;
    })
