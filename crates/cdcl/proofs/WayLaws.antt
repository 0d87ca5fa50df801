-- Laws of what stands on the trail of a search.
use Rattle.std.proofs.Common.{◌≡◌, ℕ, zero, suc, ◌+◌, ◌-◌, ◌<◌, ◌≤◌, Bool, true, false, List, [], ◌∷◌, ◌++◌, length, Option, Some, None, refl, ap, sym, subst, ◌∙◌, ◌⊎◌, inl, inr, arith, append_assoc}
use Rattle.std.proofs.Math.Dec.{leb}
use Rattle.std.specs.Option.{option_map}
use Rattle.std.proofs.lemmas.List.{append-nil}
use Rattle.std.proofs.lemmas.Bool.{false≢true, and_parts, and_from, leb-true, leb-false}
use Rattle.std.proofs.lemmas.Option.{none-some}
use Rattle.proof_semantics.specs.Clauses.{negation, has_literal, is_subsumed}
use Rattle.proof_semantics.specs.declared.literals.Lit.{Lit}
use Rattle.cdcl_trail.specs.Trails.{Step, assumed, literals_of, step_of, value_of, level, level_of, up_to_level, lower_steps}
use Rattle.cdcl_trail.specs.Propagation.{is_true, is_false, is_falsified, is_unit_for, is_unit, is_complete, Propagates, IsReasonedTrail}
use Rattle.cdcl_trail.proofs.TrailLaws.{either, level_push}
use Rattle.cdcl_trail.proofs.ScanLaws.{all_has, any_gives}
use Rattle.cdcl_trail.proofs.PassLaws.{step_comes, no_step, unit_unvalued, propagates_none, propagates_level, level-append}
use Rattle.cdcl_trail.proofs.PrefixLaws.{true_more, none_before, reasoned_assumed, reasoned_propagated, lower_assumed}
use Rattle.cdcl_learn.specs.declared.learning.Learned.{Learned}
use Rattle.cdcl_learn.specs.Learning.{is_assumed}
use Rattle.cdcl.specs.Searching.{IsUndecided, open_by, count_open, is_over, are_over, AssumesSome, AssumesAll, IsHeld, IsDeciding, IsBackLevel, IsHinted, IsNewClause, NegatesOnly}
use Rattle.cdcl.proofs.SearchLaws.{count_open_more, count_open_falls, over_append, over_at, over_variable, over_propagated, falsified_no_tautology, falsified_over, over_reasoned}
use Rattle.cdcl_learn.proofs.LiteralTraceLaws.{valued_step}
use Rattle.cdcl_trail.specs.Watched.{Extends, TrailState}
use Rattle.cdcl.proofs.BackLaws.{cut_is_first, cut_behind, cut_early, cut_twice, late_step, early_step, reasoned_back, reasons_more, open_two, complete_more, no_assumed, assumed_first}

abbrev Has : List Lit → Lit → Type 0
Has lits a = has_literal lits a ≡ true

-- right after the assumptions
pub way_starts : (clauses : List (List Lit)) (assumptions : List Lit) (start opened : List Step) → IsReasonedTrail clauses start → level start ≡ 0
    → AssumesAll assumptions start opened → IsDeciding clauses assumptions (level opened) opened
way_starts clauses assumptions start opened reasoned flat all = record {
  opened = opened;
  assumes = record {
    only = λ a e. elim (all.some.only a e) [
      | inl before ↦ absurd (no_assumed start a flat before)
      | inr has ↦ has
    ];
    true_all = all.true_all;
  };
  deep = refl;
  rest = [];
  begun = sym (append-nil opened);
  reasoned = all.some.reasoned clauses reasoned;
  below = λ k from above. absurd (omega (arith, from, above));
  over = λ vars own over. all.some.over vars (over_reasoned vars clauses [] start own flat reasoned) over;
}

-- behind propagation
pub way_propagates : (clauses : List (List Lit)) (assumptions : List Lit) (base : ℕ) (now later : List Step) → IsDeciding clauses assumptions base now → Propagates clauses now later
    → IsDeciding clauses assumptions base later
way_propagates clauses assumptions base now later w p = record {
  opened = w.opened;
  assumes = w.assumes;
  deep = w.deep;
  rest = w.rest ++ p.added;
  begun = p.behind ∙ ap (λ xs. xs ++ p.added) w.begun ∙ append_assoc w.opened w.rest p.added;
  reasoned = reasoned_propagated clauses now later p w.reasoned;
  below = λ k from above.
      let deep : k < level now = omega (arith, above, propagates_level clauses now later p) in
      ap (λ xs. is_complete clauses (up_to_level k xs)) p.behind ∙ ap (is_complete clauses) (cut_early k now p.added deep) ∙ w.below k from deep;
  over = λ vars all over. over_propagated vars clauses now later p all (w.over vars all over);
}

last_or_below : (k n : ℕ) → k < n + 1 → (k < n) ⊎ (k ≡ n)
last_or_below k n e = elim (either (leb n k)) [ inl same ↦ inr (omega (arith, e, leb-true n k same)) | inr less ↦ inl (omega (arith, leb-false n k less)) ]

-- behind a decision
pub way_decides : (clauses : List (List Lit)) (assumptions : List Lit) (base : ℕ) (now later : List Step) (a : Lit) → IsDeciding clauses assumptions base now
    → is_complete clauses now ≡ true → IsUndecided clauses now a → later ≡ now ++ assumed a ∷ [] → IsDeciding clauses assumptions base later
way_decides clauses assumptions base now later a w complete o is = record {
  opened = w.opened;
  assumes = w.assumes;
  deep = w.deep;
  rest = w.rest ++ assumed a ∷ [];
  begun = is ∙ ap (λ xs. xs ++ assumed a ∷ []) w.begun ∙ append_assoc w.opened w.rest (assumed a ∷ []);
  reasoned = reasoned_assumed clauses now later a is w.reasoned;
  below = λ k from above.
      let deep : level later ≡ level now + 1 = ap level is ∙ level_push now (assumed a) in
      elim (last_or_below k (level now) (omega (arith, above, deep))) [
        | inl less ↦
            ap (λ xs. is_complete clauses (up_to_level k xs)) is ∙ ap (is_complete clauses) (cut_early k now (assumed a ∷ []) less) ∙ w.below k from less
        | inr last ↦
            let place : k ≡ level later - 1 = omega (arith, last, deep) in
            ap (λ n. is_complete clauses (up_to_level n later)) place
            ∙ ap (is_complete clauses) (lower_assumed clauses now later later a is (propagates_none clauses later)) ∙ complete
      ];
  over = λ vars all over. ap (λ xs. is_over vars (literals_of xs)) is
      ∙ over_append vars now (assumed a ∷ []) (w.over vars all over) (and_from _ _ (over_variable vars o.clause a.var (over_at vars clauses o.place o.clause o.at all) o.inside) refl);
}

-- The levels below the last are complete where one is to be learned from.
pub way_lower : (clauses : List (List Lit)) (assumptions : List Lit) (base : ℕ) (now : List Step) → IsDeciding clauses assumptions base now → base < level now
    → is_complete clauses (lower_steps now) ≡ true
way_lower clauses assumptions base now w above = w.below (level now - 1) (omega (arith, above)) (omega (arith, above))

-- a learned clause is new, and over variables that are there
pub way_learns : (clauses : List (List Lit)) (assumptions : List Lit) (base : ℕ) (now : List Step) (learned : Learned) → IsDeciding clauses assumptions base now
    → is_falsified now learned.clause ≡ true → IsHinted clauses learned → is_subsumed clauses learned.clause ≡ false → is_unit (lower_steps now) learned.clause ≡ true
    → IsNewClause clauses assumptions learned
way_learns clauses assumptions base now learned w falsified hinted new unit = record {
  hinted = hinted;
  not_empty = λ e. false≢true (sym (ap (is_unit (lower_steps now)) e) ∙ unit);
  not_subsumed = new;
  no_tautology = falsified_no_tautology now learned.clause falsified;
  over = λ vars all over. falsified_over vars now learned.clause falsified (w.over vars all over);
}

-- what has no value on a level has none on a lower one
none_lower : (k j : ℕ) (xs : List Step) (v : ℕ) → k ≤ j → value_of (up_to_level j xs) v ≡ None → value_of (up_to_level k xs) v ≡ None
none_lower k j xs v less none =
    let cut = cut_is_first k (up_to_level j xs) in
    ap (λ zs. value_of zs v) (sym (cut_twice k j xs less)) ∙ none_before (up_to_level k (up_to_level j xs)) cut.0 v (ap (λ zs. value_of zs v) (sym cut.1) ∙ none)

-- The learned clause leaves two literals open below the level that is gone back to.
back_open : (now : List Step) (clause : List Lit) (k target : ℕ) (a : Lit) → is_falsified now clause ≡ true → is_unit (lower_steps now) clause ≡ true → k < target → target < level now
    → Has clause a → level_of now a.var ≡ target → (is_falsified (up_to_level k now) clause ≡ false) × (is_unit (up_to_level k now) clause ≡ false)
back_open now clause k target a falsified unit below above has deep =
    let lower = up_to_level (level now - 1) now in
    let found = any_gives (is_unit_for lower clause) clause unit in
    let none_last : value_of lower found.0.var ≡ None = unit_unvalued lower clause found.0 found.2 in
    let s = valued_step (step_of now a.var) _ (all_has (is_false now) clause a falsified has) in
    let early : step_of lower a.var ≡ Some s.0 = early_step (level now - 1) now a.var s.0 s.1 (omega (arith, deep, above)) in
    open_two (up_to_level k now) clause found.0 a found.1 has (none_lower k (level now - 1) now found.0.var (omega (arith, below, above)) none_last)
    (ap (option_map (λ (t : Step). t.literal.positive)) (late_step k now a.var (omega (arith, below, deep))))
    (λ same. none-some s.0.literal.positive (sym none_last ∙ ap (λ (b : Lit). value_of lower b.var) same ∙ ap (option_map (λ (t : Step). t.literal.positive)) early))

over_first : (vars : List ℕ) (xs ys : List Step) → is_over vars (literals_of (xs ++ ys)) ≡ true → is_over vars (literals_of xs) ≡ true
over_first vars [] ys all = refl
over_first vars (x ∷ xs) ys all = let parts = and_parts _ _ all in and_from _ _ parts.0 (over_first vars xs ys parts.1)

are_over_first : (vars : List ℕ) (xs ys : List (List Lit)) → are_over vars (xs ++ ys) ≡ true → are_over vars xs ≡ true
are_over_first vars [] ys all = refl
are_over_first vars (x ∷ xs) ys all = let parts = and_parts _ _ all in and_from _ _ parts.0 (are_over_first vars xs ys parts.1)

back_complete : (clauses : List (List Lit)) (assumptions clause : List Lit) (base target k : ℕ) (now : List Step) → IsDeciding clauses assumptions base now
    → IsBackLevel now clause base target → is_falsified now clause ≡ true → is_unit (lower_steps now) clause ≡ true → base ≤ k → k < target
    → is_complete (clauses ++ clause ∷ []) (up_to_level k now) ≡ true
back_complete clauses assumptions clause base target k now w back falsified unit from below =
    elim back.reached [
      | inl at_base ↦ absurd (omega (arith, at_base, from, below))
      | inr there ↦
          let opens = back_open now clause k target there.0 falsified unit below back.below there.1 there.2 in
          complete_more clauses clause (up_to_level k now) (w.below k from (omega (arith, below, back.below))) opens.0 opens.1
    ]

-- behind a learned clause and the way back
pub way_back : (clauses more : List (List Lit)) (assumptions clause : List Lit) (base target : ℕ) (now next : List Step) → IsDeciding clauses assumptions base now
    → IsBackLevel now clause base target → is_falsified now clause ≡ true → is_unit (lower_steps now) clause ≡ true → more ≡ clauses ++ clause ∷ []
    → next ≡ up_to_level target now → level next ≡ target → IsDeciding more assumptions base next
way_back clauses more assumptions clause base target now next w back falsified unit comes is deep = record {
  opened = w.opened;
  assumes = w.assumes;
  deep = w.deep;
  rest = up_to_level (target - level w.opened) w.rest;
  begun = is ∙ ap (up_to_level target) w.begun ∙ cut_behind target w.opened w.rest (omega (arith, w.deep, back.from_base));
  reasoned = subst (λ cs. IsReasonedTrail cs next) (sym comes)
      (subst (λ xs. IsReasonedTrail (clauses ++ clause ∷ []) xs) (sym is) (reasoned_back clauses (clause ∷ []) target now w.reasoned));
  below = λ k from above.
      let less : k < target = omega (arith, above, deep) in
      ap (λ cs. is_complete cs (up_to_level k next)) comes
      ∙ ap (λ xs. is_complete (clauses ++ clause ∷ []) (up_to_level k xs)) is
      ∙ ap (is_complete (clauses ++ clause ∷ [])) (cut_twice k target now (omega (arith, less)))
      ∙ back_complete clauses assumptions clause base target k now w back falsified unit from less;
  over = λ vars all over.
      let cut = cut_is_first target now in
      let first : are_over vars clauses ≡ true = are_over_first vars clauses (clause ∷ []) (ap (are_over vars) (sym comes) ∙ all) in
      ap (λ xs. is_over vars (literals_of xs)) is
      ∙ over_first vars (up_to_level target now) cut.0 (ap (λ xs. is_over vars (literals_of xs)) (sym cut.1) ∙ w.over vars first over);
}

-- What is traced from a conflict on the base is a core.
pub way_core : (clauses : List (List Lit)) (assumptions clause : List Lit) (base : ℕ) (now : List Step) → IsDeciding clauses assumptions base now → level now ≤ base
    → ((a : Lit) → Has clause a → is_assumed now (negation a) ≡ true) → NegatesOnly assumptions clause
way_core clauses assumptions clause base now w within traced a has =
    let flat : level w.rest ≡ 0 = omega (arith, within, w.deep, ap level w.begun, level-append w.opened w.rest) in
    w.assumes.only (negation a) (assumed_first w.opened w.rest (negation a) flat (ap (λ xs. is_assumed xs (negation a)) (sym w.begun) ∙ traced a has))

-- what is held of the trail, right behind propagation
pub held_propagated : (clauses same : List (List Lit)) (assumptions : List Lit) (base : ℕ) (now : List Step) (t : TrailState) → IsDeciding clauses assumptions base now → same ≡ clauses
    → Propagates same now t.steps → Extends t.taken same → IsHeld clauses t
held_propagated clauses same assumptions base now t w is p e = record {
  extends = subst (λ cs. Extends t.taken cs) is e;
  reasoned = (way_propagates clauses assumptions base now t.steps w (subst (λ cs. Propagates cs now t.steps) is p)).reasoned;
}

-- the assumptions are true on the way
pub way_assumed : (clauses : List (List Lit)) (assumptions : List Lit) (base : ℕ) (now : List Step) → IsDeciding clauses assumptions base now
    → (a : Lit) → Has assumptions a → is_true now a ≡ true
way_assumed clauses assumptions base now w a has = ap (λ xs. is_true xs a) w.begun ∙ true_more w.opened w.rest a (w.assumes.true_all a has)

-- How much is left to do: clauses to learn, and variables to give a value.

abbrev pub work : ℕ → ℕ → ℕ → ℕ
work zero n open_now = open_now
work (suc room) n open_now = suc n + work room n open_now

pub work_learned : (less room n after before : ℕ) → less < room → after ≤ n → work less n after < work room n before
work_learned zero zero n after before e small = absurd (omega (arith, e))
work_learned zero (suc room) n after before e small = omega (arith, small)
work_learned (suc less) zero n after before e small = absurd (omega (arith, e))
work_learned (suc less) (suc room) n after before e small = omega (arith, work_learned less room n after before (omega (arith, e)) small)

pub work_decided : (room n after before : ℕ) → after < before → work room n after < work room n before
work_decided zero n after before e = e
work_decided (suc room) n after before e = omega (arith, work_decided room n after before e)

open_small : (o : Option Bool) → open_by o ≤ 1
open_small None = omega arith
open_small (Some b) = omega arith

pub count_open_small : (vars : List ℕ) (steps : List Step) → count_open vars steps ≤ length vars
count_open_small [] steps = omega arith
count_open_small (v ∷ vars) steps = omega (arith, open_small (value_of steps v), count_open_small vars steps)

-- a decision leaves fewer variables without a value
pub decision_counts : (vars : List ℕ) (clauses : List (List Lit)) (start now later : List Step) (a : Lit) → are_over vars clauses ≡ true → IsUndecided clauses now a
    → Propagates clauses start now → later ≡ now ++ assumed a ∷ [] → count_open vars later < count_open vars start
decision_counts vars clauses start now later a all o p is =
    let less = count_open_falls vars now (assumed a ∷ []) a.var a.positive (over_variable vars o.clause a.var (over_at vars clauses o.place o.clause o.at all) o.inside) o.unvalued
    (ap (option_map (λ (s : Step). s.literal.positive)) (step_comes now (assumed a) (no_step _ o.unvalued))) in
    let before : count_open vars (start ++ p.added) ≤ count_open vars start = count_open_more vars start p.added in
    omega (arith, less, before, ap (count_open vars) is, ap (count_open vars) p.behind)

-- Between questions.

pub held_back : (clauses : List (List Lit)) (t later : TrailState) → IsHeld clauses t → later.taken ≡ t.taken → later.steps ≡ up_to_level 0 t.steps → IsHeld clauses later
held_back clauses t later held taken is = record {
  extends = subst (λ cs. Extends cs clauses) (sym taken) held.extends;
  reasoned = subst (λ xs. IsReasonedTrail clauses xs) (sym is)
      (subst (λ cs. IsReasonedTrail cs (up_to_level 0 t.steps)) (append-nil clauses) (reasoned_back clauses [] 0 t.steps held.reasoned));
}

pub held_settled : (clauses same : List (List Lit)) (t later : TrailState) → IsHeld clauses t → same ≡ clauses → Propagates same t.steps later.steps → Extends later.taken same
    → IsHeld clauses later
held_settled clauses same t later held is p e = record {
  extends = subst (λ cs. Extends later.taken cs) is e;
  reasoned = reasoned_propagated clauses t.steps later.steps (subst (λ cs. Propagates cs t.steps later.steps) is p) held.reasoned;
}

-- what a solver holds of its trail stays where clauses come
pub held_more : (clauses later more : List (List Lit)) (t : TrailState) → IsHeld clauses t → later ≡ clauses ++ more → IsHeld later t
held_more clauses later more t held is = record {
  extends = (held.extends.0 ++ more, is ∙ ap (λ cs. cs ++ more) held.extends.1 ∙ append_assoc t.taken held.extends.0 more);
  reasoned = subst (λ cs. IsReasonedTrail cs t.steps) (sym is) (reasons_more clauses more [] t.steps held.reasoned);
}

-- The clause of an assumption that is false.
pub refused_among : (assumptions : List Lit) (start steps : List Step) (d : Lit) (clause : List Lit) → level start ≡ 0 → AssumesSome assumptions start steps → Has assumptions d
    → ((a : Lit) → Has clause a → (is_assumed steps (negation a) ≡ true) ⊎ (negation a ≡ d)) → NegatesOnly assumptions clause
refused_among assumptions start steps d clause flat some has traced a inside =
    elim (traced a inside) [
      | inl assumed_there ↦ elim (some.only (negation a) assumed_there) [
        | inl before ↦ absurd (no_assumed start (negation a) flat before)
        | inr among ↦ among
      ]
      | inr same ↦ ap (has_literal assumptions) same ∙ has
    ]

-- and of a conflict where nothing is assumed
pub conflict_among : (assumptions : List Lit) (steps : List Step) (clause : List Lit) → level steps ≡ 0 → ((a : Lit) → Has clause a → is_assumed steps (negation a) ≡ true)
    → NegatesOnly assumptions clause
conflict_among assumptions steps clause flat traced a inside = absurd (no_assumed steps (negation a) flat (traced a inside))
