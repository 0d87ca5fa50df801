-- Laws of a trail over the variables that it met: what its calls owe, by those of the trail over their numbers.
use Rattle.std.proofs.Common.{◌≡◌, ℕ, zero, suc, ◌+◌, ◌-◌, ◌<◌, ◌≤◌, true, List, [], ◌∷◌, ◌++◌, length, take, get_or, Option, Some, None, refl, ap, ap₂, sym, subst, ◌∙◌, arith, false}
use Rattle.std.specs.Prelude.{slice_get, IsSome, Result, Ok, Err}
use Rattle.std.specs.Option.{IfSome, option_map}
use Rattle.std.specs.Result.{IfOk, OnErr}
use Rattle.std.proofs.lemmas.List.{map-append, length-append, length-map, take_more, length-take-le}
use Rattle.std.proofs.lemmas.Option.{none-some, same_Some, slice_get_within, slice_get-map}
use Rattle.proof_semantics.specs.declared.literals.Lit.{Lit}
use Rattle.cnf.specs.Clauses.{clause_numbered}
use Rattle.packed_literals.specs.Naming.{place_among, with_name, named, AreApart}
use Rattle.packed_literals.specs.Packing.{literal}
use Rattle.packed_literals.proofs.NamingLaws.{name_found, place_below}
use Rattle.cdcl_trail.specs.Trails.{Step, assumed, literals_of, value_of, reason_in, reason_of, level_of, up_to_level, once}
use Rattle.cdcl_trail.specs.AssignmentOf.{place_in}
use Rattle.cdcl_trail.specs.Propagation.{is_complete, IsConflict, Propagates}
use Rattle.cdcl_trail.specs.Guards.{IsPairOf}
use Rattle.cdcl_trail.specs.Watched.{TrailState, AreWatchedWell, KeepWatch, IsWatchedAt}
use Rattle.cdcl_trail.specs.Renaming.{Meets, named_steps, named_clause, named_clauses, named_pair, named_pairs, named_state, IsBelow, AreBelow, StepsAreBelow, ClausesAreBelow, StateIsBelow, ArePaired, IsNumbering, IsShowing}
use Rattle.cdcl_trail.specs.TrailOf.{Named}
use Rattle.cdcl_trail.specs.Places.{told_by}
use Rattle.cdcl_trail.proofs.TrailLaws.{nothing_some}
use Rattle.cdcl_trail.proofs.FixedLaws.{cut_front}
use Rattle.cdcl_trail.proofs.CountLaws.{few}
use Rattle.cdcl_trail.proofs.RenameLaws.{all_both, mapped_some, numbered_named, numbered_below, cut_named, literals_named, reason_named, level_of_named, once_named, complete_named, conflict_named, propagated_below, propagates_named, pair_named, unnamed, clause_stays}
use Rattle.cdcl_trail.proofs.BorderLaws.{steps_below_more, clauses_below_more, all_below_more, pairs_stay, longer, meets, meets_none, meets_then, state_met, steps_met, clauses_met, no_value_of, value_by_number, pairs_below, watched_well_named, named_is, assumed_named, all_front, shown_front, taken_named, literals_below, place_named, no_place_named}

pub all_below : (names : List ℕ) (t : TrailState) (lits : List Lit) → Named names t lits → ArePaired t → StateIsBelow (length names) t
all_below names t lits h paired = record { steps = h.steps; taken = h.taken; watched = pairs_below (length names) t paired h.taken }

pub named_new : (names : List ℕ) (t : TrailState) (lits : List Lit) → names ≡ [] → t.steps ≡ [] → t.taken ≡ [] → lits ≡ [] → Named names t lits
named_new names t lits e steps taken shown = record {
  apart = subst AreApart (sym e) (λ n below. absurd (omega (arith, below)));
  steps = subst (StepsAreBelow (length names)) (sym steps) tt;
  taken = subst (ClausesAreBelow (length names)) (sym taken) tt;
  shown = shown ∙ sym (ap (λ xs. literals_of (named_steps names xs)) steps);
}

pub named_same : (names : List ℕ) (t : TrailState) (lits more : List Lit) → Named names t lits → more ≡ lits → Named names t more
named_same names t lits more h e = subst (Named names t) (sym e) h

pub on_err : {T E P : Type 0} (r : Result T E) → P → OnErr r P
on_err (Ok x) p = tt
on_err (Err e) p = p

-- Variables that come change nothing.

pub named_met : (names later : List ℕ) (t : TrailState) (lits more : List Lit) → Named names t lits → Meets names later → more ≡ lits → Named later t more
named_met names later t lits more h m e = record {
  apart = m.apart h.apart;
  steps = steps_below_more (length names) (length later) (longer names later m) t.steps h.steps;
  taken = clauses_below_more (length names) (length later) (longer names later m) t.taken h.taken;
  shown = e ∙ h.shown ∙ ap literals_of (sym (steps_met names later t.steps m h.steps));
}

pub same_met : (names later : List ℕ) (t : TrailState) (lits : List Lit) → Named names t lits → ArePaired t → Meets names later → named_state later t ≡ named_state names t
same_met names later t lits h paired m = (state_met names later t m (all_below names t lits h paired)).1

pub keeps_equal : (s u : TrailState) → u ≡ s → KeepWatch s u
keeps_equal s u e = record { taken = ap (λ (x : TrailState). x.taken) e; watched = ap (λ (x : TrailState). x.watched) e }

pub keeps_met : (names later : List ℕ) (t u : TrailState) (lits : List Lit) → Named names t lits → ArePaired t → Meets names later → KeepWatch t u
    → KeepWatch (named_state names t) (named_state later u)
keeps_met names later t u lits h paired m kept = record {
  taken = ap (named_clauses later) kept.taken ∙ clauses_met names later t.taken m h.taken;
  watched =
      ap (named_pairs later) kept.watched
      ∙ ap (λ ns. named_pairs ns t.watched) m.behind
      ∙ pairs_stay names m.more t.watched (pairs_below (length names) t paired h.taken);
}

-- Assuming.

pub assumed_steps : (names later : List ℕ) (t u : TrailState) (lits : List Lit) (a b : Lit) (n : ℕ) → Named names t lits → Meets names later
    → place_among later a.var ≡ Some n → b ≡ literal n a.positive → u.steps ≡ t.steps ++ assumed b ∷ []
    → named_steps later u.steps ≡ named_steps names t.steps ++ assumed a ∷ []
assumed_steps names later t u lits a b n h m place is steps =
    ap (named_steps later) steps
    ∙ assumed_named names later t.steps a b n m h.steps place (ap (λ (l : Lit). l.var) is) (ap (λ (l : Lit). l.positive) is)

pub named_assumed : (names later : List ℕ) (t u : TrailState) (lits more : List Lit) (a b : Lit) (n : ℕ) → Named names t lits → Meets names later
    → place_among later a.var ≡ Some n → b ≡ literal n a.positive → u.steps ≡ t.steps ++ assumed b ∷ [] → KeepWatch t u → more ≡ lits ++ a ∷ [] → Named later u more
named_assumed names later t u lits more a b n h m place is steps kept shown = record {
  apart = m.apart h.apart;
  steps = subst (StepsAreBelow (length later)) (sym steps)
      (all_both (λ (s : Step). IsBelow (length later) s.literal) t.steps (assumed b ∷ []) (steps_below_more (length names) (length later) (longer names later m) t.steps h.steps)
      (subst (λ v. v < length later) (sym (ap (λ (l : Lit). l.var) is)) (place_below later a.var n place), tt));
  taken = subst (ClausesAreBelow (length later)) (sym kept.taken) (clauses_below_more (length names) (length later) (longer names later m) t.taken h.taken);
  shown =
      shown
      ∙ ap (λ xs. xs ++ a ∷ []) h.shown
      ∙ sym (map-append (λ (s : Step). s.literal) (named_steps names t.steps) (assumed a ∷ []))
      ∙ ap literals_of (sym (assumed_steps names later t u lits a b n h m place is steps));
}

-- Going back.

pub named_back : (names : List ℕ) (t u : TrailState) (lits more : List Lit) (n : ℕ) → Named names t lits → u.steps ≡ up_to_level n t.steps → KeepWatch t u
    → more ≡ take (length (literals_of u.steps)) lits → Named names u more
named_back names t u lits more n h steps kept shown =
    let front = cut_front n t.steps in
    record {
      apart = h.apart;
      steps = subst (StepsAreBelow (length names)) (sym steps)
          (all_front (λ (s : Step). IsBelow (length names) s.literal) (up_to_level n t.steps) front.0 (subst (StepsAreBelow (length names)) front.1 h.steps));
      taken = subst (ClausesAreBelow (length names)) (sym kept.taken) h.taken;
      shown =
          shown
          ∙ ap₂ (λ (xs : List Step) (ls : List Lit). take (length (literals_of xs)) ls) steps h.shown
          ∙ ap (λ xs. take (length (literals_of (up_to_level n t.steps))) (literals_of (named_steps names xs))) front.1
          ∙ shown_front names (up_to_level n t.steps) front.0
          ∙ ap (λ xs. literals_of (named_steps names xs)) (sym steps);
    }

pub back_steps : (names : List ℕ) (t u : TrailState) (n : ℕ) → u.steps ≡ up_to_level n t.steps → named_steps names u.steps ≡ up_to_level n (named_steps names t.steps)
back_steps names t u n steps = ap (named_steps names) steps ∙ sym (cut_named names n t.steps)

pub keeps_named : (names : List ℕ) (t u : TrailState) → KeepWatch t u → KeepWatch (named_state names t) (named_state names u)
keeps_named names t u kept = record { taken = ap (named_clauses names) kept.taken; watched = ap (named_pairs names) kept.watched }

-- Taking over a clause.

pub numbering_start : (names : List ℕ) (numbered : List Lit) → numbered ≡ [] → IsNumbering names names numbered []
numbering_start names numbered e = record {
  meets = meets_none names;
  below = subst (AreBelow (length names)) (sym e) tt;
  same = ap (named_clause names) e;
}

abbrev pub no_literal : Lit
no_literal = literal 0 false

pub numbering_next : (first names later : List ℕ) (numbered more clause : List Lit) (i n : ℕ) (a b : Lit) → IsNumbering first names numbered (take i clause) → i < length clause
    → a ≡ get_or clause i no_literal → later ≡ with_name names a.var → place_among later a.var ≡ Some n → b ≡ literal n a.positive → more ≡ numbered ++ b ∷ []
    → IsNumbering first later more (take (i + 1) clause)
numbering_next first names later numbered more clause i n a b v within at met place is pushed =
    let m : Meets names later = subst (Meets names) (sym met) (meets names a.var) in
    record {
      meets = meets_then first names later v.meets m;
      below = subst (AreBelow (length later)) (sym pushed)
          (all_both (IsBelow (length later)) numbered (b ∷ []) (all_below_more (length names) (length later) (longer names later m) numbered v.below)
          (subst (λ k. k < length later) (sym (ap (λ (l : Lit). l.var) is)) (place_below later a.var n place), tt));
      same =
          ap (named_clause later) pushed
          ∙ map-append (named later) numbered (b ∷ [])
          ∙ ap₂ (λ xs x. xs ++ x ∷ [])
          (ap (λ ns. named_clause ns numbered) m.behind ∙ clause_stays names m.more numbered v.below ∙ v.same)
          (named_is later a b n place (ap (λ (l : Lit). l.var) is) (ap (λ (l : Lit). l.positive) is))
          ∙ ap (λ x. take i clause ++ x ∷ []) at
          ∙ sym (take_more clause i no_literal within);
    }

pub meets_name : (names later : List ℕ) (v : ℕ) → later ≡ with_name names v → Meets names later
meets_name names later v met = subst (Meets names) (sym met) (meets names v)

pub named_over : (names later : List ℕ) (t u : TrailState) (lits : List Lit) → Named names t lits → Meets names later → u.steps ≡ t.steps → ClausesAreBelow (length later) u.taken
    → Named later u lits
named_over names later t u lits h m steps below =
    let n = named_met names later t lits lits h m refl in
    record {
      apart = n.apart;
      steps = subst (StepsAreBelow (length later)) (sym steps) n.steps;
      taken = below;
      shown = n.shown ∙ ap (λ xs. literals_of (named_steps later xs)) (sym steps);
    }

pub named_untaken : (names later : List ℕ) (t u : TrailState) (lits : List Lit) → Named names t lits → Meets names later → u.steps ≡ t.steps → u.taken ≡ t.taken → Named later u lits
named_untaken names later t u lits h m steps taken =
    named_over names later t u lits h m steps
    (subst (ClausesAreBelow (length later)) (sym taken) (clauses_below_more (length names) (length later) (longer names later m) t.taken h.taken))

pub named_taken : (names later : List ℕ) (t u : TrailState) (lits numbered : List Lit) → Named names t lits → Meets names later → u.steps ≡ t.steps
    → u.taken ≡ t.taken ++ numbered ∷ [] → AreBelow (length later) numbered → Named later u lits
named_taken names later t u lits numbered h m steps taken below =
    named_over names later t u lits h m steps
    (subst (ClausesAreBelow (length later)) (sym taken)
    (all_both (AreBelow (length later)) t.taken (numbered ∷ []) (clauses_below_more (length names) (length later) (longer names later m) t.taken h.taken) (below, tt)))

pub steps_same : (names later : List ℕ) (t u : TrailState) (lits : List Lit) → Named names t lits → Meets names later → u.steps ≡ t.steps
    → named_steps later u.steps ≡ named_steps names t.steps
steps_same names later t u lits h m steps = ap (named_steps later) steps ∙ steps_met names later t.steps m h.steps

pub clauses_same : (names later : List ℕ) (t u : TrailState) (lits : List Lit) → Named names t lits → Meets names later → u.taken ≡ t.taken
    → named_clauses later u.taken ≡ named_clauses names t.taken
clauses_same names later t u lits h m taken = ap (named_clauses later) taken ∙ clauses_met names later t.taken m h.taken

pub clauses_more : (names later : List ℕ) (t u : TrailState) (lits numbered clause : List Lit) → Named names t lits → Meets names later
    → u.taken ≡ t.taken ++ numbered ∷ [] → named_clause later numbered ≡ clause → named_clauses later u.taken ≡ named_clauses names t.taken ++ clause ∷ []
clauses_more names later t u lits numbered clause h m taken same =
    ap (named_clauses later) taken ∙ taken_named names later t.taken numbered clause m h.taken same

-- Propagating.

pub named_settled : (names : List ℕ) (t u : TrailState) (lits more : List Lit) → Named names t lits → u.taken ≡ t.taken → Propagates u.taken t.steps u.steps
    → more ≡ named_clause names (literals_of u.steps) → Named names u more
named_settled names t u lits more h taken p shown =
    let below = subst (ClausesAreBelow (length names)) (sym taken) h.taken in
    record {
      apart = h.apart;
      steps = propagated_below names h.apart u.taken t.steps u.steps below h.steps p;
      taken = below;
      shown = shown ∙ sym (literals_named names u.steps);
    }

pub settled_complete : {E : Type 0} (res : Result (Option ℕ) E) (names : List ℕ) (u : TrailState) (lits : List Lit) → Named names u lits
    → IfOk res (λ found. (found ≡ None → is_complete u.taken u.steps ≡ true) × (is_complete u.taken u.steps ≡ true → found ≡ None))
    → IfOk res (λ found. (found ≡ None → is_complete (named_clauses names u.taken) (named_steps names u.steps) ≡ true) × (is_complete (named_clauses names u.taken) (named_steps names u.steps) ≡ true → found ≡ None))
settled_complete res names u lits h told =
    subst (λ b. IfOk res (λ found. (found ≡ None → b ≡ true) × (b ≡ true → found ≡ None)))
    (sym (complete_named names h.apart u.taken u.steps h.steps h.taken)) told

pub settled_conflict : {E : Type 0} (res : Result (Option ℕ) E) (names : List ℕ) (u : TrailState) (lits : List Lit) → Named names u lits
    → IfOk res (λ found. IfSome found (IsConflict u.taken u.steps))
    → IfOk res (λ found. IfSome found (IsConflict (named_clauses names u.taken) (named_steps names u.steps)))
settled_conflict (Ok None) names u lits h told = told
settled_conflict (Ok (Some n)) names u lits h told = conflict_named names h.apart u.taken u.steps n h.steps h.taken told
settled_conflict (Err e) names u lits h told = told

pub settled_watched : {E : Type 0} (res : Result (Option ℕ) E) (names : List ℕ) (u : TrailState) (lits : List Lit) → Named names u lits → ArePaired u
    → IfOk res (λ found. found ≡ None → AreWatchedWell u) → IfOk res (λ found. found ≡ None → AreWatchedWell (named_state names u))
settled_watched (Ok found) names u lits h paired told = λ e. watched_well_named names u h.apart (all_below names u lits h paired) (told e)
settled_watched (Err e) names u lits h paired told = told

pub settled_reasons : (names : List ℕ) (t u : TrailState) (lits : List Lit) → Named names t lits → u.taken ≡ t.taken → Propagates u.taken t.steps u.steps
    → Propagates (named_clauses names u.taken) (named_steps names t.steps) (named_steps names u.steps)
settled_reasons names t u lits h taken p =
    propagates_named names h.apart u.taken t.steps u.steps h.steps (subst (ClausesAreBelow (length names)) (sym taken) h.taken) p

-- Showing.

turn : (n : ℕ) → suc n + 1 ≡ suc (n + 1)
turn n = omega arith

next_shown : (names : List ℕ) (lits : List Lit) (place : ℕ) (a : Lit) → slice_get lits place ≡ Some a
    → take (place + 1) (named_clause names lits) ≡ take place (named_clause names lits) ++ named names a ∷ []
next_shown names [] place a e = absurd (none-some a e)
next_shown names (b ∷ lits) zero a e = ap (λ c. named names c ∷ []) (same_Some b a e)
next_shown names (b ∷ lits) (suc place) a e =
    ap (λ n. take n (named_clause names (b ∷ lits))) (turn place) ∙ ap (λ xs. named names b ∷ xs) (next_shown names lits place a e)

past_shown : (names : List ℕ) (lits : List Lit) (place : ℕ) → slice_get lits place ≡ None → take place (named_clause names lits) ≡ named_clause names lits
past_shown names [] zero e = refl
past_shown names [] (suc place) e = refl
past_shown names (b ∷ lits) zero e = absurd (none-some b (sym e))
past_shown names (b ∷ lits) (suc place) e = ap (λ xs. named names b ∷ xs) (past_shown names lits place e)

pub front_shown : (names : List ℕ) (t u : TrailState) (lits : List Lit) → Named names t lits → Propagates u.taken t.steps u.steps
    → (take (length lits) (named_clause names (literals_of u.steps)) ≡ lits) × (length lits ≤ length (literals_of u.steps))
front_shown names t u lits h p =
    let long : length lits ≡ length (literals_of t.steps) =
    ap length h.shown ∙ ap length (literals_named names t.steps) ∙ length-map (literals_of t.steps) (named names) in
    let later : length (literals_of u.steps) ≡ length (literals_of t.steps) + length (literals_of p.added) =
    ap (λ xs. length (literals_of xs)) p.behind ∙ ap length (map-append (λ (s : Step). s.literal) t.steps p.added) ∙ length-append (literals_of t.steps) (literals_of p.added) in (
      ap (take (length lits)) (sym (literals_named names u.steps) ∙ ap (λ xs. literals_of (named_steps names xs)) p.behind)
          ∙ ap (λ n. take n (literals_of (named_steps names (t.steps ++ p.added)))) long
          ∙ shown_front names t.steps p.added
          ∙ sym h.shown,
      omega (arith, long, later),
    )

pub few_literals : (names : List ℕ) (t u : TrailState) (lits : List Lit) → Named names t lits → u.taken ≡ t.taken → Propagates u.taken t.steps u.steps
    → once (literals_of u.steps) ≡ true → (AreBelow (length names) (literals_of u.steps)) × (length (literals_of u.steps) ≤ length names)
few_literals names t u lits h taken p apart =
    let steps = propagated_below names h.apart u.taken t.steps u.steps (subst (ClausesAreBelow (length names)) (sym taken) h.taken) h.steps p in
    let below = literals_below (length names) u.steps steps in
    (below, few (length names) (literals_of u.steps) apart below)

pub showing_start : (names : List ℕ) (lits shown : List Lit) (place : ℕ) → take (length shown) (named_clause names lits) ≡ shown → length shown ≤ length lits → place ≡ length shown
    → IsShowing names lits shown place
showing_start names lits shown place front within at = record {
  same = sym front ∙ ap (λ n. take n (named_clause names lits)) (sym at);
  within = omega (arith, within, at);
}

pub showing_next : (names : List ℕ) (lits shown more : List Lit) (place : ℕ) (a : Lit) → IsShowing names lits shown place → slice_get lits place ≡ Some a
    → more ≡ shown ++ named names a ∷ [] → IsShowing names lits more (place + 1)
showing_next names lits shown more place a v at pushed =
    let within = slice_get_within lits place a at in
    record {
      same = pushed ∙ ap (λ xs. xs ++ named names a ∷ []) v.same ∙ sym (next_shown names lits place a at);
      within = omega (arith, within);
    }

pub showing_long : (names : List ℕ) (lits shown : List Lit) (place : ℕ) → IsShowing names lits shown place → length shown ≡ place
showing_long names lits shown place v = ap length v.same ∙ length-take-le place (named_clause names lits) (omega (arith, v.within, length-map lits (named names)))

pub showing_end : (names : List ℕ) (lits shown : List Lit) (place : ℕ) → IsShowing names lits shown place → slice_get lits place ≡ None → shown ≡ named_clause names lits
showing_end names lits shown place v at = v.same ∙ past_shown names lits place at

-- Values.

pub named_value : (names : List ℕ) (t : TrailState) (lits : List Lit) (v n : ℕ) → Named names t lits → place_among names v ≡ Some n
    → value_of t.steps n ≡ value_of (named_steps names t.steps) v
named_value names t lits v n h place = sym (value_by_number names t.steps v n h.apart h.steps place)

pub strange_value : (names : List ℕ) (t : TrailState) (lits : List Lit) (v : ℕ) → Named names t lits → place_among names v ≡ None
    → value_of (named_steps names t.steps) v ≡ None
strange_value names t lits v h place = no_value_of names t.steps v h.apart h.steps place

pub named_reason : (names : List ℕ) (t : TrailState) (lits : List Lit) (v n : ℕ) → Named names t lits → place_among names v ≡ Some n
    → reason_of t.steps n ≡ reason_of (named_steps names t.steps) v
named_reason names t lits v n h place =
    sym (ap (reason_of (named_steps names t.steps)) (sym (name_found names v n place)) ∙ reason_named names h.apart t.steps n h.steps (place_below names v n place))

pub strange_reason : (names : List ℕ) (t : TrailState) (lits : List Lit) (v : ℕ) → Named names t lits → place_among names v ≡ None
    → reason_of (named_steps names t.steps) v ≡ None
strange_reason names t lits v h place = ap reason_in (unnamed names h.apart t.steps v h.steps place)

pub named_level : (names : List ℕ) (t : TrailState) (lits : List Lit) (v n : ℕ) → Named names t lits → place_among names v ≡ Some n
    → level_of t.steps n ≡ level_of (named_steps names t.steps) v
named_level names t lits v n h place =
    sym (ap (level_of (named_steps names t.steps)) (sym (name_found names v n place)) ∙ level_of_named names h.apart t.steps n h.steps (place_below names v n place))

pub strange_level : (names : List ℕ) (t : TrailState) (lits : List Lit) (v : ℕ) → Named names t lits → place_among names v ≡ None
    → IsSome (value_of (named_steps names t.steps) v) → 0 ≡ level_of (named_steps names t.steps) v
strange_level names t lits v h place valued = absurd (nothing_some (strange_value names t lits v h place) valued)

-- Places.

place_found : (names : List ℕ) (t : TrailState) (lits : List Lit) (numbered : ℕ → Option ℕ) (v : ℕ) (found : Option ℕ) → Named names t lits
    → ((n : ℕ) → numbered n ≡ place_in (literals_of t.steps) n) → place_among names v ≡ found
    → told_by numbered found ≡ place_in (named_clause names (literals_of t.steps)) v
place_found names t lits numbered v None h tells e = sym (no_place_named names (literals_of t.steps) v h.apart (literals_below (length names) t.steps h.steps) e)
place_found names t lits numbered v (Some n) h tells e =
    tells n
    ∙ sym (place_named names (literals_of t.steps) n h.apart (literals_below (length names) t.steps h.steps) (place_below names v n e))
    ∙ ap (place_in (named_clause names (literals_of t.steps))) (name_found names v n e)

pub place_told : (names : List ℕ) (t : TrailState) (lits : List Lit) (numbered : ℕ → Option ℕ) → Named names t lits
    → ((n : ℕ) → numbered n ≡ place_in (literals_of t.steps) n)
    → (v : ℕ) → told_by numbered (place_among names v) ≡ place_in (literals_of (named_steps names t.steps)) v
place_told names t lits numbered h tells v =
    place_found names t lits numbered v (place_among names v) h tells refl ∙ ap (λ ls. place_in ls v) (sym (literals_named names t.steps))

pub named_once : (names : List ℕ) (t : TrailState) (lits : List Lit) → Named names t lits → once (literals_of t.steps) ≡ true → once (literals_of (named_steps names t.steps)) ≡ true
named_once names t lits h apart =
    ap once (literals_named names t.steps) ∙ once_named names h.apart (literals_of t.steps) (literals_below (length names) t.steps h.steps) ∙ apart

-- Watched literals.

pub named_watched : (names : List ℕ) (t : TrailState) (lits : List Lit) (number : ℕ) (a b : Lit) → Named names t lits → IsWatchedAt t number a b
    → IsWatchedAt (named_state names t) number (named names a) (named names b)
named_watched names t lits number a b h at = record {
  pair = slice_get-map (option_map (named_pair names)) t.watched (number - 1) ∙ ap (option_map (option_map (named_pair names))) at.pair;
  inside = λ clause is.
      let found = mapped_some (named_clause names) (clause_numbered t.taken number) clause (sym (numbered_named names t.taken number) ∙ is) in
      subst (λ c. IsPairOf c (record { first = named names a; second = named names b })) found.2
      (pair_named names h.apart found.0 (record { first = a; second = b }) (numbered_below (length names) t.taken number found.0 h.taken found.1) (at.inside found.0 found.1));
}

pub watched_below : (names : List ℕ) (t : TrailState) (lits : List Lit) (number : ℕ) (a b : Lit) → Named names t lits → ArePaired t → IsWatchedAt t number a b
    → (a.var < length names) × (b.var < length names)
watched_below names t lits number a b h paired at =
    pairs_below (length names) t paired h.taken (number - 1) (record { first = a; second = b }) at.pair
