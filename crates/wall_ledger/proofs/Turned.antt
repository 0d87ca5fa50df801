-- Each event of the board is a turn of a pass.
use Rattle.std.proofs.Common.{◌≡◌, ◌≢◌, ℕ, zero, suc, ◌≤◌, ◌⊎◌, inl, inr, ⊎_elim, true, false, List, [], ◌∷◌, ◌++◌, length, get_or, set, refl, sym, ap, ◌∙◌, subst, arith, append-nil}
use Rattle.std.specs.Prelude.{Option, Some, None, ◌==◌}
use Rattle.std.proofs.lemmas.Bool.{ne_eqb}
use Rattle.std.proofs.lemmas.List.{get_or-set_other}
use Rattle.std.proofs.lemmas.List.Elements.{filter-append}
use Rattle.entry.specs.CheckedEntries.{CheckedEntry}
use Rattle.entry.specs.declared.origins.Origin.TheVariants.{Worker}
use Rattle.entry.specs.declared.origins.Work.{Work}
use Rattle.fair_semantics.specs.declared.skeletons.Skeleton.{Skeleton}
use Rattle.wall_store.specs.declared.outcomes.Outcome.{Outcome}
use Rattle.wall_store.specs.declared.outcomes.Posted.{Posted}
use Rattle.wall_store.specs.declared.outcomes.Posted.TheVariants as posts
use Rattle.wall_store.specs.declared.outcomes.Finished.{Finished}
use Rattle.wall_store.specs.declared.outcomes.Finished.TheVariants as ends
use Rattle.wall_store.specs.Boards.{BoardState, properties_of, outcome_of, is_by, found_by}
use Rattle.wall_store.specs.Events.{shown_to, with_post, entries_after, served_after, IsPosted, IsFinished, IsNextOpen}
use Rattle.wall_store.proofs.Serving.{properties_stay, outcome_after}
use Rattle.wall_ledger.specs.Passes.{AreMarksOf}
use Rattle.wall_ledger.specs.Turns.{HasWon, marks_posted, marks_finished, marks_opened, is_passed}
use Rattle.wall_ledger.specs.Rules.{Face, IsOwned, IsTold, Event, shown_face, kept_face}
use Rattle.wall_ledger.proofs.Charts.{won_true}
use Rattle.wall_ledger.proofs.Events.{at_number, none_not_some}
use Rattle.wall_ledger.proofs.Marking.{marked_properties, closing_true, each_property, closing_old, closing_new, crowning_true, crowning_new, crowning_old, crowning_here, IsThere, outcome_here, outcome_else, opened_true, eq_from}

set_below : (l : List ℕ) (k m : ℕ) → get_or (set l k m) k 0 ≤ m
set_below [] k m = omega arith
set_below (x ∷ xs) zero m = omega arith
set_below (x ∷ xs) (suc k) m = set_below xs k m

module _ (n : ℕ) (x : BoardState) (k : ℕ) (f : Face) (was : f.number ≡ Some k) (told : IsTold n x f) where
  owned : IsOwned x f k
  owned = at_number f k (IsOwned x f) was told.owned

  -- nothing happened
  pub rests : Event n x x k f (kept_face f f.marks)
  rests = record {
    was = was;
    number = was;
    home = refl;
    circuit = refl;
    properties = refl;
    workers = refl;
    limit = refl;
    given = refl;
    more = [];
    longer = sym (append-nil x.entries);
    others_seen = λ w other. refl;
    others_found = λ w other. refl;
    stay = λ j o is. is;
    shown = inr (refl, refl);
    seen = owned.seen;
    own = owned.own;
    marks = owned.marks;
    old_wins = λ j o h. h;
    new_wins = λ j o h. inl h;
    outcomes = λ j o is. inl is;
  }

  pub looks : Event n x (shown_to x k) k f (shown_face f (shown_to x k) n f.marks)
  looks = record {
    was = was;
    number = was;
    home = refl;
    circuit = refl;
    properties = refl;
    workers = refl;
    limit = refl;
    given = refl;
    more = [];
    longer = sym (append-nil x.entries);
    others_seen = λ w other. get_or-set_other x.seen k w (length x.entries) 0 other;
    others_found = λ w other. refl;
    stay = λ j o is. is;
    shown = inl (refl, refl);
    seen = set_below x.seen k (length x.entries);
    own = refl;
    marks = owned.marks;
    old_wins = λ j o h. h;
    new_wins = λ j o h. inl h;
    outcomes = λ j o is. inl is;
  }

  -- ---- a post

  abbrev more_of : CheckedEntry → Posted → List CheckedEntry
  more_of e posts.Closed = []
  more_of e posts.Full = []
  more_of e (posts.Stale m) = []
  more_of e (posts.Appended m) = e ∷ []

  longer_by : (e : CheckedEntry) (r : Posted) → entries_after x.entries e r ≡ x.entries ++ more_of e r
  longer_by e posts.Closed = sym (append-nil x.entries)
  longer_by e posts.Full = sym (append-nil x.entries)
  longer_by e (posts.Stale m) = sym (append-nil x.entries)
  longer_by e (posts.Appended m) = refl

  by_other : (e : CheckedEntry) (work : Work) (w : ℕ) → e.origin ≡ Worker work → work.author ≡ k → w ≢ k → is_by w e.origin ≡ false
  by_other e work w from author other = ap (is_by w) from ∙ ne_eqb work.author w (λ z. other (sym z ∙ author))

  found_other : (e : CheckedEntry) (r : Posted) (w : ℕ) → is_by w e.origin ≡ false
      → found_by w (entries_after x.entries e r) ≡ found_by w x.entries
  found_other e posts.Closed w no_more = refl
  found_other e posts.Full w no_more = refl
  found_other e (posts.Stale m) w no_more = refl
  found_other e (posts.Appended m) w no_more =
      filter-append (λ (z : CheckedEntry). is_by w z.origin) x.entries (e ∷ [])
      ∙ (ap (λ (l : List CheckedEntry). found_by w x.entries ++ l) (rw no_more refl) ∙ append-nil (found_by w x.entries))

  posted_marks : (skeleton : Skeleton) (r : Posted) → marked_properties f.marks ≡ properties_of x.served → IsPosted x skeleton r
      → AreMarksOf (marks_posted f.marks r) x.served
  posted_marks skeleton posts.Closed kinds settled =
      closing_true (λ i. true) x.served f.marks
      (each_property (λ j. true ≡ true → outcome_of x.served j ≢ None) f.marks x.served kinds (λ j inside _ none. settled j (inside, none))) owned.marks
  posted_marks skeleton posts.Full kinds h = owned.marks
  posted_marks skeleton (posts.Stale m) kinds h = owned.marks
  posted_marks skeleton (posts.Appended m) kinds h = owned.marks

  posted_old : (r : Posted) (j : ℕ) (o : Outcome) → HasWon j o f.marks → HasWon j o (marks_posted f.marks r)
  posted_old posts.Closed j o h = closing_old (λ i. true) f.marks j o h
  posted_old posts.Full j o h = h
  posted_old (posts.Stale m) j o h = h
  posted_old (posts.Appended m) j o h = h

  posted_new : (r : Posted) (j : ℕ) (o : Outcome) → HasWon j o (marks_posted f.marks r) → HasWon j o f.marks
  posted_new posts.Closed j o h = closing_new (λ i. true) f.marks j o h
  posted_new posts.Full j o h = h
  posted_new (posts.Stale m) j o h = h
  posted_new (posts.Appended m) j o h = h

  pub posts_ : (e : CheckedEntry) (work : Work) (r : Posted) → e.origin ≡ Worker work → work.author ≡ k → marked_properties f.marks ≡ properties_of x.served
      → IsPosted x work.skeleton r → Event n x (shown_to (with_post x e r) k) k f (shown_face f (shown_to (with_post x e r) k) n (marks_posted f.marks r))
  posts_ e work r from author kinds answer = record {
    was = was;
    number = was;
    home = refl;
    circuit = refl;
    properties = refl;
    workers = refl;
    limit = refl;
    given = refl;
    more = more_of e r;
    longer = longer_by e r;
    others_seen = λ w other. get_or-set_other x.seen k w (length (entries_after x.entries e r)) 0 other;
    others_found = λ w other. found_other e r w (by_other e work w from author other);
    stay = λ j o is. is;
    shown = inl (refl, refl);
    seen = set_below x.seen k (length (entries_after x.entries e r));
    own = refl;
    marks = posted_marks work.skeleton r kinds answer;
    old_wins = posted_old r;
    new_wins = λ j o h. inl (posted_new r j o h);
    outcomes = λ j o is. inl is;
  }

  -- ---- an outcome

  finished_properties : (j : ℕ) (o : Outcome) (r : Finished) → properties_of (served_after x.served j o r) ≡ properties_of x.served
  finished_properties j o ends.Won = properties_stay x.served j o
  finished_properties j o ends.Closed = refl

  finished_stay : (j : ℕ) (o : Outcome) (r : Finished) → IsFinished x.served j r → (i : ℕ) (p : Outcome) → outcome_of x.served i ≡ Some p
      → outcome_of (served_after x.served j o r) i ≡ Some p
  finished_stay j o ends.Won none i p is =
      outcome_else x.served j o i (λ same. none_not_some (outcome_of x.served i) p (ap (outcome_of x.served) same ∙ none) is) ∙ is
  finished_stay j o ends.Closed some_ i p is = is

  finished_marks : (j : ℕ) (o : Outcome) (r : Finished) → IsThere j (properties_of x.served) → IsFinished x.served j r
      → marked_properties f.marks ≡ properties_of x.served → AreMarksOf (marks_finished f.marks j o r) (served_after x.served j o r)
  finished_marks j o ends.Won there none kinds =
      crowning_true j o x.served (served_after x.served j o ends.Won) f.marks (outcome_here x.served j o there) (λ i n. outcome_else x.served j o i n) owned.marks
  finished_marks j o ends.Closed there closed kinds =
      closing_true (λ i. i == j) x.served f.marks
      (each_property (λ i. (i == j) ≡ true → outcome_of x.served i ≢ None) f.marks x.served kinds
      (λ i inside e none. closed (ap (outcome_of x.served) (sym (eq_from i j e)) ∙ none))) owned.marks

  finished_old : (j : ℕ) (o : Outcome) (r : Finished) → IsFinished x.served j r → (i : ℕ) (p : Outcome) → HasWon i p f.marks
      → HasWon i p (marks_finished f.marks j o r)
  finished_old j o ends.Won none i p h =
      crowning_old j o f.marks i p
      (λ same. none_not_some (outcome_of x.served i) p (ap (outcome_of x.served) same ∙ none) (won_true f.marks x.served i p owned.marks h)) h
  finished_old j o ends.Closed some_ i p h = closing_old (λ z. z == j) f.marks i p h

  finished_new : (j : ℕ) (o : Outcome) (r : Finished) → IsFinished x.served j r → (i : ℕ) (p : Outcome) → HasWon i p (marks_finished f.marks j o r)
      → HasWon i p f.marks ⊎ (outcome_of x.served i ≡ None)
  finished_new j o ends.Won none i p h =
      ⊎_elim (λ (t : HasWon i p f.marks). inl t) (λ (same : i ≡ j). inr (ap (outcome_of x.served) same ∙ none)) (crowning_new j o f.marks i p h)
  finished_new j o ends.Closed some_ i p h = inl (closing_new (λ z. z == j) f.marks i p h)

  finished_outcomes : (j : ℕ) (o : Outcome) (r : Finished) → IsThere j (properties_of x.served) → marked_properties f.marks ≡ properties_of x.served
      → (i : ℕ) (p : Outcome) → outcome_of (served_after x.served j o r) i ≡ Some p
      → (outcome_of x.served i ≡ Some p) ⊎ HasWon i p (marks_finished f.marks j o r)
  finished_outcomes j o ends.Won there kinds i p is =
      ⊎_elim (λ (t : (i ≡ j) × (p ≡ o)).
      inr (subst (λ (z : ℕ × Outcome). HasWon z.0 z.1 (marks_finished f.marks j o ends.Won)) (λ d. (sym t.0 d, sym t.1 d))
      (crowning_here j o f.marks (subst (IsThere j) (sym kinds) there))))
      (λ (t : outcome_of x.served i ≡ Some p). inl t) (outcome_after x.served j o i p is)
  finished_outcomes j o ends.Closed there kinds i p is = inl is

  pub finishes : (j : ℕ) (o : Outcome) (r : Finished) → IsThere j (properties_of x.served) → marked_properties f.marks ≡ properties_of x.served
      → IsFinished x.served j r → Event n x (record x { served = served_after x.served j o r }) k f (kept_face f (marks_finished f.marks j o r))
  finishes j o r there kinds answer = record {
    was = was;
    number = was;
    home = refl;
    circuit = refl;
    properties = finished_properties j o r;
    workers = refl;
    limit = refl;
    given = refl;
    more = [];
    longer = sym (append-nil x.entries);
    others_seen = λ w other. refl;
    others_found = λ w other. refl;
    stay = finished_stay j o r answer;
    shown = inr (refl, refl);
    seen = owned.seen;
    own = owned.own;
    marks = finished_marks j o r there answer kinds;
    old_wins = finished_old j o r answer;
    new_wins = finished_new j o r answer;
    outcomes = finished_outcomes j o r there kinds;
  }

  -- ---- the next open property

  opened_old : (least : ℕ) (r : Option ℕ) (j : ℕ) (o : Outcome) → HasWon j o f.marks → HasWon j o (marks_opened f.marks least r)
  opened_old least None j o h = closing_old (λ i. true) f.marks j o h
  opened_old least (Some m) j o h = closing_old (is_passed least m) f.marks j o h

  opened_new : (least : ℕ) (r : Option ℕ) (j : ℕ) (o : Outcome) → HasWon j o (marks_opened f.marks least r) → HasWon j o f.marks
  opened_new least None j o h = closing_new (λ i. true) f.marks j o h
  opened_new least (Some m) j o h = closing_new (is_passed least m) f.marks j o h

  pub opens_next : (least : ℕ) (r : Option ℕ) → marked_properties f.marks ≡ properties_of x.served → IsNextOpen x.served least r
      → Event n x x k f (kept_face f (marks_opened f.marks least r))
  opens_next least r kinds answer = record {
    was = was;
    number = was;
    home = refl;
    circuit = refl;
    properties = refl;
    workers = refl;
    limit = refl;
    given = refl;
    more = [];
    longer = sym (append-nil x.entries);
    others_seen = λ w other. refl;
    others_found = λ w other. refl;
    stay = λ j o is. is;
    shown = inr (refl, refl);
    seen = owned.seen;
    own = owned.own;
    marks = opened_true f.marks x.served least r kinds answer owned.marks;
    old_wins = opened_old least r;
    new_wins = λ j o h. inl (opened_new least r j o h);
    outcomes = λ j o is. inl is;
  }
