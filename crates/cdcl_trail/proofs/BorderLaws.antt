-- Laws of a trail over numbers and the one over their names, as calls need them.
use Rattle.std.proofs.Common.{◌≡◌, ℕ, suc, ◌+◌, ◌<◌, ◌≤◌, true, cond, List, [], ◌∷◌, ◌++◌, length, take, Option, Some, None, refl, ap, ap₂, sym, subst, ◌∙◌, arith}
use Rattle.std.specs.Prelude.{slice_get, is_some}
use Rattle.std.specs.List.{AllByRecursion}
use Rattle.std.specs.Option.{option_map}
use Rattle.std.proofs.lemmas.List.{map-append, length-append, append-nil}
use Rattle.std.proofs.lemmas.Option.{none-some, same_Some, slice_get-map}
use Rattle.proof_semantics.specs.declared.literals.Lit.{Lit}
use Rattle.cnf.specs.Clauses.{clause_numbered}
use Rattle.packed_literals.specs.Naming.{place_among, with_name, name_of, named, AreApart}
use Rattle.packed_literals.proofs.NamingLaws.{apart_push, name_found, place_below, with_known, with_new}
use Rattle.cdcl_trail.specs.Trails.{Step, assumed, literals_of, value_of}
use Rattle.cdcl_trail.specs.AssignmentOf.{place_in}
use Rattle.cdcl_trail.specs.Propagation.{is_true, is_false}
use Rattle.cdcl_trail.specs.Watched.{TrailState, AreWatchedWell, HasTwo, IsWatchable}
use Rattle.cdcl_trail.specs.Renaming.{Meets, named_step, named_steps, named_clause, named_clauses, named_pair, named_pairs, named_state, IsBelow, AreBelow, StepsAreBelow, ClausesAreBelow, PairIsBelow, PairsAreBelow, StateIsBelow, ArePaired}
use Rattle.cdcl_trail.specs.declared.pairs.Pair.{Pair}
use Rattle.cdcl_trail.proofs.RenameLaws.{all_at, eq_named, stranger, has_below, mapped_some, numbered_named, numbered_below, value_named, true_named, false_named, two_unnamed, unnamed, name_stays, clauses_stay, steps_stay}

-- More numbers.

all_more : {A : Type 0} (P Q : A → Type 0) → ((x : A) → P x → Q x) → (xs : List A) → AllByRecursion P xs → AllByRecursion Q xs
all_more P Q more [] all = tt
all_more P Q more (x ∷ xs) all = (more x all.0, all_more P Q more xs all.1)

below_more : (n m : ℕ) → n ≤ m → (a : Lit) → IsBelow n a → IsBelow m a
below_more n m fits a p = omega (arith, fits, p)

pub all_below_more : (n m : ℕ) → n ≤ m → (lits : List Lit) → AreBelow n lits → AreBelow m lits
all_below_more n m fits lits all = all_more (IsBelow n) (IsBelow m) (below_more n m fits) lits all

pub steps_below_more : (n m : ℕ) → n ≤ m → (steps : List Step) → StepsAreBelow n steps → StepsAreBelow m steps
steps_below_more n m fits steps all = all_more (λ (s : Step). IsBelow n s.literal) (λ (s : Step). IsBelow m s.literal) (λ s p. below_more n m fits s.literal p) steps all

pub clauses_below_more : (n m : ℕ) → n ≤ m → (clauses : List (List Lit)) → ClausesAreBelow n clauses → ClausesAreBelow m clauses
clauses_below_more n m fits clauses all = all_more (AreBelow n) (AreBelow m) (all_below_more n m fits) clauses all

pub state_below_more : (n m : ℕ) → n ≤ m → (t : TrailState) → StateIsBelow n t → StateIsBelow m t
state_below_more n m fits t h = record {
  steps = steps_below_more n m fits t.steps h.steps;
  taken = clauses_below_more n m fits t.taken h.taken;
  watched = λ place pair e. let p = h.watched place pair e in (below_more n m fits pair.first p.0, below_more n m fits pair.second p.1);
}

abbrev pub pair_of : Lit → Lit → Pair
pair_of a b = record { first = a; second = b }

pair_stays : (names more : List ℕ) (o : Option Pair) → ((pair : Pair) → o ≡ Some pair → PairIsBelow (length names) pair)
    → option_map (named_pair (names ++ more)) o ≡ option_map (named_pair names) o
pair_stays names more None below = refl
pair_stays names more (Some pair) below =
    let p = below pair refl in
    ap Some (ap₂ pair_of (name_stays names more pair.first p.0) (name_stays names more pair.second p.1))

pub pairs_stay : (names more : List ℕ) (watched : List (Option Pair)) → PairsAreBelow (length names) watched
    → named_pairs (names ++ more) watched ≡ named_pairs names watched
pairs_stay names more [] below = refl
pairs_stay names more (o ∷ watched) below =
    ap₂ (λ q qs. q ∷ qs) (pair_stays names more o (λ pair e. below 0 pair (ap Some e))) (pairs_stay names more watched (λ place pair e. below (suc place) pair e))

pub state_stays : (names more : List ℕ) (t : TrailState) → StateIsBelow (length names) t → named_state (names ++ more) t ≡ named_state names t
state_stays names more t h = λ i. record {
  steps = steps_stay names more t.steps h.steps i;
  taken = clauses_stay names more t.taken h.taken i;
  watched = pairs_stay names more t.watched h.watched i;
}

-- Meeting a variable.

meets_by : (names : List ℕ) (v : ℕ) (found : Option ℕ) → place_among names v ≡ found → Meets names (with_name names v)
meets_by names v None e = record {
  more = v ∷ [];
  behind = with_new names v e;
  apart = λ apart. subst AreApart (sym (with_new names v e)) (apart_push names v apart e);
}
meets_by names v (Some n) e = record {
  more = [];
  behind = with_known names v n e ∙ sym (append-nil names);
  apart = λ apart. subst AreApart (sym (with_known names v n e)) apart;
}

pub meets : (names : List ℕ) (v : ℕ) → Meets names (with_name names v)
meets names v = meets_by names v (place_among names v) refl

pub meets_none : (names : List ℕ) → Meets names names
meets_none names = record { more = []; behind = sym (append-nil names); apart = λ apart. apart }

append_twice : (xs ys zs : List ℕ) → (xs ++ ys) ++ zs ≡ xs ++ (ys ++ zs)
append_twice [] ys zs = refl
append_twice (x ∷ xs) ys zs = ap (λ rest. x ∷ rest) (append_twice xs ys zs)

pub meets_then : (a b c : List ℕ) → Meets a b → Meets b c → Meets a c
meets_then a b c first later = record {
  more = first.more ++ later.more;
  behind = later.behind ∙ ap (λ xs. xs ++ later.more) first.behind ∙ append_twice a first.more later.more;
  apart = λ apart. later.apart (first.apart apart);
}

pub longer : (names later : List ℕ) → Meets names later → length names ≤ length later
longer names later m = omega (arith, ap length m.behind, length-append names m.more)

-- names that come change no meaning
pub state_met : (names later : List ℕ) (t : TrailState) → Meets names later → StateIsBelow (length names) t
    → StateIsBelow (length later) t × (named_state later t ≡ named_state names t)
state_met names later t m h = (
  state_below_more (length names) (length later) (longer names later m) t h,
  ap (λ xs. named_state xs t) m.behind ∙ state_stays names m.more t h,
)

-- Values.

value_by : (names : List ℕ) (steps : List Step) (v : ℕ) (found : Option ℕ) → AreApart names → StepsAreBelow (length names) steps → place_among names v ≡ found
    → value_of (named_steps names steps) v ≡ cond (is_some found) (value_of (named_steps names steps) v) None
value_by names steps v None apart below e = ap (option_map (λ (s : Step). s.literal.positive)) (unnamed names apart steps v below e)
value_by names steps v (Some n) apart below e = refl

-- a variable without a number has no value
pub no_value_of : (names : List ℕ) (steps : List Step) (v : ℕ) → AreApart names → StepsAreBelow (length names) steps → place_among names v ≡ None
    → value_of (named_steps names steps) v ≡ None
no_value_of names steps v apart below e = value_by names steps v None apart below e

-- a variable's value is that of its number
pub value_by_number : (names : List ℕ) (steps : List Step) (v n : ℕ) → AreApart names → StepsAreBelow (length names) steps → place_among names v ≡ Some n
    → value_of (named_steps names steps) v ≡ value_of steps n
value_by_number names steps v n apart below e =
    ap (value_of (named_steps names steps)) (sym (name_found names v n e)) ∙ value_named names apart steps n below (place_below names v n e)

-- Watched literals.

pub pairs_below : (n : ℕ) (t : TrailState) → ArePaired t → ClausesAreBelow n t.taken → PairsAreBelow n t.watched
pairs_below n t paired below place pair e =
    let beside = paired place pair e in
    let inside = all_at (AreBelow n) t.taken place beside.0 below beside.1 in
    (has_below n beside.0 pair.first inside beside.2.first, has_below n beside.0 pair.second inside beside.2.second)

named_pair_of : (names : List ℕ) (o : Option (Option Pair)) (pair : Pair) → option_map (option_map (named_pair names)) o ≡ Some (Some pair)
    → (q : Pair) × (o ≡ Some (Some q)) × (named_pair names q ≡ pair)
named_pair_of names None pair e = absurd (none-some (Some pair) e)
named_pair_of names (Some None) pair e = absurd (none-some pair (same_Some None (Some pair) e))
named_pair_of names (Some (Some q)) pair e = (q, refl, same_Some (named_pair names q) pair (same_Some (Some (named_pair names q)) (Some pair) e))

-- the pair over numbers that a watched pair stands for
pub pair_unnamed : (names : List ℕ) (watched : List (Option Pair)) (place : ℕ) (pair : Pair) → slice_get (named_pairs names watched) place ≡ Some (Some pair)
    → (q : Pair) × (slice_get watched place ≡ Some (Some q)) × (named_pair names q ≡ pair)
pair_unnamed names watched place pair e =
    named_pair_of names (slice_get watched place) pair (sym (slice_get-map (option_map (named_pair names)) watched place) ∙ e)

well_at : (names : List ℕ) (steps : List Step) (q : Pair) → AreApart names → StepsAreBelow (length names) steps → PairIsBelow (length names) q
    → (is_false steps q.first ≡ true → is_true steps q.second ≡ true)
    → is_false (named_steps names steps) (named names q.first) ≡ true → is_true (named_steps names steps) (named names q.second) ≡ true
well_at names steps q apart all below well e =
    true_named names apart steps q.second all below.1 ∙ well (sym (false_named names apart steps q.first all below.0) ∙ e)

abbrev pub turned : Pair → Pair
turned q = record { first = q.second; second = q.first }

pub watched_well_named : (names : List ℕ) (t : TrailState) → AreApart names → StateIsBelow (length names) t → AreWatchedWell t → AreWatchedWell (named_state names t)
watched_well_named names t apart h well place pair e =
    let found = pair_unnamed names t.watched place pair e in
    let q = found.0 in
    let below = h.watched place q found.1 in
    let both = well place q found.1 in
    subst
    (λ (p : Pair). (is_false (named_steps names t.steps) p.first ≡ true → is_true (named_steps names t.steps) p.second ≡ true)
    × (is_false (named_steps names t.steps) p.second ≡ true → is_true (named_steps names t.steps) p.first ≡ true))
    found.2
    (well_at names t.steps q apart h.steps below both.0, well_at names t.steps (turned q) apart h.steps (below.1, below.0) both.1)

pub watchable_unnamed : (names : List ℕ) (t : TrailState) (number : ℕ) → AreApart names → ClausesAreBelow (length names) t.taken
    → IsWatchable (named_state names t) number → IsWatchable t number
watchable_unnamed names t number apart below is =
    let found = mapped_some (named_clause names) (clause_numbered t.taken number) is.0 (sym (numbered_named names t.taken number) ∙ is.1) in
    let inside = numbered_below (length names) t.taken number found.0 below found.1 in
    (found.0, found.1, two_unnamed names apart found.0 inside (subst HasTwo (sym found.2) is.2))

-- Assuming a literal.

pub named_is : (names : List ℕ) (a b : Lit) (n : ℕ) → place_among names a.var ≡ Some n → b.var ≡ n → b.positive ≡ a.positive → named names b ≡ a
named_is names a b n place same sign =
    λ i. record { var = (ap (name_of names) same ∙ name_found names a.var n place) i; positive = sign i }

pub steps_met : (names later : List ℕ) (steps : List Step) → Meets names later → StepsAreBelow (length names) steps → named_steps later steps ≡ named_steps names steps
steps_met names later steps m below = ap (λ ns. named_steps ns steps) m.behind ∙ steps_stay names m.more steps below

pub assumed_named : (names later : List ℕ) (steps : List Step) (a b : Lit) (n : ℕ) → Meets names later → StepsAreBelow (length names) steps
    → place_among later a.var ≡ Some n → b.var ≡ n → b.positive ≡ a.positive
    → named_steps later (steps ++ assumed b ∷ []) ≡ named_steps names steps ++ assumed a ∷ []
assumed_named names later steps a b n m below place same sign =
    map-append (named_step later) steps (assumed b ∷ [])
    ∙ ap₂ (λ xs c. xs ++ assumed c ∷ []) (steps_met names later steps m below) (named_is later a b n place same sign)

-- the number of a variable without a value has none
pub free_number : (names later : List ℕ) (steps : List Step) (v n : ℕ) → AreApart names → Meets names later → StepsAreBelow (length names) steps
    → place_among later v ≡ Some n → value_of (named_steps names steps) v ≡ None → value_of steps n ≡ None
free_number names later steps v n apart m below place free =
    sym (value_by_number later steps v n (m.apart apart) (steps_below_more (length names) (length later) (longer names later m) steps below) place)
    ∙ ap (λ xs. value_of xs v) (steps_met names later steps m below)
    ∙ free

-- Going back.

pub all_front : {A : Type 0} (P : A → Type 0) (front rest : List A) → AllByRecursion P (front ++ rest) → AllByRecursion P front
all_front P [] rest all = tt
all_front P (x ∷ front) rest all = (all.0, all_front P front rest all.1)

-- what is shown of a trail begins with what is shown of its first steps
pub shown_front : (names : List ℕ) (front rest : List Step)
    → take (length (literals_of front)) (literals_of (named_steps names (front ++ rest))) ≡ literals_of (named_steps names front)
shown_front names [] rest = refl
shown_front names (s ∷ front) rest = ap (λ xs. named names s.literal ∷ xs) (shown_front names front rest)

-- Taking over a clause.

pub clauses_met : (names later : List ℕ) (clauses : List (List Lit)) → Meets names later → ClausesAreBelow (length names) clauses
    → named_clauses later clauses ≡ named_clauses names clauses
clauses_met names later clauses m below = ap (λ ns. named_clauses ns clauses) m.behind ∙ clauses_stay names m.more clauses below

pub taken_named : (names later : List ℕ) (taken : List (List Lit)) (numbered clause : List Lit) → Meets names later → ClausesAreBelow (length names) taken
    → named_clause later numbered ≡ clause → named_clauses later (taken ++ numbered ∷ []) ≡ named_clauses names taken ++ clause ∷ []
taken_named names later taken numbered clause m below same =
    map-append (named_clause later) taken (numbered ∷ []) ∙ ap₂ (λ cs c. cs ++ c ∷ []) (clauses_met names later taken m below) same

-- Literals and their places.

pub literals_below : (n : ℕ) (steps : List Step) → StepsAreBelow n steps → AreBelow n (literals_of steps)
literals_below n [] all = tt
literals_below n (s ∷ steps) all = (all.0, literals_below n steps all.1)

pub place_named : (names : List ℕ) (lits : List Lit) (v : ℕ) → AreApart names → AreBelow (length names) lits → v < length names
    → place_in (named_clause names lits) (name_of names v) ≡ place_in lits v
place_named names [] v apart all p = refl
place_named names (a ∷ lits) v apart all p =
    ap₂ (λ b later. cond b (Some 0) (option_map (λ place. place + 1) later)) (eq_named names apart a.var v all.0 p) (place_named names lits v apart all.1 p)

pub no_place_named : (names : List ℕ) (lits : List Lit) (v : ℕ) → AreApart names → AreBelow (length names) lits → place_among names v ≡ None
    → place_in (named_clause names lits) v ≡ None
no_place_named names [] v apart all none = refl
no_place_named names (a ∷ lits) v apart all none =
    ap (λ b. cond b (Some 0) (option_map (λ place. place + 1) (place_in (named_clause names lits) v))) (stranger names apart v a.var all.0 none)
    ∙ ap (option_map (λ place. place + 1)) (no_place_named names lits v apart all.1 none)
