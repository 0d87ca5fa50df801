-- A model is checked, or has a fault.
use Rattle.std.proofs.Common.{◌≡◌, ℕ, zero, suc, ◌+◌, ◌*◌, ◌≤◌, ◌<◌, ◌⊎◌, Bool, true, false, ◌&&◌, ◌||◌, eqb, leb, ltb, List, [], ◌∷◌, ◌++◌, map, length, get_or, refl, sym, ap, subst, ◌∙◌, arith, inl, inr, true≢false}
use Rattle.std.specs.List.{All, Any, Contains, AllByRecursion, list_any}
use Rattle.std.proofs.lemmas.Bool.{eqb-true, eq-eqb, leb-true, le-leb, ltb-true, lt-ltb, cases_lt}
use Rattle.std.proofs.lemmas.List.Folds.{Any-from_list_any, list_any-from_Any}
use Rattle.aig_semantics.specs.declared.parts.Gate.{Gate}
use Rattle.aig_semantics.specs.Literals.{variable_of}
use Rattle.aig_semantics.specs.Circuits.{Circuit, defined, used, AreDefined, Reads, ReadsThrough, IsOnCycle, IsChecked}
use Rattle.text_grammar.proofs.NumeralLaws.{both}
use Rattle.circuit.specs.declared.parts.Parts.{Parts}
use Rattle.circuit.specs.declared.faults.ModelFault.{ModelFault}
use Rattle.circuit.specs.declared.faults.ModelFault.TheVariants.{Undefined, Twice, Cycle}
use Rattle.circuit.specs.Sections.{circuit_of, used_by, AreInRange}
use Rattle.circuit.specs.Faults.{IsLeast, IsTwice, IsUndefined, IsFirstTwice, IsOnce}
use Rattle.circuit.proofs.Counting.{count, Contains-from_count, count-from_Contains, AllDiffer-from_count}
use Rattle.circuit.proofs.Ranges.{used-in_range}
use Rattle.aig_semantics.proofs.Lists.{All-left}
use Rattle.std.proofs.lemmas.List.{append_assoc, get_or_default}
use Rattle.aiger_grammar.specs.BothForms.{HasPartsFault}

abbrev Decided : Type 0 → Type 0
Decided P = P ⊎ (P → ⊥)

decide_by : {P : Type 0} (b : Bool) → (b ≡ true → P) → (P → b ≡ true) → Decided P
decide_by true told says = inl (told refl)
decide_by false told says = inr (λ p. true≢false (sym (says p)))

decide_eq : (n m : ℕ) → Decided (n ≡ m)
decide_eq n m = decide_by (eqb n m) (eqb-true n m) (eq-eqb n m)

either : (s t : Bool) → (s || t) ≡ true → (s ≡ true) ⊎ (t ≡ true)
either true t e = inl refl
either false t e = inr e

-- ---- the least number of which a fact holds

one_more : (P : ℕ → Type 0) (n : ℕ) → Decided (P n) → ((v : ℕ) × IsLeast P v) ⊎ ((u : ℕ) → u < n → P u → ⊥) → ((v : ℕ) × IsLeast P v) ⊎ ((u : ℕ) → u < suc n → P u → ⊥)
one_more P n decided (inl found) = inl found
one_more P n (inl p) (inr before) = inl (
  n,
  record {
    holds = p;
    least = λ u q. elim (cases_lt u n) [ inl lt ↦ absurd (before u lt q) | inr ge ↦ omega arith ];
  },
)
one_more P n (inr not_here) (inr before) = inr (λ u lt q. elim (cases_lt u n) [
  | inl less ↦ before u less q
  | inr ge ↦ not_here (subst P (let same : u ≡ n = omega arith in same) q)
])

find_least : (P : ℕ → Type 0) → ((v : ℕ) → Decided (P v)) → (n : ℕ) → ((v : ℕ) × IsLeast P v) ⊎ ((u : ℕ) → u < n → P u → ⊥)
find_least P decide zero = inr (λ u lt q. absurd (omega arith))
find_least P decide (suc n) = one_more P n (decide n) (find_least P decide n)

contained : (P : ℕ → Type 0) (xs : List ℕ) (u : ℕ) → All P xs → Contains xs u → P u
contained P xs u all there = subst P there.2 (all there.0 u there.1)

-- ---- definitions

decide_twice : (parts : Parts) (v : ℕ) → Decided (IsTwice parts v)
decide_twice parts v =
    let n = count v (defined (circuit_of parts)) in
    decide_by (ltb 1 n) (ltb-true 1 n) (lt-ltb 1 n)

once_where : (parts : Parts) → AreInRange parts → ((u : ℕ) → u < parts.max + 1 → IsTwice parts u → ⊥) → IsOnce parts
once_where parts range before =
    let all = defined (circuit_of parts) in
    AllDiffer-from_count all (λ u. elim (cases_lt 1 (count u all)) [
      | inl lt ↦
          let inside = contained (λ v. (1 ≤ v) × (v ≤ parts.max)) all u range.variables (Contains-from_count u all (omega arith)) in
          let low : u ≤ parts.max = inside.1 in
          absurd (before u (omega arith) lt)
      | inr ge ↦ omega arith
    ])

pub first_twice : (parts : Parts) → AreInRange parts → ((v : ℕ) × IsFirstTwice parts v) ⊎ IsOnce parts
first_twice parts range = elim (find_least (IsTwice parts) (decide_twice parts) (parts.max + 1)) [
  | inl found ↦ inl found
  | inr before ↦ inr (once_where parts range before)
]

-- ---- uses

decide_contains : (xs : List ℕ) (v : ℕ) → Decided (Contains xs v)
decide_contains xs v = decide_by (leb 1 (count v xs)) (λ e. Contains-from_count v xs (leb-true _ _ e)) (λ there. le-leb _ _ (count-from_Contains v xs there))

any_as : {A : Type 0} (P Q : A → Type 0) (xs : List A) → ((x : A) → P x → Q x) → Any P xs → Any Q xs
any_as P Q xs f any = (any.0, any.1, any.2, any.3, f any.1 any.4)

decide_used : (literals : List ℕ) (v : ℕ) → Decided (Any (λ literal. variable_of literal ≡ v) literals)
decide_used literals v =
    let test : ℕ → Bool = λ literal. eqb (variable_of literal) v in
    decide_by (list_any test literals)
    (λ e. any_as (λ x. test x ≡ true) (λ literal. variable_of literal ≡ v) literals (λ x t. eqb-true (variable_of x) v t) (Any-from_list_any test literals e))
    (λ any. list_any-from_Any test literals (any_as (λ literal. variable_of literal ≡ v) (λ x. test x ≡ true) literals (λ x t. eq-eqb (variable_of x) v t) any))

undefined_by : (parts : Parts) (v : ℕ) → Decided (1 ≤ v) → Decided (Any (λ literal. variable_of literal ≡ v) (used_by parts)) → Decided (Contains (defined (circuit_of parts)) v) → Decided (IsUndefined parts v)
undefined_by parts v (inl some) (inl used) (inr nowhere) = inl (record { positive = some; used = used; nowhere = nowhere })
undefined_by parts v (inr none_there) used there = inr (λ u. none_there u.positive)
undefined_by parts v (inl some) (inr unused) there = inr (λ u. unused u.used)
undefined_by parts v (inl some) (inl used) (inl there) = inr (λ u. u.nowhere there)

decide_undefined : (parts : Parts) (v : ℕ) → Decided (IsUndefined parts v)
decide_undefined parts v =
    undefined_by parts v (decide_by (leb 1 v) (leb-true 1 v) (le-leb 1 v)) (decide_used (used_by parts) v) (decide_contains (defined (circuit_of parts)) v)

known_by : (parts : Parts) (literal k : ℕ) → k < length (used_by parts) → get_or (used_by parts) k literal ≡ literal → (IsUndefined parts (variable_of literal) → ⊥) → Decided (variable_of literal ≡ 0)
    → Decided (Contains (defined (circuit_of parts)) (variable_of literal)) → (variable_of literal ≡ 0) ⊎ Contains (defined (circuit_of parts)) (variable_of literal)
known_by parts literal k below at no_undefined (inl is_zero) there = inl is_zero
known_by parts literal k below at no_undefined (inr not_zero) (inl there) = inr there
known_by parts literal k below at no_undefined (inr not_zero) (inr nowhere) =
    let some : 1 ≤ variable_of literal = elim (cases_lt 0 (variable_of literal)) [ inl lt ↦ lt | inr ge ↦ absurd (not_zero (omega arith)) ] in
    absurd (no_undefined (record { positive = some; used = (k, literal, below, at, refl); nowhere = nowhere }))

all_known : (parts : Parts) → AreInRange parts → ((u : ℕ) → u < parts.max + 1 → IsUndefined parts u → ⊥) → AreDefined (circuit_of parts) (used_by parts)
all_known parts range before = λ k d below.
    let literal = get_or (used_by parts) k d in
    let at : get_or (used_by parts) k literal ≡ literal = get_or_default (used_by parts) k literal d below in
    let high : literal ≤ 2 * parts.max + 1 = used-in_range parts range k d below in
    let inside : variable_of literal < parts.max + 1 = omega arith in
    known_by parts literal k below at (before (variable_of literal) inside) (decide_eq (variable_of literal) 0) (decide_contains (defined (circuit_of parts)) (variable_of literal))

pub first_undefined : (parts : Parts) → AreInRange parts → ((v : ℕ) × IsLeast (IsUndefined parts) v) ⊎ AreDefined (circuit_of parts) (used_by parts)
first_undefined parts range = elim (find_least (IsUndefined parts) (decide_undefined parts) (parts.max + 1)) [
  | inl found ↦ inl found
  | inr before ↦ inr (all_known parts range before)
]

-- ---- cycles

reads_test : ℕ → ℕ → Gate → Bool
reads_test v w gate = eqb gate.var v && (eqb (variable_of gate.rhs0) w || eqb (variable_of gate.rhs1) w)

abbrev GateReads : ℕ → ℕ → Gate → Type 0
GateReads v w gate = (gate.var ≡ v) × ((variable_of gate.rhs0 ≡ w) ⊎ (variable_of gate.rhs1 ≡ w))

test_tells : (v w : ℕ) (gate : Gate) → reads_test v w gate ≡ true → GateReads v w gate
unfolding reads_test
test_tells v w gate e =
    let p = both (eqb gate.var v) (eqb (variable_of gate.rhs0) w || eqb (variable_of gate.rhs1) w) e in
    (eqb-true _ _ p.0, elim (either (eqb (variable_of gate.rhs0) w) (eqb (variable_of gate.rhs1) w) p.1) [ inl a ↦ inl (eqb-true _ _ a) | inr b ↦ inr (eqb-true _ _ b) ])

or_right : (s t : Bool) → t ≡ true → (s || t) ≡ true
or_right true t e = refl
or_right false t e = e

test_says : (v w : ℕ) (gate : Gate) → GateReads v w gate → reads_test v w gate ≡ true
unfolding reads_test
test_says v w gate (var, inl a) = ap (λ t. t && (eqb (variable_of gate.rhs0) w || eqb (variable_of gate.rhs1) w)) (eq-eqb _ _ var) ∙ ap (λ t. t || eqb (variable_of gate.rhs1) w) (eq-eqb _ _ a)
test_says v w gate (var, inr b) = ap (λ t. t && (eqb (variable_of gate.rhs0) w || eqb (variable_of gate.rhs1) w)) (eq-eqb _ _ var) ∙ or_right (eqb (variable_of gate.rhs0) w) (eqb (variable_of gate.rhs1) w) (eq-eqb _ _ b)

says_reads : (c : Circuit) (v w : ℕ) → Reads c v w → list_any (reads_test v w) c.gates ≡ true
says_reads c v w r = list_any-from_Any (reads_test v w) c.gates (any_as (GateReads v w) (λ g. reads_test v w g ≡ true) c.gates (test_says v w) r)

decide_reads : (c : Circuit) (v w : ℕ) → Decided (Reads c v w)
decide_reads c v w = decide_by (list_any (reads_test v w) c.gates) (λ e. any_as (λ g. reads_test v w g ≡ true) (GateReads v w) c.gates (test_tells v w) (Any-from_list_any (reads_test v w) c.gates e)) (says_reads c v w)

abbrev Member : List ℕ → ℕ → Type 0
Member [] x = ⊥
Member (k ∷ ks) x = (x ≡ k) ⊎ Member ks x

abbrev Inside : List ℕ → List ℕ → Type 0
Inside ks [] = Unit {0}
Inside ks (x ∷ xs) = Member ks x × Inside ks xs

-- u reads w through some of these variables only
abbrev Reach : Circuit → List ℕ → ℕ → ℕ → Type 0
Reach c ks u w = (between : List ℕ) × Inside ks between × ReadsThrough c u between w

widen : (g : ℕ) (ks xs : List ℕ) → Inside ks xs → Inside (g ∷ ks) xs
widen g ks [] s = tt
widen g ks (x ∷ xs) s = (inr s.0, widen g ks xs s.1)

glue : (c : Circuit) (g w : ℕ) (first second : List ℕ) (u : ℕ) → ReadsThrough c u first g → ReadsThrough c g second w → ReadsThrough c u (first ++ g ∷ second) w
glue c g w [] second u r s = (r, s)
glue c g w (x ∷ first) second u r s = (r.0, glue c g w first second x r.1 s)

inside_glue : (g : ℕ) (ks first second : List ℕ) → Inside (g ∷ ks) first → Inside (g ∷ ks) second → Inside (g ∷ ks) (first ++ g ∷ second)
inside_glue g ks [] second s t = (inl refl, t)
inside_glue g ks (x ∷ first) second s t = (s.0, inside_glue g ks first second s.1 t)

split_one : (c : Circuit) (g : ℕ) (ks : List ℕ) (w x u : ℕ) → (x ≡ g) ⊎ Member ks x → Reads c u x → Reach c ks x w ⊎ (Reach c ks x g × Reach c ks g w) → Reach c ks u w ⊎ (Reach c ks u g × Reach c ks g w)
split_one c g ks w x u (inl e) r (inl s) = inr (([], tt, subst (Reads c u) e r), subst (λ y. Reach c ks y w) e s)
split_one c g ks w x u (inl e) r (inr s) = inr (([], tt, subst (Reads c u) e r), s.1)
split_one c g ks w x u (inr m) r (inl s) = inl (x ∷ s.0, (m, s.1), (r, s.2))
split_one c g ks w x u (inr m) r (inr s) = inr ((x ∷ s.0.0, (m, s.0.1), (r, s.0.2)), s.1)

split : (c : Circuit) (g : ℕ) (ks : List ℕ) (w : ℕ) (between : List ℕ) (u : ℕ) → Inside (g ∷ ks) between → ReadsThrough c u between w → Reach c ks u w ⊎ (Reach c ks u g × Reach c ks g w)
split c g ks w [] u inside r = inl ([], tt, r)
split c g ks w (x ∷ between) u inside r = split_one c g ks w x u inside.0 r.0 (split c g ks w between x inside.1 r.1)

no_more : (c : Circuit) (g : ℕ) (ks : List ℕ) (u w : ℕ) → (Reach c ks u w → ⊥) → (Reach c ks u g × Reach c ks g w → ⊥) → Reach c (g ∷ ks) u w → ⊥
no_more c g ks u w direct over s = elim (split c g ks w s.0 u s.1 s.2) [ inl a ↦ direct a | inr b ↦ over b ]

reach_by : (c : Circuit) (g : ℕ) (ks : List ℕ) (u w : ℕ) → Decided (Reach c ks u w) → Decided (Reach c ks u g) → Decided (Reach c ks g w) → Decided (Reach c (g ∷ ks) u w)
reach_by c g ks u w (inl s) to from = inl (s.0, widen g ks s.0 s.1, s.2)
reach_by c g ks u w (inr direct) (inl s) (inl t) =
    inl (s.0 ++ g ∷ t.0, inside_glue g ks s.0 t.0 (widen g ks s.0 s.1) (widen g ks t.0 t.1), glue c g w s.0 t.0 u s.2 t.2)
reach_by c g ks u w (inr direct) (inr not_to) from = inr (no_more c g ks u w direct (λ p. not_to p.0))
reach_by c g ks u w (inr direct) (inl s) (inr not_from) = inr (no_more c g ks u w direct (λ p. not_from p.1))

no_step : (c : Circuit) (u w : ℕ) → (Reads c u w → ⊥) → (between : List ℕ) → Inside [] between → ReadsThrough c u between w → ⊥
no_step c u w never [] inside r = never r
no_step c u w never (x ∷ between) inside r = inside.0

one_step : (c : Circuit) (u w : ℕ) → Decided (Reads c u w) → Decided (Reach c [] u w)
one_step c u w (inl r) = inl ([], tt, r)
one_step c u w (inr never) = inr (λ s. no_step c u w never s.0 s.1 s.2)

decide_reach : (c : Circuit) (ks : List ℕ) (u w : ℕ) → Decided (Reach c ks u w)
decide_reach c [] u w = one_step c u w (decide_reads c u w)
decide_reach c (g ∷ ks) u w = reach_by c g ks u w (decide_reach c ks u w) (decide_reach c ks u g) (decide_reach c ks g w)

tested_member : (v w : ℕ) (gates : List Gate) → list_any (reads_test v w) gates ≡ true → Member (map (λ gate. gate.var) gates) v
tested_member v w [] e = absurd (true≢false (sym e))
tested_member v w (gate ∷ gates) e = elim (either (reads_test v w gate) (list_any (reads_test v w) gates) e) [
  | inl here ↦ inl (sym (test_tells v w gate here).0)
  | inr later ↦ inr (tested_member v w gates later)
]

abbrev gate_variables : Circuit → List ℕ
gate_variables c = map (λ gate. gate.var) c.gates

first_reads : (c : Circuit) (v w : ℕ) (between : List ℕ) → ReadsThrough c v between w → Member (gate_variables c) v
first_reads c v w [] r = tested_member v w c.gates (says_reads c v w r)
first_reads c v w (x ∷ between) r = tested_member v x c.gates (says_reads c v x r.0)

all_inside : (c : Circuit) (w : ℕ) (between : List ℕ) (v : ℕ) → ReadsThrough c v between w → Inside (gate_variables c) between
all_inside c w [] v r = tt
all_inside c w (x ∷ between) v r = (first_reads c x w between r.1, all_inside c w between x r.1)

abbrev NoneOf : Circuit → List ℕ → Type 0
NoneOf c vs = AllByRecursion (λ v. Reach c (gate_variables c) v v → ⊥) vs

cycle_here : (c : Circuit) (v : ℕ) (vs : List ℕ) → Decided (Reach c (gate_variables c) v v) → ((u : ℕ) × IsOnCycle c u) ⊎ NoneOf c vs → ((u : ℕ) × IsOnCycle c u) ⊎ NoneOf c (v ∷ vs)
cycle_here c v vs (inl s) others = inl (v, (s.0, s.2))
cycle_here c v vs (inr never) (inl found) = inl found
cycle_here c v vs (inr never) (inr none_there) = inr (never, none_there)

find_cycle : (c : Circuit) (vs : List ℕ) → ((u : ℕ) × IsOnCycle c u) ⊎ NoneOf c vs
find_cycle c [] = inr tt
find_cycle c (v ∷ vs) = cycle_here c v vs (decide_reach c (gate_variables c) v v) (find_cycle c vs)

none_at : (c : Circuit) (vs : List ℕ) (v : ℕ) → NoneOf c vs → Member vs v → Reach c (gate_variables c) v v → ⊥
none_at c [] v all m s = m
none_at c (u ∷ vs) v all (inl e) s = all.0 (subst (λ x. Reach c (gate_variables c) x x) e s)
none_at c (u ∷ vs) v all (inr m) s = none_at c vs v all.1 m s

pub cycle_or_none : (c : Circuit) → ((v : ℕ) × IsOnCycle c v) ⊎ ((v : ℕ) → IsOnCycle c v → ⊥)
cycle_or_none c = elim (find_cycle c (gate_variables c)) [
  | inl found ↦ inl found
  | inr none_there ↦ inr (λ v on. none_at c (gate_variables c) v none_there (first_reads c v v on.0 on.1) (on.0, all_inside c v on.0 v on.1, on.1))
]

-- ---- all three

abbrev IsSound : Parts → Type 0
IsSound parts = IsChecked (circuit_of parts) × AreDefined (circuit_of parts) (used_by parts)

circuit_defined : (parts : Parts) → AreDefined (circuit_of parts) (used_by parts) → AreDefined (circuit_of parts) (used (circuit_of parts))
circuit_defined parts all =
    let c = circuit_of parts in
    All-left (λ literal. (variable_of literal ≡ 0) ⊎ Contains (defined c) (variable_of literal)) (used c) (parts.outputs ++ parts.bad)
    (subst (AreDefined c) (append_assoc (used c) parts.outputs parts.bad) all)

by_all : (parts : Parts) → AreInRange parts → ((v : ℕ) × IsFirstTwice parts v) ⊎ IsOnce parts → ((v : ℕ) × IsLeast (IsUndefined parts) v) ⊎ AreDefined (circuit_of parts) (used_by parts)
    → ((v : ℕ) × IsOnCycle (circuit_of parts) v) ⊎ ((v : ℕ) → IsOnCycle (circuit_of parts) v → ⊥) → IsSound parts ⊎ ((fault : ModelFault) × HasPartsFault parts fault)
by_all parts range (inl twice) undefined cycle = inr (Twice twice.0, twice.1)
by_all parts range (inr once) (inl undefined) cycle = inr (Undefined undefined.0, record { once = once; first = undefined.1 })
by_all parts range (inr once) (inr all) (inl cycle) = inr (Cycle cycle.0, record { defined = record { once = once; defined = all }; cycle = cycle.1 })
by_all parts range (inr once) (inr all) (inr acyclic) =
    inl (record { in_range = range.variables; once = once; used_defined = circuit_defined parts all; acyclic = acyclic }, all)

-- a model whose numbers are in their range is checked, or has a fault
pub checked_or_faulty : (parts : Parts) → AreInRange parts → IsSound parts ⊎ ((fault : ModelFault) × HasPartsFault parts fault)
checked_or_faulty parts range = by_all parts range (first_twice parts range) (first_undefined parts range) (cycle_or_none (circuit_of parts))
