-- Lifted cubes: what ternary simulation keeps true, in the words of a search.
use Rattle.std.proofs.Common.{◌≡◌, ℕ, ◌+◌, ◌-◌, ◌/◌, ◌%◌, ◌==◌, ◌<◌, ◌≤◌, Bool, true, false, not, ◌&&◌, ◌||◌, cond, List, [], ◌∷◌, ◌++◌, map, length, get_or, take, refl, sym, ap, subst, ◌∙◌, inl, inr, arith}
use Rattle.std.proofs.lemmas.Bool.{false≢true, cases_Bool, cases_lt, and_parts, and_from, or_left, or_right, eqb-true, eq-eqb, ne_eqb}
use Rattle.std.proofs.lemmas.List.{length-map, get_or-take, get_or-map, length-take-le, get_or_default, take_all}
use Rattle.std.proofs.lemmas.List.Elements.{All-nil, All-cons, All-head, All-tail, All-append}
use Rattle.std.proofs.lemmas.Option.{unwrap_or-slice_get}
use Rattle.std.specs.List.{All}
use Rattle.std.specs.Prelude.{IsTrue}
use Rattle.aig_semantics.specs.declared.parts.Latch.{Latch}
use Rattle.aig_semantics.specs.declared.parts.Reset.TheVariants.{Zero}
use Rattle.aig_semantics.specs.declared.traces.Position.{Position}
use Rattle.aig_semantics.specs.Circuits.{Circuit}
use Rattle.aig_semantics.specs.Literals.{variable_of, is_negated, variable_in, literal_in}
use Rattle.aig_semantics.specs.Runs.{position_of, valuation_at, literal_at, successor, MeetsConstraints}
use Rattle.proof_semantics.specs.declared.literals.Lit.{Lit}
use Rattle.proof_semantics.specs.Clauses.{bool_eq, negation, literal_value, cube_value, values_of, has_literal, is_part}
use Rattle.proof_semantics.proofs.LiteralLaws.{cube_value-has, literal_value-negation}
use Rattle.cnf_unroll.specs.Laws.{AreOver}
use Rattle.fair_semantics.specs.Entries.{Entry}
use Rattle.ternary.specs.Cubes.{IsOverLatches, LiesIn, KeepsTrue}
use Rattle.ic3_generalise.proofs.Parts.{part_has, part_on, part_same}
use Rattle.ic3_semantics.specs.declared.questions.Start.{Start}
use Rattle.ic3_semantics.specs.Stepping.{IsOver}
use Rattle.ic3_generalise.specs.Cubes.{value_literals, misses_starts, IsBased}
use Rattle.ic3_loops.specs.Lifting.{IsIn, opposite, next_at, next_literal, AreTrue, IsLifted, EndsIn, MissesEach, IsApart, IsGoalLifted}
use Rattle.ic3_loops.proofs.Excluded.{state-misses}
use Rattle.ic3_loops.proofs.Excluding.{part_true, own_literal}

-- ---- the next literal

outcome : (a b x : Bool) → a ≡ not b → cond a (not x) x ≡ not (cond b (not x) x)
outcome true true x e = absurd (false≢true (sym e))
outcome true false x e = refl
outcome false true true e = refl
outcome false true false e = refl
outcome false false x e = absurd (false≢true e)

other_side : (values : List Bool) (m n : ℕ) → variable_of m ≡ variable_of n → is_negated m ≡ not (is_negated n)
    → literal_in values m ≡ not (literal_in values n)
other_side values m n same flips =
    ap (λ v. cond (is_negated m) (not (variable_in values v)) (variable_in values v)) same
    ∙ outcome (is_negated m) (is_negated n) (variable_in values (variable_of n)) flips

opposite-value : (values : List Bool) (n : ℕ) → literal_in values (opposite n) ≡ not (literal_in values n)
opposite-value values n = elim (cases_Bool ((n % 2) == 1)) [
  | inl odd ↦
      let rest : n % 2 ≡ 1 = eqb-true (n % 2) 1 odd in
      let half : (n - 1) / 2 ≡ n / 2 = omega (arith, rest) in
      let even : (n - 1) % 2 ≡ 0 = omega (arith, rest) in
      let flips : (((n - 1) % 2) == 1) ≡ false = ne_eqb ((n - 1) % 2) 1 (λ e. omega (arith, even)) in
      ap (λ b. literal_in values (cond b (n - 1) (n + 1))) odd ∙ other_side values (n - 1) n half (flips ∙ ap not (sym odd))
  | inr even ↦
      let rest : n % 2 ≡ 0 = zero_rest n even in
      let half : (n + 1) / 2 ≡ n / 2 = omega (arith, rest) in
      let odd : (n + 1) % 2 ≡ 1 = omega (arith, rest) in
      let flips : (((n + 1) % 2) == 1) ≡ true = eq-eqb ((n + 1) % 2) 1 odd in
      ap (λ b. literal_in values (cond b (n - 1) (n + 1))) even ∙ other_side values (n + 1) n half (flips ∙ ap not (sym even))
]
  where
    zero_rest : (n : ℕ) → ((n % 2) == 1) ≡ false → n % 2 ≡ 0
    zero_rest n even = elim (cases_lt (n % 2) 1) [
      | inl less ↦ omega arith
      | inr more ↦ let e : n % 2 ≡ 1 = omega arith in absurd (false≢true (sym even ∙ eq-eqb (n % 2) 1 e))
    ]

no_latch : Latch
no_latch = record { var = 0; next = 0; reset = Zero }

pub next_at-get : (latches : List Latch) (v : ℕ) (d : Latch) → v < length latches → (get_or latches v d).next ≡ next_at latches v
next_at-get latches v d below =
    ap (λ (x : Latch). x.next) (get_or_default latches v d no_latch below)
    ∙ sym (get_or-map (λ (latch : Latch). latch.next) latches v no_latch 0 below)

next-value : (c : Circuit) (p : Position) (l : Lit) → l.var < length c.latches
    → literal_at c p (next_literal c.latches l) ≡ literal_value (values_of (successor c p)) l
next-value c p l below =
    by l.positive (next_at c.latches l.var) (values_of (successor c p) l.var)
    (unwrap_or-slice_get (successor c p) l.var false
    ∙ get_or-map (λ (latch : Latch). literal_at c p latch.next) c.latches l.var no_latch false below
    ∙ ap (literal_at c p) (sym (get_or-map (λ (latch : Latch). latch.next) c.latches l.var no_latch 0 below)))
  where
    by : (b : Bool) (n : ℕ) (x : Bool) → x ≡ literal_at c p n → literal_at c p (cond b n (opposite n)) ≡ bool_eq b x
    by true n x e = sym e
    by false n x e = opposite-value (valuation_at c p) n ∙ ap not (sym e)

-- ---- what the literals tell

abbrev IsOne : Circuit → Position → ℕ → Type 0
IsOne c p literal = IsTrue (literal_at c p literal)

nexts-true : (c : Circuit) (p : Position) (into : List Lit) → IsOver (length c.latches) into
    → cube_value (values_of (successor c p)) into ≡ true → AreTrue c p (map (next_literal c.latches) into)
nexts-true c p [] over holds = All-nil (IsOne c p)
nexts-true c p (l ∷ into) over holds =
    let both = and_parts (literal_value (values_of (successor c p)) l) (cube_value (values_of (successor c p)) into) holds in
    All-cons (IsOne c p) (next_literal c.latches l) (map (next_literal c.latches) into)
    (next-value c p l (All-head (λ a. a.var < length c.latches) l into over) ∙ both.0)
    (nexts-true c p into (All-tail (λ a. a.var < length c.latches) l into over) both.1)

true-nexts : (c : Circuit) (p : Position) (into : List Lit) → IsOver (length c.latches) into
    → AreTrue c p (map (next_literal c.latches) into) → cube_value (values_of (successor c p)) into ≡ true
true-nexts c p [] over holds = refl
true-nexts c p (l ∷ into) over holds =
    let rest : List ℕ = map (next_literal c.latches) into in
    and_from (literal_value (values_of (successor c p)) l) (cube_value (values_of (successor c p)) into)
    (sym (next-value c p l (All-head (λ a. a.var < length c.latches) l into over)) ∙ All-head (IsOne c p) (next_literal c.latches l) rest holds)
    (true-nexts c p into (All-tail (λ a. a.var < length c.latches) l into over) (All-tail (IsOne c p) (next_literal c.latches l) rest holds))

all-left : (P : ℕ → Type 0) (xs ys : List ℕ) → All P (xs ++ ys) → All P xs
all-left P [] ys h = All-nil P
all-left P (x ∷ xs) ys h = All-cons P x xs (All-head P x (xs ++ ys) h) (all-left P xs ys (All-tail P x (xs ++ ys) h))

all-right : (P : ℕ → Type 0) (xs ys : List ℕ) → All P (xs ++ ys) → All P ys
all-right P [] ys h = h
all-right P (x ∷ xs) ys h = all-right P xs ys (All-tail P x (xs ++ ys) h)

abbrev kept_for : Circuit → List Lit → List ℕ → List ℕ
kept_for c into literals = (c.constraints ++ literals) ++ map (next_literal c.latches) into

pub keeps-here : (c : Circuit) (p : Position) (into : List Lit) (literals keep : List ℕ) → keep ≡ kept_for c into literals
    → IsOver (length c.latches) into → MeetsConstraints c p → cube_value (values_of (successor c p)) into ≡ true → AreTrue c p literals
    → AreTrue c p keep
keeps-here c p into literals keep is over meets inside holds =
    subst (AreTrue c p) (sym is)
    (All-append (IsOne c p) (c.constraints ++ literals) (map (next_literal c.latches) into)
    (All-append (IsOne c p) c.constraints literals meets.constraints holds) (nexts-true c p into over inside))

-- ---- the lifted cube

state-part : (s : List Bool) (cube : List Lit) → All (λ l. l.var < length s) cube → cube_value (values_of s) cube ≡ true
    → is_part cube (value_literals 0 s) ≡ true
state-part s [] over holds = refl
state-part s (l ∷ cube) over holds =
    let both = and_parts (literal_value (values_of s) l) (cube_value (values_of s) cube) holds in
    and_from (has_literal (value_literals 0 s) l) (is_part cube (value_literals 0 s))
    (own_literal s l (All-head (λ a. a.var < length s) l cube over) both.0)
    (state-part s cube (All-tail (λ a. a.var < length s) l cube over) both.1)

pub lifted-is : (c : Circuit) (p : Position) (into : List Lit) (literals keep : List ℕ) (cube : List Lit) → keep ≡ kept_for c into literals
    → IsOver (length c.latches) into → MeetsConstraints c p → IsOverLatches c cube → LiesIn p.latches cube → KeepsTrue c p.inputs keep cube
    → IsLifted c p into literals cube
lifted-is c p into literals keep cube is over meets latches lies keeps =
    let all : (s : List Bool) → IsIn c cube s → AreTrue c (position_of s p.inputs) (kept_for c into literals) =
    λ s there. subst (AreTrue c (position_of s p.inputs)) is (keeps s there.size there.holds)
    in
    let nexts : List ℕ = map (next_literal c.latches) into in
    record {
      part =
          state-part p.latches cube (subst (λ n. All (λ l. l.var < n) cube) (sym meets.position.latches) latches) lies;
      possible = λ s there. record {
        position = record { latches = there.size; inputs = meets.position.inputs };
        constraints =
            let P : ℕ → Type 0 = IsOne c (position_of s p.inputs) in
            all-left P c.constraints literals (all-left P (c.constraints ++ literals) nexts (all s there));
      };
      holds = λ s there.
          let P : ℕ → Type 0 = IsOne c (position_of s p.inputs) in
          all-right P c.constraints literals (all-left P (c.constraints ++ literals) nexts (all s there));
      enters = λ s there.
          let P : ℕ → Type 0 = IsOne c (position_of s p.inputs) in
          true-nexts c (position_of s p.inputs) into over (all-right P (c.constraints ++ literals) nexts (all s there));
    }

-- ---- cubes that are avoided

misses-more : (a old new : List Lit) → is_part old new ≡ true → misses_starts a old ≡ true → misses_starts a new ≡ true
misses-more [] old new part misses = misses
misses-more (l ∷ a) old new part misses = elim (cases_Bool (has_literal old (negation l))) [
  | inl has ↦ or_left (has_literal new (negation l)) (misses_starts a new) (part_has old new (negation l) part has)
  | inr none ↦ or_right (has_literal new (negation l)) (misses_starts a new)
      (misses-more a old new part (sym (ap (λ t. t || misses_starts a old) none) ∙ misses))
]

-- a state of a cube that misses another lies outside it
missed : (v : ℕ → Bool) (a cube : List Lit) → misses_starts a cube ≡ true → cube_value v cube ≡ true → cube_value v a ≡ false
missed v [] cube misses holds = absurd (false≢true misses)
missed v (l ∷ a) cube misses holds = elim (cases_Bool (has_literal cube (negation l))) [
  | inl has ↦
      let off : literal_value v l ≡ false = is_off (literal_value v l) (sym (literal_value-negation v l) ∙ cube_value-has v cube (negation l) holds has) in
      ap (λ b. b && cube_value v a) off
  | inr none ↦
      let rest : cube_value v a ≡ false = missed v a cube (sym (ap (λ t. t || misses_starts a cube) none) ∙ misses) holds in
      ap (λ b. literal_value v l && b) rest ∙ never (literal_value v l)
]
  where
    is_off : (b : Bool) → not b ≡ true → b ≡ false
    is_off true e = absurd (false≢true e)
    is_off false e = refl

    never : (b : Bool) → (b && false) ≡ false
    never true = refl
    never false = refl

pub apart-none : (avoid : List (List Lit)) (whole part : List Lit) → is_part part whole ≡ true → IsApart (take 0 avoid) whole part part
apart-none avoid whole part among = record { among = among; holds = part_same part; misses = All-nil (λ a. misses_starts a part ≡ true) }

pub apart-more : (avoid : List (List Lit)) (whole part old new : List Lit) (i : ℕ) (a : List Lit) → i < length avoid → a ≡ get_or avoid i a
    → IsApart (take i avoid) whole part old → IsBased a whole old new → IsApart (take (i + 1) avoid) whole part new
apart-more avoid whole part old new i a below is before based = record {
  among = based.among;
  holds = part_on part old new before.holds based.holds;
  misses = λ k d inside.
      let size : length (take (i + 1) avoid) ≡ i + 1 = length-take-le (i + 1) avoid (omega arith) in
      let less : length (take i avoid) ≡ i = length-take-le i avoid (omega arith) in
      let k_in : k < i + 1 = omega (arith, size, inside) in
      let at : get_or (take (i + 1) avoid) k d ≡ get_or avoid k d = get_or-take (i + 1) avoid k d k_in in
      elim (cases_lt k i) [
        | inl lower ↦
            let here : get_or (take i avoid) k d ≡ get_or avoid k d = get_or-take i avoid k d lower in
            let missing : misses_starts (get_or (take i avoid) k d) old ≡ true = before.misses k d (omega (arith, less, lower)) in
            misses-more (get_or (take (i + 1) avoid) k d) old new based.holds
            (subst (λ x. misses_starts x old ≡ true) (here ∙ sym at) missing)
        | inr same ↦
            let e : i ≡ k = omega (arith, k_in, same) in
            subst (λ x. misses_starts x new ≡ true)
            (is ∙ get_or_default avoid i a d below ∙ ap (λ j. get_or avoid j d) e ∙ sym at) based.misses
      ];
}

pub apart-all : (avoid : List (List Lit)) (whole part longer : List Lit) (i : ℕ) → length avoid ≤ i → IsApart (take i avoid) whole part longer
    → IsApart avoid whole part longer
apart-all avoid whole part longer i past is = subst (λ xs. IsApart xs whole part longer) (take_all i avoid past) is

pub all-missed : (n : ℕ) (avoid : List (List Lit)) (s : List Bool) → length s ≡ n → AreOver n avoid
    → All (λ a. cube_value (values_of s) a ≡ false) avoid → MissesEach avoid (value_literals 0 s)
all-missed n avoid s size over avoids = λ k d inside.
    state-misses (get_or avoid k d) s (subst (λ m. IsOver m (get_or avoid k d)) (sym size) (over k d inside)) (avoids k d inside)

-- ---- the cube of a goal

pub goal-lifted : (c : Circuit) (view : List Entry) (start : Start) (avoid : List (List Lit)) (literal : ℕ) (p : Position)
    (into cube longer whole : List Lit) → EndsIn c view start p into → IsLifted c p into (literal ∷ []) cube
    → whole ≡ value_literals 0 p.latches → IsApart avoid whole cube longer → IsGoalLifted c view start avoid literal p longer
goal-lifted c view start avoid literal p into cube longer whole ends lifted is apart =
    let within : (s : List Bool) → IsIn c longer s → IsIn c cube s =
    λ s there. record { size = there.size; holds = part_true (values_of s) cube longer apart.holds there.holds }
    in
    record {
      part = subst (λ w. is_part longer w ≡ true) is apart.among;
      possible = λ s there. lifted.possible s (within s there);
      holds = λ s there. All-head (IsOne c (position_of s p.inputs)) literal [] (lifted.holds s (within s there));
      avoids = λ s there k d inside. missed (values_of s) (get_or avoid k d) longer (apart.misses k d inside) there.holds;
      ends = λ s there.
          ends.ends (successor c (position_of s p.inputs)) (record {
            size = length-map c.latches (λ latch. literal_at c (position_of s p.inputs) latch.next);
            holds = lifted.enters s (within s there);
          });
    }
