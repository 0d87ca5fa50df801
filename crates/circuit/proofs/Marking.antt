-- What the marks are in the end.
use Rattle.std.proofs.Common.{◌≡◌, ◌≢◌, ℕ, zero, suc, ◌+◌, ◌*◌, ◌<◌, ◌≤◌, ◌==◌, ◌⊎◌, Bool, true, false, cond, ◌||◌, List, [], ◌∷◌, ◌++◌, map, length, get_or, fold, replicate, refl, sym, ap, ◌∙◌, subst, inl, inr, arith}
use Rattle.std.specs.List.{All, Any, Contains, flat_map, list_any}
use Rattle.std.proofs.lemmas.Bool.{cases_eq, cases_lt, eqb-true, eq-eqb, ne_eqb}
use Rattle.std.proofs.lemmas.List.{length-set, length-replicate, get_or_default, get_or-set_same, get_or-set_other}
use Rattle.std.proofs.lemmas.List.Sums.{fold-append}
use Rattle.std.proofs.lemmas.List.Folds.{fold-map, Any-from_list_any, list_any-from_Any}
use Rattle.std.proofs.lemmas.List.Elements.{All-head, All-tail, All-contains}
use Rattle.aig_semantics.specs.Literals.{variable_of}
use Rattle.aig_semantics.specs.Circuits.{defined, used, AreDefined}
use Rattle.circuit.proofs.Counting.{count, count-same, count-other, Contains-from_count, count-from_Contains, AllDiffer-from_count}
use Rattle.circuit.proofs.Ranges.{DefinesAll-from, UsesAll-from, used-in_range}
use Rattle.circuit.specs.declared.parts.Parts.{Parts}
use Rattle.circuit.specs.declared.marks.Mark.{Mark}
use Rattle.circuit.specs.declared.marks.Mark.TheVariants.{Nowhere, Once, Twice, Missing}
use Rattle.circuit.specs.Sections.{circuit_of, used_by, AreInRange}
use Rattle.circuit.specs.Fitting.{DefinesAll, UsesAll}
use Rattle.circuit.specs.Marks.{defined_again, when_used, first_marks, with_definition, with_use, IsFirstMarked}
use Rattle.circuit.specs.Faults.{IsLeast, IsTwice, IsFirstTwice, IsUndefined, IsOnce, IsFirstUndefined}
use Rattle.circuit.proofs.Writing.{get_or-replicate_same}

fold-flat_map : {A B C : Type 0} (f : B → A → B) (h : C → List A) (b : B) (xs : List C) → fold f b (flat_map h xs) ≡ fold (λ z x. fold f z (h x)) b xs
fold-flat_map f h b [] = refl
fold-flat_map f h b (x ∷ xs) = fold-append f b (h x) (flat_map h xs) ∙ fold-flat_map f h (fold f b (h x)) xs

-- ---- section by section

pub definitions-in_turn : (parts : Parts) (m0 m1 m2 m3 : List Mark) → m1 ≡ fold with_definition m0 parts.inputs → m2 ≡ fold (λ m latch. with_definition m latch.var) m1 parts.latches → m3 ≡ fold (λ m gate. with_definition m gate.var) m2 parts.gates → m3 ≡ fold with_definition m0 (defined (circuit_of parts))
definitions-in_turn parts m0 m1 m2 m3 e1 e2 e3 =
    let latches : List ℕ = map (λ latch. latch.var) parts.latches in
    let gates : List ℕ = map (λ gate. gate.var) parts.gates in
    let a = fold-append with_definition m0 (parts.inputs ++ latches) gates in
    let b = fold-append with_definition m0 parts.inputs latches in
    let l = fold-map with_definition (λ latch. latch.var) m1 parts.latches in
    let g = fold-map with_definition (λ gate. gate.var) m2 parts.gates in
    e3 ∙ (sym g ∙ (ap (λ m. fold with_definition m gates) (e2 ∙ (sym l ∙ (ap (λ m. fold with_definition m latches) e1 ∙ sym b))) ∙ sym a))

pub uses-in_turn : (parts : Parts) (m0 m1 m2 m3 m4 m5 m6 m7 : List Mark) → m1 ≡ fold (λ m latch. with_use m latch.next) m0 parts.latches → m2 ≡ fold (λ m gate. with_use (with_use m gate.rhs0) gate.rhs1) m1 parts.gates → m3 ≡ fold with_use m2 parts.constraints → m4 ≡ fold (λ m property. fold with_use m property) m3 parts.justice → m5 ≡ fold with_use m4 parts.fairness → m6 ≡ fold with_use m5 parts.outputs → m7 ≡ fold with_use m6 parts.bad → m7 ≡ fold with_use m0 (used_by parts)
uses-in_turn parts m0 m1 m2 m3 m4 m5 m6 m7 e1 e2 e3 e4 e5 e6 e7 =
    let latches : List ℕ = map (λ latch. latch.next) parts.latches in
    let gates : List ℕ = flat_map (λ gate. gate.rhs0 ∷ gate.rhs1 ∷ []) parts.gates in
    let justice : List ℕ = flat_map (λ property. property) parts.justice in
    let l = fold-map with_use (λ latch. latch.next) m0 parts.latches in
    let g = fold-flat_map with_use (λ gate. gate.rhs0 ∷ gate.rhs1 ∷ []) m1 parts.gates in
    let j = fold-flat_map with_use (λ property. property) m3 parts.justice in
    let after = λ (ls : List ℕ) (xs : List ℕ) (m n : List Mark) (so_far : m ≡ fold with_use m0 ls) (next : n ≡ fold with_use m xs).
    next ∙ (ap (λ z. fold with_use z xs) so_far ∙ sym (fold-append with_use m0 ls xs))
    in
    let s1 : m1 ≡ fold with_use m0 latches = e1 ∙ sym l in
    let s2 = after latches gates m1 m2 s1 (e2 ∙ sym g) in
    let s3 = after (latches ++ gates) parts.constraints m2 m3 s2 e3 in
    let s4 = after (latches ++ gates ++ parts.constraints) justice m3 m4 s3 (e4 ∙ sym j) in
    let s5 = after (latches ++ gates ++ parts.constraints ++ justice) parts.fairness m4 m5 s4 e5 in
    let s6 = after (used (circuit_of parts)) parts.outputs m5 m6 s5 e6 in
    after (used (circuit_of parts) ++ parts.outputs) parts.bad m6 m7 s6 e7

-- ---- what a reader has seen to

pub DefinesAll-below : (parts : Parts) → AreInRange parts → DefinesAll (λ v. v < parts.max + 1) parts
DefinesAll-below parts h =
    DefinesAll-from (λ v. v < parts.max + 1) parts (λ k d below. let range = h.variables k d below in omega arith)

-- a literal within the limits has its variable within them
variable-below : (max literal : ℕ) → literal ≤ 2 * max + 1 → variable_of literal < max + 1
variable-below max literal h = omega arith

-- each variable that is used is at most the greatest
pub used-below : (parts : Parts) → AreInRange parts → All (λ literal. variable_of literal < parts.max + 1) (used_by parts)
used-below parts h = λ k d below. variable-below parts.max _ (used-in_range parts h k d below)

pub UsesAll-below : (parts : Parts) → AreInRange parts → UsesAll (λ literal. variable_of literal < parts.max + 1) parts
UsesAll-below parts h = UsesAll-from (λ literal. variable_of literal < parts.max + 1) parts (used-below parts h)

-- ---- the mark of a variable after all definitions

-- the mark of a variable that is defined this often
abbrev pub mark_for : ℕ → Mark
mark_for zero = Nowhere
mark_for (suc zero) = Once
mark_for (suc (suc n)) = Twice

defined_again-mark_for : (n : ℕ) → defined_again (mark_for n) ≡ mark_for (suc n)
defined_again-mark_for zero = refl
defined_again-mark_for (suc zero) = refl
defined_again-mark_for (suc (suc n)) = refl

length-definitions : (vs : List ℕ) (marks : List Mark) → length (fold with_definition marks vs) ≡ length marks
unfolding with_definition
length-definitions [] marks = refl
length-definitions (v ∷ vs) marks = length-definitions vs (with_definition marks v) ∙ length-set marks v (defined_again (get_or marks v Nowhere))

mark-definitions : (vs : List ℕ) (marks : List Mark) (u n : ℕ) → All (λ v. v < length marks) vs → get_or marks u Nowhere ≡ mark_for n → get_or (fold with_definition marks vs) u Nowhere ≡ mark_for (n + count u vs)
unfolding with_definition
mark-definitions [] marks u n inside e = e ∙ ap mark_for (omega arith)
mark-definitions (v ∷ vs) marks u n inside e =
    let rest : All (λ w. w < length (with_definition marks v)) vs =
    λ k d below. rw length-set (All-tail (λ w. w < length marks) v vs inside k d below)
    in
    elim (cases_eq v u) [
      | inl same ↦
          mark-definitions vs (with_definition marks v) u (suc n) rest
          (ap (λ w. get_or (with_definition marks v) w Nowhere) (sym same)
          ∙ (get_or-set_same marks v (defined_again (get_or marks v Nowhere)) Nowhere (All-head (λ w. w < length marks) v vs inside)
          ∙ (ap (λ w. defined_again (get_or marks w Nowhere)) same ∙ (ap defined_again e ∙ defined_again-mark_for n))))
          ∙ ap mark_for (omega (arith, count-same u v vs same))
      | inr other ↦
          mark-definitions vs (with_definition marks v) u n rest
          (get_or-set_other marks v u (defined_again (get_or marks v Nowhere)) Nowhere (λ x. other (sym x)) ∙ e)
          ∙ ap mark_for (omega (arith, count-other u v vs other))
    ]

-- ---- the mark of a variable after all uses

abbrev pub mentions : List ℕ → ℕ → Bool
mentions literals u = list_any (λ literal. variable_of literal == u) literals

when_used-again : (mark : Mark) → when_used (when_used mark) ≡ when_used mark
when_used-again Nowhere = refl
when_used-again Once = refl
when_used-again Twice = refl
when_used-again Missing = refl

cond-same : {X : Type 0} (b : Bool) (x : X) → cond b x x ≡ x
cond-same true x = refl
cond-same false x = refl

uses-same : (b s : Bool) (x y : Mark) → s ≡ true → x ≡ when_used y → cond b (when_used x) x ≡ cond (s || b) (when_used y) y
uses-same b s x y seen e =
    ap (λ z. cond b (when_used z) z) e
    ∙ (ap (λ z. cond b z (when_used y)) (when_used-again y) ∙ (cond-same b (when_used y) ∙ sym (ap (λ z. cond (z || b) (when_used y) y) seen)))

uses-other : (b s : Bool) (x y : Mark) → s ≡ false → x ≡ y → cond b (when_used x) x ≡ cond (s || b) (when_used y) y
uses-other b s x y seen e = ap (λ z. cond b (when_used z) z) e ∙ sym (ap (λ z. cond (z || b) (when_used y) y) seen)

length-uses : (literals : List ℕ) (marks : List Mark) → length (fold with_use marks literals) ≡ length marks
unfolding with_use
length-uses [] marks = refl
length-uses (l ∷ ls) marks = length-uses ls (with_use marks l) ∙ length-set marks (variable_of l) (when_used (get_or marks (variable_of l) Nowhere))

mark-uses : (literals : List ℕ) (marks : List Mark) (u : ℕ) → All (λ literal. variable_of literal < length marks) literals → get_or (fold with_use marks literals) u Nowhere ≡ cond (mentions literals u) (when_used (get_or marks u Nowhere)) (get_or marks u Nowhere)
unfolding with_use
mark-uses [] marks u inside = refl
mark-uses (l ∷ ls) marks u inside =
    let rest : All (λ literal. variable_of literal < length (with_use marks l)) ls =
    λ k d below. rw length-set (All-tail (λ literal. variable_of literal < length marks) l ls inside k d below)
    in
    mark-uses ls (with_use marks l) u rest
    ∙ elim (cases_eq (variable_of l) u) [
      | inl same ↦
          let now : get_or (with_use marks l) u Nowhere ≡ when_used (get_or marks u Nowhere) =
          ap (λ w. get_or (with_use marks l) w Nowhere) (sym same)
          ∙ (get_or-set_same marks (variable_of l) (when_used (get_or marks (variable_of l) Nowhere)) Nowhere (All-head (λ literal. variable_of literal < length marks) l ls inside)
          ∙ ap (λ w. when_used (get_or marks w Nowhere)) same)
          in
          uses-same (mentions ls u) (variable_of l == u) (get_or (with_use marks l) u Nowhere) (get_or marks u Nowhere) (eq-eqb (variable_of l) u same) now
      | inr other ↦
          let now : get_or (with_use marks l) u Nowhere ≡ get_or marks u Nowhere =
          get_or-set_other marks (variable_of l) u (when_used (get_or marks (variable_of l) Nowhere)) Nowhere (λ x. other (sym x))
          in
          uses-other (mentions ls u) (variable_of l == u) (get_or (with_use marks l) u Nowhere) (get_or marks u Nowhere) (ne_eqb (variable_of l) u other) now
    ]

-- ---- what a mark tells

mark_for-one : (n : ℕ) → n ≡ 1 → mark_for n ≡ Once
mark_for-one n e = ap mark_for e

mark_for-twice : (n : ℕ) → mark_for n ≡ Twice → 1 < n
mark_for-twice zero e = absurd (let f : Nowhere ≡ Twice = e in cc)
mark_for-twice (suc zero) e = absurd (let f : Once ≡ Twice = e in cc)
mark_for-twice (suc (suc n)) e = omega arith

mark_for-more : (n : ℕ) → 1 < n → mark_for n ≡ Twice
mark_for-more zero h = absurd (omega arith)
mark_for-more (suc zero) h = absurd (omega arith)
mark_for-more (suc (suc n)) h = refl

used-missing : (b : Bool) (n : ℕ) → cond b (when_used (mark_for n)) (mark_for n) ≡ Missing → (b ≡ true) × (n ≡ 0)
used-missing true zero e = (refl, refl)
used-missing true (suc zero) e = absurd (let f : Once ≡ Missing = e in cc)
used-missing true (suc (suc n)) e = absurd (let f : Twice ≡ Missing = e in cc)
used-missing false zero e = absurd (let f : Nowhere ≡ Missing = e in cc)
used-missing false (suc zero) e = absurd (let f : Once ≡ Missing = e in cc)
used-missing false (suc (suc n)) e = absurd (let f : Twice ≡ Missing = e in cc)

once-missing : (b : Bool) → cond b (when_used Once) Once ≡ Missing → ⊥
once-missing true e = let f : Once ≡ Missing = e in cc
once-missing false e = let f : Once ≡ Missing = e in cc

mentioned : (literals : List ℕ) (u : ℕ) → mentions literals u ≡ true → Any (λ literal. variable_of literal ≡ u) literals
mentioned literals u e =
    let any = Any-from_list_any (λ literal. variable_of literal == u) literals e in
    (any.0, any.1, any.2, any.3, eqb-true (variable_of any.1) u any.4)

mentions-from_Any : (literals : List ℕ) (u : ℕ) → Any (λ literal. variable_of literal ≡ u) literals → mentions literals u ≡ true
mentions-from_Any literals u any =
    list_any-from_Any (λ literal. variable_of literal == u) literals (any.0, any.1, any.2, any.3, eq-eqb (variable_of any.1) u any.4)

-- ---- what the marks tell of a model

module _ (parts : Parts) (h : AreInRange parts) where
  abbrev all_defined : List ℕ
  all_defined = defined (circuit_of parts)

  abbrev after_definitions : List Mark
  after_definitions = fold with_definition (first_marks parts.max) all_defined

  abbrev after_uses : List Mark
  after_uses = fold with_use after_definitions (used_by parts)

  pub length-first : length (first_marks parts.max) ≡ parts.max + 1
  length-first = length-set (replicate (parts.max + 1) Nowhere) 0 Once ∙ length-replicate (parts.max + 1) Nowhere

  pub length-definitions_of : length after_definitions ≡ parts.max + 1
  length-definitions_of = length-definitions all_defined (first_marks parts.max) ∙ length-first

  length-uses_of : length after_uses ≡ parts.max + 1
  length-uses_of = length-uses (used_by parts) after_definitions ∙ length-definitions_of

  -- a variable that is defined is from 1 to the greatest
  range-of : (u : ℕ) → 1 ≤ count u all_defined → (1 ≤ u) × (u ≤ parts.max)
  range-of u more = All-contains (λ v. (1 ≤ v) × (v ≤ parts.max)) all_defined u h.variables (Contains-from_count u all_defined more)

  inside-first : All (λ v. v < length (first_marks parts.max)) all_defined
  inside-first = λ k d below. let range = h.variables k d below in omega (arith, length-first)

  first-others : (u : ℕ) → 1 ≤ u → get_or (first_marks parts.max) u Nowhere ≡ Nowhere
  first-others u positive =
      get_or-set_other (replicate (parts.max + 1) Nowhere) 0 u Once Nowhere (λ e. omega arith)
      ∙ get_or-replicate_same (parts.max + 1) u Nowhere

  -- a variable above 0
  mark-of : (u : ℕ) → 1 ≤ u → get_or after_definitions u Nowhere ≡ mark_for (count u all_defined)
  mark-of u positive =
      mark-definitions all_defined (first_marks parts.max) u 0 inside-first (first-others u positive)
      ∙ ap mark_for (omega arith)

  not_defined-zero : count 0 all_defined ≡ 0
  not_defined-zero =
      elim (cases_lt 0 (count 0 all_defined)) [
        | inl lt ↦ let range = range-of 0 (omega arith) in absurd (omega arith)
        | inr ge ↦ omega arith
      ]

  -- variable 0
  mark-of_zero : get_or after_definitions 0 Nowhere ≡ Once
  mark-of_zero =
      mark-definitions all_defined (first_marks parts.max) 0 1 inside-first
      (get_or-set_same (replicate (parts.max + 1) Nowhere) 0 Once Nowhere (omega (arith, length-replicate (parts.max + 1) Nowhere)))
      ∙ mark_for-one (1 + count 0 all_defined) (omega (arith, not_defined-zero))

  -- a variable that is marked
  twice-of : (v : ℕ) → get_or after_definitions v Nowhere ≡ Twice → IsTwice parts v
  twice-of zero e = absurd (let f : Once ≡ Twice = sym mark-of_zero ∙ e in cc)
  twice-of (suc v) e = mark_for-twice (count (suc v) all_defined) (sym (mark-of (suc v) (omega arith)) ∙ e)

  -- a variable that is defined twice is marked
  marked-twice : (u : ℕ) → IsTwice parts u → get_or after_definitions u Nowhere ≡ Twice
  marked-twice u more = let range = range-of u (omega arith) in mark-of u range.0 ∙ mark_for-more (count u all_defined) more

  pub twice-first : (v : ℕ) → IsFirstMarked after_definitions Twice v → IsLeast (IsTwice parts) v
  twice-first v m = record {
    holds = twice-of v m.here;
    least =
        λ u more. elim (cases_lt u v) [
          | inl lt ↦ absurd (m.before u lt (marked-twice u more))
          | inr ge ↦ ge
        ];
  }

  pub none-twice : All (λ mark. mark ≢ Twice) after_definitions → IsOnce parts
  none-twice all =
      AllDiffer-from_count all_defined
      (λ u. elim (cases_lt 1 (count u all_defined)) [
        | inl lt ↦
            let range = range-of u (omega arith) in
            absurd (all u Nowhere (omega (arith, length-definitions_of)) (marked-twice u lt))
        | inr ge ↦ ge
      ])

  inside-uses : All (λ literal. variable_of literal < length after_definitions) (used_by parts)
  inside-uses = λ k d below. let range = used-below parts h k d below in omega (arith, length-definitions_of)

  -- the mark of a variable above 0 in the end
  mark-in_end : (u : ℕ) → 1 ≤ u → get_or after_uses u Nowhere ≡ cond (mentions (used_by parts) u) (when_used (mark_for (count u all_defined))) (mark_for (count u all_defined))
  mark-in_end u positive =
      mark-uses (used_by parts) after_definitions u inside-uses
      ∙ ap (λ m. cond (mentions (used_by parts) u) (when_used m) m) (mark-of u positive)

  missing-of : (v : ℕ) → get_or after_uses v Nowhere ≡ Missing → IsUndefined parts v
  missing-of zero e =
      absurd (once-missing (mentions (used_by parts) 0)
      (sym (ap (λ m. cond (mentions (used_by parts) 0) (when_used m) m) mark-of_zero) ∙ (sym (mark-uses (used_by parts) after_definitions 0 inside-uses) ∙ e)))
  missing-of (suc v) e =
      let both = used-missing (mentions (used_by parts) (suc v)) (count (suc v) all_defined) (sym (mark-in_end (suc v) (omega arith)) ∙ e) in
      record {
        positive = omega arith;
        used = mentioned (used_by parts) (suc v) both.0;
        nowhere = λ there. omega (arith, count-from_Contains (suc v) all_defined there, both.1);
      }

  marked-missing : (u : ℕ) → IsUndefined parts u → get_or after_uses u Nowhere ≡ Missing
  marked-missing u undefined =
      let none : count u all_defined ≡ 0 = elim (cases_lt 0 (count u all_defined)) [
        | inl lt ↦ absurd (undefined.nowhere (Contains-from_count u all_defined (omega arith)))
        | inr ge ↦ omega arith
      ] in
      mark-in_end u undefined.positive
      ∙ (ap (λ n. cond (mentions (used_by parts) u) (when_used (mark_for n)) (mark_for n)) none
      ∙ ap (λ b. cond b Missing Nowhere) (mentions-from_Any (used_by parts) u undefined.used))

  pub undefined-first : (v : ℕ) → IsOnce parts → IsFirstMarked after_uses Missing v → IsFirstUndefined parts v
  undefined-first v once m = record {
    once = once;
    first = record {
      holds = missing-of v m.here;
      least =
          λ u undefined. elim (cases_lt u v) [
            | inl lt ↦ absurd (m.before u lt (marked-missing u undefined))
            | inr ge ↦ ge
          ];
    };
  }

  defined-or : (k d u : ℕ) → All (λ mark. mark ≢ Missing) after_uses → k < length (used_by parts) → variable_of (get_or (used_by parts) k d) ≡ u → (u ≡ 0) ⊎ Contains all_defined u
  defined-or k d zero all below e = inl refl
  defined-or k d (suc u) all below e =
      elim (cases_lt 0 (count (suc u) all_defined)) [
        | inl lt ↦ inr (Contains-from_count (suc u) all_defined (omega arith))
        | inr ge ↦
            let range = used-below parts h k d below in
            let undefined : IsUndefined parts (suc u) = record {
              positive = omega arith;
              used = (k, get_or (used_by parts) k d, below, get_or_default (used_by parts) k (get_or (used_by parts) k d) d below, e);
              nowhere = λ there. omega (arith, count-from_Contains (suc u) all_defined there);
            } in
            absurd (all (suc u) Nowhere (omega (arith, length-uses_of)) (marked-missing (suc u) undefined))
      ]

  pub none-missing : All (λ mark. mark ≢ Missing) after_uses → AreDefined (circuit_of parts) (used_by parts)
  none-missing all = λ k d below. defined-or k d (variable_of (get_or (used_by parts) k d)) all below refl

-- ---- the same, of marks that are equal to these

module _ (parts : Parts) (h : AreInRange parts) (m0 m1 : List Mark) (e0 : m0 ≡ first_marks parts.max) (e1 : m1 ≡ fold with_definition m0 (defined (circuit_of parts))) where
  definitions-is : m1 ≡ after_definitions parts h
  definitions-is = e1 ∙ ap (λ marks. fold with_definition marks (defined (circuit_of parts))) e0

  pub DefinesAll-marks : DefinesAll (λ v. v < length m0) parts
  DefinesAll-marks = subst (λ n. DefinesAll (λ v. v < n) parts) (sym (ap length e0 ∙ length-first parts h)) (DefinesAll-below parts h)

  pub UsesAll-marks : UsesAll (λ literal. variable_of literal < length m1) parts
  UsesAll-marks = subst (λ n. UsesAll (λ literal. variable_of literal < n) parts) (sym (ap length definitions-is ∙ length-definitions_of parts h)) (UsesAll-below parts h)

  pub twice-told : (v : ℕ) → IsFirstMarked m1 Twice v → IsFirstTwice parts v
  twice-told v m = twice-first parts h v (subst (λ marks. IsFirstMarked marks Twice v) definitions-is m)

  pub once-told : All (λ mark. mark ≢ Twice) m1 → IsOnce parts
  once-told all = none-twice parts h (subst (λ marks. All (λ mark. mark ≢ Twice) marks) definitions-is all)

  pub undefined-told : (m2 : List Mark) → m2 ≡ fold with_use m1 (used_by parts) → (v : ℕ) → IsOnce parts → IsFirstMarked m2 Missing v → IsFirstUndefined parts v
  undefined-told m2 e2 v once m =
      undefined-first parts h v once
      (subst (λ marks. IsFirstMarked marks Missing v) (e2 ∙ ap (λ marks. fold with_use marks (used_by parts)) definitions-is) m)

  pub defined-told : (m2 : List Mark) → m2 ≡ fold with_use m1 (used_by parts) → All (λ mark. mark ≢ Missing) m2 → AreDefined (circuit_of parts) (used_by parts)
  defined-told m2 e2 all =
      none-missing parts h
      (subst (λ marks. All (λ mark. mark ≢ Missing) marks) (e2 ∙ ap (λ marks. fold with_use marks (used_by parts)) definitions-is) all)
