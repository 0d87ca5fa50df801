-- Cubes that exclude the state of an obligation.
use Rattle.std.proofs.Common.{◌≡◌, ℕ, zero, suc, ◌+◌, ◌<◌, ◌≤◌, Bool, true, false, ◌||◌, not, List, [], ◌∷◌, map, length, refl, sym, ap, subst, ◌∙◌, ◌⊎◌, inl, inr, arith}
use Rattle.std.proofs.lemmas.Bool.{and_parts, and_from, or_left, or_right, false≢true, cases_Bool}
use Rattle.std.proofs.lemmas.List.Elements.{All-nil, All-cons, All-head, All-tail}
use Rattle.proof_semantics.specs.declared.literals.Lit.{Lit}
use Rattle.proof_semantics.specs.Clauses.{lit_eq, negation, literal_value, clause_value, cube_value, values_of, has_literal, is_part}
use Rattle.proof_semantics.proofs.LiteralLaws.{lit_eq-same, lit_eq-true, negation_twice, cube_value-has, cube_value-negations, bool_eq-true}
use Rattle.ic3_frames.specs.Frames.{frame_at, with_lemma}
use Rattle.ic3_frames.specs.Room.{room, allowed_by}
use Rattle.ic3_frames.proofs.Rooms.{lemmas-take}
use Rattle.ic3_frames.proofs.Meaning.{with-above}
use Rattle.aig_semantics.specs.Runs.{successor}
use Rattle.ic3_generalise.specs.Cubes.{value_literals, misses_starts}
use Rattle.ic3_semantics.specs.Stepping.{Stepping, IsOver}
use Rattle.edge.specs.Units.{Spendings}
use Rattle.edge.specs.Ends.{CountsConflicts}
use Rattle.ic3_loops.specs.Sound.{IsRelative, Agree, has_one_of}
use Rattle.ic3_semantics.specs.Searching.{CountsUpTo}
use Rattle.ic3_loops.specs.Blocking.{NoneEnters, IsStronger}
use Rattle.ic3_loops.proofs.Ended.{up_to_on, up_to_conflicts, one_step_of}
use Rattle.ic3_loops.proofs.Starts.{Has, Has-first, Has-later, state_has, own_true}

abbrev Levels : Type 0
Levels = List (List (List Lit))

-- ---- parts

pub part_true : (v : ℕ → Bool) (part whole : List Lit) → is_part part whole ≡ true → cube_value v whole ≡ true → cube_value v part ≡ true
part_true v [] whole part holds = refl
part_true v (l ∷ rest) whole part holds =
    let both = and_parts (has_literal whole l) (is_part rest whole) part in
    and_from (literal_value v l) (cube_value v rest) (cube_value-has v whole l holds both.0) (part_true v rest whole both.1 holds)

pub part_over : (n : ℕ) (part whole : List Lit) → is_part part whole ≡ true → IsOver n whole → IsOver n part
part_over n [] whole part over = All-nil (λ l. l.var < n)
part_over n (l ∷ rest) whole part over =
    let both = and_parts (has_literal whole l) (is_part rest whole) part in
    All-cons (λ a. a.var < n) l rest (over_has whole l over both.0) (part_over n rest whole both.1 over)
  where
    over_has : (lits : List Lit) (a : Lit) → IsOver n lits → has_literal lits a ≡ true → a.var < n
    over_has [] a all has = absurd (false≢true has)
    over_has (b ∷ lits) a all has = elim (cases_Bool (lit_eq a b)) [
      | inl same ↦ subst (λ x. x.var < n) (sym (lit_eq-true a b same)) (All-head (λ x. x.var < n) b lits all)
      | inr other ↦ over_has lits a (All-tail (λ x. x.var < n) b lits all) (sym (ap (λ t. t || has_literal lits a) other) ∙ has)
    ]

-- ---- the literals of a state

own_literal_from : (v : ℕ → Bool) (n : ℕ) (s : List Bool) (l : Lit) → Has v n s → n ≤ l.var → l.var < n + length s
    → literal_value v l ≡ true → has_literal (value_literals n s) l ≡ true
own_literal_from v n [] l has least below holds = absurd (omega (arith, least, below))
own_literal_from v n (b ∷ s) l has least below holds = elim (nat_cases n l.var least) [
  | inl same ↦ or_left (lit_eq l (record { var = n; positive = b })) (has_literal (value_literals (n + 1) s) l) (
      let value : v l.var ≡ b = ap v (sym same) ∙ Has-first v n b s has in
      let sign : l.positive ≡ b = bool_eq-true l.positive (v l.var) holds ∙ value in
      let is : l ≡ record { var = n; positive = b } = λ i. record { var = sym same i; positive = sign i } in
      subst (λ x. lit_eq l x ≡ true) is (lit_eq-same l)
      )
  | inr more ↦ or_right (lit_eq l (record { var = n; positive = b })) (has_literal (value_literals (n + 1) s) l)
      (own_literal_from v (n + 1) s l (Has-later v n b s has) (omega arith) (omega arith) holds)
]
  where
    nat_cases : (m k : ℕ) → m ≤ k → (m ≡ k) ⊎ (m < k)
    nat_cases zero zero le = inl refl
    nat_cases zero (suc k) le = inr (omega arith)
    nat_cases (suc m) zero le = absurd (omega arith)
    nat_cases (suc m) (suc k) le = elim (nat_cases m k (omega arith)) [ inl e ↦ inl (ap suc e) | inr h ↦ inr (omega arith) ]

pub own_literal : (s : List Bool) (l : Lit) → l.var < length s → literal_value (values_of s) l ≡ true → has_literal (value_literals 0 s) l ≡ true
own_literal s l below holds = own_literal_from (values_of s) 0 s l (state_has s) (omega arith) (omega arith) holds

pub twice : (lits : List Lit) → map negation (map negation lits) ≡ lits
twice [] = refl
twice (l ∷ lits) = ap (λ x. x ∷ map negation (map negation lits)) (negation_twice l) ∙ ap (λ rest. l ∷ rest) (twice lits)

-- ---- cubes against a state

-- the lemma of a cube against a state is false in it,
pub excluded-is : (s : List Bool) (cube : List Lit) → is_part cube (value_literals 0 s) ≡ true → clause_value (values_of s) (map negation cube) ≡ false
excluded-is s cube part =
    let v : ℕ → Bool = values_of s in
    let holds : cube_value v cube ≡ true = part_true v cube (value_literals 0 s) part (own_true v 0 s (state_has s)) in
    not_false (clause_value v (map negation cube)) (sym (cube_value-negations v (map negation cube)) ∙ ap (cube_value v) (twice cube) ∙ holds)
  where
    not_false : (b : Bool) → not b ≡ true → b ≡ false
    not_false true e = absurd (false≢true e)
    not_false false e = refl

-- holds a literal of the starts,
pub based-is : (starts cube : List Lit) → misses_starts starts cube ≡ true → has_one_of starts (map negation cube) ≡ true
based-is [] cube misses = absurd (false≢true misses)
based-is (l ∷ starts) cube misses = elim (cases_Bool (has_literal cube (negation l))) [
  | inl has ↦ or_left (has_literal (map negation cube) l) (has_one_of starts (map negation cube)) (has_negated cube l has)
  | inr none ↦ or_right (has_literal (map negation cube) l) (has_one_of starts (map negation cube))
      (based-is starts cube (sym (ap (λ t. t || misses_starts starts cube) none) ∙ misses))
]
  where
    same_negated : (a b : Lit) → lit_eq (negation a) b ≡ true → lit_eq a (negation b) ≡ true
    same_negated a b same =
        let is : negation a ≡ b = lit_eq-true (negation a) b same in
        subst (λ x. lit_eq a (negation x) ≡ true) is (subst (λ x. lit_eq a x ≡ true) (sym (negation_twice a)) (lit_eq-same a))

    has_negated : (lits : List Lit) (a : Lit) → has_literal lits (negation a) ≡ true → has_literal (map negation lits) a ≡ true
    has_negated [] a has = absurd (false≢true has)
    has_negated (b ∷ lits) a has = elim (cases_Bool (lit_eq (negation a) b)) [
      | inl same ↦ or_left (lit_eq a (negation b)) (has_literal (map negation lits) a) (same_negated a b same)
      | inr other ↦ or_right (lit_eq a (negation b)) (has_literal (map negation lits) a)
          (has_negated lits a (sym (ap (λ t. t || has_literal lits (negation a)) other) ∙ has))
    ]

-- and holds after each step from the frame below that begins where it does.
pub relative-is : (st : Stepping) (levels : Levels) (below : ℕ) (cube : List Lit) → NoneEnters st below cube → Agree st.lemmas levels
    → IsRelative st.question levels (below + 1) (map negation cube)
relative-is st levels below cube none agree k p next arena from holds =
    let same : k ≡ below = omega arith in
    let v : ℕ → Bool = values_of (successor st.question.circuit p) in
    elim (cases_Bool (clause_value v (map negation cube))) [
      | inl after ↦ after
      | inr broken ↦
          absurd (none p (record {
            step = arena;
            frame = agree below p.latches ∙ ap (λ n. allowed_by (frame_at levels n) p.latches) (sym same) ∙ from;
            outside = sym (ap (cube_value (values_of p.latches)) (twice cube)) ∙ cube_value-negations (values_of p.latches) (map negation cube) ∙ ap not holds;
            inside = sym (ap (cube_value v) (twice cube)) ∙ cube_value-negations v (map negation cube) ∙ ap not broken;
          }))
    ]

-- where a frame allows a state there is room
pub some-room : (n : ℕ) (levels : Levels) (k : ℕ) (s : List Bool) → k < length levels → length s ≡ n → allowed_by (frame_at levels k) s ≡ true
    → 1 ≤ room n levels
some-room n levels k s inside size allowed = omega (arith, lemmas-take n levels k [] s inside size allowed refl)

-- a lemma that excludes such a state takes room and leaves the frames above
pub stronger-is : (n : ℕ) (levels : Levels) (k : ℕ) (lemma : List Lit) (s : List Bool) → k < length levels → length s ≡ n
    → allowed_by (frame_at levels k) s ≡ true → clause_value (values_of s) lemma ≡ false → IsStronger n k levels (with_lemma levels k lemma)
stronger-is n levels k lemma s inside size allowed excluded = record {
  above = λ j more. with-above levels k lemma j more;
  room = lemmas-take n levels k lemma s inside size allowed excluded;
}

-- a lemma was counted behind a question
pub counted-behind : (most : ℕ) (a b c : Spendings) → 1 ≤ most → CountsConflicts a b → CountsUpTo 1 b c → CountsUpTo most a c
counted-behind most a b c some first second =
    up_to_on most most a b c (up_to_conflicts most a b first) (omega (arith, first.steps)) (one_step_of most b c some second)
