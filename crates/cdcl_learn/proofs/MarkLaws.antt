-- Laws of marked literals.
use Rattle.std.proofs.Common.{◌≡◌, ℕ, zero, suc, ◌+◌, ◌-◌, ◌<◌, ◌≤◌, Bool, true, false, not, ◌&&◌, ◌||◌, cond, eqb, List, [], ◌∷◌, ◌++◌, length, get_or, take, drop, replicate, Option, Some, None, refl, ap, sym, subst, ◌∙◌, ◌⊎◌, inl, inr, arith, eqb-true, eq-eqb}
use Rattle.std.proofs.Math.Dec.{leb}
use Rattle.std.specs.Prelude.{slice_get, slice_set}
use Rattle.std.specs.List.{list_any}
use Rattle.std.specs.Option.{option_map}
use Rattle.std.proofs.lemmas.List.{take_more, length-take-le, take-append-drop, get_or-replicate, get_or_past, length-replicate}
use Rattle.std.proofs.lemmas.Bool.{false≢true, and_parts, and_from, or_cases, or_left, or_right, cond-true, cond-false, leb-true, leb-false}
use Rattle.std.proofs.lemmas.Option.{none-some, same_Some}
use Rattle.proof_semantics.specs.Clauses.{lit_eq, negation, has_literal}
use Rattle.proof_semantics.specs.declared.literals.Lit.{Lit}
use Rattle.proof_semantics.proofs.LiteralLaws.{lit_eq-true, lit_eq-same, negation_twice}
use Rattle.cdcl_trail.specs.AssignmentOf.{place_in}
use Rattle.cdcl_trail.specs.Trails.{Step, literals_of, value_of, once}
use Rattle.cdcl_trail.specs.Propagation.{is_false, is_falsified, is_unit_for}
use Rattle.cdcl_trail.proofs.TrailLaws.{either, or_neither, not-true, not-false}
use Rattle.cdcl_trail.proofs.ScanLaws.{all_has, any_has, any_gives, untrue, no_value, unit_others}
use Rattle.cdcl_trail.proofs.PassLaws.{unit_unvalued}
use Rattle.cdcl_trail.proofs.PrefixLaws.{false_more}
use Rattle.cdcl_learn.specs.Walking.{is_at, is_marked, marked, count_from, counts_at, IsResolvent}
use Rattle.cdcl_learn.proofs.LiteralTraceLaws.{false_stands}
use Rattle.cdcl_learn.proofs.WalkLaws.{no_literal, no_step_there, reads, reads_reason}
use Rattle.cdcl_learn.proofs.FreshLaws.{IsFreshTrail}
use Rattle.cdcl_trail.specs.Trails.{reasons_in}
use Rattle.cnf.specs.Clauses.{clause_numbered}
use Rattle.std.proofs.lemmas.Option.{slice_get-get_or}

abbrev Has : List Lit → Lit → Type 0
Has lits a = has_literal lits a ≡ true

both_ways : (b c : Bool) → (b ≡ true → c ≡ true) → (c ≡ true → b ≡ true) → b ≡ c
both_ways true c f g = sym (f refl)
both_ways false true f g = g refl
both_ways false false f g = refl

-- Places.

one_more_is : (p : ℕ) → p + 1 ≡ suc p
one_more_is p = omega arith

any_at : (f : Lit → Bool) (lits : List Lit) (q : ℕ) (x : Lit) → slice_get lits q ≡ Some x → list_any f lits ≡ false → f x ≡ false
any_at f [] q x e none = absurd (none-some x e)
any_at f (a ∷ lits) zero x e none = ap f (sym (same_Some a x e)) ∙ (or_neither _ _ none).0
any_at f (a ∷ lits) (suc q) x e none = any_at f lits q x e (or_neither _ _ none).1

-- the place of what stands at a place
pub place_own : (lits : List Lit) (q : ℕ) (x : Lit) → once lits ≡ true → slice_get lits q ≡ Some x → place_in lits x.var ≡ Some q
place_own [] q x apart e = absurd (none-some x e)
place_own (a ∷ lits) zero x apart e =
    cond-true (eqb a.var x.var) (Some 0) (option_map (λ place. place + 1) (place_in lits x.var)) (eq-eqb a.var x.var (ap (λ (b : Lit). b.var) (same_Some a x e)))
place_own (a ∷ lits) (suc q) x apart e =
    let parts = and_parts _ _ apart in
    let differs : eqb x.var a.var ≡ false = any_at (λ b. eqb b.var a.var) lits q x e (not-true _ parts.0) in
    cond-false (eqb a.var x.var) (Some 0) (option_map (λ place. place + 1) (place_in lits x.var))
    (untrue _ (λ same. false≢true (sym differs ∙ eq-eqb x.var a.var (sym (eqb-true a.var x.var same)))))
    ∙ ap (option_map (λ place. place + 1)) (place_own lits q x parts.1 e) ∙ ap Some (one_more_is q)

one_place : (lits : List Lit) (p q : ℕ) (x : Lit) → once lits ≡ true → slice_get lits p ≡ Some x → slice_get lits q ≡ Some x → p ≡ q
one_place lits p q x apart e f = same_Some p q (sym (place_own lits p x apart e) ∙ place_own lits q x apart f)

has_place : (lits : List Lit) (a : Lit) → Has lits a → (q : ℕ) × (slice_get lits q ≡ Some a)
has_place [] a has = absurd (false≢true has)
has_place (b ∷ lits) a has =
    elim (or_cases (lit_eq a b) (has_literal lits a) has) [
      | inl here ↦ (0, ap Some (sym (lit_eq-true a b here)))
      | inr later ↦ let found = has_place lits a later in (suc found.0, found.1)
    ]

-- the negation of a false literal stands at the place of its variable
pub false_place : (steps : List Step) (lits : List Lit) (a : Lit) → lits ≡ literals_of steps → once lits ≡ true → is_false steps a ≡ true
    → (q : ℕ) × (place_in lits a.var ≡ Some q) × (slice_get lits q ≡ Some (negation a))
false_place steps lits a same apart e =
    let found = has_place lits (negation a) (ap (λ ls. has_literal ls (negation a)) same ∙ false_stands steps a e) in
    (found.0, place_own lits found.0 (negation a) apart found.1, found.1)

-- What is marked.

marked_has : (marks : List Bool) (lits : List Lit) (q : ℕ) (a : Lit) → is_marked marks q ≡ true → slice_get lits q ≡ Some (negation a) → Has (marked marks lits) a
marked_has [] lits q a e f = absurd (false≢true e)
marked_has (m ∷ marks) [] q a e f = absurd (none-some (negation a) f)
marked_has (true ∷ marks) (b ∷ lits) zero a e f =
    or_left _ _ (ap (lit_eq a) (ap negation (same_Some b (negation a) f) ∙ negation_twice a) ∙ lit_eq-same a)
marked_has (false ∷ marks) (b ∷ lits) zero a e f = absurd (false≢true e)
marked_has (true ∷ marks) (b ∷ lits) (suc q) a e f = or_right _ _ (marked_has marks lits q a e f)
marked_has (false ∷ marks) (b ∷ lits) (suc q) a e f = marked_has marks lits q a e f

marked_from : (marks : List Bool) (lits : List Lit) (a : Lit) → Has (marked marks lits) a → (q : ℕ) × (is_marked marks q ≡ true) × (slice_get lits q ≡ Some (negation a))
marked_from [] lits a has = absurd (false≢true has)
marked_from (m ∷ marks) [] a has = absurd (false≢true has)
marked_from (true ∷ marks) (b ∷ lits) a has =
    elim (or_cases (lit_eq a (negation b)) (has_literal (marked marks lits) a) has) [
      | inl here ↦ (0, refl, ap Some (sym (negation_twice b) ∙ ap negation (sym (lit_eq-true a (negation b) here))))
      | inr later ↦ let found = marked_from marks lits a later in (suc found.0, found.1, found.2)
    ]
marked_from (false ∷ marks) (b ∷ lits) a has = let found = marked_from marks lits a has in (suc found.0, found.1, found.2)

-- the mark of a place tells whether the clause has the negation of its literal
pub mark_tells : (marks : List Bool) (lits : List Lit) (p : ℕ) (u : Lit) → once lits ≡ true → slice_get lits p ≡ Some u
    → is_marked marks p ≡ has_literal (marked marks lits) (negation u)
mark_tells marks lits p u apart at =
    both_ways (is_marked marks p) (has_literal (marked marks lits) (negation u))
    (λ e. marked_has marks lits p (negation u) e (at ∙ ap Some (sym (negation_twice u))))
    (λ has.
    let found = marked_from marks lits (negation u) has in
    let same : found.0 ≡ p = one_place lits found.0 p u apart (found.2 ∙ ap Some (negation_twice u)) at in
    ap (is_marked marks) (sym same) ∙ found.1)

at_is : (o : Option ℕ) (q : ℕ) → is_at o q ≡ true → o ≡ Some q
at_is None q e = absurd (false≢true e)
at_is (Some p) q e = ap Some (eqb-true p q e)

is_at-own : (o : Option ℕ) (q : ℕ) → o ≡ Some q → is_at o q ≡ true
is_at-own o q e = ap (λ r. is_at r q) e ∙ eq-eqb q q refl

-- a marked place of a clause's variable, where the literal is false
one_of : (steps : List Step) (lits : List Lit) (a b : Lit) (q : ℕ) → lits ≡ literals_of steps → once lits ≡ true → is_false steps b ≡ true → place_in lits b.var ≡ Some q
    → slice_get lits q ≡ Some (negation a) → a ≡ b
one_of steps lits a b q same apart falsified told at =
    let found = false_place steps lits b same apart falsified in
    let here : found.0 ≡ q = same_Some found.0 q (sym found.1 ∙ told) in
    let negations : negation a ≡ negation b = same_Some (negation a) (negation b) (sym at ∙ ap (slice_get lits) (sym here) ∙ found.2) in
    sym (negation_twice a) ∙ ap negation negations ∙ negation_twice b

within : (lits : List Lit) (q : ℕ) (x : Lit) → slice_get lits q ≡ Some x → q < length lits
within [] q x e = absurd (none-some x e)
within (a ∷ lits) zero x e = omega arith
within (a ∷ lits) (suc q) x e = omega (arith, within lits q x e)

-- The marks of a false clause.
pub marked_start : (steps : List Step) (lits held : List Lit) (marks : List Bool) (places : ℕ → Option ℕ) → lits ≡ literals_of steps → once lits ≡ true → is_falsified steps held ≡ true
    → ((v q : ℕ) → q < length lits → is_at (places v) q ≡ is_at (place_in lits v) q) → ((q : ℕ) → q < length lits → is_marked marks q ≡ list_any (λ (b : Lit). is_at (places b.var) q) held)
    → (a : Lit) → has_literal (marked marks lits) a ≡ has_literal held a
marked_start steps lits held marks places same apart falsified told marking a =
    both_ways (has_literal (marked marks lits) a) (has_literal held a)
    (λ has.
    let found = marked_from marks lits a has in
    let q = found.0 in
    let from = any_gives (λ b. is_at (places b.var) q) held (sym (marking q (within lits q (negation a) found.2)) ∙ found.1) in
    let b = from.0 in
    let below = within lits q (negation a) found.2 in
    let there : place_in lits b.var ≡ Some q = at_is (place_in lits b.var) q (sym (told b.var q below) ∙ from.2) in
    let is : a ≡ b = one_of steps lits a b q same apart (all_has (is_false steps) held b falsified from.1) there found.2 in
    ap (has_literal held) is ∙ from.1)
    (λ has.
    let found = false_place steps lits a same apart (all_has (is_false steps) held a falsified has) in
    let q = found.0 in
    let below = within lits q (negation a) found.2 in
    marked_has marks lits q a
    (marking q below ∙ any_has (λ b. is_at (places b.var) q) held a has (told a.var q below ∙ is_at-own (place_in lits a.var) q found.1)) found.2)

-- Resolution by marks: the reason's literals are marked, and the mark of the place is taken away.
pub marked_resolvent : (steps : List Step) (lits reason : List Lit) (old new : List Bool) (places : ℕ → Option ℕ) (p : ℕ) (u : Lit) → lits ≡ literals_of steps → once lits ≡ true
    → slice_get lits p ≡ Some u → ((v q : ℕ) → q < length lits → is_at (places v) q ≡ is_at (place_in lits v) q)
    → ((b : Lit) → Has reason b → (lit_eq u b ≡ true) ⊎ ((is_false steps b ≡ true) × (b.var ≡ u.var → ⊥)))
    → ((q : ℕ) → q < length lits → (q ≡ p → ⊥) → is_marked new q ≡ (is_marked old q || list_any (λ (b : Lit). is_at (places b.var) q) reason))
    → is_marked new p ≡ false
    → IsResolvent (marked old lits) u reason (marked new lits)
marked_resolvent steps lits reason old new places p u same apart at told others marking cleared a =
    both_ways (has_literal (marked new lits) a) ((has_literal (marked old lits) a && not (lit_eq a (negation u))) || (has_literal reason a && not (lit_eq a u)))
    (λ has.
    let found = marked_from new lits a has in
    let q = found.0 in
    let other : q ≡ p → ⊥ = λ e. false≢true (sym cleared ∙ ap (is_marked new) (sym e) ∙ found.1) in
    elim (or_cases _ _ (sym (marking q (within lits q (negation a) found.2) other) ∙ found.1)) [
      | inl before ↦ or_left _ _ (and_from _ _ (marked_has old lits q a before found.2)
          (not-false _ (untrue _ (λ e. other (one_place lits q p u apart (found.2 ∙ ap Some (ap negation (lit_eq-true a (negation u) e) ∙ negation_twice u)) at)))))
      | inr came ↦
          let from = any_gives (λ b. is_at (places b.var) q) reason came in
          let b = from.0 in
          let there : place_in lits b.var ≡ Some q =
          at_is (place_in lits b.var) q (sym (told b.var q (within lits q (negation a) found.2)) ∙ from.2) in
          elim (others b from.1) [
            | inl here ↦ absurd (other (same_Some q p (sym there ∙ ap (λ (c : Lit). place_in lits c.var) (sym (lit_eq-true u b here)) ∙ place_own lits p u apart at)))
            | inr falsified ↦
                let is : a ≡ b = one_of steps lits a b q same apart falsified.0 there found.2 in
                or_right _ _ (and_from _ _ (ap (has_literal reason) is ∙ from.1)
                (not-false _ (untrue _ (λ e. falsified.1 (ap (λ (c : Lit). c.var) (sym is) ∙ ap (λ (c : Lit). c.var) (lit_eq-true a u e))))))
          ]
    ])
    (λ e. elim (or_cases _ _ e) [
      | inl kept ↦
          let parts = and_parts _ _ kept in
          let found = marked_from old lits a parts.0 in
          let q = found.0 in
          let other : q ≡ p → ⊥ = λ is. false≢true (sym (not-true _ parts.1)
          ∙ ap (λ c. lit_eq c (negation u)) (sym (negation_twice a) ∙ ap negation (same_Some (negation a) u (sym found.2 ∙ ap (slice_get lits) is ∙ at))) ∙ lit_eq-same (negation u)) in
          marked_has new lits q a (marking q (within lits q (negation a) found.2) other ∙ or_left _ _ found.1) found.2
      | inr came ↦
          let parts = and_parts _ _ came in
          elim (others a parts.0) [
            | inl here ↦ absurd (false≢true (sym (not-true _ parts.1) ∙ ap (λ c. lit_eq a c) (lit_eq-true u a here) ∙ lit_eq-same a))
            | inr falsified ↦
                let found = false_place steps lits a same apart falsified.0 in
                let q = found.0 in
                let other : q ≡ p → ⊥ = λ is. falsified.1 (ap (λ (c : Lit). c.var) (same_Some (negation a) u (sym found.2 ∙ ap (slice_get lits) is ∙ at))) in
                let below = within lits q (negation a) found.2 in
                marked_has new lits q a
                (marking q below other
                ∙ or_right _ _ (any_has (λ b. is_at (places b.var) q) reason a parts.0 (told a.var q below ∙ is_at-own (place_in lits a.var) q found.1)))
                found.2
          ]
    ])

-- The clause of the marked literals, one literal after another.

marked_push : (marks : List Bool) (lits : List Lit) (m : Bool) (d : Lit) → length marks ≡ length lits
    → marked (marks ++ m ∷ []) (lits ++ d ∷ []) ≡ cond m (marked marks lits ++ negation d ∷ []) (marked marks lits)
marked_push [] [] true d same = refl
marked_push [] [] false d same = refl
marked_push [] (b ∷ lits) m d same = absurd (omega (arith, same))
marked_push (x ∷ marks) [] m d same = absurd (omega (arith, same))
marked_push (true ∷ marks) (b ∷ lits) true d same = ap (λ xs. negation b ∷ xs) (marked_push marks lits true d (omega (arith, same)))
marked_push (true ∷ marks) (b ∷ lits) false d same = ap (λ xs. negation b ∷ xs) (marked_push marks lits false d (omega (arith, same)))
marked_push (false ∷ marks) (b ∷ lits) m d same = marked_push marks lits m d (omega (arith, same))

marked_more : (marks : List Bool) (lits : List Lit) (i : ℕ) → i < length lits → length marks ≡ length lits
    → marked (take (i + 1) marks) (take (i + 1) lits)
    ≡ cond (get_or marks i false) (marked (take i marks) (take i lits) ++ negation (get_or lits i no_literal) ∷ []) (marked (take i marks) (take i lits))
marked_more marks lits i below same =
    ap (λ ms. marked ms (take (i + 1) lits)) (take_more marks i false (omega (arith, below, same)))
    ∙ ap (marked (take i marks ++ get_or marks i false ∷ [])) (take_more lits i no_literal below)
    ∙ marked_push (take i marks) (take i lits) (get_or marks i false) (get_or lits i no_literal)
    (length-take-le i marks (omega (arith, below, same)) ∙ sym (length-take-le i lits (omega (arith, below))))

pub marked_skips : (marks : List Bool) (lits : List Lit) (i : ℕ) (clause : List Lit) → i < length lits → length marks ≡ length lits → is_marked marks i ≡ false
    → clause ≡ marked (take i marks) (take i lits) → clause ≡ marked (take (i + 1) marks) (take (i + 1) lits)
marked_skips marks lits i clause below same lacks is =
    is ∙ sym (marked_more marks lits i below same
    ∙ cond-false (get_or marks i false) (marked (take i marks) (take i lits) ++ negation (get_or lits i no_literal) ∷ []) (marked (take i marks) (take i lits)) lacks)

pub marked_takes : (marks : List Bool) (lits : List Lit) (i : ℕ) (clause later : List Lit) → i < length lits → length marks ≡ length lits → is_marked marks i ≡ true
    → clause ≡ marked (take i marks) (take i lits) → later ≡ clause ++ negation (get_or lits i no_literal) ∷ [] → later ≡ marked (take (i + 1) marks) (take (i + 1) lits)
marked_takes marks lits i clause later below same has is comes =
    comes ∙ ap (λ xs. xs ++ negation (get_or lits i no_literal) ∷ []) is
    ∙ sym (marked_more marks lits i below same
    ∙ cond-true (get_or marks i false) (marked (take i marks) (take i lits) ++ negation (get_or lits i no_literal) ∷ []) (marked (take i marks) (take i lits)) has)

-- places without a mark

blank_front : (k : ℕ) (marks : List Bool) (lits : List Lit) → list_any (λ m. m) (take k marks) ≡ false → marked (take k marks) (take k lits) ≡ []
blank_front zero marks lits e = refl
blank_front (suc k) [] lits e = refl
blank_front (suc k) (true ∷ marks) [] e = refl
blank_front (suc k) (false ∷ marks) [] e = refl
blank_front (suc k) (true ∷ marks) (a ∷ lits) e = absurd (false≢true (sym e))
blank_front (suc k) (false ∷ marks) (a ∷ lits) e = blank_front k marks lits e

blank_more : (p k q : ℕ) (marks : List Bool) (lits : List Lit) → q ≡ p + k → list_any (λ m. m) (take k (drop p marks)) ≡ false
    → marked (take q marks) (take q lits) ≡ marked (take p marks) (take p lits)
blank_more zero k q marks lits at e =
    let same : q ≡ k = omega (arith, at) in
    ap (λ n. marked (take n marks) (take n lits)) same ∙ blank_front k marks lits e
blank_more (suc p) k zero marks lits at e = absurd (omega (arith, at))
blank_more (suc p) k (suc q) [] lits at e = refl
blank_more (suc p) k (suc q) (true ∷ marks) [] at e = refl
blank_more (suc p) k (suc q) (false ∷ marks) [] at e = refl
blank_more (suc p) k (suc q) (true ∷ marks) (a ∷ lits) at e = ap (λ xs. negation a ∷ xs) (blank_more p k q marks lits (omega (arith, at)) e)
blank_more (suc p) k (suc q) (false ∷ marks) (a ∷ lits) at e = blank_more p k q marks lits (omega (arith, at)) e

pub marked_past : (marks seen : List Bool) (lits clause : List Lit) (start end : ℕ) (found : Bool) → start ≤ end → seen ≡ take (end - start) (drop start marks)
    → found ≡ list_any (λ m. m) seen → found ≡ false → clause ≡ marked (take start marks) (take start lits) → clause ≡ marked (take end marks) (take end lits)
marked_past marks seen lits clause start end found before at told lacks is =
    is ∙ sym (blank_more start (end - start) end marks lits (omega (arith, before)) (ap (list_any (λ m. m)) (sym at) ∙ sym told ∙ lacks))

-- More marks.

or_assoc : (a b c : Bool) → (a || (b || c)) ≡ ((a || b) || c)
or_assoc true b c = refl
or_assoc false b c = refl

or_false : (b : Bool) → (b || false) ≡ b
or_false true = refl
or_false false = refl

any_push : (f : Lit → Bool) (xs : List Lit) (x : Lit) → list_any f (xs ++ x ∷ []) ≡ (list_any f xs || f x)
any_push f [] x = or_false (f x)
any_push f (y ∷ xs) x = ap (λ b. f y || b) (any_push f xs x) ∙ or_assoc (f y) (list_any f xs) (f x)

pub set_length : (marks : List Bool) (p : ℕ) (b : Bool) → length (slice_set marks p b) ≡ length marks
set_length [] p b = refl
set_length (m ∷ marks) zero b = refl
set_length (m ∷ marks) (suc p) b = ap suc (set_length marks p b)

pub set_there : (marks : List Bool) (p : ℕ) (b : Bool) → p < length marks → is_marked (slice_set marks p b) p ≡ b
set_there [] p b below = absurd (omega (arith, below))
set_there (m ∷ marks) zero b below = refl
set_there (m ∷ marks) (suc p) b below = set_there marks p b (omega (arith, below))

pub set_elsewhere : (marks : List Bool) (p q : ℕ) (b : Bool) → (q ≡ p → ⊥) → is_marked (slice_set marks p b) q ≡ is_marked marks q
set_elsewhere [] p q b apart = refl
set_elsewhere (m ∷ marks) zero zero b apart = absurd (apart refl)
set_elsewhere (m ∷ marks) zero (suc q) b apart = refl
set_elsewhere (m ∷ marks) (suc p) zero b apart = refl
set_elsewhere (m ∷ marks) (suc p) (suc q) b apart = set_elsewhere marks p q b (λ e. apart (ap suc e))

or_same : (b : Bool) → b ≡ (b || false)
or_same true = refl
or_same false = refl

or_true : (b : Bool) → true ≡ (b || true)
or_true true = refl
or_true false = refl

-- one place is marked
pub mark_set : (marks : List Bool) (p q : ℕ) → p < length marks → is_marked (slice_set marks p true) q ≡ (is_marked marks q || is_at (Some p) q)
mark_set marks p q below =
    elim (either (eqb p q)) [
      | inl here ↦
          let same : p ≡ q = eqb-true p q here in
          ap (is_marked (slice_set marks p true)) (sym same) ∙ set_there marks p true below ∙ or_true (is_marked marks q) ∙ ap (λ b. is_marked marks q || b) (sym here)
      | inr differs ↦
          set_elsewhere marks p q true (λ e. false≢true (sym differs ∙ eq-eqb p q (sym e))) ∙ or_same (is_marked marks q) ∙ ap (λ b. is_marked marks q || b) (sym differs)
    ]

-- a place past the end is none of those before it
pub mark_past : (marks : List Bool) (p q : ℕ) → length marks ≤ p → q < length marks → is_marked marks q ≡ (is_marked marks q || is_at (Some p) q)
mark_past marks p q past below =
    or_same (is_marked marks q) ∙ ap (λ b. is_marked marks q || b) (sym (untrue _ (λ e. omega (arith, past, below, eqb-true p q e))))

-- a place that is marked already
pub mark_again : (marks : List Bool) (p q : ℕ) → is_marked marks p ≡ true → is_marked marks q ≡ (is_marked marks q || is_at (Some p) q)
mark_again marks p q here =
    elim (either (eqb p q)) [
      | inl same ↦
          let marked_there : is_marked marks q ≡ true = ap (is_marked marks) (sym (eqb-true p q same)) ∙ here in
          marked_there ∙ sym (or_left (is_marked marks q) (eqb p q) marked_there)
      | inr differs ↦ or_same (is_marked marks q) ∙ ap (λ b. is_marked marks q || b) (sym differs)
    ]

pub mark_none : (marks : List Bool) (q : ℕ) → is_marked marks q ≡ (is_marked marks q || is_at None q)
mark_none marks q = or_same (is_marked marks q)

-- The literals of a reason, but the one that it left, are false and of other variables.
pub reason_others : (steps : List Step) (p : ℕ) (reason : List Lit) (u : Lit) → is_unit_for (take p steps) reason u ≡ true
    → (b : Lit) → Has reason b → (lit_eq u b ≡ true) ⊎ ((is_false steps b ≡ true) × (b.var ≡ u.var → ⊥))
reason_others steps p reason u unit b has =
    elim (either (lit_eq u b)) [
      | inl here ↦ inl here
      | inr differs ↦
          let early = unit_others (take p steps) reason u b unit has differs in
          inr (
            ap (λ xs. is_false xs b) (sym (take-append-drop p steps)) ∙ false_more (take p steps) (drop p steps) b early,
            λ same. no_value (value_of (take p steps) b.var) (not b.positive) (ap (value_of (take p steps)) same ∙ unit_unvalued (take p steps) reason u unit) early,
          )
    ]

read_at : (lits : List Lit) (p : ℕ) → p < length lits → slice_get lits p ≡ Some (get_or lits p no_literal)
read_at lits p below = slice_get-get_or lits p no_literal below

-- the mark that the code reads tells of the clause
pub mark_read : (marks : List Bool) (lits : List Lit) (p : ℕ) → once lits ≡ true → p < length lits
    → is_marked marks p ≡ has_literal (marked marks lits) (negation (get_or lits p no_literal))
mark_read marks lits p apart below = mark_tells marks lits p (get_or lits p no_literal) apart (read_at lits p below)

-- one resolution, as the code does it
pub code_resolvent : (clauses : List (List Lit)) (steps : List Step) (lits reason : List Lit) (reasons : List (Option ℕ)) (old mid new : List Bool) (places : ℕ → Option ℕ) (p number : ℕ)
    → lits ≡ literals_of steps → reasons ≡ reasons_in steps → once lits ≡ true → 0 < p → p ≤ length lits → length old ≡ length lits → length mid ≡ length old
    → get_or reasons (p - 1) None ≡ Some number → clause_numbered clauses number ≡ Some reason → IsFreshTrail clauses steps
    → ((v q : ℕ) → q < length lits → is_at (places v) q ≡ is_at (place_in lits v) q)
    → ((q : ℕ) → q < length old → is_marked mid q ≡ (is_marked old q || list_any (λ (b : Lit). is_at (places b.var) q) reason))
    → new ≡ slice_set mid (p - 1) false
    → IsResolvent (marked old lits) (get_or lits (p - 1) no_literal) reason (marked new lits)
code_resolvent clauses steps lits reason reasons old mid new places p number same same_reasons apart after within_all long longer read held fresh told marking set_is =
    let r = reads steps lits 0 p same after within_all in
    let q = reads_reason clauses steps lits reasons 0 p number same same_reasons after within_all read fresh in
    let one : q.clause ≡ reason = same_Some q.clause reason (sym q.held ∙ held) in
    let u = get_or lits (p - 1) no_literal in
    let left : is_unit_for (take (p - 1) steps) reason u ≡ true =
    ap (is_unit_for (take (p - 1) steps) reason) r.literal ∙ ap (λ c. is_unit_for (take (p - 1) steps) c (get_or steps (p - 1) no_step_there).literal) (sym one) ∙ q.left in
    let below : p - 1 < length lits = omega (arith, after, within_all) in
    marked_resolvent steps lits reason old new places (p - 1) u same apart (read_at lits (p - 1) below) told (reason_others steps (p - 1) reason u left)
    (λ n under other. ap (λ ms. is_marked ms n) set_is ∙ set_elsewhere mid (p - 1) n false other ∙ marking n (omega (arith, under, long)))
    (ap (λ ms. is_marked ms (p - 1)) set_is ∙ set_there mid (p - 1) false (omega (arith, below, long, longer)))

-- the same, by the place itself
pub resolvent_at : (clauses : List (List Lit)) (steps : List Step) (lits reason : List Lit) (reasons : List (Option ℕ)) (old mid new : List Bool) (places : ℕ → Option ℕ) (place number : ℕ)
    → lits ≡ literals_of steps → reasons ≡ reasons_in steps → once lits ≡ true → place < length lits → length old ≡ length lits → length mid ≡ length old
    → get_or reasons place None ≡ Some number → clause_numbered clauses number ≡ Some reason → IsFreshTrail clauses steps
    → ((v q : ℕ) → q < length lits → is_at (places v) q ≡ is_at (place_in lits v) q)
    → ((q : ℕ) → q < length old → is_marked mid q ≡ (is_marked old q || list_any (λ (b : Lit). is_at (places b.var) q) reason))
    → new ≡ slice_set mid place false
    → IsResolvent (marked old lits) (get_or lits place no_literal) reason (marked new lits)
resolvent_at clauses steps lits reason reasons old mid new places place number same same_reasons apart within_all long longer read held fresh told marking set_is =
    let here : place + 1 - 1 ≡ place = omega arith in
    subst (λ n. IsResolvent (marked old lits) (get_or lits n no_literal) reason (marked new lits)) here
    (code_resolvent clauses steps lits reason reasons old mid new places (place + 1) number same same_reasons apart (omega arith) (omega (arith, within_all)) long longer
    (ap (λ n. get_or reasons n None) here ∙ read) held fresh told marking (set_is ∙ ap (λ n. slice_set mid n false) (sym here)))

none_marked : (n q : ℕ) → is_marked (replicate n false) q ≡ false
none_marked n q = elim (either (leb (suc q) n)) [
  | inl under ↦ get_or-replicate n q false false (leb-true (suc q) n under)
  | inr past ↦ get_or_past (replicate n false) q false (omega (arith, leb-false (suc q) n past, length-replicate n false))
]

-- the marks that the walk begins with
pub code_start : (clauses : List (List Lit)) (steps : List Step) (lits held : List Lit) (n : ℕ) (first marks : List Bool) (places : ℕ → Option ℕ) → lits ≡ literals_of steps → once lits ≡ true
    → is_falsified steps held ≡ true → ((v q : ℕ) → q < length lits → is_at (places v) q ≡ is_at (place_in lits v) q) → first ≡ replicate n false → n ≡ length lits
    → ((q : ℕ) → q < length first → is_marked marks q ≡ (is_marked first q || list_any (λ (b : Lit). is_at (places b.var) q) held))
    → (a : Lit) → has_literal (marked marks lits) a ≡ has_literal held a
code_start clauses steps lits held n first marks places same apart falsified told is many marking =
    marked_start steps lits held marks places same apart falsified told
    (λ q below. marking q (omega (arith, below, many, ap length is, length-replicate n false))
    ∙ ap (λ b. b || list_any (λ (b : Lit). is_at (places b.var) q) held) (ap (λ ms. is_marked ms q) is ∙ none_marked n q))

pub long_after : (old mid new : List Bool) (p : ℕ) → length mid ≡ length old → new ≡ slice_set mid p false → length new ≡ length old
long_after old mid new p same is = ap length is ∙ set_length mid p false ∙ same

-- The places that are told where the trail is cut behind a place, and another literal of its variable stands there.

at_next : (o : Option ℕ) (q : ℕ) → is_at (option_map (λ place. place + 1) o) (suc q) ≡ is_at o q
at_next None q = refl
at_next (Some p) q =
    both_ways (eqb (p + 1) (suc q)) (eqb p q)
    (λ e. eq-eqb p q (omega (arith, eqb-true (p + 1) (suc q) e)))
    (λ e. eq-eqb (p + 1) (suc q) (omega (arith, eqb-true p q e)))

not_first : (o : Option ℕ) → is_at (option_map (λ place. place + 1) o) 0 ≡ false
not_first None = refl
not_first (Some p) = untrue (eqb (p + 1) 0) (λ e. omega (arith, eqb-true (p + 1) 0 e))

at_cond : (b : Bool) (o : Option ℕ) (q : ℕ) → is_at (cond b (Some 0) (option_map (λ place. place + 1) o)) (suc q) ≡ cond b false (is_at o q)
at_cond true o q = untrue (eqb 0 (suc q)) (λ e. omega (arith, eqb-true 0 (suc q) e))
at_cond false o q = at_next o q

first_cond : (b : Bool) (o : Option ℕ) → is_at (cond b (Some 0) (option_map (λ place. place + 1) o)) 0 ≡ b
first_cond true o = eq-eqb 0 0 refl
first_cond false o = not_first o

pub place_cut : (lits front : List Lit) (p : ℕ) (u : Lit) → slice_get lits p ≡ Some (negation u) → front ≡ take p lits ++ u ∷ []
    → (v q : ℕ) → q < length front → is_at (place_in lits v) q ≡ is_at (place_in front v) q
place_cut lits front p u at is v q below =
    cut_here lits p u at v q (omega (arith, below, ap length is)) ∙ ap (λ ls. is_at (place_in ls v) q) (sym is)
  where
    cut_here : (lits : List Lit) (p : ℕ) (u : Lit) → slice_get lits p ≡ Some (negation u) → (v q : ℕ) → q < length (take p lits ++ u ∷ [])
        → is_at (place_in lits v) q ≡ is_at (place_in (take p lits ++ u ∷ []) v) q
    cut_here [] p u at v q below = absurd (none-some (negation u) at)
    cut_here (a ∷ lits) zero u at v zero below =
        first_cond (eqb a.var v) (place_in lits v)
        ∙ ap (λ (b : Lit). eqb b.var v) (same_Some a (negation u) at)
        ∙ sym (first_cond (eqb u.var v) None)
    cut_here (a ∷ lits) zero u at v (suc q) below = absurd (omega (arith, below))
    cut_here (a ∷ lits) (suc p) u at v zero below =
        first_cond (eqb a.var v) (place_in lits v) ∙ sym (first_cond (eqb a.var v) (place_in (take p lits ++ u ∷ []) v))
    cut_here (a ∷ lits) (suc p) u at v (suc q) below =
        at_cond (eqb a.var v) (place_in lits v) q
        ∙ ap (cond (eqb a.var v) false) (cut_here lits p u at v q (omega (arith, below)))
        ∙ sym (at_cond (eqb a.var v) (place_in (take p lits ++ u ∷ []) v) q)

-- How many places are marked.

pub count_set : (s p : ℕ) (marks : List Bool) → p < length marks → is_marked marks p ≡ false → count_from s (slice_set marks p true) ≡ count_from s marks + counts_at s p
count_set s p [] below e = absurd (omega (arith, below))
count_set zero zero (true ∷ marks) below e = absurd (false≢true (sym e))
count_set zero zero (false ∷ marks) below e = omega arith
count_set zero (suc p) (m ∷ marks) below e = omega (arith, count_set zero p marks (omega (arith, below)) e)
count_set (suc s) zero (m ∷ marks) below e = omega arith
count_set (suc s) (suc p) (m ∷ marks) below e = count_set s p marks (omega (arith, below)) e

pub count_unset : (s p : ℕ) (marks : List Bool) → p < length marks → is_marked marks p ≡ true → count_from s (slice_set marks p false) + counts_at s p ≡ count_from s marks
count_unset s p [] below e = absurd (omega (arith, below))
count_unset zero zero (true ∷ marks) below e = omega arith
count_unset zero zero (false ∷ marks) below e = absurd (false≢true e)
count_unset zero (suc p) (m ∷ marks) below e = omega (arith, count_unset zero p marks (omega (arith, below)) e)
count_unset (suc s) zero (m ∷ marks) below e = omega arith
count_unset (suc s) (suc p) (m ∷ marks) below e = count_unset s p marks (omega (arith, below)) e

pub count_small : (s : ℕ) (marks : List Bool) → count_from s marks ≤ length marks
count_small s [] = omega arith
count_small zero (true ∷ marks) = omega (arith, count_small zero marks)
count_small zero (false ∷ marks) = omega (arith, count_small zero marks)
count_small (suc s) (m ∷ marks) = omega (arith, count_small s marks)

pub count_none : (s n : ℕ) → count_from s (replicate n false) ≡ 0
count_none s zero = refl
count_none zero (suc n) = omega (arith, count_none zero n)
count_none (suc s) (suc n) = count_none s n

pub counts_in : (s p : ℕ) → s ≤ p → counts_at s p ≡ 1
counts_in zero p e = refl
counts_in (suc s) zero e = absurd (omega (arith, e))
counts_in (suc s) (suc p) e = counts_in s p (omega (arith, e))

pub counts_out : (s p : ℕ) → p < s → counts_at s p ≡ 0
counts_out zero p e = absurd (omega (arith, e))
counts_out (suc s) zero e = refl
counts_out (suc s) (suc p) e = counts_out s p (omega (arith, e))

pub marked_within : (marks : List Bool) (q : ℕ) → is_marked marks q ≡ true → q < length marks
marked_within [] q e = absurd (false≢true e)
marked_within (m ∷ marks) zero e = omega arith
marked_within (m ∷ marks) (suc q) e = omega (arith, marked_within marks q e)

count_some : (s q : ℕ) (marks : List Bool) → is_marked marks q ≡ true → s ≤ q → 0 < count_from s marks
count_some s q marks e from = omega (arith, count_unset s q marks (marked_within marks q e) e, counts_in s q from)

-- two marked places are counted as two
count_two : (s p q : ℕ) (marks : List Bool) → is_marked marks p ≡ true → is_marked marks q ≡ true → (q ≡ p → ⊥) → s ≤ p → s ≤ q → 1 < count_from s marks
count_two s p q marks here there apart from_p from_q =
    omega (
      arith,
      count_unset s p marks (marked_within marks p here) here,
      counts_in s p from_p,
      count_some s q (slice_set marks p false) (set_elsewhere marks p q false apart ∙ there) from_q,
    )

count_finds : (s : ℕ) (marks : List Bool) → 0 < count_from s marks → (q : ℕ) × (is_marked marks q ≡ true) × (s ≤ q)
count_finds s [] some = absurd (omega (arith, some))
count_finds zero (true ∷ marks) some = (0, refl, omega arith)
count_finds zero (false ∷ marks) some =
    let found = count_finds zero marks (omega (arith, some)) in (suc found.0, found.1, omega arith)
count_finds (suc s) (m ∷ marks) some =
    let found = count_finds s marks some in (suc found.0, found.1, omega (arith, found.2))

-- beside a marked place another one is counted
count_other : (s p : ℕ) (marks : List Bool) → is_marked marks p ≡ true → s ≤ p → (count_from s marks ≡ 1 → ⊥) → (q : ℕ) × (is_marked marks q ≡ true) × (s ≤ q) × (q ≡ p → ⊥)
count_other s p marks here from more =
    let less = count_unset s p marks (marked_within marks p here) here in
    let left = slice_set marks p false in
    let found = count_finds s left (some_left (count_from s left) (count_from s marks) less (counts_in s p from) more) in
    let apart : found.0 ≡ p → ⊥ = λ e. false≢true (sym (set_there marks p false (marked_within marks p here)) ∙ ap (is_marked left) (sym e) ∙ found.1) in
    (found.0, sym (set_elsewhere marks p found.0 false apart) ∙ found.1, found.2, apart)
  where
    some_left : (m n : ℕ) → m + counts_at s p ≡ n → counts_at s p ≡ 1 → (n ≡ 1 → ⊥) → 0 < m
    some_left zero n e one differs = absurd (differs (omega (arith, e, one)))
    some_left (suc m) n e one differs = omega arith

-- The literals between two places.

get_front : (lits : List Lit) (k m : ℕ) (x : Lit) → slice_get lits m ≡ Some x → m < k → slice_get (take k lits) m ≡ Some x
get_front [] k m x e below = absurd (none-some x e)
get_front (a ∷ lits) zero m x e below = absurd (omega (arith, below))
get_front (a ∷ lits) (suc k) zero x e below = e
get_front (a ∷ lits) (suc k) (suc m) x e below = get_front lits k m x e (omega (arith, below))

get_behind : (lits : List Lit) (s m q : ℕ) (x : Lit) → slice_get lits q ≡ Some x → q ≡ s + m → slice_get (drop s lits) m ≡ Some x
get_behind [] s m q x e is = absurd (none-some x e)
get_behind (a ∷ lits) zero m q x e is = ap (slice_get (a ∷ lits)) (omega (arith, is)) ∙ e
get_behind (a ∷ lits) (suc s) m zero x e is = absurd (omega (arith, is))
get_behind (a ∷ lits) (suc s) m (suc q) x e is = get_behind lits s m q x e (omega (arith, is))

get_between : (lits : List Lit) (s p q : ℕ) (x : Lit) → slice_get lits q ≡ Some x → s ≤ q → q < p → slice_get (take (p - s) (drop s lits)) (q - s) ≡ Some x
get_between lits s p q x e from below =
    get_front (drop s lits) (p - s) (q - s) x (get_behind lits s (q - s) q x e (omega (arith, from))) (omega (arith, from, below))

any_front : (f : Lit → Bool) (lits : List Lit) (k : ℕ) → list_any f (take k lits) ≡ true → (m : ℕ) × (x : Lit) × (slice_get lits m ≡ Some x) × (m < k) × (f x ≡ true)
any_front f [] zero any = absurd (false≢true any)
any_front f [] (suc k) any = absurd (false≢true any)
any_front f (a ∷ lits) zero any = absurd (false≢true any)
any_front f (a ∷ lits) (suc k) any =
    elim (or_cases (f a) (list_any f (take k lits)) any) [
      | inl here ↦ (0, a, refl, omega arith, here)
      | inr later ↦ let found = any_front f lits k later in (suc found.0, found.1, found.2, omega (arith, found.3), found.4)
    ]

at_behind : (lits : List Lit) (s m : ℕ) (x : Lit) → slice_get (drop s lits) m ≡ Some x → (q : ℕ) × (q ≡ s + m) × (slice_get lits q ≡ Some x)
at_behind [] zero m x e = absurd (none-some x e)
at_behind [] (suc s) m x e = absurd (none-some x e)
at_behind (a ∷ lits) zero m x e = (m, omega arith, e)
at_behind (a ∷ lits) (suc s) m x e = let found = at_behind lits s m x e in (suc found.0, omega (arith, found.1), found.2)

from_between : (f : Lit → Bool) (lits : List Lit) (s p : ℕ) → list_any f (take (p - s) (drop s lits)) ≡ true
    → (q : ℕ) × (x : Lit) × (slice_get lits q ≡ Some x) × (s ≤ q) × (q < p) × (f x ≡ true)
from_between f lits s p any =
    let found = any_front f (drop s lits) (p - s) any in
    let there = at_behind lits s found.0 found.1 found.2 in
    (there.0, found.1, there.2, omega (arith, there.1), omega (arith, there.1, found.3), found.4)

any_slice : (f : Lit → Bool) (lits : List Lit) (q : ℕ) (x : Lit) → slice_get lits q ≡ Some x → f x ≡ true → list_any f lits ≡ true
any_slice f [] q x e holds = absurd (none-some x e)
any_slice f (a ∷ lits) zero x e holds = or_left _ _ (ap f (same_Some a x e) ∙ holds)
any_slice f (a ∷ lits) (suc q) x e holds = or_right _ _ (any_slice f lits q x e holds)

-- where one place is counted, the clause has no other literal of the level
pub alone : (marks : List Bool) (lits : List Lit) (s p : ℕ) → once lits ≡ true → is_marked marks p ≡ true → s ≤ p → count_from s marks ≡ 1
    → list_any (λ l. has_literal (marked marks lits) (negation l)) (take (p - s) (drop s lits)) ≡ false
alone marks lits s p apart here from one = untrue _ (λ any.
    let found = from_between (λ l. has_literal (marked marks lits) (negation l)) lits s p any in
    let there : is_marked marks found.0 ≡ true = mark_tells marks lits found.0 found.1 apart found.2 ∙ found.5 in
    omega (arith, one, count_two s p found.0 marks here there (λ e. omega (arith, e, found.4)) from found.3))

take_literals : (n : ℕ) (steps : List Step) → literals_of (take n steps) ≡ take n (literals_of steps)
take_literals zero [] = refl
take_literals zero (x ∷ steps) = refl
take_literals (suc n) [] = refl
take_literals (suc n) (x ∷ steps) = ap (λ ls. x.literal ∷ ls) (take_literals n steps)

get_take : (n i : ℕ) (lits : List Lit) (x : Lit) → slice_get (take n lits) i ≡ Some x → (i < n) × (slice_get lits i ≡ Some x)
get_take zero i [] x e = absurd (none-some x e)
get_take zero i (a ∷ lits) x e = absurd (none-some x e)
get_take (suc n) i [] x e = absurd (none-some x e)
get_take (suc n) zero (a ∷ lits) x e = (omega arith, e)
get_take (suc n) (suc i) (a ∷ lits) x e = let rest = get_take n i lits x e in (omega (arith, rest.0), rest.1)

-- a literal that the first steps make true stands among them
stands_early : (steps : List Step) (lits : List Lit) (q : ℕ) (l : Lit) (n : ℕ) → lits ≡ literals_of steps → once lits ≡ true → slice_get lits q ≡ Some l
    → is_false (take n steps) (negation l) ≡ true → q < n
stands_early steps lits q l n same apart at e =
    let stands : Has (take n lits) l =
    ap (λ ls. has_literal (take n ls) l) same ∙ ap (λ ls. has_literal ls l) (sym (take_literals n steps))
    ∙ ap (has_literal (literals_of (take n steps))) (sym (negation_twice l)) ∙ false_stands (take n steps) (negation l) e in
    let found = has_place (take n lits) l stands in
    let there = get_take n found.0 lits l found.1 in
    omega (arith, there.0, one_place lits found.0 q l apart there.1 at)

below_other : (p q : ℕ) → q < p + 1 → (q ≡ p → ⊥) → q < p
below_other p q e differs = elim (either (leb (suc q) p)) [
  | inl under ↦ omega (arith, leb-true (suc q) p under)
  | inr past ↦ absurd (differs (omega (arith, e, leb-false (suc q) p past)))
]

-- and where it is not, it has
pub not_alone : (steps : List Step) (marks : List Bool) (lits : List Lit) (s p : ℕ) → lits ≡ literals_of steps → once lits ≡ true → length marks ≡ length lits
    → is_marked marks p ≡ true → s ≤ p → (count_from s marks ≡ 1 → ⊥)
    → ((a : Lit) → Has (marked marks lits) a → is_false (take (p + 1) steps) a ≡ true)
    → list_any (λ l. has_literal (marked marks lits) (negation l)) (take (p - s) (drop s lits)) ≡ true
not_alone steps marks lits s p same apart long here from more within_front =
    let other = count_other s p marks here from more in
    let q = other.0 in
    let l = get_or lits q no_literal in
    let at : slice_get lits q ≡ Some l = slice_get-get_or lits q no_literal (omega (arith, marked_within marks q other.1, long)) in
    let has : Has (marked marks lits) (negation l) = sym (mark_tells marks lits q l apart at) ∙ other.1 in
    let early : q < p + 1 = stands_early steps lits q l (p + 1) same apart at (within_front (negation l) has) in
    any_slice (λ b. has_literal (marked marks lits) (negation b)) (take (p - s) (drop s lits)) (q - s) l
    (get_between lits s p q l at other.2 (below_other p q early other.3)) has
