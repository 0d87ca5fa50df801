-- An assignment for the clauses of used entries, from states that they allow.
use Rattle.std.proofs.Common.{◌≡◌, ℕ, suc, ◌+◌, ◌-◌, ◌<◌, ◌≤◌, ◌⊎◌, Bool, true, false, ◌&&◌, ◌||◌, List, [], ◌∷◌, ◌++◌, map, length, get_or, Some, None, refl, sym, ap, subst, ◌∙◌, add-zero, inl, inr, arith}
use Rattle.std.specs.List.{AllByRecursion, Contains, list_all}
use Rattle.std.proofs.lemmas.Bool.{and_parts, and_from, cases_Bool, cases_lt}
use Rattle.proof_semantics.specs.Clauses.{literal_value, clauses_value, values_of}
use Rattle.fair_semantics.specs.declared.entries.Kind.{Kind}
use Rattle.fair_semantics.specs.declared.entries.Kind.TheVariants.{Reach, Wall}
use Rattle.fair_semantics.specs.Entries.{Entry, Numbered, lies_on, set_over, with_set, sets_after}
use Rattle.fair_semantics.specs.Allowing.{all_on, allows_by, all_allow, allow}
use Rattle.cnf_unroll.specs.Numbers.{set_at_place}
use Rattle.cnf_unroll.specs.Uses.{Numbering, no_sides, free_from, named_sides, use_clauses, after_use, uses_clauses, after_uses}
use Rattle.cnf_unroll.specs.Laws.{AreOver, NameKnown, walls_for, walls_with, walls_among, AreReadable}
use Rattle.cnf_unroll.proofs.Truth.{together, flat_true, set_there}
use Rattle.cnf_unroll.proofs.Walls.{IsSideOf, wall_true, HasFrom, has-split, marks_over, after_marks-is}
use Rattle.cnf_unroll.proofs.UseLaws.{State, states_at, Agrees, names_here, all_zip, all_map, first_kept, more_reach, more_wall, all_on_to}

-- ---- the values of the numbers of used entries: of a wall its side, and its marks

abbrev use_values : (ℕ → State → Bool) → Entry → Kind → List State → List Bool
use_values sets e Reach states = []
use_values sets e Wall states = all_on true (set_over sets e) states ∷ marks_over e.clauses states

abbrev pub uses_values : (ℕ → State → Bool) → List Numbered → List State → List Bool
uses_values sets [] states = []
uses_values sets (u ∷ us) states = use_values sets u.entry u.entry.kind states ++ uses_values (with_set sets u) us states

reaches : (v : ℕ → Bool) (sets : ℕ → State → Bool) (n : Numbering) (u : Numbered) (kind : Kind) (places : List (List ℕ)) → (after_use places n u kind).free ≡ n.free + length (use_values sets u.entry kind (states_at v places))
reaches v sets n u Reach places = sym (add-zero n.free)
reaches v sets n u Wall places = let e = after_marks-is v u.entry.clauses (n.free + 1) places in omega arith

-- ---- with these values the clauses are true

reach_true : (v : ℕ → Bool) (len : ℕ) (sets : ℕ → State → Bool) (e : Entry) (places : List (List ℕ)) → AreOver len e.clauses → AllByRecursion (λ p. length p ≡ len) places → AllByRecursion (λ p. set_over sets e (map v p) ≡ true) places → list_all (λ p. clauses_value v (set_at_place p e.clauses)) places ≡ true
reach_true v len sets e [] over long h = refl
reach_true v len sets e (p ∷ places) over long h =
    let here : AreOver (length p) e.clauses = λ k b below. λ i l inside. let x = over k b below i l inside in omega (arith, long.0) in
    and_from _ _
    (set_there v p e.clauses here ∙ (and_parts (clauses_value (values_of (map v p)) e.clauses) (list_all (λ u. lies_on u.side (sets u.entry (map v p))) e.uses) h.0).0)
    (reach_true v len sets e places over long.1 h.1)

wall_side : (v : ℕ → Bool) (set : State → Bool) (places : List (List ℕ)) → allows_by Wall set (states_at v places) ≡ true → AllByRecursion (λ p. set (map v p) ≡ all_on true set (states_at v places)) places
wall_side v set places h = elim (cases_Bool (all_on true set (states_at v places))) [
  | inl t ↦ all_map (λ p. set (map v p) ≡ true) (λ p. set (map v p) ≡ all_on true set (states_at v places)) (λ p e. e ∙ sym t) places (all_on_to v true set places t)
  | inr f ↦
      all_map (λ p. set (map v p) ≡ false) (λ p. set (map v p) ≡ all_on true set (states_at v places)) (λ p e. e ∙ sym f) places
      (all_on_to v false set places (sym (ap (λ x. x || all_on false set (states_at v places)) f) ∙ h))
]

record WrittenUse (v : ℕ → Bool) (sets : ℕ → State → Bool) (n : Numbering) (seen walls : List ℕ) (places : List (List ℕ)) (u : Numbered) (kind : Kind) : Type 0 where
  holds : clauses_value v (use_clauses places n u.entry kind) ≡ true
  agrees : Agrees v (with_set sets u) (after_use places n u kind).sides (u.number ∷ seen) (walls_with kind u.number walls) places

write_use : (v : ℕ → Bool) (len : ℕ) (sets : ℕ → State → Bool) (n : Numbering) (seen walls : List ℕ) (place : List ℕ) (places : List (List ℕ)) (u : Numbered) (kind : Kind) → (Contains seen u.number → ⊥) → AreOver len u.entry.clauses → NameKnown (walls_for kind walls) u.entry.uses → AllByRecursion (λ p. length p ≡ len) (place ∷ places) → Agrees v sets n.sides seen walls (place ∷ places) → allows_by kind (set_over sets u.entry) (states_at v (place ∷ places)) ≡ true → HasFrom v n.free (use_values sets u.entry kind (states_at v (place ∷ places))) → WrittenUse v sets n seen walls (place ∷ places) u kind
write_use v len sets n seen walls place places u Reach fresh over named long agrees allows has = record {
  holds =
      flat_true v (λ p. set_at_place p u.entry.clauses) (place ∷ places)
      ∙ reach_true v len sets u.entry (place ∷ places) over long (all_on_to v true (set_over sets u.entry) (place ∷ places) allows);
  agrees = more_reach v sets n.sides seen walls (place ∷ places) u fresh agrees;
}
write_use v len sets n seen walls place places u Wall fresh over named long agrees allows has =
    let names = named_sides n.sides u.entry.uses in
    let set = set_over sets u.entry in
    let is : AllByRecursion (λ p. set (map v p) ≡ v n.free) (place ∷ places) =
    all_map (λ p. set (map v p) ≡ all_on true set (states_at v (place ∷ places))) (λ p. set (map v p) ≡ v n.free)
    (λ p e. e ∙ sym has.0) (place ∷ places) (wall_side v set (place ∷ places) allows)
    in
    let side : IsSideOf v u.entry.clauses names n.free (place ∷ places) =
    all_zip (λ p. set (map v p) ≡ v n.free)
    (λ p. list_all (literal_value v) names ≡ list_all (λ x. lies_on x.side (sets x.entry (map v p))) u.entry.uses)
    (λ p. (clauses_value (values_of (map v p)) u.entry.clauses && list_all (literal_value v) names) ≡ v n.free)
    (λ p a b. ap (λ x. clauses_value (values_of (map v p)) u.entry.clauses && x) b ∙ a)
    (place ∷ places) is (names_here v sets n.sides seen walls (place ∷ places) agrees u.entry.uses named)
    in
    record {
      holds = wall_true v len n.free names u.entry.clauses place places over long side has.1;
      agrees = more_wall v sets n.sides seen walls (place ∷ places) u n.free is agrees;
    }

pub record WrittenUses (v : ℕ → Bool) (sets : ℕ → State → Bool) (n : Numbering) (walls : List ℕ) (places : List (List ℕ)) (us : List Numbered) : Type 0 where
  pub holds : clauses_value v (uses_clauses places n us) ≡ true
  pub more : List ℕ
  pub agrees : Agrees v (sets_after sets us) (after_uses places n us).sides more (walls_among walls us) places

pub write_uses : (v : ℕ → Bool) (len : ℕ) (sets : ℕ → State → Bool) (n : Numbering) (seen walls : List ℕ) (place : List ℕ) (places : List (List ℕ)) (us : List Numbered) → AreReadable len seen walls us → AllByRecursion (λ p. length p ≡ len) (place ∷ places) → Agrees v sets n.sides seen walls (place ∷ places) → all_allow (sets_after sets us) us (states_at v (place ∷ places)) ≡ true → HasFrom v n.free (uses_values sets us (states_at v (place ∷ places))) → WrittenUses v sets n walls (place ∷ places) us
write_uses v len sets n seen walls place places [] readable long agrees allowed has = record { holds = refl; more = seen; agrees = agrees }
write_uses v len sets n seen walls place places (u ∷ us) readable long agrees allowed has =
    let kind = u.entry.kind in
    let all = place ∷ places in
    let states = states_at v (place ∷ places) in
    let after = after_use all n u kind in
    let final : sets_after (with_set sets u) us u.number ≡ set_over sets u.entry = λ i. λ s. first_kept len seen (walls_with kind u.number walls) u us sets readable.1 s i in
    let parts = and_parts (allows_by kind (sets_after (with_set sets u) us u.number) states) (all_allow (sets_after (with_set sets u) us) us states) allowed in
    let split = has-split v n.free (use_values sets u.entry kind states) (uses_values (with_set sets u) us states) has in
    let first = write_use v len sets n seen walls place places u kind readable.0.fresh readable.0.over readable.0.named long agrees (sym (ap (λ f. allows_by kind f states) final) ∙ parts.0) split.0 in
    let rest = write_uses v len (with_set sets u) after (u.number ∷ seen) (walls_with kind u.number walls) place places us readable.1 long first.agrees parts.1 (subst (λ x. HasFrom v x (uses_values (with_set sets u) us states)) (sym (reaches v sets n u kind all)) split.1) in
    record {
      holds = together v (use_clauses all n u.entry kind) (uses_clauses all after us) first.holds rest.holds;
      more = rest.more;
      agrees = rest.agrees;
    }

-- ---- an assignment with these values

chosen : (v : ℕ → Bool) (d : ℕ) (bs : List Bool) (n : ℕ) → (n < d) ⊎ (d ≤ n) → Bool
chosen v d bs n (inl below) = v n
chosen v d bs n (inr above) = get_or bs (n - d) false

-- v below d, and the values bs from d on
extended : (ℕ → Bool) → ℕ → List Bool → ℕ → Bool
extended v d bs n = chosen v d bs n (cases_lt n d)

chosen-below : (v : ℕ → Bool) (d : ℕ) (bs : List Bool) (n : ℕ) (x : (n < d) ⊎ (d ≤ n)) → n < d → chosen v d bs n x ≡ v n
unfolding chosen
chosen-below v d bs n (inl below) h = refl
chosen-below v d bs n (inr above) h = absurd (omega arith)

chosen-above : (v : ℕ → Bool) (d : ℕ) (bs : List Bool) (i : ℕ) (x : (d + i < d) ⊎ (d ≤ d + i)) → chosen v d bs (d + i) x ≡ get_or bs i false
unfolding chosen
chosen-above v d bs i (inl below) = absurd (omega arith)
chosen-above v d bs i (inr above) = let e : d + i - d ≡ i = omega arith in ap (λ k. get_or bs k false) e

has_at : (w : ℕ → Bool) (d : ℕ) (bs : List Bool) → ((i : ℕ) → i < length bs → w (d + i) ≡ get_or bs i false) → HasFrom w d bs
has_at w d [] h = tt
has_at w d (b ∷ bs) h = (
  sym (ap w (add-zero d)) ∙ h 0 (omega arith),
  has_at w (d + 1) bs (λ i below. let e : d + 1 + i ≡ d + suc i = omega arith in ap w e ∙ h (suc i) (omega arith)),
)

same_values : (w v : ℕ → Bool) (free : ℕ) → ((k : ℕ) → k < free → w k ≡ v k) → (place : List ℕ) → AllByRecursion (λ k. k < free) place → map w place ≡ map v place
same_values w v free h [] below = refl
same_values w v free h (k ∷ place) below = ap (λ x. x ∷ map w place) (h k below.0) ∙ ap (λ x. v k ∷ x) (same_values w v free h place below.1)

pub same_states : (w v : ℕ → Bool) (free : ℕ) → ((k : ℕ) → k < free → w k ≡ v k) → (places : List (List ℕ)) → AllByRecursion (λ p. AllByRecursion (λ k. k < free) p) places → states_at w places ≡ states_at v places
same_states w v free h [] below = refl
same_states w v free h (p ∷ places) below = ap (λ x. x ∷ states_at w places) (same_values w v free h p below.0) ∙ ap (λ x. map v p ∷ x) (same_states w v free h places below.1)

-- where the states at the places are allowed, an assignment that keeps them makes the clauses true
pub record Written (v : ℕ → Bool) (free : ℕ) (places : List (List ℕ)) (us : List Numbered) : Type 0 where
  pub value : ℕ → Bool
  pub keeps : (k : ℕ) → k < free → value k ≡ v k
  pub states : states_at value places ≡ states_at v places
  pub uses : WrittenUses value (λ n s. false) (free_from free) [] places us

-- before the first use
pub nothing : (w : ℕ → Bool) (places : List (List ℕ)) → Agrees w (λ n s. false) no_sides [] [] places
nothing w places = record {
  known = λ k there. let l : there.0 < 0 = there.1 in absurd (omega arith);
  only = λ k z e. let x : None ≡ Some z = e in absurd (cc);
  same = λ k z e. let x : None ≡ Some z = e in absurd (cc);
}

pub written : (len : ℕ) (us : List Numbered) (v : ℕ → Bool) (free : ℕ) (place : List ℕ) (places : List (List ℕ)) → AreReadable len [] [] us → AllByRecursion (λ p. length p ≡ len) (place ∷ places) → AllByRecursion (λ p. AllByRecursion (λ k. k < free) p) (place ∷ places) → allow us (states_at v (place ∷ places)) ≡ true → Written v free (place ∷ places) us
unfolding extended
written len us v free place places readable long below allowed =
    let none : ℕ → State → Bool = λ n s. false in
    let all = place ∷ places in
    let bs = uses_values none us (states_at v (place ∷ places)) in
    let w : ℕ → Bool = extended v free bs in
    let keeps : (k : ℕ) → k < free → w k ≡ v k = λ k b. chosen-below v free bs k (cases_lt k free) b in
    let states : states_at w (place ∷ places) ≡ states_at v (place ∷ places) = same_states w v free keeps (place ∷ places) below in
    let has : HasFrom w free bs = has_at w free bs (λ i b. chosen-above v free bs i (cases_lt (free + i) free)) in
    record {
      value = w;
      keeps = keeps;
      states = states;
      uses =
          write_uses w len none (free_from free) [] [] place places us readable long (nothing w (place ∷ places))
          (ap (λ ss. all_allow (sets_after none us) us ss) states ∙ allowed)
          (subst (λ ss. HasFrom w free (uses_values none us ss)) (sym states) has);
    }
