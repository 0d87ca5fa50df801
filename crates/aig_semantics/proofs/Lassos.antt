-- Steps towards the worked rows: parts of lassos, by tests that compute.
use Rattle.std.proofs.Common.{◌≡◌, ℕ, zero, suc, ◌-◌, Bool, true, List, [], ◌∷◌, length, drop, arith, sym, ap, ◌∙◌}
use Rattle.std.specs.Prelude.{Some, slice_get, IsTrue}
use Rattle.std.specs.List.{Any, list_all, list_any}
use Rattle.std.proofs.lemmas.List.Elements.{All-weaker}
use Rattle.std.proofs.lemmas.List.Folds.{Any-from_list_any, list_any-from_Any}
use Rattle.std.proofs.lemmas.List.Sums.{AllPass-from_list_all, list_all-from_AllPass}
use Rattle.aig_semantics.specs.declared.traces.Position.{Position}
use Rattle.aig_semantics.specs.Circuits.{Circuit, fair_literals}
use Rattle.aig_semantics.specs.Runs.{literal_at, successor, MeetsConstraints, MeetsFairness, ClosesAt}

-- a position of the circuit's lengths at which the test of the constraints passes
pub constraints-met : (c : Circuit) (p : Position)
    → length p.latches ≡ length c.latches → length p.inputs ≡ length c.inputs
    → list_all (literal_at c p) c.constraints ≡ true → MeetsConstraints c p
constraints-met c p latches inputs test = record {
  position = record { latches = latches; inputs = inputs };
  constraints = AllPass-from_list_all (literal_at c p) c.constraints test;
}

pub constraints-tested : (c : Circuit) (p : Position) → MeetsConstraints c p → list_all (literal_at c p) c.constraints ≡ true
constraints-tested c p h = list_all-from_AllPass (literal_at c p) c.constraints h.constraints

-- whether each literal of the property and of fairness is true somewhere
abbrev pub fairness_test : Circuit → ℕ → List Position → Bool
fairness_test c j positions = list_all (λ literal. list_any (λ p. literal_at c p literal) positions) (fair_literals c j)

pub fairness-met : (c : Circuit) (j : ℕ) (positions : List Position) → fairness_test c j positions ≡ true → MeetsFairness c j positions
fairness-met c j positions test =
    All-weaker _ _ (λ literal h. Any-from_list_any (λ p. literal_at c p literal) positions h) (fair_literals c j)
    (AllPass-from_list_all (λ literal. list_any (λ p. literal_at c p literal) positions) (fair_literals c j) test)

pub fairness-tested : (c : Circuit) (j : ℕ) (positions : List Position) → MeetsFairness c j positions → fairness_test c j positions ≡ true
fairness-tested c j positions h =
    list_all-from_AllPass (λ literal. list_any (λ p. literal_at c p literal) positions) (fair_literals c j)
    (All-weaker _ _ (λ literal h. list_any-from_Any (λ p. literal_at c p literal) positions h) (fair_literals c j) h)

-- what closing says of the positions that stand at the place and at the end
pub closes-between : (c : Circuit) (run : List Position) (from : ℕ) (a b : Position)
    → slice_get run from ≡ Some a → slice_get run (length run - 1) ≡ Some b → ClosesAt c run from → successor c b ≡ a.latches
closes-between c run from a b first last h =
    let same_first : h.first ≡ a = cc in
    let same_last : h.last ≡ b = cc in
    let at_last : successor c b ≡ successor c h.last = ap (successor c) (sym same_last) in
    at_last ∙ h.closes ∙ ap (λ p. p.latches) same_first

-- what is met on the loop is met on the whole run
Any-later : {X : Type 0} (P : X → Type 0) (x : X) (xs : List X) → Any P xs → Any P (x ∷ xs)
Any-later P x xs (k, y, inside, at, h) = (suc k, y, omega arith, at, h)

Any-of_drop : {X : Type 0} (P : X → Type 0) (k : ℕ) (xs : List X) → Any P (drop k xs) → Any P xs
Any-of_drop P zero xs h = h
Any-of_drop P (suc k) [] h = h
Any-of_drop P (suc k) (x ∷ xs) h = Any-later P x xs (Any-of_drop P k xs h)

pub fairness-of_drop : (c : Circuit) (j k : ℕ) (positions : List Position) → MeetsFairness c j (drop k positions) → MeetsFairness c j positions
fairness-of_drop c j k positions h =
    All-weaker _ _ (λ literal some. Any-of_drop (λ p. IsTrue (literal_at c p literal)) k positions some) (fair_literals c j) h
