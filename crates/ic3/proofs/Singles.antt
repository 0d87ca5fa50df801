-- A set of one clause separates: it is the closed set of three frames.
use Rattle.std.proofs.Common.{◌≡◌, ℕ, zero, suc, ◌+◌, ◌<◌, Bool, true, false, ◌&&◌, ◌||◌, List, [], ◌∷◌, ◌++◌, map, length, get_or, refl, sym, ap, subst, ◌∙◌, Option, Some, None, IfSome, arith}
use Rattle.std.specs.List.{All}
use Rattle.std.proofs.lemmas.Bool.{and_parts, and_from}
use Rattle.std.proofs.lemmas.List.{length-map, get_or-map}
use Rattle.std.proofs.lemmas.List.Folds.{list_all-append}
use Rattle.std.proofs.lemmas.List.Elements.{All-nil, All-cons, All-append}
use Rattle.aig_semantics.specs.declared.traces.Position.{Position}
use Rattle.aig_semantics.specs.Circuits.{Circuit}
use Rattle.aig_semantics.specs.Runs.{successor}
use Rattle.proof_semantics.specs.declared.literals.Lit.{Lit}
use Rattle.proof_semantics.specs.Clauses.{literal_value, clause_value, clauses_value, cube_value, values_of}
use Rattle.fair_semantics.specs.declared.entries.Use.{Use}
use Rattle.fair_semantics.specs.Entries.{Entry}
use Rattle.fair_semantics.specs.Validity.{AreValid}
use Rattle.ic3_frames.specs.Frames.{frame_at}
use Rattle.ic3_frames.specs.Room.{allowed_by}
use Rattle.ic3_semantics.specs.declared.questions.Start.{Start}
use Rattle.ic3_semantics.specs.declared.questions.Goal.{Goal}
use Rattle.ic3_semantics.specs.declared.questions.Goal.TheVariants as goals
use Rattle.ic3_semantics.specs.declared.questions.Reached.{Reached}
use Rattle.ic3_semantics.specs.declared.questions.Reached.TheVariants.{Closed}
use Rattle.ic3_questions.specs.SteppingClauses.{own_uses}
use Rattle.ic3_semantics.specs.Searching.{Question, IsReached}
use Rattle.ic3_semantics.specs.Stepping.{Stepping, IsArenaStep, IsOver, no_lemmas}
use Rattle.ic3_loops.specs.Starting.{start_cube}
use Rattle.ic3_loops.specs.Sound.{IsStartCube, has_one_of, IsSound}
use Rattle.ic3_loops.specs.Single.{IsSingle, IsSingleOf}
use Rattle.ic3_semantics.specs.Searching.{CountsUpTo}
use Rattle.edge.specs.Units.{Spendings}
use Rattle.edge.specs.Ends.{CountsConflicts}
use Rattle.ic3_loops.proofs.Ended.{up_to_on, up_to_conflicts}
use Rattle.ic3_loops.proofs.Sounds.{Levels}
use Rattle.ic3_loops.proofs.Begins.{one_of}
use Rattle.ic3.specs.Searches.{IsOfOneLiteral}
use Rattle.ic3.proofs.Separating.{closed_reached}

-- ---- three frames: the starts, and the clause twice

abbrev unit : Lit → List Lit
unit l = l ∷ []

or_none : (a : Bool) → (a || false) ≡ a
or_none true = refl
or_none false = refl

units-value : (v : ℕ → Bool) (cube : List Lit) → clauses_value v (map unit cube) ≡ cube_value v cube
units-value v [] = refl
units-value v (l ∷ cube) =
    ap (λ b. b && clauses_value v (map unit cube)) (or_none (literal_value v l))
    ∙ ap (λ b. literal_value v l && b) (units-value v cube)

no_literal : Lit
no_literal = record { var = 0; positive = true }

all-units : (P : List Lit → Type 0) (cube : List Lit) → ((i : ℕ) → i < length cube → P (get_or cube i no_literal ∷ [])) → All P (map unit cube)
all-units P cube each = λ k d inside.
    let below : k < length cube = omega (arith, length-map cube unit, inside) in
    subst P (sym (get_or-map unit cube k no_literal d below)) (each k below)

abbrev levels_of : List Lit → List Lit → Levels
levels_of cube clause = map unit cube ∷ [] ∷ (clause ∷ []) ∷ []

module _ (q : Question) (cube clause : List Lit) (to : List Bool) (exact : IsStartCube q cube) (single : IsSingle q cube to clause) where
  stays : (p : Position) → IsArenaStep q p → clauses_value (values_of p.latches) (clause ∷ []) ≡ true
      → clauses_value (values_of (successor q.circuit p)) (clause ∷ []) ≡ true
  stays p arena h =
      and_from (clause_value (values_of (successor q.circuit p)) clause) true
      (single.kept p arena (and_parts (clause_value (values_of p.latches) clause) true h).0) refl

  lowest : (s : List Bool) → clauses_value (values_of s) (map unit cube ++ clause ∷ []) ≡ true
      → (clauses_value (values_of s) (map unit cube) ≡ true) × (clauses_value (values_of s) (clause ∷ []) ≡ true)
  lowest s h =
      and_parts (clauses_value (values_of s) (map unit cube)) (clauses_value (values_of s) (clause ∷ []))
      (sym (list_all-append (clause_value (values_of s)) (map unit cube) (clause ∷ [])) ∙ h)

  steps-on : (k : ℕ) (p : Position) → k + 1 < length (levels_of cube clause) → IsArenaStep q p → allowed_by (frame_at (levels_of cube clause) k) p.latches ≡ true
      → allowed_by (frame_at (levels_of cube clause) (k + 1)) (successor q.circuit p) ≡ true
  steps-on zero p below arena h = stays p arena (lowest p.latches h).1
  steps-on (suc zero) p below arena h = stays p arena h
  steps-on (suc (suc k)) p below arena h = absurd (omega (arith, below))

  are-sound : IsSound q cube (levels_of cube clause)
  are-sound =
      let n : ℕ = length q.circuit.latches in
      let Based : List Lit → Type 0 = λ x. has_one_of cube x ≡ true in
      record {
        over =
            All-append (IsOver n) (map unit cube) (clause ∷ [])
            (all-units (IsOver n) cube (λ i below.
            All-cons (λ (l : Lit). l.var < n) (get_or cube i no_literal) [] (exact.over i no_literal below) (All-nil (λ (l : Lit). l.var < n))))
            (All-cons (IsOver n) clause [] single.over (All-nil (IsOver n)));
        based =
            All-append Based (map unit cube) (clause ∷ []) (all-units Based cube (λ i below. one_of cube i no_literal below))
            (All-cons Based clause [] single.based (All-nil Based));
        starts = λ s size h. (exact.exactly s).1 (size, sym (units-value (values_of s) cube) ∙ (lowest s h).0);
        steps = steps-on;
      }

-- A single clause separates.
pub single-reached : (c : Circuit) (view : List Entry) (start : Start) (goal : Goal) (cube clause : List Lit) (r : Reached)
    → AreValid c view → cube ≡ start_cube c start → IsStartCube (record { circuit = c; view = view; start = start }) cube
    → IsSingleOf (record { circuit = c; view = view; start = start }) cube goal clause
    → r ≡ Closed (clause ∷ []) (own_uses view start) → IsReached (record { circuit = c; view = view; start = start }) goal r
single-reached c view start (goals.State to) cube clause r valid is exact single answer =
    let q : Question = record { circuit = c; view = view; start = start } in
    closed_reached c view start (goals.State to) cube (levels_of cube clause) 1 r valid is exact
    (are-sound q cube clause to.now exact single)
    (record { below = omega arith; same = refl; misses = ap (λ b. b && true) single.breaks }) answer
single-reached c view start (goals.Literal literal avoid) cube clause r valid is exact single answer = absurd single

-- ---- its one literal

one-literal : (clause : List Lit) → length clause ≡ 1 → (l : Lit) × (clause ≡ l ∷ [])
one-literal [] e = absurd (omega (arith, e))
one-literal (l ∷ []) e = (l, refl)
one-literal (l ∷ m ∷ clause) e = absurd (omega (arith, e))

pub of-one-literal : (clause : List Lit) (uses : List Use) (r : Reached) → length clause ≡ 1 → r ≡ Closed (clause ∷ []) uses → IsOfOneLiteral r
of-one-literal clause uses r one is =
    let h : (l : Lit) × (clause ≡ l ∷ []) = one-literal clause one in
    (h.0, (uses, is ∙ ap (λ x. Closed (x ∷ []) uses) h.1))

pub if-some : (P Q : Reached → Type 0) (found : Option Reached) → ((r : Reached) → P r → Q r) → IfSome found P → IfSome found Q
if-some P Q None more h = tt
if-some P Q (Some r) more h = more r h

-- ---- what it leaves to the frames

pub kept-none : (q : Question) (avoid : List (List Lit)) (st : Stepping) → st ≡ no_lemmas q avoid → st ≡ no_lemmas q st.avoid
kept-none q avoid st is = is ∙ ap (no_lemmas q) (sym (ap (λ (s : Stepping). s.avoid) is))

pub counts-behind : (most : ℕ) (a b c : Spendings) → CountsConflicts a b → CountsUpTo most b c → CountsUpTo most a c
counts-behind most a b c first second =
    up_to_on most most a b c (up_to_conflicts most a b first) (let same = first.steps in omega (arith, same)) second
