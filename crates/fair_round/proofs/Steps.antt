-- What the answers of the search for a path come to for a skeleton: runs that fit it, or entries that exclude it.
use Rattle.std.proofs.Common.{◌≡◌, ◌≢◌, ℕ, ◌%◌, max, zero, suc, ◌+◌, ◌-◌, ◌*◌, ◌<◌, ◌≤◌, Bool, true, false, List, [], ◌∷◌, ◌++◌, inl, inr, map, length, get_or, set, refl, sym, ap, ◌∙◌, subst, IsTrue, arith}
use Rattle.std.specs.List.{list_any, flat_map, All}
use Rattle.std.proofs.lemmas.List.{same_from_push, get_or-map, map-set, get_or-set_same, get_or-set_other, length-set, get_or_append_left, get_or-append-add, length-append}
use Rattle.std.proofs.Math.Nat.{mod_self, mod-eq_of_lt}
use Rattle.std.proofs.Math.Seq.{get_or-append_seam}
use Rattle.std.proofs.lemmas.Bool.{cases_lt}
use Rattle.std.proofs.lemmas.List.Elements.{All-nil, All-get_or}
use Rattle.aig_semantics.specs.declared.traces.Position.{Position}
use Rattle.aig_semantics.specs.Circuits.{Circuit, fair_literals, IsWithinLimits}
use Rattle.aig_semantics.specs.Runs.{literal_at, successor}
use Rattle.proof_semantics.specs.declared.literals.Lit.{Lit}
use Rattle.proof_semantics.specs.Clauses.{has_literal, cube_value, values_of}
use Rattle.fair_semantics.specs.declared.entries.Kind.TheVariants.{Reach, Wall}
use Rattle.fair_semantics.specs.declared.entries.Use.{Use}
use Rattle.fair_semantics.specs.declared.skeletons.Situation.{Situation}
use Rattle.fair_semantics.specs.States.{initial_cube}
use Rattle.fair_semantics.specs.Entries.{Entry}
use Rattle.fair_semantics.specs.Skeletons.{states_of, IsSituation, IsSkeleton}
use Rattle.fair_semantics.specs.Validity.{set_behind, IsValid}
use Rattle.cnf_unroll.specs.Laws.{AreOver}
use Rattle.lasso_join.specs.Fitting.{LeadsTo, IsStemTo, Fit}
use Rattle.ic3_semantics.specs.declared.questions.Start.TheVariants.{Initial, State}
use Rattle.ic3_semantics.specs.declared.questions.Goal.{Goal}
use Rattle.ic3_semantics.specs.declared.questions.Reached.{Reached}
use Rattle.ic3_semantics.specs.declared.questions.Reached.TheVariants.{Path, Closed}
use Rattle.ic3_semantics.specs.Arenas.{in_arena}
use Rattle.ic3_semantics.specs.Searching.{Question, IsPath, IsPathTo, IsPathToLiteral, MeetsLiteral, IsReached, Separates, closed_entry}
use Rattle.skeleton.specs.Finding.{IsAllowed}
use Rattle.entry.proofs.Faultless.{base-swap}
use Rattle.fair_round.specs.declared.walking.Advance.{Advance}
use Rattle.fair_round.specs.declared.walking.Advance.TheVariants as advances
use Rattle.fair_round.specs.declared.ways.Way.{Way}
use Rattle.fair_round.specs.declared.ways.Way.TheVariants as ways
use Rattle.fair_round.specs.Walks.{Excludes, IsWay, IsPieceOf, Moves, IsAdvanceTo, AreWalked, skeleton_of, states, successors}
use Rattle.fair_round.proofs.Allowed.{IsAmong, state-among, successor-among, wall-excludes, reach-excludes, last-excludes}
use Rattle.fair_round.proofs.Walks.{step-allowed, place-in_arena, step-skeleton, true-at, leads-to, leads-front}

-- ---- answers

pub path-part : (q : Question) (goal : Goal) (reached : Reached) (positions : List Position) → reached ≡ Path positions
    → IsReached q goal reached → IsPath q goal positions
path-part q goal reached positions e h = subst (IsReached q goal) e h

pub closed-part : (q : Question) (goal : Goal) (reached : Reached) (clauses : List (List Lit)) (uses : List Use)
    → reached ≡ Closed clauses uses → IsReached q goal reached → Separates q goal (closed_entry q.start clauses uses)
closed-part q goal reached clauses uses e h = let k : IsReached q goal (Closed clauses uses) = subst (IsReached q goal) e h in k.0

-- ---- places

pub state-at : (situations : List Situation) (k : ℕ) (d : Situation) → k < length situations
    → (get_or situations k d).position.latches ≡ get_or (states situations) k []
state-at situations k d inside = sym (get_or-map (λ (s : Situation). s.position.latches) situations k d [] inside)

pub successor-at : (situations : List Situation) (k : ℕ) (d : Situation) → k < length situations
    → (get_or situations k d).successor ≡ get_or (successors situations) k []
successor-at situations k d inside = sym (get_or-map (λ (s : Situation). s.successor) situations k d [] inside)

-- ---- the stem

pub stem-path : (c : Circuit) (view : List Entry) (t : List Bool) (positions : List Position)
    → IsPathTo (record { circuit = c; view = view; start = Initial }) t positions → IsStemTo c t positions
stem-path c view t positions h = record {
  start = h.from;
  is_initial = h.starts;
  leads = leads-to (record { circuit = c; view = view; start = Initial }) h.from t positions h.leads;
}

pub stem-barred : (c : Circuit) (view : List Entry) (situations : List Situation) (t : List Bool) (clauses : List (List Lit)) (uses : List Use)
    → 0 < length situations → t ≡ get_or (states situations) 0 []
    → AreOver (length c.latches) clauses → IsValid c view (record { kind = Reach; clauses = clauses; uses = uses })
    → All (λ clause. list_any (has_literal clause) (initial_cube c) ≡ true) clauses
    → set_behind view (record { kind = Reach; clauses = clauses; uses = uses }) t ≡ false
    → Excludes c view (record { kind = Reach; clauses = clauses; uses = uses }) (skeleton_of situations)
stem-barred c view situations t clauses uses some at over valid base misses =
    let e : Entry = record { kind = Reach; clauses = clauses; uses = uses } in
    let among : IsAmong t (states_of situations) = subst (λ s. IsAmong s (states_of situations)) (sym at) (state-among situations 0 some) in
    record {
      over = over;
      valid = valid;
      base = λ _. base-swap c clauses base;
      apart = last-excludes view e (skeleton_of situations) (reach-excludes (set_behind view e) (states_of situations) t among misses);
    }

-- ---- walls

reach-is-no-wall : Wall ≡ Reach → ⊥
reach-is-no-wall e = cc

pub wall-barred : (c : Circuit) (view : List Entry) (situations : List Situation) (s t : List Bool) (clauses : List (List Lit)) (uses : List Use)
    → IsAmong s (states_of situations) → IsAmong t (states_of situations)
    → AreOver (length c.latches) clauses → IsValid c view (record { kind = Wall; clauses = clauses; uses = uses })
    → set_behind view (record { kind = Wall; clauses = clauses; uses = uses }) s ≡ true
    → set_behind view (record { kind = Wall; clauses = clauses; uses = uses }) t ≡ false
    → Excludes c view (record { kind = Wall; clauses = clauses; uses = uses }) (skeleton_of situations)
wall-barred c view situations s t clauses uses first second over valid inside outside =
    let e : Entry = record { kind = Wall; clauses = clauses; uses = uses } in
    record {
      over = over;
      valid = valid;
      base = λ is_reach. absurd (reach-is-no-wall is_reach);
      apart = last-excludes view e (skeleton_of situations)
          (wall-excludes (set_behind view e) (states_of situations) s t first second inside outside);
    }

-- ---- a step

pub way-path : (c : Circuit) (view : List Entry) (s t : List Bool) (positions : List Position)
    → IsPathTo (record { circuit = c; view = view; start = State s }) t positions → LeadsTo c s t positions
way-path c view s t positions h =
    subst (λ u. LeadsTo c u t positions) h.starts (leads-to (record { circuit = c; view = view; start = State s }) h.from t positions h.leads)

-- the last of the positions is the situation's
pub step-path : (c : Circuit) (j : ℕ) (view : List Entry) (situations : List Situation) (k : ℕ) (s : List Bool) (literal : ℕ) (avoid : List (List Lit))
    (positions before : List Position) (to : Situation) → IsAllowed c j view (skeleton_of situations) → 0 < k → k < length situations
    → s ≡ get_or (successors situations) (k - 1) [] → literal ≡ get_or (fair_literals c j) k 0
    → IsPathToLiteral (record { circuit = c; view = view; start = State s }) literal avoid positions
    → positions ≡ before ++ to.position ∷ [] → to.successor ≡ successor c to.position → Moves c view j situations k before to
step-path c j view situations k s literal avoid positions before to is behind inside at is_literal h ends next =
    let q : Question = record { circuit = c; view = view; start = State s } in
    let same = same_from_push h.before before h.last to.position (sym h.is_last ∙ ends) in
    let meets : MeetsLiteral q literal avoid to.position = subst (MeetsLiteral q literal avoid) same.1 h.meets in
    let path : IsPathTo q (successor c h.last) positions = h.path in
    let whole = subst (λ (xs : List Position). IsPathTo q (successor c h.last) xs) ends path in
    let leads : LeadsTo c whole.from to.position.latches before = leads-front q whole.from (successor c h.last) before to.position whole.leads in
    let among : IsAmong s (states_of situations) =
    subst (λ u. IsAmong u (states_of situations)) (sym at) (successor-among situations (k - 1) (omega arith))
    in
    let there : in_arena view (State s) to.successor ≡ true = ap (in_arena view (State s)) next ∙ meets.next in
    let here : IsSituation c to = record { possible = meets.possible; next = next } in
    record {
      leads = subst (λ u. LeadsTo c u to.position.latches before) (whole.starts ∙ at) leads;
      allowed = record {
        skeleton = step-skeleton c j situations k to is.skeleton here
            (λ _. subst (λ (l : ℕ). IsTrue (literal_at c to.position l)) is_literal meets.holds);
        allowed = step-allowed view situations k to s among is.allowed meets.state there;
      };
    }

pub step-of : (c : Circuit) (j : ℕ) (view : List Entry) (situations : List Situation) (k : ℕ) (s : List Bool) (literal : ℕ) (avoid : List (List Lit))
    (positions : List Position) (step : Advance) → IsAllowed c j view (skeleton_of situations) → 0 < k → k < length situations
    → s ≡ get_or (successors situations) (k - 1) [] → literal ≡ get_or (fair_literals c j) k 0
    → IsPathToLiteral (record { circuit = c; view = view; start = State s }) literal avoid positions
    → IsPieceOf c positions step → IsAdvanceTo c view j situations k step
step-of c j view situations k s literal avoid positions (advances.Piece before to) is behind inside at is_literal h piece =
    step-path c j view situations k s literal avoid positions before to is behind inside at is_literal h piece.0 piece.1
step-of c j view situations k s literal avoid positions (advances.Barred bar) is behind inside at is_literal h piece = absurd piece

-- the situation's state lies outside the cube
abbrev Avoids : Situation → List Lit → Type 0
Avoids x cube = cube_value (values_of x.position.latches) cube ≡ false

no-situation : Situation
no-situation = record { position = record { latches = []; inputs = [] }; successor = [] }

behind-max : (k n m : ℕ) → 0 < k → k < n → n ≡ max 1 m → k < m
behind-max k n m behind inside e = grind (arith)

pub literals-behind : (c : Circuit) (j : ℕ) (situations : List Situation) (k : ℕ) → IsSkeleton c j (skeleton_of situations) → 0 < k
    → k < length situations → k < length (fair_literals c j)
literals-behind c j situations k is behind inside = behind-max k (length situations) (length (fair_literals c j)) behind inside is.size

-- the skeleton's own situation meets the literal, so the set does not hold its state
pub step-barred : (c : Circuit) (j : ℕ) (view : List Entry) (situations : List Situation) (k : ℕ) (s : List Bool) (literal : ℕ) (avoid : List (List Lit))
    (clauses : List (List Lit)) (uses : List Use) → IsAllowed c j view (skeleton_of situations) → 0 < k → k < length situations
    → k < length (fair_literals c j) → s ≡ get_or (successors situations) (k - 1) [] → literal ≡ get_or (fair_literals c j) k 0 → avoid ≡ []
    → AreOver (length c.latches) clauses → IsValid c view (record { kind = Wall; clauses = clauses; uses = uses })
    → ((u : List Bool) → u ≡ s → set_behind view (record { kind = Wall; clauses = clauses; uses = uses }) u ≡ true)
    → ((p : Position) → MeetsLiteral (record { circuit = c; view = view; start = State s }) literal avoid p
    → set_behind view (record { kind = Wall; clauses = clauses; uses = uses }) p.latches ≡ false)
    → Excludes c view (record { kind = Wall; clauses = clauses; uses = uses }) (skeleton_of situations)
step-barred c j view situations k s literal avoid clauses uses is behind inside has at is_literal none over valid holds misses =
    let d : Situation = no-situation in
    let x : Situation = get_or situations k d in
    let here : IsSituation c x = All-get_or (IsSituation c) situations k d inside is.skeleton.situations in
    let from : IsAmong s (states_of situations) =
    subst (λ u. IsAmong u (states_of situations)) (sym at) (successor-among situations (k - 1) (omega arith))
    in
    let state : IsAmong x.position.latches (states_of situations) =
    subst (λ u. IsAmong u (states_of situations)) (get_or-map (λ (s : Situation). s.position.latches) situations k d [] inside)
    (state-among situations k inside)
    in
    let next : IsAmong x.successor (states_of situations) =
    subst (λ u. IsAmong u (states_of situations)) (get_or-map (λ (s : Situation). s.successor) situations k d [] inside)
    (successor-among situations k inside)
    in
    let meets : MeetsLiteral (record { circuit = c; view = view; start = State s }) literal avoid x.position = record {
      possible = here.possible;
      holds = subst (λ (l : ℕ). IsTrue (literal_at c x.position l)) (sym is_literal)
          (true-at c (fair_literals c j) situations k d has is.skeleton.fair);
      avoids = subst (λ (cubes : List (List Lit)). All (Avoids x) cubes) (sym none) (All-nil (Avoids x));
      state = place-in_arena view (states_of situations) s x.position.latches from state is.allowed;
      next = ap (in_arena view (State s)) (sym here.next) ∙ place-in_arena view (states_of situations) s x.successor from next is.allowed;
    } in
    wall-barred c view situations s x.position.latches clauses uses from state over valid (holds s refl) (misses x.position meets)

pub closing-barred : (c : Circuit) (view : List Entry) (situations : List Situation) (s t : List Bool) (clauses : List (List Lit)) (uses : List Use)
    → 0 < length situations → s ≡ get_or (successors situations) (length situations - 1) [] → t ≡ get_or (states situations) 0 []
    → AreOver (length c.latches) clauses → IsValid c view (record { kind = Wall; clauses = clauses; uses = uses })
    → ((u : List Bool) → u ≡ s → set_behind view (record { kind = Wall; clauses = clauses; uses = uses }) u ≡ true)
    → set_behind view (record { kind = Wall; clauses = clauses; uses = uses }) t ≡ false
    → Excludes c view (record { kind = Wall; clauses = clauses; uses = uses }) (skeleton_of situations)
closing-barred c view situations s t clauses uses some last first over valid holds misses =
    wall-barred c view situations s t clauses uses
    (subst (λ u. IsAmong u (states_of situations)) (sym last) (successor-among situations (length situations - 1) (omega arith)))
    (subst (λ u. IsAmong u (states_of situations)) (sym first) (state-among situations 0 some)) over valid (holds s refl) misses

-- ---- literals

pub all-left : {X : Type 0} (P : X → Type 0) (xs ys : List X) → All P (xs ++ ys) → All P xs
all-left P xs ys h = λ k d below.
    subst P (get_or_append_left xs ys d k below) (h k d (omega (arith, below, length-append xs ys)))

all-right : {X : Type 0} (P : X → Type 0) (xs ys : List X) → All P (xs ++ ys) → All P ys
all-right P xs ys h = λ k d below.
    subst P (get_or-append-add xs ys k d) (h (length xs + k) d (omega (arith, below, length-append xs ys)))

all-in : (P : ℕ → Type 0) (lists : List (List ℕ)) (j : ℕ) → j < length lists → All P (flat_map (λ p. p) lists) → All P (get_or lists j [])
all-in P [] j below h = absurd (omega arith)
all-in P (xs ∷ lists) zero below h = all-left P xs (flat_map (λ p. p) lists) h
all-in P (xs ∷ lists) (suc j) below h = all-in P lists j (omega arith) (all-right P xs (flat_map (λ p. p) lists) h)

pub own-in_range : (c : Circuit) (j k : ℕ) (own : List ℕ) → IsWithinLimits c → j < length c.justice → own ≡ get_or c.justice j [] → k < length own
    → get_or own k 0 ≤ 2 * c.max + 1
own-in_range c j k own limits there e below =
    let P : ℕ → Type 0 = λ l. l ≤ 2 * c.max + 1 in
    let front : List ℕ = map (λ latch. latch.next) c.latches ++ flat_map (λ gate. gate.rhs0 ∷ gate.rhs1 ∷ []) c.gates ++ c.constraints in
    let middle = all-left P (front ++ flat_map (λ property. property) c.justice) c.fairness limits.literals in
    let all = all-in P c.justice j there (all-right P front (flat_map (λ property. property) c.justice) middle) in
    let own_all : All P own = subst (All P) (sym e) all in
    own_all k 0 below

pub fairness-in_range : (c : Circuit) (k : ℕ) (fairness : List ℕ) → IsWithinLimits c → fairness ≡ c.fairness → k < length fairness
    → get_or fairness k 0 ≤ 2 * c.max + 1
fairness-in_range c k fairness limits e below =
    let P : ℕ → Type 0 = λ l. l ≤ 2 * c.max + 1 in
    let front : List ℕ = map (λ latch. latch.next) c.latches ++ flat_map (λ gate. gate.rhs0 ∷ gate.rhs1 ∷ []) c.gates ++ c.constraints in
    let all = all-right P (front ++ flat_map (λ property. property) c.justice) c.fairness limits.literals in
    let own_all : All P fairness = subst (All P) (sym e) all in
    own_all k 0 below

-- ---- the walk

pub walked-on : (c : Circuit) (j : ℕ) (view : List Entry) (situations : List Situation) (k n : ℕ) (pieces : List (List Position))
    (before : List Position) (to : Situation) → 0 < k → k < length situations → n ≡ k → AreWalked c situations (k - 1) pieces
    → Moves c view j situations k before to → AreWalked c (set situations k to) n (pieces ++ before ∷ [])
walked-on c j view situations k n pieces before to behind inside is_k h moves =
    let afters : List (List Bool) = successors (set situations k to) in
    let froms : List (List Bool) = states (set situations k to) in
    let all : List (List Position) = pieces ++ before ∷ [] in
    let after_is : (i : ℕ) → i ≢ k → get_or afters i [] ≡ get_or (successors situations) i [] = λ i other.
    ap (λ xs. get_or xs i []) (map-set (λ (s : Situation). s.successor) situations k to)
    ∙ get_or-set_other (successors situations) k i to.successor [] other
    in
    let from_is : (i : ℕ) → i ≢ k → get_or froms i [] ≡ get_or (states situations) i [] = λ i other.
    ap (λ xs. get_or xs i []) (map-set (λ (s : Situation). s.position.latches) situations k to)
    ∙ get_or-set_other (states situations) k i to.position.latches [] other
    in
    let to_is : get_or froms k [] ≡ to.position.latches =
    get_or-map (λ (s : Situation). s.position.latches) (set situations k to) k to [] (omega (arith, length-set situations k to))
    ∙ ap (λ (s : Situation). s.position.latches) (get_or-set_same situations k to to inside)
    in
    record {
      count = omega (arith, length-append pieces (before ∷ []), h.count);
      lead = λ i below.
          elim (cases_lt i (k - 1)) [
            | inl earlier ↦
                let piece : get_or all i [] ≡ get_or pieces i [] = get_or_append_left pieces (before ∷ []) [] i (omega (arith, h.count)) in
                subst (λ p. LeadsTo c (get_or afters i []) (get_or froms (i + 1) []) p) (sym piece)
                (subst (λ t. LeadsTo c (get_or afters i []) t (get_or pieces i [])) (sym (from_is (i + 1) (λ e. omega arith)))
                (subst (λ s. LeadsTo c s (get_or (states situations) (i + 1) []) (get_or pieces i [])) (sym (after_is i (λ e. omega arith)))
                (h.lead i earlier)))
            | inr late ↦
                let last : i ≡ k - 1 = omega arith in
                let size : i ≡ length pieces = omega (arith, h.count) in
                let next : i + 1 ≡ k = omega arith in
                let piece : get_or all i [] ≡ before = ap (λ m. get_or all m []) size ∙ get_or-append_seam pieces before [] [] in
                subst (λ p. LeadsTo c (get_or afters i []) (get_or froms (i + 1) []) p) (sym piece)
                (subst (λ t. LeadsTo c (get_or afters i []) t before) (sym (ap (λ m. get_or froms m []) next ∙ to_is))
                (subst (λ s. LeadsTo c s to.position.latches before)
                (sym (after_is i (λ e. omega arith) ∙ ap (λ m. get_or (successors situations) m []) last)) moves.leads))
          ];
    }

pub first-stays : (situations : List Situation) (k : ℕ) (to : Situation) → 0 < k
    → get_or (states (set situations k to)) 0 [] ≡ get_or (states situations) 0 []
first-stays situations k to behind =
    ap (λ xs. get_or xs 0 []) (map-set (λ (s : Situation). s.position.latches) situations k to)
    ∙ get_or-set_other (states situations) k 0 to.position.latches [] (λ e. omega arith)

-- ---- the whole

pub fit-of : (c : Circuit) (situations : List Situation) (stem last : List Position) (pieces all : List (List Position)) → 0 < length situations
    → IsStemTo c (get_or (states situations) 0 []) stem → AreWalked c situations (length situations - 1) pieces
    → LeadsTo c (get_or (successors situations) (length situations - 1) []) (get_or (states situations) 0 []) last
    → all ≡ pieces ++ last ∷ [] → Fit c stem (skeleton_of situations) all
fit-of c situations stem last pieces all some begun walked closes is_all =
    let n : ℕ = length situations in
    let size : length all ≡ n = omega (arith, ap length is_all, length-append pieces (last ∷ []), walked.count, some) in
    record {
      stem_leads = begun;
      count = size;
      pieces_lead = λ i below.
          let at : get_or all i [] ≡ get_or (pieces ++ last ∷ []) i [] = ap (λ xs. get_or xs i []) is_all in
          elim (cases_lt i (n - 1)) [
            | inl earlier ↦
                let place : (i + 1) % length all ≡ i + 1 = mod-eq_of_lt (omega arith) in
                let piece : get_or all i [] ≡ get_or pieces i [] = at ∙ get_or_append_left pieces (last ∷ []) [] i (omega (arith, walked.count)) in
                subst (λ p. LeadsTo c (get_or (successors situations) i []) (get_or (states situations) ((i + 1) % length all) []) p) (sym piece)
                (subst (λ m. LeadsTo c (get_or (successors situations) i []) (get_or (states situations) m []) (get_or pieces i [])) (sym place)
                (walked.lead i earlier))
            | inr late ↦
                let end : i ≡ n - 1 = omega arith in
                let next : i + 1 ≡ length all = omega arith in
                let place : (i + 1) % length all ≡ 0 = ap (λ m. m % length all) next ∙ mod_self (length all) in
                let is_last : i ≡ length pieces = omega (arith, walked.count) in
                let piece : get_or all i [] ≡ last = at ∙ ap (λ m. get_or (pieces ++ last ∷ []) m []) is_last ∙ get_or-append_seam pieces last [] [] in
                subst (λ p. LeadsTo c (get_or (successors situations) i []) (get_or (states situations) ((i + 1) % length all) []) p) (sym piece)
                (subst (λ m. LeadsTo c (get_or (successors situations) i []) (get_or (states situations) m []) last) (sym place)
                (subst (λ m. LeadsTo c (get_or (successors situations) m []) (get_or (states situations) 0 []) last) (sym end) closes))
          ];
    }

pub piece-part : (c : Circuit) (view : List Entry) (j : ℕ) (xs ys : List Situation) (k : ℕ) (step : Advance) (before : List Position) (to : Situation)
    → ys ≡ xs → step ≡ advances.Piece before to → IsAdvanceTo c view j ys k step → Moves c view j xs k before to
piece-part c view j xs ys k step before to same e h =
    let there : IsAdvanceTo c view j xs k step = subst (λ zs. IsAdvanceTo c view j zs k step) same h in
    subst (IsAdvanceTo c view j xs k) e there

pub way-part : (c : Circuit) (view : List Entry) (xs ys : List Situation) (way : Way) (positions : List Position) → ys ≡ xs → way ≡ ways.Open positions
    → IsWay c view (get_or (successors ys) (length ys - 1) []) (get_or (states ys) 0 []) ys way
    → LeadsTo c (get_or (successors xs) (length xs - 1) []) (get_or (states xs) 0 []) positions
way-part c view xs ys way positions same e h =
    let there = subst (λ (zs : List Situation). IsWay c view (get_or (successors zs) (length zs - 1) []) (get_or (states zs) 0 []) zs way) same h in
    subst (IsWay c view (get_or (successors xs) (length xs - 1) []) (get_or (states xs) 0 []) xs) e there
