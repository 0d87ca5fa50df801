-- Stems by the search from the initial states.
use Rattle.std.proofs.Common.{◌≡◌, ℕ, ◌<◌, Bool, true, false, List, [], ◌∷◌, length, get_or, refl, sym, ap, ◌∙◌, subst, IsTrue}
use Rattle.std.specs.List.{All, list_all, list_any}
use Rattle.std.proofs.lemmas.Bool.{and_from, and_parts}
use Rattle.std.proofs.lemmas.List.{get_or-map}
use Rattle.std.proofs.lemmas.List.Elements.{All-get_or, All-weaker}
use Rattle.aig_semantics.specs.declared.traces.Position.{Position}
use Rattle.aig_semantics.specs.Circuits.{Circuit, fair_literals}
use Rattle.aig_semantics.specs.Runs.{literal_at, successor}
use Rattle.proof_semantics.specs.declared.literals.Lit.{Lit}
use Rattle.proof_semantics.specs.Clauses.{bool_eq, has_literal, cube_value, values_of}
use Rattle.fair_semantics.specs.declared.entries.Kind.{Kind}
use Rattle.fair_semantics.specs.declared.entries.Kind.TheVariants.{Reach, Wall}
use Rattle.fair_semantics.specs.declared.entries.Use.{Use}
use Rattle.fair_semantics.specs.declared.skeletons.Situation.{Situation}
use Rattle.fair_semantics.specs.States.{initial_cube}
use Rattle.fair_semantics.specs.Allowing.{allows_by, all_allow, allow}
use Rattle.fair_semantics.specs.Entries.{Entry, Numbered, numbered, set_at}
use Rattle.fair_semantics.specs.Skeletons.{states_of, IsSituation}
use Rattle.fair_semantics.specs.Validity.{set_behind, IsValid}
use Rattle.cnf_unroll.specs.Laws.{AreOver}
use Rattle.lasso_join.proofs.Joined.{some-situation}
use Rattle.ic3_semantics.specs.declared.questions.Start.TheVariants.{Initial}
use Rattle.ic3_semantics.specs.Arenas.{in_arena, keeps_to}
use Rattle.ic3_semantics.specs.Searching.{IsPathToLiteral, MeetsLiteral}
use Rattle.skeleton.specs.Finding.{IsAllowed, BeginsNone}
use Rattle.fair_round.specs.Walks.{Excludes, skeleton_of, states}
use Rattle.fair_round.specs.Pools.{IsReachedRun}
use Rattle.fair_round.proofs.Allowed.{IsAmong, state-among, successor-among}
use Rattle.fair_round.proofs.Walks.{true-at}
use Rattle.fair_round.proofs.Steps.{stem-path, stem-barred}

-- ---- the arena of the initial states

bool_eq-true : (b : Bool) → bool_eq true b ≡ true → b ≡ true
bool_eq-true true h = refl
bool_eq-true false h = h

kept-by : (kind : Kind) (inside : List Bool → Bool) (places : List (List Bool)) (s : List Bool) → IsAmong s places
    → allows_by kind inside places ≡ true → keeps_to Initial kind inside s ≡ true
kept-by Reach inside places s among h = bool_eq-true (inside s) (among (λ u. bool_eq true (inside u)) h)
kept-by Wall inside places s among h = refl

entries-kept : (sets : ℕ → List Bool → Bool) (entries : List Numbered) (places : List (List Bool)) (s : List Bool) → IsAmong s places
    → all_allow sets entries places ≡ true → list_all (λ e. keeps_to Initial e.entry.kind (sets e.number) s) entries ≡ true
entries-kept sets [] places s among h = refl
entries-kept sets (e ∷ entries) places s among h =
    let kind : Kind = e.entry.kind in
    let hs = and_parts (allows_by kind (sets e.number) places) (all_allow sets entries places) h in
    and_from (keeps_to Initial kind (sets e.number) s) (list_all (λ f. keeps_to Initial f.entry.kind (sets f.number) s) entries)
    (kept-by kind (sets e.number) places s among hs.0) (entries-kept sets entries places s among hs.1)

place-kept : (view : List Entry) (places : List (List Bool)) (s : List Bool) → IsAmong s places → allow (numbered view) places ≡ true
    → in_arena view Initial s ≡ true
place-kept view places s among h = entries-kept (set_at view) (numbered view) places s among h

-- ---- the goal of a first literal

-- the first position of an allowed skeleton meets the goal, so a set that misses it excludes the skeleton
pub literal-barred : (c : Circuit) (j : ℕ) (view : List Entry) (situations : List Situation) (literal : ℕ) (avoid : List (List Lit))
    (clauses : List (List Lit)) (uses : List Use) → IsAllowed c j view (skeleton_of situations) → 0 < length (fair_literals c j)
    → literal ≡ get_or (fair_literals c j) 0 0 → All (BeginsNone c j view) avoid
    → AreOver (length c.latches) clauses → IsValid c view (record { kind = Reach; clauses = clauses; uses = uses })
    → All (λ clause. list_any (has_literal clause) (initial_cube c) ≡ true) clauses
    → ((p : Position) → MeetsLiteral (record { circuit = c; view = view; start = Initial }) literal avoid p
    → set_behind view (record { kind = Reach; clauses = clauses; uses = uses }) p.latches ≡ false)
    → Excludes c view (record { kind = Reach; clauses = clauses; uses = uses }) (skeleton_of situations)
literal-barred c j view situations literal avoid clauses uses is has is_literal none over valid base misses =
    let d : Situation = record { position = record { latches = []; inputs = [] }; successor = [] } in
    let some : 0 < length situations = some-situation c j (skeleton_of situations) is.skeleton in
    let x : Situation = get_or situations 0 d in
    let here : IsSituation c x = All-get_or (IsSituation c) situations 0 d some is.skeleton.situations in
    let first : get_or (states situations) 0 [] ≡ x.position.latches = get_or-map (λ (s : Situation). s.position.latches) situations 0 d [] some in
    let state : IsAmong x.position.latches (states_of situations) =
    subst (λ u. IsAmong u (states_of situations)) first (state-among situations 0 some)
    in
    let next : IsAmong x.successor (states_of situations) =
    subst (λ u. IsAmong u (states_of situations)) (get_or-map (λ (s : Situation). s.successor) situations 0 d [] some)
    (successor-among situations 0 some)
    in
    let meets : MeetsLiteral (record { circuit = c; view = view; start = Initial }) literal avoid x.position = record {
      possible = here.possible;
      holds = subst (λ (l : ℕ). IsTrue (literal_at c x.position l)) (sym is_literal)
          (true-at c (fair_literals c j) situations 0 d has is.skeleton.fair);
      avoids = All-weaker (BeginsNone c j view) (λ cube. cube_value (values_of x.position.latches) cube ≡ false)
          (λ cube begins. subst (λ u. cube_value (values_of u) cube ≡ false) first (begins.none (skeleton_of situations) is)) avoid none;
      state = place-kept view (states_of situations) x.position.latches state is.allowed;
      next = ap (in_arena view Initial) (sym here.next) ∙ place-kept view (states_of situations) x.successor next is.allowed;
    } in
    stem-barred c view situations x.position.latches clauses uses some (sym first) over valid base (misses x.position meets)

pub cubes-over : (c : Circuit) (j : ℕ) (view : List Entry) (avoid : List (List Lit)) → All (BeginsNone c j view) avoid
    → AreOver (length c.latches) avoid
cubes-over c j view avoid none = All-weaker (BeginsNone c j view) (λ cube. All (λ l. l.var < length c.latches) cube) (λ cube begins. begins.over) avoid none

pub literal-path : (c : Circuit) (view : List Entry) (literal : ℕ) (avoid : List (List Lit)) (positions : List Position)
    → IsPathToLiteral (record { circuit = c; view = view; start = Initial }) literal avoid positions → IsReachedRun c positions
literal-path c view literal avoid positions h =
    (successor c h.last, stem-path c view (successor c h.last) positions h.path)
