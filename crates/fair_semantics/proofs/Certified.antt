-- Valid entries over the runs and loops of a circuit: reach entries hold runs, loops keep their sides, and so a fair
-- lasso would give a skeleton that every entry allows.
use Rattle.std.proofs.Common.{◌≡◌, ℕ, suc, ◌<◌, Bool, true, false, not, List, [], ◌∷◌, length, drop, get_or, refl, sym, ap, ◌∙◌, subst, inl, inr, ◌⊎◌, arith, max}
use Rattle.std.specs.Prelude.{IsTrue}
use Rattle.std.specs.List.{All, Any, Contains}
use Rattle.std.proofs.lemmas.Bool.{and_from, or_left, or_right, both_ways, false_from_ne_true}
use Rattle.std.proofs.lemmas.List.Elements.{All-head, All-tail, All-cons, All-nil, All-contains, All-drop, All-weaker}
use Rattle.aig_semantics.specs.declared.traces.Position.{Position}
use Rattle.aig_semantics.specs.Circuits.{Circuit, fair_literals}
use Rattle.aig_semantics.specs.Runs.{literal_at, successor, MeetsConstraints, IsRun, IsInitialRun, IsFairLasso}
use Rattle.proof_semantics.specs.Clauses.{bool_eq}
use Rattle.fair_semantics.specs.declared.entries.Kind.{Kind}
use Rattle.fair_semantics.specs.declared.entries.Kind.TheVariants.{Reach, Wall}
use Rattle.fair_semantics.specs.declared.entries.Use.{Use}
use Rattle.fair_semantics.specs.declared.skeletons.Situation.{Situation}
use Rattle.fair_semantics.specs.declared.skeletons.Skeleton.{Skeleton}
use Rattle.fair_semantics.specs.Entries.{Entry, Numbered, numbered, used_entries, entry_at, sets_of, AreClosed}
use Rattle.fair_semantics.specs.Allowing.{all_on, allows_by, all_allow, allow}
use Rattle.fair_semantics.specs.Skeletons.{IsSituation, AreTrueInTurn, IsSkeleton, states_of, places}
use Rattle.fair_semantics.specs.Validity.{set_behind, IsValid, AreValid}
use Rattle.fair_semantics.specs.Laws.{LieOn}
use Rattle.fair_semantics.proofs.Alone.{all_allow-each, numbered-all, uses_allow}
use Rattle.fair_semantics.proofs.Lists.{Each, each-valid}
use Rattle.fair_semantics.proofs.Runs.{AreAllowed, along, round, IsLoop, loop-of}

-- ---- what a side allows

pub bool_eq-same : (side b : Bool) → b ≡ side → bool_eq side b ≡ true
bool_eq-same true b h = h
bool_eq-same false b h = ap not h

-- states on one side are allowed, in a reach entry on the inner side
pub allows_by-side : (kind : Kind) (set : List Bool → Bool) (side : Bool) (states : List (List Bool))
    → (kind ≡ Reach → side ≡ true) → all_on side set states ≡ true → allows_by kind set states ≡ true
allows_by-side Reach set side states inner h = subst (λ b. all_on b set states ≡ true) (inner refl) h
allows_by-side Wall set true states inner h = or_left (all_on true set states) (all_on false set states) h
allows_by-side Wall set false states inner h = or_right (all_on true set states) (all_on false set states) h

step-side : (set : List Bool → Bool) (side : Bool) (s t : List Bool) → set s ≡ side → set t ≡ side → all_on side set (s ∷ t ∷ []) ≡ true
step-side set side s t here next = and_from _ _ (bool_eq-same side (set s) here) (and_from _ _ (bool_eq-same side (set t) next) refl)

-- the positions lie on one side, in a reach entry on the inner one
abbrev pub Keeps : Circuit → List Position → Kind → (List Bool → Bool) → Type 0
Keeps c positions kind set = (side : Bool) × (kind ≡ Reach → side ≡ true) × LieOn c side set positions

-- steps from positions that keep the sides of all used entries are allowed
able-from : (c : Circuit) (before : List Entry) (uses : List Use) (positions : List Position)
    → All (λ u. Keeps c positions (entry_at before u.entry).kind (sets_of (numbered before) u.entry)) uses
    → AreAllowed c (all_allow (sets_of (numbered before)) (used_entries before uses)) positions
able-from c before uses positions h = λ k d inside.
    let p : Position = get_or positions k d in
    let sets : ℕ → List Bool → Bool = sets_of (numbered before) in
    all_allow-each sets before uses (p.latches ∷ successor c p ∷ []) (λ i e there.
    let u : Use = get_or uses i e in
    let keeps : Keeps c positions (entry_at before u.entry).kind (sets u.entry) = h i e there in
    let both = keeps.2 k d inside in
    allows_by-side (entry_at before u.entry).kind (sets u.entry) keeps.0 (p.latches ∷ successor c p ∷ []) keeps.1
    (step-side (sets u.entry) keeps.0 p.latches (successor c p) both.0 both.1))

-- ---- reach entries hold initial runs

abbrev pub Holds : Circuit → List Position → Kind → (List Bool → Bool) → Type 0
Holds c run kind set = kind ≡ Reach → LieOn c true set run

holds-next : (c : Circuit) (run : List Position) → IsInitialRun c run
    → (before : List Entry) (e : Entry) → IsValid c before e → Each (Holds c run) before → Holds c run e.kind (set_behind before e)
holds-next c [] initial before e valid each is_reach = All-nil _
holds-next c (p ∷ run) initial before e valid each is_reach =
    let base = valid.reach is_reach in
    let keeps : All (λ u. Keeps c (p ∷ run) (entry_at before u.entry).kind (sets_of (numbered before) u.entry)) e.uses =
    λ k d inside.
    let u : Use = get_or e.uses k d in
    (true, λ _. refl, each u.entry (valid.uses.present k d inside) (base.uses k d inside))
    in
    along c (all_allow (sets_of (numbered before)) (used_entries before e.uses)) (set_behind before e) valid.closed p.latches (p ∷ run) initial.1 refl
    (able-from c before e.uses (p ∷ run) keeps) (base.initial p.latches initial.0)

pub reach_holds_runs : (c : Circuit) (entries : List Entry) (n : ℕ) (run : List Position)
    → AreValid c entries → n < length entries → (entry_at entries n).kind ≡ Reach → IsInitialRun c run
    → LieOn c true (sets_of (numbered entries) n) run
reach_holds_runs c entries n run valid below kind initial =
    each-valid c (Holds c run) (holds-next c run initial) [] entries (λ m none. absurd (omega arith)) valid n below kind

-- ---- loops keep their sides

kind-cases : (kind : Kind) → (kind ≡ Reach) ⊎ (kind ≡ Wall)
kind-cases Reach = inl refl
kind-cases Wall = inr refl

-- an entry that holds the run and keeps the loop
abbrev HoldsAndKeeps : Circuit → List Position → List Position → Kind → (List Bool → Bool) → Type 0
HoldsAndKeeps c run loop kind set = Holds c run kind set × Keeps c loop kind set

keeps-next : (c : Circuit) (run : List Position) (from : ℕ) → IsInitialRun c run → IsLoop c (drop from run)
    → (before : List Entry) (e : Entry) → IsValid c before e → Each (HoldsAndKeeps c run (drop from run)) before
    → HoldsAndKeeps c run (drop from run) e.kind (set_behind before e)
keeps-next c run from initial loop before e valid each =
    let set : List Bool → Bool = set_behind before e in
    let holds : Holds c run e.kind set = holds-next c run initial before e valid (λ n below. (each n below).0) in
    let keeps : All (λ u. Keeps c (drop from run) (entry_at before u.entry).kind (sets_of (numbered before) u.entry)) e.uses =
    λ k d inside. (each (get_or e.uses k d).entry (valid.uses.present k d inside)).1
    in
    let able = able-from c before e.uses (drop from run) keeps in
    let turned : (side : Bool) × LieOn c side set (drop from run) =
    round c (all_allow (sets_of (numbered before)) (used_entries before e.uses)) set valid.closed loop.begins (drop from run) loop.run loop.starts able loop.ends
    in
    let kept : Keeps c (drop from run) e.kind set =
    elim (kind-cases e.kind) [
      | inl is_reach ↦ (true, λ _. refl, All-drop (λ p. (set p.latches ≡ true) × (set (successor c p) ≡ true)) from run (holds is_reach))
      | inr is_wall ↦ (turned.0, λ is_reach. (let clash : Reach ≡ Wall = sym is_reach ∙ is_wall in absurd (cc)), turned.1)
    ]
    in
    (holds, kept)

pub lassos-keep : (c : Circuit) (entries : List Entry) (j : ℕ) (run : List Position) (from : ℕ)
    → AreValid c entries → IsFairLasso c j run from → Each (Keeps c (drop from run)) entries
lassos-keep c entries j run from valid lasso n below =
    (each-valid c (HoldsAndKeeps c run (drop from run)) (keeps-next c run from lasso.initial (loop-of c j run from lasso)) [] entries
    (λ m none. absurd (omega arith)) valid n below).1

pub loops_keep_sides : (c : Circuit) (entries : List Entry) (n j : ℕ) (run : List Position) (from : ℕ)
    → AreValid c entries → n < length entries → (entry_at entries n).kind ≡ Wall → IsFairLasso c j run from
    → (side : Bool) × LieOn c side (sets_of (numbered entries) n) (drop from run)
loops_keep_sides c entries n j run from valid below kind lasso =
    let keeps = lassos-keep c entries j run from valid lasso n below in
    (keeps.0, keeps.2)

-- ---- the skeleton of a loop

-- situations at positions of the loop
abbrev pub AreOf : Circuit → List Position → List Situation → Type 0
AreOf c loop situations = All (λ s. Contains loop s.position × (s.successor ≡ successor c s.position)) situations

abbrev pub situation_at : Circuit → Position → Situation
situation_at c p = record { position = p; successor = successor c p }

-- for each literal that is true somewhere on the loop a situation there
pub pick : (c : Circuit) (loop : List Position) (literals : List ℕ)
    → All (λ literal. Any (λ p. IsTrue (literal_at c p literal)) loop) literals
    → (situations : List Situation) × (length situations ≡ length literals) × AreOf c loop situations × AreTrueInTurn c literals situations
pick c loop [] h = ([], refl, All-nil _, tt)
pick c loop (literal ∷ literals) h =
    let P : ℕ → Type 0 = λ l. Any (λ p. IsTrue (literal_at c p l)) loop in
    let Q : Situation → Type 0 = λ s. Contains loop s.position × (s.successor ≡ successor c s.position) in
    let here : P literal = All-head P literal literals h in
    let rest = pick c loop literals (All-tail P literal literals h) in
    let first : Situation = situation_at c here.1 in
    (first ∷ rest.0, ap suc rest.1, All-cons Q first rest.0 ((here.0, here.2, here.3), refl) rest.2, (here.4, rest.3))

-- all places of such situations lie where the loop does
pub places-lie : (c : Circuit) (loop : List Position) (set : List Bool → Bool) (side : Bool) (situations : List Situation)
    → AreOf c loop situations → LieOn c side set loop → all_on side set (states_of situations) ≡ true
places-lie c loop set side [] h lie = refl
places-lie c loop set side (s ∷ situations) h lie =
    let Q : Situation → Type 0 = λ r. Contains loop r.position × (r.successor ≡ successor c r.position) in
    let Lies : Position → Type 0 = λ p. (set p.latches ≡ side) × (set (successor c p) ≡ side) in
    let first : Q s = All-head Q s situations h in
    let both : Lies s.position = All-contains Lies loop s.position lie first.0 in
    and_from _ _ (bool_eq-same side (set s.position.latches) both.0)
    (and_from _ _ (bool_eq-same side (set s.successor) (ap set first.1 ∙ both.1))
    (places-lie c loop set side situations (All-tail Q s situations h) lie))

-- a run meets the constraints at each of its positions
run-possible : (c : Circuit) (run : List Position) → IsRun c run → All (MeetsConstraints c) run
run-possible c [] h = All-nil (MeetsConstraints c)
run-possible c (p ∷ run) h = All-cons (MeetsConstraints c) p run h.0 (run-possible c run h.2)

-- one situation for each literal, and one where there is none
pick-some : (c : Circuit) (loop : List Position) (literals : List ℕ) → 0 < length loop
    → All (λ literal. Any (λ p. IsTrue (literal_at c p literal)) loop) literals
    → (situations : List Situation) × (length situations ≡ max 1 (length literals)) × AreOf c loop situations × AreTrueInTurn c literals situations
pick-some c [] [] some h = absurd (omega arith)
pick-some c (p ∷ loop) [] some h =
    let Q : Situation → Type 0 = λ s. Contains (p ∷ loop) s.position × (s.successor ≡ successor c s.position) in
    (situation_at c p ∷ [], refl, All-cons Q (situation_at c p) [] ((0, omega arith, refl), refl) (All-nil Q), tt)
pick-some c loop (literal ∷ literals) some h =
    let picked = pick c loop (literal ∷ literals) h in
    let size : length picked.0 ≡ max 1 (length (literal ∷ literals)) = omega (arith, picked.1) in
    (picked.0, size, picked.2, picked.3)

pub skeleton-of : (c : Circuit) (j : ℕ) (run : List Position) (from : ℕ) → IsFairLasso c j run from
    → (skeleton : Skeleton) × IsSkeleton c j skeleton × AreOf c (drop from run) skeleton.situations
skeleton-of c j run from lasso =
    let loop = loop-of c j run from lasso in
    let picked = pick-some c (drop from run) (fair_literals c j) loop.some lasso.fair in
    let possible = run-possible c (drop from run) loop.run in
    let Q : Situation → Type 0 = λ s. Contains (drop from run) s.position × (s.successor ≡ successor c s.position) in
    let situation = (λ (s : Situation) (h : Q s).
    let is : IsSituation c s = record { possible = All-contains (MeetsConstraints c) (drop from run) s.position possible h.0; next = h.1 } in
    is)
    in (
      record { situations = picked.0 },
      record {
        property = lasso.property;
        size = picked.1;
        situations = All-weaker Q (IsSituation c) situation picked.0 picked.2;
        fair = picked.3;
      },
      picked.2,
    )

-- ---- no lasso

pub certifies : (c : Circuit) (entries : List Entry) (j : ℕ) → AreValid c entries
    → ((skeleton : Skeleton) → IsSkeleton c j skeleton → allow (numbered entries) (places skeleton) ≡ false)
    → (run : List Position) (from : ℕ) → IsFairLasso c j run from → ⊥
certifies c entries j valid none run from lasso =
    let found = skeleton-of c j run from lasso in
    let keeps = lassos-keep c entries j run from valid lasso in
    let sets : ℕ → List Bool → Bool = sets_of (numbered entries) in
    let states : List (List Bool) = places found.0 in
    let test : Numbered → Bool = λ e. allows_by e.entry.kind (sets e.number) states in
    let each = (λ (n : ℕ) (below : n < length entries).
    let keep = keeps n below in
    let on : all_on keep.0 (sets n) states ≡ true = places-lie c (drop from run) (sets n) keep.0 found.0.situations found.2 keep.2 in
    let able : allows_by (entry_at entries n).kind (sets n) states ≡ true = allows_by-side (entry_at entries n).kind (sets n) keep.0 states keep.1 on in
    able)
    in
    let all : allow (numbered entries) states ≡ true =
    numbered-all test 0 entries (λ n i below place.
    let same : n ≡ i = omega arith in
    subst (λ k. allows_by (entry_at entries n).kind (sets k) states ≡ true) same (each n below))
    in
    both_ways (allow (numbered entries) states) (none found.0 found.1) all

pub uses_certify : (c : Circuit) (entries : List Entry) (uses : List Use) (j : ℕ) → AreValid c entries → AreClosed entries uses
    → ((skeleton : Skeleton) → IsSkeleton c j skeleton → allow (used_entries entries uses) (places skeleton) ≡ false)
    → (run : List Position) (from : ℕ) → IsFairLasso c j run from → ⊥
uses_certify c entries uses j valid closed none run from lasso =
    certifies c entries j valid (λ skeleton is.
    let states : List (List Bool) = places skeleton in
    false_from_ne_true (allow (numbered entries) states)
    (λ all. both_ways (allow (used_entries entries uses) states) (none skeleton is) (uses_allow entries uses states closed all)))
    run from lasso
