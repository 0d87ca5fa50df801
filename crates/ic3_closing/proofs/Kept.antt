-- What is kept of a closed set keeps the facts of the whole.
use Rattle.std.proofs.Common.{◌≡◌, ℕ, suc, ◌+◌, ◌<◌, ◌≤◌, Bool, true, false, cond, List, [], ◌∷◌, ◌++◌, map, length, get_or, refl, sym, ap₂, ◌∙◌, arith}
use Rattle.std.specs.List.{All, AllPairs, list_all}
use Rattle.std.proofs.lemmas.Bool.{and_parts, and_from}
use Rattle.std.proofs.lemmas.List.Elements.{All-head, All-tail, All-nil, All-cons, All-append}
use Rattle.std.proofs.lemmas.List.Kept.{AllPairs-cons}
use Rattle.std.proofs.lemmas.List.{get_or-map}
use Rattle.std.proofs.lemmas.List.Folds.{list_all-append}
use Rattle.proof_semantics.specs.declared.literals.Lit.{Lit}
use Rattle.fair_semantics.specs.declared.entries.Side.TheVariants.{Any as AnySide}
use Rattle.fair_semantics.specs.declared.entries.Use.{Use}
use Rattle.fair_semantics.specs.Entries.{lies_on}
use Rattle.ic3_closing.specs.declared.sets.ClosedSet.{ClosedSet}
use Rattle.ic3_closing.specs.Keeping.{kept_clauses, kept_use, kept_uses, IsPartOf}

-- ---- clauses

one_all : (P : List Lit → Type 0) (b : Bool) (clause : List Lit) (rest : List (List Lit)) → P clause → All P rest
    → All P (cond b (clause ∷ rest) rest)
one_all P true clause rest here h = All-cons P clause rest here h
one_all P false clause rest here h = h

pub clauses_all : (P : List Lit → Type 0) (marks : List Bool) (i : ℕ) (clauses : List (List Lit)) → All P clauses
    → All P (kept_clauses marks i clauses)
clauses_all P marks i [] h = h
clauses_all P marks i (clause ∷ clauses) h =
    one_all P (get_or marks i false) clause (kept_clauses marks (i + 1) clauses) (All-head P clause clauses h)
    (clauses_all P marks (i + 1) clauses (All-tail P clause clauses h))

one_true : (p : List Lit → Bool) (b : Bool) (clause : List Lit) (rest : List (List Lit)) → p clause ≡ true → list_all p rest ≡ true
    → list_all p (cond b (clause ∷ rest) rest) ≡ true
one_true p true clause rest here h = and_from (p clause) (list_all p rest) here h
one_true p false clause rest here h = h

pub clauses_true : (p : List Lit → Bool) (marks : List Bool) (i : ℕ) (clauses : List (List Lit)) → list_all p clauses ≡ true
    → list_all p (kept_clauses marks i clauses) ≡ true
clauses_true p marks i [] h = refl
clauses_true p marks i (clause ∷ clauses) h =
    let parts = and_parts (p clause) (list_all p clauses) h in
    one_true p (get_or marks i false) clause (kept_clauses marks (i + 1) clauses) parts.0 (clauses_true p marks (i + 1) clauses parts.1)

-- ---- uses

-- the use without its side
abbrev pub unsided : Use → Use
unsided u = record { entry = u.entry; side = AnySide }

use_all : (P : Use → Type 0) → ((u : Use) → P u → P (unsided u)) → (used side : Bool) (u : Use) → P u → All P (kept_use used side u)
use_all P weak false side u here = All-nil P
use_all P weak true true u here = All-cons P u [] here (All-nil P)
use_all P weak true false u here = All-cons P (unsided u) [] (weak u here) (All-nil P)

-- what is so of each use, and without its side too, is so of those that are kept
pub uses_all : (P : Use → Type 0) → ((u : Use) → P u → P (unsided u)) → (marks sides : List Bool) (i : ℕ) (uses : List Use)
    → All P uses → All P (kept_uses marks sides i uses)
uses_all P weak marks sides i [] h = h
uses_all P weak marks sides i (u ∷ uses) h =
    All-append P (kept_use (get_or marks i false) (get_or sides i false) u) (kept_uses marks sides (i + 1) uses)
    (use_all P weak (get_or marks i false) (get_or sides i false) u (All-head P u uses h))
    (uses_all P weak marks sides (i + 1) uses (All-tail P u uses h))

front : (used side : Bool) (u : Use) (later : List Use) → All (λ v. u.entry < v.entry) later
    → AllPairs (λ v w. v.entry < w.entry) later → AllPairs (λ v w. v.entry < w.entry) (kept_use used side u ++ later)
front false side u later above pairs = pairs
front true true u later above pairs = AllPairs-cons (λ v w. v.entry < w.entry) u later above pairs
front true false u later above pairs = AllPairs-cons (λ v w. v.entry < w.entry) (unsided u) later above pairs

pub uses_ascend : (marks sides : List Bool) (i : ℕ) (uses : List Use) → AllPairs (λ v w. v.entry < w.entry) uses
    → AllPairs (λ v w. v.entry < w.entry) (kept_uses marks sides i uses)
uses_ascend marks sides i [] h = h
uses_ascend marks sides i (u ∷ uses) h =
    front (get_or marks i false) (get_or sides i false) u (kept_uses marks sides (i + 1) uses)
    (uses_all (λ v. u.entry < v.entry) (λ v here. here) marks sides (i + 1) uses
    (λ k d inside. h 0 (suc k) d (omega arith) (omega arith)))
    (uses_ascend marks sides (i + 1) uses (λ j k d before inside. h (suc j) (suc k) d (omega arith) (omega arith)))

-- the sides that these uses name hold the state
abbrev pub lie : (ℕ → List Bool → Bool) → List Bool → List Use → Bool
lie sets s uses = list_all (λ u. lies_on u.side (sets u.entry s)) uses

use_lies : (sets : ℕ → List Bool → Bool) (s : List Bool) (used side : Bool) (u : Use) → lies_on u.side (sets u.entry s) ≡ true
    → lie sets s (kept_use used side u) ≡ true
use_lies sets s false side u h = refl
use_lies sets s true true u h = and_from (lies_on u.side (sets u.entry s)) true h refl
use_lies sets s true false u h = refl

pub uses_lie : (sets : ℕ → List Bool → Bool) (s : List Bool) (marks sides : List Bool) (i : ℕ) (uses : List Use)
    → lie sets s uses ≡ true → lie sets s (kept_uses marks sides i uses) ≡ true
uses_lie sets s marks sides i [] h = refl
uses_lie sets s marks sides i (u ∷ uses) h =
    let here : List Use = kept_use (get_or marks i false) (get_or sides i false) u in
    let rest : List Use = kept_uses marks sides (i + 1) uses in
    let parts = and_parts (lies_on u.side (sets u.entry s)) (lie sets s uses) h in
    list_all-append (λ v. lies_on v.side (sets v.entry s)) here rest
    ∙ and_from (lie sets s here) (lie sets s rest) (use_lies sets s (get_or marks i false) (get_or sides i false) u parts.0)
    (uses_lie sets s marks sides (i + 1) uses parts.1)

-- ---- the whole is a part of itself

abbrev AreOn : List Bool → ℕ → ℕ → Type 0
AreOn marks i n = (j : ℕ) → i ≤ j → j < i + n → get_or marks j false ≡ true

all_clauses : (marks : List Bool) (i : ℕ) (clauses : List (List Lit)) → AreOn marks i (length clauses) → kept_clauses marks i clauses ≡ clauses
all_clauses marks i [] on = refl
all_clauses marks i (clause ∷ clauses) on =
    ap₂ (λ b rest. cond b (clause ∷ rest) rest) (on i (omega arith) (omega arith))
    (all_clauses marks (i + 1) clauses (λ j low high. on j (omega (arith, low)) (omega (arith, high))))

all_uses : (marks : List Bool) (i : ℕ) (uses : List Use) → AreOn marks i (length uses) → kept_uses marks marks i uses ≡ uses
all_uses marks i [] on = refl
all_uses marks i (u ∷ uses) on =
    let here = on i (omega arith) (omega arith) in
    ap₂ (λ front rest. front ++ rest) (ap₂ (λ a b. kept_use a b u) here here)
    (all_uses marks (i + 1) uses (λ j low high. on j (omega (arith, low)) (omega (arith, high))))

no_clause : List Lit
no_clause = []

no_use : Use
no_use = record { entry = 0; side = AnySide }

marked : {X : Type 0} (xs : List X) (d : X) → AreOn (map (λ x. true) xs) 0 (length xs)
marked xs d j low high = get_or-map (λ x. true) xs j d false (omega (arith, high))

pub whole_part : (whole : ClosedSet) → IsPartOf whole.clauses whole.uses whole
whole_part whole = record {
  kept = map (λ clause. true) whole.clauses;
  used = map (λ u. true) whole.uses;
  sided = map (λ u. true) whole.uses;
  clauses_are = sym (all_clauses (map (λ clause. true) whole.clauses) 0 whole.clauses (marked whole.clauses no_clause));
  uses_are = sym (all_uses (map (λ u. true) whole.uses) 0 whole.uses (marked whole.uses no_use));
}
