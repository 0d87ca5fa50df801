-- The variables of an item's clauses are numbers from 1 on, below the next free one.
use Rattle.std.proofs.Common.{◌≡◌, ℕ, zero, suc, ◌+◌, ◌<◌, ◌≤◌, ◌==◌, Bool, true, false, List, [], ◌∷◌, ◌++◌, map, length, refl, sym, subst, arith, Option, Some, None}
use Rattle.std.specs.Prelude.{max, slice_index_or, if◌then◌else◌}
use Rattle.std.specs.List.{AllByRecursion, flat_map}
use Rattle.std.proofs.lemmas.List.{length-map}
use Rattle.aig_semantics.specs.declared.parts.Latch.{Latch}
use Rattle.aig_semantics.specs.declared.parts.Gate.{Gate}
use Rattle.aig_semantics.specs.Literals.{variable_of}
use Rattle.aig_semantics.specs.Circuits.{Circuit, fair_literals}
use Rattle.proof_semantics.specs.declared.literals.Lit.{Lit}
use Rattle.proof_semantics.specs.Clauses.{negation}
use Rattle.fair_semantics.specs.declared.entries.Kind.{Kind}
use Rattle.fair_semantics.specs.declared.entries.Kind.TheVariants.{Reach, Wall}
use Rattle.fair_semantics.specs.declared.entries.Side.{Side}
use Rattle.fair_semantics.specs.declared.entries.Side.TheVariants.{Any, In, Out}
use Rattle.fair_semantics.specs.declared.entries.Use.{Use}
use Rattle.fair_semantics.specs.Entries.{Numbered}
use Rattle.cnf_unroll.specs.Numbers.{number, next_number, plus, minus, block_size, literal_in_block, state_place, successor_place, block_places, literal_at_place, clause_at_place, set_at_place}
use Rattle.cnf_unroll.specs.Blocks.{gate_clauses, unit_clause, latch_clauses, block_clauses, step_clauses}
use Rattle.cnf_unroll.specs.Uses.{Numbering, free_from, named_literal, named_sides, denials, marked, wall_at, marks, closing, wall_over, reach_clauses, use_clauses, after_use, uses_clauses, after_uses, after_marks}
use Rattle.cnf_unroll.specs.Obligations.{units, step_with_uses, after_step, shared_clauses, obligation_clauses, broken_literals, blocks_clauses, blocks_places, literals_clauses, block_count, after_blocks, skeleton_clauses}
use Rattle.cert_tools.specs.Exported.{after_skeleton}

abbrev pub Within : ℕ → Lit → Type 0
Within m l = (0 < l.var) × (l.var < m)

abbrev pub InClause : ℕ → List Lit → Type 0
InClause m clause = AllByRecursion (Within m) clause

abbrev pub InSet : ℕ → List (List Lit) → Type 0
InSet m clauses = AllByRecursion (InClause m) clauses

-- ---- lists

clause_more : (m k : ℕ) (clause : List Lit) → m ≤ k → InClause m clause → InClause k clause
clause_more m k [] h inside = tt
clause_more m k (l ∷ clause) h (first, more) = ((first.0, (let high = first.1 in omega (arith, high, h))), clause_more m k clause h more)

set_more : (m k : ℕ) (clauses : List (List Lit)) → m ≤ k → InSet m clauses → InSet k clauses
set_more m k [] h inside = tt
set_more m k (clause ∷ clauses) h (first, more) = (clause_more m k clause h first, set_more m k clauses h more)

set_append : (m : ℕ) (xs ys : List (List Lit)) → InSet m xs → InSet m ys → InSet m (xs ++ ys)
set_append m [] ys a b = b
set_append m (x ∷ xs) ys (first, more) b = (first, set_append m xs ys more b)

clause_append : (m : ℕ) (xs ys : List Lit) → InClause m xs → InClause m ys → InClause m (xs ++ ys)
clause_append m [] ys a b = b
clause_append m (x ∷ xs) ys (first, more) b = (first, clause_append m xs ys more b)

set_units : (m : ℕ) (literals : List Lit) → InClause m literals → InSet m (units literals)
set_units m [] inside = tt
set_units m (l ∷ literals) (first, more) = ((first, tt), set_units m literals more)

clause_negated : (m : ℕ) (literals : List Lit) → InClause m literals → InClause m (map negation literals)
clause_negated m [] inside = tt
clause_negated m (l ∷ literals) (first, more) = (first, clause_negated m literals more)

-- ---- blocks

above : (base : ℕ) (c : Circuit) (literal : ℕ) → variable_of literal ≤ c.max → Within (base + block_size c + 1) (literal_in_block base literal)
above base c literal h = (omega arith, omega (arith, h))

flat_in : {X : Type 0} (m : ℕ) (P : X → Type 0) (f : X → List (List Lit)) → ((x : X) → P x → InSet m (f x)) → (xs : List X) → AllByRecursion P xs → InSet m (flat_map f xs)
flat_in m P f each [] all = tt
flat_in m P f each (x ∷ xs) (first, more) = set_append m (f x) (flat_map f xs) (each x first) (flat_in m P f each xs more)

map_in : {X : Type 0} (m : ℕ) (P : X → Type 0) (f : X → List Lit) → ((x : X) → P x → InClause m (f x)) → (xs : List X) → AllByRecursion P xs → InSet m (map f xs)
map_in m P f each [] all = tt
map_in m P f each (x ∷ xs) (first, more) = (each x first, map_in m P f each xs more)

abbrev pub IsLowGate : ℕ → Gate → Type 0
IsLowGate most gate = (gate.var ≤ most) × (variable_of gate.rhs0 ≤ most) × (variable_of gate.rhs1 ≤ most)

abbrev pub IsLowLatch : ℕ → Latch → Type 0
IsLowLatch most latch = (latch.var ≤ most) × (variable_of latch.next ≤ most)

abbrev pub AreLowLiterals : ℕ → List ℕ → Type 0
AreLowLiterals most literals = AllByRecursion (λ literal. variable_of literal ≤ most) literals

-- what a block needs of the circuit: its variables are within the greatest
pub record AreLow (c : Circuit) : Type 0 where
  pub gates : AllByRecursion (IsLowGate c.max) c.gates
  pub constraints : AreLowLiterals c.max c.constraints
  pub latches : AllByRecursion (IsLowLatch c.max) c.latches

gate_in : (c : Circuit) (base : ℕ) (gate : Gate) → IsLowGate c.max gate → InSet (base + block_size c + 1) (gate_clauses base gate)
gate_in c base gate (g, a, b) =
    let self : (0 < number base gate.var) × (number base gate.var < base + block_size c + 1) = (omega arith, omega (arith, g)) in
    let first = above base c gate.rhs0 a in
    let second = above base c gate.rhs1 b in ((self, (first, tt)), ((self, (second, tt)), ((self, (first, (second, tt))), tt)))

latch_in : (c : Circuit) (base : ℕ) (latch : Latch) → IsLowLatch c.max latch → InSet (base + block_size c + 1) (latch_clauses c base latch)
latch_in c base latch (v, n) =
    let self : (0 < next_number c base latch.var) × (next_number c base latch.var < base + block_size c + 1) = (omega arith, omega (arith, v)) in
    let next = above base c latch.next n in ((self, (next, tt)), ((self, (next, tt)), tt))

zero_in : (c : Circuit) (base : ℕ) → InSet (base + block_size c + 1) ((minus (number base 0) ∷ []) ∷ [])
zero_in c base = (((omega arith, omega arith), tt), tt)

block_in : (c : Circuit) → AreLow c → (base : ℕ) → InSet (base + block_size c + 1) (block_clauses c base)
block_in c low base =
    let m : ℕ = base + block_size c + 1 in
    let none : List (List Lit) = (minus (number base 0) ∷ []) ∷ [] in
    let gates : List (List Lit) = flat_map (gate_clauses base) c.gates in
    let constraints : List (List Lit) = map (unit_clause base) c.constraints in
    let latches : List (List Lit) = flat_map (latch_clauses c base) c.latches in
    set_append m (none ++ gates ++ constraints) latches
    (set_append m (none ++ gates) constraints (set_append m none gates (zero_in c base) (flat_in m (IsLowGate c.max) (gate_clauses base) (gate_in c base) c.gates low.gates))
    (map_in m (λ literal. variable_of literal ≤ c.max) (unit_clause base) (λ literal h. (above base c literal h, tt)) c.constraints low.constraints))
    (flat_in m (IsLowLatch c.max) (latch_clauses c base) (latch_in c base) c.latches low.latches)

-- ---- places

-- each number of a place is one of those
abbrev pub InPlace : ℕ → List ℕ → Type 0
InPlace m place = AllByRecursion (λ k. (0 < k) × (k < m)) place

-- so many numbers at each place
abbrev pub InPlaces : ℕ → ℕ → List (List ℕ) → Type 0
InPlaces m n places = AllByRecursion (λ place. (length place ≡ n) × InPlace m place) places

abbrev pub Over : ℕ → List (List Lit) → Type 0
Over n set = AllByRecursion (λ clause. AllByRecursion (λ l. l.var < n) clause) set

place_more : (m k : ℕ) (place : List ℕ) → m ≤ k → InPlace m place → InPlace k place
place_more m k [] h inside = tt
place_more m k (n ∷ place) h (first, more) = ((first.0, (let high = first.1 in omega (arith, high, h))), place_more m k place h more)

places_more : (m k n : ℕ) (places : List (List ℕ)) → m ≤ k → InPlaces m n places → InPlaces k n places
places_more m k n [] h inside = tt
places_more m k n (place ∷ places) h (first, more) = ((first.0, place_more m k place h first.1), places_more m k n places h more)

places_append : (m n : ℕ) (xs ys : List (List ℕ)) → InPlaces m n xs → InPlaces m n ys → InPlaces m n (xs ++ ys)
places_append m n [] ys a b = b
places_append m n (x ∷ xs) ys (first, more) b = (first, places_append m n xs ys more b)

state_in : (c : Circuit) (base m : ℕ) (latches : List Latch) → base + block_size c + 1 ≤ m → AllByRecursion (IsLowLatch c.max) latches → InPlace m (map (λ latch. number base latch.var) latches)
state_in c base m [] h all = tt
state_in c base m (latch ∷ latches) h (first, more) = ((omega arith, (let low = first.0 in omega (arith, low, h))), state_in c base m latches h more)

successor_in : (c : Circuit) (base m : ℕ) (latches : List Latch) → base + block_size c + 1 ≤ m → AllByRecursion (IsLowLatch c.max) latches
    → InPlace m (map (λ latch. next_number c base latch.var) latches)
successor_in c base m [] h all = tt
successor_in c base m (latch ∷ latches) h (first, more) = ((omega arith, (let low = first.0 in omega (arith, low, h))), successor_in c base m latches h more)

block_places_in : (c : Circuit) → AreLow c → (base m : ℕ) → base + block_size c + 1 ≤ m → InPlaces m (length c.latches) (block_places c base)
block_places_in c low base m h = (
  (length-map c.latches (λ latch. number base latch.var), state_in c base m c.latches h low.latches),
  ((length-map c.latches (λ latch. next_number c base latch.var), successor_in c base m c.latches h low.latches), tt),
)

-- ---- clauses at places

at_place : (m : ℕ) (place : List ℕ) (n : ℕ) → InPlace m place → n < length place → (0 < slice_index_or place n 0) × (slice_index_or place n 0 < m)
at_place m [] n inside below = absurd (omega (arith, below))
at_place m (k ∷ place) zero (first, more) below = first
at_place m (k ∷ place) (suc n) (first, more) below = at_place m place n more (omega (arith, below))

clause_in : (m : ℕ) (place : List ℕ) (clause : List Lit) → InPlace m place → AllByRecursion (λ l. l.var < length place) clause → InClause m (clause_at_place place clause)
clause_in m place [] inside over = tt
clause_in m place (l ∷ clause) inside (first, more) = (at_place m place l.var inside first, clause_in m place clause inside more)

broken_in : (m : ℕ) (place : List ℕ) (clause : List Lit) → InPlace m place → AllByRecursion (λ l. l.var < length place) clause → InClause m (map (λ l. negation (literal_at_place place l)) clause)
broken_in m place [] inside over = tt
broken_in m place (l ∷ clause) inside (first, more) = (at_place m place l.var inside first, broken_in m place clause inside more)

set_in : (m : ℕ) (place : List ℕ) (set : List (List Lit)) → InPlace m place → Over (length place) set → InSet m (set_at_place place set)
set_in m place [] inside over = tt
set_in m place (clause ∷ set) inside (first, more) = (clause_in m place clause inside first, set_in m place set inside more)

-- ---- walls

denials_in : (m d : ℕ) (clause : List Lit) → 0 < d → d < m → InClause m clause → InSet m (denials d clause)
denials_in m d [] low high inside = tt
denials_in m d (l ∷ clause) low high (first, more) = (((low, high), (first, tt)), denials_in m d clause low high more)

marked_in : (m z d : ℕ) (clause : List Lit) → 0 < z → z < m → 0 < d → d < m → InClause m clause → InSet m (marked z d clause)
marked_in m z d clause low high first last inside = (((low, high), inside), denials_in m d clause first last inside)

wall_at_in : (m z : ℕ) (place : List ℕ) (d : ℕ) (set : List (List Lit)) → 0 < z → z < m → 0 < d → d + length set ≤ m → InPlace m place → Over (length place) set → InSet m (wall_at z place d set)
wall_at_in m z place d [] low high first last inside over = tt
wall_at_in m z place d (clause ∷ set) low high first last inside (here, more) =
    set_append m (marked z d (clause_at_place place clause)) (wall_at z place (d + 1) set)
    (marked_in m z d (clause_at_place place clause) low high first (omega (arith, last)) (clause_in m place clause inside here))
    (wall_at_in m z place (d + 1) set low high (omega arith) (omega (arith, last)) inside more)

marks_in : (m d : ℕ) (set : List (List Lit)) → 0 < d → d + length set ≤ m → InClause m (marks d set)
marks_in m d [] first last = tt
marks_in m d (clause ∷ set) first last = ((first, omega (arith, last)), marks_in m (d + 1) set (omega arith) (omega (arith, last)))

closing_in : (m z d : ℕ) (set : List (List Lit)) (names : List Lit) → 0 < z → z < m → 0 < d → d + length set ≤ m → InClause m names → InClause m (closing z d set names)
closing_in m z d set names low high first last named =
    clause_append m (plus z ∷ [] ++ marks d set) (map negation names) ((low, high), marks_in m d set first last) (clause_negated m names named)

grows : (set : List (List Lit)) (d : ℕ) (places : List (List ℕ)) → d ≤ after_marks set d places
grows set d [] = omega arith
grows set d (place ∷ places) = (let more = grows set (d + length set) places in omega (arith, more))

over_in : (m n z : ℕ) (names : List Lit) (set : List (List Lit)) (d : ℕ) (places : List (List ℕ)) → 0 < z → z < m → 0 < d → after_marks set d places ≤ m → InClause m names → InPlaces m n places → Over n set
    → InSet m (wall_over z names set d places)
over_in m n z names set d [] low high first last named inside over = tt
over_in m n z names set d (place ∷ places) low high first last named (here, more) over =
    let next = grows set (d + length set) places in
    let end : d + length set ≤ m = omega (arith, next, last) in
    set_append m (wall_at z place d set ++ closing z d set names ∷ []) (wall_over z names set (d + length set) places)
    (set_append m (wall_at z place d set) (closing z d set names ∷ [])
    (wall_at_in m z place d set low high first end here.1 (subst (λ k. Over k set) (sym here.0) over)) (closing_in m z d set names low high first end named, tt))
    (over_in m n z names set (d + length set) places low high (omega (arith, first)) last named more over)

names_in : (m z : ℕ) (names : List Lit) → 0 < z → z < m → InClause m names → InSet m (map (λ name. minus z ∷ name ∷ []) names)
names_in m z [] low high inside = tt
names_in m z (l ∷ names) low high (first, more) = (((low, high), (first, tt)), names_in m z names low high more)

-- ---- uses

-- the sides so far are numbers below the next free one
pub record AreBelow (n : Numbering) : Type 0 where
  pub free : 0 < n.free
  pub sides : (entry z : ℕ) → n.sides entry ≡ Some z → (0 < z) × (z < n.free)

named_in : (m : ℕ) (side : Side) (o : Option ℕ) → ((z : ℕ) → o ≡ Some z → (0 < z) × (z < m)) → InClause m (named_literal side o)
named_in m In (Some z) h = (h z refl, tt)
named_in m Out (Some z) h = (h z refl, tt)
named_in m In None h = tt
named_in m Out None h = tt
named_in m Any o h = tt

sides_in : (n : Numbering) (uses : List Use) → AreBelow n → InClause n.free (named_sides n.sides uses)
sides_in n [] below = tt
sides_in n (u ∷ uses) below =
    clause_append n.free (named_literal u.side (n.sides u.entry)) (named_sides n.sides uses) (named_in n.free u.side (n.sides u.entry) (λ z is. below.sides u.entry z is)) (sides_in n uses below)

reach_in : (m n : ℕ) (set : List (List Lit)) (places : List (List ℕ)) → InPlaces m n places → Over n set → InSet m (reach_clauses set places)
reach_in m n set [] inside over = tt
reach_in m n set (place ∷ places) (here, more) over =
    set_append m (set_at_place place set) (reach_clauses set places) (set_in m place set here.1 (subst (λ k. Over k set) (sym here.0) over)) (reach_in m n set places more over)

side_in : (b : Bool) (z : ℕ) (o : Option ℕ) (m w : ℕ) → (if b then Some z else o) ≡ Some w → 0 < z → z < m → (o ≡ Some w → (0 < w) × (w < m)) → (0 < w) × (w < m)
side_in true z o m w is low high more = let same : z ≡ w = cc is in (omega (arith, low, same), omega (arith, high, same))
side_in false z o m w is low high more = more is

-- what is so of the clauses of a use, or of uses, and of the numbers behind them
record AreIn (before after : Numbering) (clauses : List (List Lit)) : Type 0 where
  inside : InSet after.free clauses
  below : AreBelow after
  up : before.free ≤ after.free

wall_in : (n : ℕ) (places : List (List ℕ)) (k : Numbering) (u : Numbered) → InPlaces k.free n places → Over n u.entry.clauses → AreBelow k
    → AreIn k (after_use places k u Wall) (use_clauses places k u.entry Wall)
wall_in n places k u inside over below =
    let z : ℕ = k.free in
    let set : List (List Lit) = u.entry.clauses in
    let names : List Lit = named_sides k.sides u.entry.uses in
    let m : ℕ = after_marks set (z + 1) places in
    let up : z + 1 ≤ m = grows set (z + 1) places in
    let low : 0 < z = below.free in
    let high : z < m = omega (arith, up) in
    let named : InClause m names = clause_more z m names (omega (arith, up)) (sides_in k u.entry.uses below) in
    record {
      inside = set_append m (map (λ name. minus z ∷ name ∷ []) names) (wall_over z names set (z + 1) places) (names_in m z names low high named)
          (over_in m n z names set (z + 1) places low high (omega arith) (omega arith) named (places_more z m n places (omega (arith, up)) inside) over);
      below = record {
        free = omega (arith, up);
        sides = λ entry w is. side_in (entry == u.number) z (k.sides entry) m w is low high (λ was. (let old = below.sides entry w was in (old.0, (let less = old.1 in omega (arith, less, high)))));
      };
      up = omega (arith, up);
    }

use_in : (n : ℕ) (places : List (List ℕ)) (k : Numbering) (u : Numbered) (kind : Kind) → InPlaces k.free n places → Over n u.entry.clauses → AreBelow k
    → AreIn k (after_use places k u kind) (use_clauses places k u.entry kind)
use_in n places k u Reach inside over below = record { inside = reach_in k.free n u.entry.clauses places inside over; below = below; up = omega arith }
use_in n places k u Wall inside over below = wall_in n places k u inside over below

abbrev pub UsesOver : ℕ → List Numbered → Type 0
UsesOver n us = AllByRecursion (λ u. Over n u.entry.clauses) us

uses_in : (n : ℕ) (places : List (List ℕ)) (k : Numbering) (us : List Numbered) → InPlaces k.free n places → UsesOver n us → AreBelow k → AreIn k (after_uses places k us) (uses_clauses places k us)
uses_in n places k [] inside over below = record { inside = tt; below = below; up = omega arith }
uses_in n places k (u ∷ us) inside (first, more) below =
    let next : Numbering = after_use places k u u.entry.kind in
    let last : Numbering = after_uses places next us in
    let here = use_in n places k u u.entry.kind inside first below in
    let rest = uses_in n places next us (places_more k.free next.free n places here.up inside) more here.below in
    record {
      inside = set_append last.free (use_clauses places k u.entry u.entry.kind) (uses_clauses places next us)
          (set_more next.free last.free (use_clauses places k u.entry u.entry.kind) rest.up here.inside) rest.inside;
      below = rest.below;
      up = (let a = here.up in let b = rest.up in omega (arith, a, b));
    }

none_below : (n : ℕ) → 0 < n → AreBelow (free_from n)
none_below n low = record { free = low; sides = λ entry z is. absurd (cc is) }

-- ---- obligations

over_at : (n : ℕ) (set : List (List Lit)) (i : ℕ) → Over n set → AllByRecursion (λ l. l.var < n) (slice_index_or set i [])
over_at n [] i over = tt
over_at n (clause ∷ set) zero (first, more) = first
over_at n (clause ∷ set) (suc i) (first, more) = over_at n set i more

pub obligation_in : (c : Circuit) → AreLow c → (us : List Numbered) (own : List Use) (set : List (List Lit)) (i : ℕ) → UsesOver (length c.latches) us → Over (length c.latches) set
    → InSet (after_step c us).free (obligation_clauses c us own set i) × (0 < (after_step c us).free)
obligation_in c low us own set i used over =
    let n : ℕ = length c.latches in
    let start : ℕ = block_size c + 1 in
    let last : Numbering = after_step c us in
    let m : ℕ = last.free in
    let places : InPlaces start n (block_places c 0) = block_places_in c low 0 start (omega arith) in
    let uses = uses_in n (block_places c 0) (free_from start) us places used (none_below start (omega arith)) in
    let up : start ≤ m = uses.up in
    let behind : InPlaces m n (block_places c 0) = block_places_in c low 0 m (omega (arith, up)) in
    let state = behind.0 in
    let successor = behind.1.0 in
    let step : InSet m (step_clauses c) = set_more (0 + block_size c + 1) m (step_clauses c) (omega (arith, up)) (block_in c low 0) in
    let own_sides : InSet m (units (named_sides last.sides own)) = set_units m (named_sides last.sides own) (sides_in last own uses.below) in
    let at_state : InSet m (set_at_place (state_place c 0) set) = set_in m (state_place c 0) set state.1 (subst (λ k. Over k set) (sym state.0) over) in
    let clause : List Lit = slice_index_or set i [] in
    let broken : InClause m (broken_literals c clause) =
    broken_in m (successor_place c 0) clause successor.1 (subst (λ k. AllByRecursion (λ l. l.var < k) clause) (sym successor.0) (over_at n set i over)) in (
      set_append m (shared_clauses c us own set) (units (broken_literals c clause))
          (set_append m (step_with_uses c us ++ units (named_sides last.sides own)) (set_at_place (state_place c 0) set)
          (set_append m (step_with_uses c us) (units (named_sides last.sides own))
          (set_append m (step_clauses c) (uses_clauses (block_places c 0) (free_from start) us) step uses.inside) own_sides) at_state)
          (set_units m (broken_literals c clause) broken),
      omega (arith, up),
    )

-- ---- skeletons

blocks_up : (c : Circuit) (base n : ℕ) → base ≤ after_blocks c base n
blocks_up c base zero = omega arith
blocks_up c base (suc n) = (let more = blocks_up c (base + block_size c) n in omega (arith, more))

blocks_in : (c : Circuit) → AreLow c → (base n : ℕ) → InSet (after_blocks c base n + 1) (blocks_clauses c base n)
blocks_in c low base zero = tt
blocks_in c low base (suc n) =
    let next : ℕ = base + block_size c in
    let m : ℕ = after_blocks c next n + 1 in
    let up = blocks_up c next n in
    set_append m (block_clauses c base) (blocks_clauses c next n) (set_more (base + block_size c + 1) m (block_clauses c base) (omega (arith, up)) (block_in c low base)) (blocks_in c low next n)

blocks_places_in : (c : Circuit) → AreLow c → (base n : ℕ) → InPlaces (after_blocks c base n + 1) (length c.latches) (blocks_places c base n)
blocks_places_in c low base zero = tt
blocks_places_in c low base (suc n) =
    let next : ℕ = base + block_size c in
    let m : ℕ = after_blocks c next n + 1 in
    let up = blocks_up c next n in
    places_append m (length c.latches) (block_places c base) (blocks_places c next n) (block_places_in c low base m (omega (arith, up))) (blocks_places_in c low next n)

literals_in : (c : Circuit) (base : ℕ) (literals : List ℕ) (n : ℕ) → length literals ≤ n → AreLowLiterals c.max literals → InSet (after_blocks c base n + 1) (literals_clauses c base literals)
literals_in c base [] n fit low = tt
literals_in c base (literal ∷ literals) zero fit low = absurd (omega (arith, fit))
literals_in c base (literal ∷ literals) (suc n) fit (first, more) =
    let next : ℕ = base + block_size c in
    let up = blocks_up c next n in
    let here = above base c literal first in
    (((here.0, (let less = here.1 in omega (arith, less, up))), tt), literals_in c next literals n (omega (arith, fit)) more)

-- there are as many blocks as literals
count_fits : (k : ℕ) → k ≤ max 1 k
count_fits k = omega arith

pub skeleton_in : (c : Circuit) → AreLow c → (j : ℕ) (us : List Numbered) → AreLowLiterals c.max (fair_literals c j) → UsesOver (length c.latches) us
    → InSet (after_skeleton c j us).free (skeleton_clauses c j us) × (0 < (after_skeleton c j us).free)
skeleton_in c low j us literals_low used =
    let literals : List ℕ = fair_literals c j in
    let n : ℕ = block_count literals in
    let start : ℕ = after_blocks c 0 n + 1 in
    let places : List (List ℕ) = blocks_places c 0 n in
    let last : Numbering = after_skeleton c j us in
    let m : ℕ = last.free in
    let uses = uses_in (length c.latches) places (free_from start) us (blocks_places_in c low 0 n) used (none_below start (omega arith)) in
    let up : start ≤ m = uses.up in (
      set_append m (blocks_clauses c 0 n ++ literals_clauses c 0 literals) (uses_clauses places (free_from start) us)
          (set_append m (blocks_clauses c 0 n) (literals_clauses c 0 literals) (set_more start m (blocks_clauses c 0 n) up (blocks_in c low 0 n))
          (set_more start m (literals_clauses c 0 literals) up (literals_in c 0 literals n (count_fits (length literals)) literals_low)))
          uses.inside,
      omega (arith, up),
    )
