-- The steps of the search for a cone.
use Rattle.std.proofs.Common.{◌≡◌, ℕ, zero, suc, ◌+◌, ◌-◌, ◌*◌, ◌<◌, ◌≤◌, ◌⊎◌, Bool, true, false, cond, IsTrue, nat_lt, List, [], ◌∷◌, ◌++◌, map, length, get_or, set, replicate, take, Option, Some, None, Result, Ok, Err, OnOk, slice_get, sum_by, refl, sym, ap, ◌∙◌, subst, inl, inr, arith}
use Rattle.std.specs.List.{All, Contains, flat_map}
use Rattle.std.proofs.lemmas.Bool.{cases_eq, cases_lt, false≢true, ltb-true, lt-ltb}
use Rattle.std.proofs.lemmas.List.{length-set, length-replicate, length_push, get_or-set_same, get_or-set_other, get_or_past, get_or-replicate, get_or_push, take_all}
use Rattle.std.proofs.lemmas.List.Elements.{All-append, All-push, All-more, Contains-append_left, Contains-push, Contains-push_cases}
use Rattle.std.proofs.lemmas.List.Sums.{sum_by-set}
use Rattle.std.proofs.lemmas.Option.{same_Some, none-some}
use Rattle.aig_semantics.specs.Literals.{variable_of, variable_in}
use Rattle.aig_semantics.specs.Circuits.{Circuit, IsWithinLimits, used, fair_literals}
use Rattle.aig_semantics.proofs.Lists.{All-left, All-right}
use Rattle.circuit.proofs.Counting.{All-unmap, All-parts}
use Rattle.circuit.proofs.Searching.{last-split}
use Rattle.cone.specs.declared.tables.Reads.{Reads}
use Rattle.cone.specs.Cones.{judged_literals, IsClosed, AreMarksOf}
use Rattle.cone.specs.Finding.{reads_at, reads_of_gate, reads_of_latch, AreIn, IsTable, IsSettled, IsSearch, KeepsMarks, IsAsked, IsPut, IsPutWhere, steps_left}

-- ---- marks

inside-marked : (marks : List Bool) (u : ℕ) → IsTrue (variable_in marks u) → u < length marks
inside-marked marks u h =
    elim (cases_lt u (length marks)) [
      | inl lt ↦ lt
      | inr ge ↦ absurd (false≢true (sym (get_or_past marks u false ge) ∙ h))
    ]

set-here : (marks : List Bool) (v : ℕ) → v < length marks → IsTrue (variable_in (set marks v true) v)
set-here marks v below = get_or-set_same marks v true false below

set-keeps : (marks : List Bool) (v u : ℕ) → IsTrue (variable_in marks u) → IsTrue (variable_in (set marks v true) u)
set-keeps marks v u h =
    elim (cases_eq u v) [
      | inl same ↦
          ap (λ w. variable_in (set marks v true) w) same
          ∙ set-here marks v (subst (λ w. w < length marks) same (inside-marked marks u h))
      | inr other ↦ get_or-set_other marks v u true false other ∙ h
    ]

-- ---- a variable that is put

pub put-keeps : (v : ℕ) (marks : List Bool) (stack : List ℕ) (marks' : List Bool) (stack' : List ℕ) (b : Bool) → IsPutWhere b v marks stack marks' stack' → KeepsMarks marks marks'
put-keeps v marks stack marks' stack' true put u h = subst (λ m. IsTrue (variable_in m u)) (sym put.0) h
put-keeps v marks stack marks' stack' false put u h = subst (λ m. IsTrue (variable_in m u)) (sym put.0) (set-keeps marks v u h)

put-here : (v : ℕ) (marks : List Bool) (stack : List ℕ) (marks' : List Bool) (stack' : List ℕ) (b : Bool) → variable_in marks v ≡ b → IsPutWhere b v marks stack marks' stack' → v < length marks → IsTrue (variable_in marks' v)
put-here v marks stack marks' stack' true e put below = subst (λ m. IsTrue (variable_in m v)) (sym put.0) e
put-here v marks stack marks' stack' false e put below = subst (λ m. IsTrue (variable_in m v)) (sym put.0) (set-here marks v below)

open-one : (b : Bool) → b ≡ false → cond {A = ℕ} b 0 1 ≡ 1
open-one true e = absurd (false≢true (sym e))
open-one false e = refl

put-steps : (v : ℕ) (marks : List Bool) (stack : List ℕ) (marks' : List Bool) (stack' : List ℕ) (b : Bool) → variable_in marks v ≡ b → IsPutWhere b v marks stack marks' stack' → v < length marks → steps_left marks' stack' ≡ steps_left marks stack
put-steps v marks stack marks' stack' true e put below =
    ap (λ m. steps_left m stack') put.0 ∙ ap (λ s. steps_left marks s) put.1
put-steps v marks stack marks' stack' false e put below =
    let fewer : sum_by (λ marked. cond marked 0 1) (set marks v true) + cond (get_or marks v false) 0 1 ≡ sum_by (λ marked. cond marked 0 1) marks + 0 =
    sum_by-set (λ marked. cond marked 0 1) marks v true false below
    in
    let one_less : steps_left (set marks v true) (stack ++ v ∷ []) ≡ steps_left marks stack = omega (arith, length_push stack v, fewer, open-one (get_or marks v false) e) in
    ap (λ m. steps_left m stack') put.0 ∙ (ap (λ s. steps_left (set marks v true) s) put.1 ∙ one_less)

module _ (c : Circuit) (j : ℕ) (table : List (Option Reads)) where
  still : (stack hand : List ℕ) (marks : List Bool) (v u : ℕ) → Contains stack u ⊎ (Contains hand u ⊎ IsSettled table marks u) → Contains (stack ++ v ∷ []) u ⊎ (Contains hand u ⊎ IsSettled table (set marks v true) u)
  still stack hand marks v u w =
      elim w [
        | inl x ↦ inl (Contains-append_left stack (v ∷ []) u x)
        | inr y ↦
            elim y [
              | inl z ↦ inr (inl z)
              | inr f ↦
                  inr (inr (λ reads e.
                  (set-keeps marks v (variable_of reads.first) (f reads e).0, set-keeps marks v (variable_of reads.second) (f reads e).1)))
            ]
      ]

  set-search : (v : ℕ) (marks : List Bool) (stack hand : List ℕ) → v < length marks → IsAsked c j v → IsSearch c j table marks stack hand → IsSearch c j table (set marks v true) (stack ++ v ∷ []) hand
  set-search v marks stack hand below asked s = record {
    size = length-set marks v true ∙ s.size;
    kept =
        λ keep closed u h. elim (cases_eq u v) [
          | inl same ↦ subst (λ w. IsTrue (keep w)) (sym same) (asked keep closed)
          | inr other ↦ s.kept keep closed u (sym (get_or-set_other marks v u true false other) ∙ h)
        ];
    waiting =
        All-push (λ u. IsTrue (variable_in (set marks v true) u)) stack v
        (λ k d at. set-keeps marks v (get_or stack k d) (s.waiting k d at))
        (set-here marks v below);
    settled =
        λ u h. elim (cases_eq u v) [
          | inl same ↦ inl (subst (λ w. Contains (stack ++ v ∷ []) w) (sym same) (Contains-push stack v))
          | inr other ↦ still stack hand marks v u (s.settled u (sym (get_or-set_other marks v u true false other) ∙ h))
        ];
  }

  put-search : (hand : List ℕ) (v : ℕ) (marks : List Bool) (stack : List ℕ) (marks' : List Bool) (stack' : List ℕ) (b : Bool) → IsPutWhere b v marks stack marks' stack' → v < length marks → IsAsked c j v → IsSearch c j table marks stack hand → IsSearch c j table marks' stack' hand
  put-search hand v marks stack marks' stack' true put below asked s =
      subst (λ m. IsSearch c j table m stack' hand) (sym put.0) (subst (λ z. IsSearch c j table marks z hand) (sym put.1) s)
  put-search hand v marks stack marks' stack' false put below asked s =
      subst (λ m. IsSearch c j table m stack' hand) (sym put.0)
      (subst (λ z. IsSearch c j table (set marks v true) z hand) (sym put.1) (set-search v marks stack hand below asked s))

  -- nothing is marked at first
  pub begins : (marks : List Bool) (stack : List ℕ) → marks ≡ replicate (c.max + 1) false → stack ≡ [] → IsSearch c j table marks stack []
  begins marks stack e f =
      let none : (v : ℕ) → IsTrue (variable_in marks v) → ⊥ =
      λ v h.
      elim (cases_lt v (c.max + 1)) [
        | inl lt ↦ false≢true (sym (ap (λ m. variable_in m v) e ∙ get_or-replicate (c.max + 1) v false false lt) ∙ h)
        | inr ge ↦
            false≢true (sym (ap (λ m. variable_in m v) e ∙ get_or_past (replicate (c.max + 1) false) v false (omega (arith, length-replicate (c.max + 1) false))) ∙ h)
      ]
      in
      record {
        size = ap (λ m. length m) e ∙ length-replicate (c.max + 1) false;
        kept = λ keep closed v h. absurd (none v h);
        waiting = subst (λ z. All (λ v. IsTrue (variable_in marks v)) z) (sym f) (λ k d below. absurd (omega arith));
        settled = λ v h. absurd (none v h);
      }

  -- ---- the judged literals

  all-asked : All (λ literal. IsAsked c j (variable_of literal)) (judged_literals c j)
  all-asked = λ k d below keep closed. closed.judged k d below

  pub fairness-asked : (literals : List ℕ) → literals ≡ c.fairness → All (λ literal. IsAsked c j (variable_of literal)) literals
  fairness-asked literals e =
      subst (λ ls. All (λ literal. IsAsked c j (variable_of literal)) ls) (sym e)
      (All-right (λ literal. IsAsked c j (variable_of literal)) (get_or c.justice j []) c.fairness
      (All-left (λ literal. IsAsked c j (variable_of literal)) (fair_literals c j) c.constraints all-asked))

  pub constraints-asked : (literals : List ℕ) → literals ≡ c.constraints → All (λ literal. IsAsked c j (variable_of literal)) literals
  constraints-asked literals e =
      subst (λ ls. All (λ literal. IsAsked c j (variable_of literal)) ls) (sym e)
      (All-right (λ literal. IsAsked c j (variable_of literal)) (fair_literals c j) c.constraints all-asked)

  -- ---- the end

  settled-in : (marks : List Bool) (v : ℕ) → IsSearch c j table marks [] [] → IsTrue (variable_in marks v) → IsSettled table marks v
  settled-in marks v s h =
      elim (s.settled v h) [
        | inl x ↦ absurd (let l : x.0 < 0 = x.1 in omega arith)
        | inr y ↦
            elim y [
              | inl z ↦ absurd (let l : z.0 < 0 = z.1 in omega arith)
              | inr f ↦ f
            ]
      ]

  abbrev AreMarked : List Bool → List ℕ → Type 0
  AreMarked marks literals = All (λ literal. IsTrue (variable_in marks (variable_of literal))) literals

  still-marked : (old new : List Bool) (literals : List ℕ) → KeepsMarks old new → AreMarked old literals → AreMarked new literals
  still-marked old new literals keeps h = λ k d below. keeps (variable_of (get_or literals k d)) (h k d below)

  are-marks : (marks : List Bool) → IsTable c j table → IsSearch c j table marks [] [] → AreMarked marks (get_or c.justice j []) → AreMarked marks c.fairness → AreMarked marks c.constraints → AreMarksOf c j marks
  are-marks marks t s property fairness constraints = record {
    size = s.size;
    cone = record {
      closed = record {
        judged =
            All-append (λ literal. IsTrue (variable_in marks (variable_of literal))) (fair_literals c j) c.constraints
            (All-append (λ literal. IsTrue (variable_in marks (variable_of literal))) (get_or c.justice j []) c.fairness property fairness)
            constraints;
        gates =
            λ k d below h.
            settled-in marks (get_or c.gates k d).var s h (reads_of_gate (get_or c.gates k d)) (t.gates k d below);
        latches =
            λ k d below h.
            (settled-in marks (get_or c.latches k d).var s h (reads_of_latch (get_or c.latches k d)) (t.latches k d below)).0;
      };
      least = s.kept;
    };
  }

  pub ends : (m1 m2 m3 m4 : List Bool) (p f d : List ℕ) → IsTable c j table → p ≡ get_or c.justice j [] → f ≡ c.fairness → d ≡ c.constraints → AreMarked m1 p → KeepsMarks m1 m2 → AreMarked m2 f → KeepsMarks m2 m3 → AreMarked m3 d → KeepsMarks m3 m4 → IsSearch c j table m4 [] [] → AreMarksOf c j m4
  ends m1 m2 m3 m4 p f d t ep ef ed hp k12 hf k23 hd k34 s =
      are-marks m4 t s
      (subst (λ ls. AreMarked m4 ls) ep (still-marked m3 m4 p k34 (still-marked m2 m3 p k23 (still-marked m1 m2 p k12 hp))))
      (subst (λ ls. AreMarked m4 ls) ef (still-marked m3 m4 f k34 (still-marked m2 m3 f k23 hf)))
      (subst (λ ls. AreMarked m4 ls) ed (still-marked m3 m4 d k34 hd))

-- ---- the variables of a closed set lie within the circuit

variable-below : (max literal : ℕ) → literal ≤ 2 * max + 1 → variable_of literal < max + 1
variable-below max literal h = omega arith

module _ (c : Circuit) (j : ℕ) (limits : IsWithinLimits c) where
  abbrev below_all : ℕ → Bool
  below_all v = nat_lt v (c.max + 1)

  abbrev IsBelow : ℕ → Type 0
  IsBelow literal = IsTrue (nat_lt (variable_of literal) (c.max + 1))

  abbrev next_literals : List ℕ
  next_literals = map (λ latch. latch.next) c.latches

  abbrev right_sides : List ℕ
  right_sides = flat_map (λ gate. gate.rhs0 ∷ gate.rhs1 ∷ []) c.gates

  abbrev property_literals : List ℕ
  property_literals = flat_map (λ property. property) c.justice

  used-below : All IsBelow (used c)
  used-below = λ k d below. lt-ltb (variable_of (get_or (used c) k d)) (c.max + 1) (variable-below c.max (get_or (used c) k d) (limits.literals k d below))

  to_properties : All IsBelow (next_literals ++ right_sides ++ c.constraints ++ property_literals)
  to_properties = All-left IsBelow (next_literals ++ right_sides ++ c.constraints ++ property_literals) c.fairness used-below

  to_constraints : All IsBelow (next_literals ++ right_sides ++ c.constraints)
  to_constraints = All-left IsBelow (next_literals ++ right_sides ++ c.constraints) property_literals to_properties

  to_sides : All IsBelow (next_literals ++ right_sides)
  to_sides = All-left IsBelow (next_literals ++ right_sides) c.constraints to_constraints

  each-gate : All (λ gate. All IsBelow (gate.rhs0 ∷ gate.rhs1 ∷ [])) c.gates
  each-gate = All-parts IsBelow (λ gate. gate.rhs0 ∷ gate.rhs1 ∷ []) c.gates (All-right IsBelow next_literals right_sides to_sides)

  each-property : All (λ property. All IsBelow property) c.justice
  each-property = All-parts IsBelow (λ property. property) c.justice (All-right IsBelow (next_literals ++ right_sides ++ c.constraints) property_literals to_properties)

  property-below : All IsBelow (get_or c.justice j [])
  property-below =
      elim (cases_lt j (length c.justice)) [
        | inl lt ↦ each-property j [] lt
        | inr ge ↦ subst (λ ls. All IsBelow ls) (sym (get_or_past c.justice j [] ge)) (λ k d below. absurd (omega arith))
      ]

  closed-below : IsClosed c j below_all
  closed-below = record {
    judged =
        All-append IsBelow (fair_literals c j) c.constraints
        (All-append IsBelow (get_or c.justice j []) c.fairness property-below
        (All-right IsBelow (next_literals ++ right_sides ++ c.constraints ++ property_literals) c.fairness used-below))
        (All-right IsBelow (next_literals ++ right_sides) c.constraints to_constraints);
    gates = λ k d below h. (each-gate k d below 0 0 (omega arith), each-gate k d below 1 0 (omega arith));
    latches = λ k d below h. All-unmap IsBelow (λ latch. latch.next) c.latches (All-left IsBelow next_literals right_sides to_sides) k d below;
  }

  pub asked-inside : (v : ℕ) → IsAsked c j v → v < c.max + 1
  asked-inside v asked = ltb-true v (c.max + 1) (asked below_all closed-below)

-- ---- one more literal that is put

-- the first i literals are put
pub record IsPutting (c : Circuit) (j : ℕ) (table : List (Option Reads)) (before : List Bool) (literals : List ℕ) (marks : List Bool) (stack : List ℕ) (i : ℕ) : Type 0 where
  pub search : IsSearch c j table marks stack []
  pub keeps : KeepsMarks before marks
  pub marked : All (λ literal. IsTrue (variable_in marks (variable_of literal))) (take i literals)

module _ (c : Circuit) (j : ℕ) (table : List (Option Reads)) (limits : IsWithinLimits c) where
  put-inside : (marks : List Bool) (stack hand : List ℕ) (v : ℕ) → IsSearch c j table marks stack hand → IsAsked c j v → v < length marks
  put-inside marks stack hand v s asked = omega (arith, asked-inside c j limits v asked, s.size)

  module _ (before marks : List Bool) (stack literals : List ℕ) (i d : ℕ) (p : IsPutting c j table before literals marks stack i) (asked : All (λ literal. IsAsked c j (variable_of literal)) literals) (lt : i < length literals) where
    abbrev literal_here : ℕ
    literal_here = get_or literals i d

    pub putting-inside : variable_of literal_here < length marks
    putting-inside = put-inside marks stack [] (variable_of literal_here) p.search (asked i d lt)

    pub putting-more : (marks' : List Bool) (stack' : List ℕ) → IsPut (variable_of literal_here) marks stack marks' stack' → IsPutting c j table before literals marks' stack' (i + 1)
    putting-more marks' stack' put =
        let v : ℕ = variable_of literal_here in
        let b : Bool = variable_in marks v in
        let keeps : KeepsMarks marks marks' = put-keeps v marks stack marks' stack' b put in
        record {
          search = put-search c j table [] v marks stack marks' stack' b put putting-inside (asked i d lt) p.search;
          keeps = λ u h. keeps u (p.keeps u h);
          marked =
              All-more (λ literal. IsTrue (variable_in marks' (variable_of literal))) literals i d lt
              (λ k e at. keeps (variable_of (get_or (take i literals) k e)) (p.marked k e at))
              (put-here v marks stack marks' stack' b refl put putting-inside);
        }

  pub put-all : (before marks : List Bool) (stack literals : List ℕ) (i : ℕ) → IsPutting c j table before literals marks stack i → length literals ≤ i → All (λ literal. IsTrue (variable_in marks (variable_of literal))) literals
  put-all before marks stack literals i p most =
      subst (λ ls. All (λ literal. IsTrue (variable_in marks (variable_of literal))) ls) (take_all i literals most) p.marked

-- ---- the last of the stack is followed

in-hand : (v u : ℕ) → Contains (v ∷ []) u → v ≡ u
in-hand v u (zero, below, at) = at
in-hand v u (suc k, below, at) = absurd (omega arith)

module _ (c : Circuit) (j : ℕ) (table : List (Option Reads)) (limits : IsWithinLimits c) (t : IsTable c j table) (marks : List Bool) (stack : List ℕ) (s : IsSearch c j table marks stack []) (v : ℕ) (last : slice_get stack (length stack - 1) ≡ Some v) (rest : List ℕ) (e : rest ≡ take (length stack - 1) stack) where
  split : stack ≡ rest ++ v ∷ []
  split = last-split stack v last ∙ ap (λ z. z ++ v ∷ []) (sym e)

  split_search : IsSearch c j table marks (rest ++ v ∷ []) []
  split_search = subst (λ z. IsSearch c j table marks z []) split s

  marked-now : IsTrue (variable_in marks v)
  marked-now =
      subst (λ u. IsTrue (variable_in marks u)) (get_or_push rest v v (length rest) refl)
      (split_search.waiting (length rest) v (omega (arith, length_push rest v)))

  where-now : (u : ℕ) → Contains (rest ++ v ∷ []) u ⊎ (Contains [] u ⊎ IsSettled table marks u) → Contains rest u ⊎ (Contains (v ∷ []) u ⊎ IsSettled table marks u)
  where-now u w =
      elim w [
        | inl x ↦
            elim (Contains-push_cases rest v u x) [
              | inl y ↦ inl y
              | inr same ↦ inr (inl (0, omega arith, same))
            ]
        | inr y ↦
            elim y [
              | inl none ↦ absurd (let l : none.0 < 0 = none.1 in omega arith)
              | inr f ↦ inr (inr f)
            ]
      ]

  popped : IsSearch c j table marks rest (v ∷ [])
  popped = record {
    size = s.size;
    kept = s.kept;
    waiting = All-left (λ u. IsTrue (variable_in marks u)) rest (v ∷ []) split_search.waiting;
    settled = λ u h. where-now u (split_search.settled u h);
  }

  -- what it reads is marked
  let-go : (new : List Bool) (waits : List ℕ) → IsSearch c j table new waits (v ∷ []) → IsSettled table new v → IsSearch c j table new waits []
  let-go new waits now settled = record {
    size = now.size;
    kept = now.kept;
    waiting = now.waiting;
    settled =
        λ u h. elim (now.settled u h) [
          | inl x ↦ inl x
          | inr y ↦
              elim y [
                | inl z ↦ inr (inr (subst (λ w. IsSettled table new w) (in-hand v u z) settled))
                | inr f ↦ inr (inr f)
              ]
        ];
  }

  shorter : steps_left marks rest < steps_left marks stack
  shorter = omega (arith, ap (λ z. length z) split, length_push rest v)

  pub follows-nothing : reads_at table v ≡ None → IsSearch c j table marks rest []
  follows-nothing at = let-go marks rest popped (λ reads is. absurd (none-some reads (sym at ∙ is)))

  module _ (reads : Reads) (at : reads_at table v ≡ Some reads) where
    asked-first : IsAsked c j (variable_of reads.first)
    asked-first = λ keep closed. (t.kept v reads at keep closed (s.kept keep closed v marked-now)).0

    asked-second : IsAsked c j (variable_of reads.second)
    asked-second = λ keep closed. (t.kept v reads at keep closed (s.kept keep closed v marked-now)).1

    pub first-inside : variable_of reads.first < length marks
    first-inside = put-inside c j table limits marks rest (v ∷ []) (variable_of reads.first) popped asked-first

    module _ (marks1 : List Bool) (stack1 : List ℕ) (first : IsPut (variable_of reads.first) marks rest marks1 stack1) where
      after-first : IsSearch c j table marks1 stack1 (v ∷ [])
      after-first =
          put-search c j table (v ∷ []) (variable_of reads.first) marks rest marks1 stack1 (variable_in marks (variable_of reads.first)) first first-inside asked-first popped

      pub second-inside : variable_of reads.second < length marks1
      second-inside = put-inside c j table limits marks1 stack1 (v ∷ []) (variable_of reads.second) after-first asked-second

      module _ (marks2 : List Bool) (stack2 : List ℕ) (second : IsPut (variable_of reads.second) marks1 stack1 marks2 stack2) where
        keeps-second : KeepsMarks marks1 marks2
        keeps-second = put-keeps (variable_of reads.second) marks1 stack1 marks2 stack2 (variable_in marks1 (variable_of reads.second)) second

        both-marked : AreIn (variable_in marks2) reads
        both-marked = (
          keeps-second (variable_of reads.first)
              (put-here (variable_of reads.first) marks rest marks1 stack1 (variable_in marks (variable_of reads.first)) refl first first-inside),
          put-here (variable_of reads.second) marks1 stack1 marks2 stack2 (variable_in marks1 (variable_of reads.second)) refl second second-inside,
        )

        after-second : IsSearch c j table marks2 stack2 (v ∷ [])
        after-second =
            put-search c j table (v ∷ []) (variable_of reads.second) marks1 stack1 marks2 stack2 (variable_in marks1 (variable_of reads.second)) second second-inside asked-second after-first

        pub follows : IsSearch c j table marks2 stack2 []
        follows =
            let-go marks2 stack2 after-second
            (λ other is. subst (λ r. AreIn (variable_in marks2) r) (same_Some reads other (sym at ∙ is)) both-marked)

        pub nearer : steps_left marks2 stack2 < steps_left marks stack
        nearer =
            let one : steps_left marks1 stack1 ≡ steps_left marks rest =
            put-steps (variable_of reads.first) marks rest marks1 stack1 (variable_in marks (variable_of reads.first)) refl first first-inside
            in
            let two : steps_left marks2 stack2 ≡ steps_left marks1 stack1 =
            put-steps (variable_of reads.second) marks1 stack1 marks2 stack2 (variable_in marks1 (variable_of reads.second)) refl second second-inside
            in
            subst (λ n. n < steps_left marks stack) (sym (two ∙ one)) shorter

-- ---- what both calls tell

pub both : {A E : Type 0} (r : Result A E) (P Q R : Type 0) → (P → Q → R) → OnOk r P → OnOk r Q → OnOk r R
both (Ok x) P Q R f p q = f p q
both (Err e) P Q R f p q = tt
