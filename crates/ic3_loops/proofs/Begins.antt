-- How frames begin: a lemma for each literal of the cube of the starts in the lowest one.
use Rattle.std.proofs.Common.{◌≡◌, ℕ, zero, suc, ◌+◌, ◌<◌, ◌≤◌, Bool, true, false, ◌||◌, List, [], ◌∷◌, ◌++◌, length, take, get_or, refl, sym, ap, subst, ◌∙◌, arith}
use Rattle.std.specs.List.{All}
use Rattle.std.proofs.lemmas.Bool.{or_left, or_right}
use Rattle.std.proofs.lemmas.List.{take_more}
use Rattle.std.proofs.lemmas.List.Elements.{All-nil, All-cons}
use Rattle.proof_semantics.specs.declared.literals.Lit.{Lit}
use Rattle.proof_semantics.specs.Clauses.{lit_eq, has_literal, literal_value, cube_value, values_of}
use Rattle.proof_semantics.proofs.LiteralLaws.{lit_eq-same, cube_value-push}
use Rattle.ic3_frames.specs.Frames.{frame_at, with_lemma}
use Rattle.ic3_frames.specs.Room.{allowed_by, room}
use Rattle.ic3_frames.proofs.Meaning.{with-above, number-stays}
use Rattle.ic3_frames.proofs.Rooms.{frames-take, lemmas-make-none}
use Rattle.ic3_semantics.specs.declared.lemmas.Lemma.{Lemma}
use Rattle.ic3_semantics.specs.Stepping.{meets_from, IsOver}
use Rattle.ic3_semantics.specs.Searching.{Question}
use Rattle.ic3_loops.specs.Sound.{has_one_of, Agree}
use Rattle.ic3_loops.proofs.Sounds.{Levels, allowed_before, lemma_holds, all-with}

-- The lowest of two frames has lemmas for these literals of the cube, the other none.
pub record IsBegun (q : Question) (cube front : List Lit) (levels : Levels) : Type 0 where
  pub two : length levels ≡ 2
  pub over : All (IsOver (length q.circuit.latches)) (frame_at levels 0)
  pub based : All (λ clause. has_one_of cube clause ≡ true) (frame_at levels 0)
  pub top : frame_at levels 1 ≡ []
  pub starts : (s : List Bool) → allowed_by (frame_at levels 0) s ≡ true → cube_value (values_of s) front ≡ true
  pub room : room (length q.circuit.latches) levels ≤ room (length q.circuit.latches) []

pub begun-first : (q : Question) (cube front : List Lit) (levels : Levels) → levels ≡ [] ∷ [] ∷ [] → front ≡ [] → IsBegun q cube front levels
begun-first q cube front levels is none =
    subst (IsBegun q cube front) (sym is)
    (record {
      two = omega arith;
      over = All-nil (IsOver (length q.circuit.latches));
      based = All-nil (λ clause. has_one_of cube clause ≡ true);
      top = refl;
      starts = λ s h. ap (cube_value (values_of s)) none;
      room = opened (length q.circuit.latches);
    })
  where
    opened : (n : ℕ) → room n ([] ∷ [] ∷ []) ≤ room n []
    opened n =
        let first : room n ([] ++ [] ∷ []) + 1 ≤ room n [] = frames-take n [] (omega arith) in
        let second : room n (([] ∷ []) ++ [] ∷ []) + 1 ≤ room n ([] ∷ []) = frames-take n ([] ∷ []) (omega arith) in
        omega (arith, first, second)

-- a literal of the cube is one of its unit clause
pub one_of : (cube : List Lit) (i : ℕ) (d : Lit) → i < length cube → has_one_of cube (get_or cube i d ∷ []) ≡ true
one_of [] i d below = absurd (omega arith)
one_of (a ∷ cube) zero d below =
    or_left (lit_eq a a || false) (has_one_of cube (a ∷ [])) (or_left (lit_eq a a) false (lit_eq-same a))
one_of (a ∷ cube) (suc i) d below =
    or_right (has_literal (get_or cube i d ∷ []) a) (has_one_of cube (get_or cube i d ∷ [])) (one_of cube i d (omega arith))

or_false : (a : Bool) → (a || false) ≡ true → a ≡ true
or_false true h = refl
or_false false h = h

pub begun-more : (q : Question) (cube front : List Lit) (levels new : Levels) (i : ℕ) (d : Lit) → IsOver (length q.circuit.latches) cube → i < length cube
    → front ≡ take i cube → IsBegun q cube front levels → new ≡ with_lemma levels 0 (get_or cube i d ∷ [])
    → IsBegun q cube (take (i + 1) cube) new
begun-more q cube front levels new i d over below is begun put =
    let a : Lit = get_or cube i d in
    let n : ℕ = length q.circuit.latches in
    let inside : 0 < length levels = omega (arith, begun.two) in
    subst (IsBegun q cube (take (i + 1) cube)) (sym put)
    (record {
      two = number-stays levels 0 (a ∷ []) ∙ begun.two;
      over = all-with (IsOver n) levels 0 (a ∷ []) begun.over (All-cons (λ l. l.var < n) a [] (over i d below) (All-nil (λ l. l.var < n)));
      based = all-with (λ clause. has_one_of cube clause ≡ true) levels 0 (a ∷ []) begun.based (one_of cube i d below);
      top = with-above levels 0 (a ∷ []) 1 (omega arith) ∙ begun.top;
      starts = λ s h.
          let here : literal_value (values_of s) a ≡ true = or_false (literal_value (values_of s) a) (lemma_holds levels 0 (a ∷ []) 0 s inside (omega arith) h) in
          let before : cube_value (values_of s) (take i cube) ≡ true =
          ap (cube_value (values_of s)) (sym is) ∙ begun.starts s (allowed_before levels 0 (a ∷ []) 0 s inside h)
          in
          ap (cube_value (values_of s)) (take_more cube i d below) ∙ cube_value-push (values_of s) (take i cube) a before here;
      room =
          let less = lemmas-make-none n levels 0 (a ∷ []) inside in
          omega (arith, less, begun.room);
    })

pub agree-first : (lemmas : List Lemma) (levels : Levels) → lemmas ≡ [] → levels ≡ [] ∷ [] ∷ [] → Agree lemmas levels
agree-first lemmas levels none is k s =
    ap (λ those. meets_from those k s) none ∙ empty k ∙ ap (λ those. allowed_by (frame_at those k) s) (sym is)
  where
    empty : (k : ℕ) → true ≡ allowed_by (frame_at ([] ∷ [] ∷ []) k) s
    empty zero = refl
    empty (suc zero) = refl
    empty (suc (suc zero)) = refl
    empty (suc (suc (suc k))) = refl
