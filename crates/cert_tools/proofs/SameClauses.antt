-- The clauses of obligations do not depend on the numbers of entries: where all numbers are changed, and no two become one,
-- the clauses stay.
use Rattle.std.proofs.Common.{◌≡◌, ℕ, ◌+◌, List, [], ◌∷◌, ◌++◌, map, refl, sym, ap, ap₂, ◌∙◌, inl, inr, Option, Some}
use Rattle.std.specs.Prelude.{◌==◌, if◌then◌else◌, slice_index_or}
use Rattle.std.proofs.lemmas.Bool.{eq-eqb, ne_eqb, cases_eq}
use Rattle.std.specs.List.{AllByRecursion}
use Rattle.aig_semantics.specs.Circuits.{Circuit, fair_literals}
use Rattle.proof_semantics.specs.declared.literals.Lit.{Lit}
use Rattle.fair_semantics.specs.declared.entries.Kind.{Kind}
use Rattle.fair_semantics.specs.declared.entries.Kind.TheVariants.{Reach, Wall}
use Rattle.fair_semantics.specs.declared.entries.Use.{Use}
use Rattle.fair_semantics.specs.Entries.{Entry, Numbered}
use Rattle.cnf_unroll.specs.Numbers.{block_size, state_place, block_places, set_at_place}
use Rattle.cnf_unroll.specs.Blocks.{step_clauses}
use Rattle.cnf_unroll.specs.Uses.{Numbering, free_from, with_side, named_literal, named_sides, use_clauses, after_use, uses_clauses, after_uses, after_marks, wall_clauses}
use Rattle.cnf_unroll.specs.Obligations.{units, after_step, obligation_clauses, broken_literals, blocks_clauses, blocks_places, literals_clauses, block_count, after_blocks, skeleton_clauses}

-- the numbers that count, and what becomes of each
module _ (Counts : ℕ → Type 0) (r : ℕ → ℕ) (one : (m n : ℕ) → Counts m → Counts n → r m ≡ r n → m ≡ n) where
  abbrev pub use_as : Use → Use
  use_as u = record { entry = r u.entry; side = u.side }

  abbrev pub entry_as : Entry → Entry
  entry_as e = record { kind = e.kind; clauses = e.clauses; uses = map use_as e.uses }

  abbrev pub numbered_as : Numbered → Numbered
  numbered_as u = record { number = r u.number; entry = entry_as u.entry }

  abbrev pub UsesCount : List Use → Type 0
  UsesCount uses = AllByRecursion (λ u. Counts u.entry) uses

  -- the number and those that its entry uses count
  abbrev pub AllCount : List Numbered → Type 0
  AllCount us = AllByRecursion (λ u. Counts u.number × UsesCount u.entry.uses) us

  same_test : (m n : ℕ) → Counts m → Counts n → (r m == r n) ≡ (m == n)
  same_test m n a b = elim (cases_eq m n) [
    | inl same ↦ eq-eqb (r m) (r n) (ap r same) ∙ sym (eq-eqb m n same)
    | inr apart ↦ ne_eqb (r m) (r n) (λ e. apart (one m n a b e)) ∙ sym (ne_eqb m n apart)
  ]

  abbrev pub AreSameSides : (ℕ → Option ℕ) → (ℕ → Option ℕ) → Type 0
  AreSameSides sides others = (m : ℕ) → Counts m → others (r m) ≡ sides m

  pub record AreSame (n o : Numbering) : Type 0 where
    pub free : o.free ≡ n.free
    pub sides : AreSameSides n.sides o.sides

  named_same : (sides others : ℕ → Option ℕ) (uses : List Use) → AreSameSides sides others → UsesCount uses → named_sides others (map use_as uses) ≡ named_sides sides uses
  named_same sides others [] same count = refl
  named_same sides others (u ∷ uses) same count =
      ap₂ (λ o ls. named_literal u.side o ++ ls) (same u.entry count.0) (named_same sides others uses same count.1)

  with_same : (sides others : ℕ → Option ℕ) (number z : ℕ) → AreSameSides sides others → Counts number → AreSameSides (with_side sides number z) (with_side others (r number) z)
  with_same sides others number z same counts m c =
      ap₂ (λ b o. if b then Some z else o) (same_test m number c counts) (same m c)

  after_same : (places : List (List ℕ)) (n o : Numbering) (u : Numbered) (kind : Kind) → AreSame n o → Counts u.number → AreSame (after_use places n u kind) (after_use places o (numbered_as u) kind)
  after_same places n o u Reach same count = same
  after_same places n o u Wall same count = record {
    free = ap (λ k. after_marks u.entry.clauses (k + 1) places) same.free;
    sides = λ m c. with_same n.sides o.sides u.number o.free same.sides count m c ∙ ap (λ z. with_side n.sides u.number z m) same.free;
  }

  clauses_same : (places : List (List ℕ)) (n o : Numbering) (u : Numbered) (kind : Kind) → AreSame n o → UsesCount u.entry.uses → use_clauses places o (entry_as u.entry) kind ≡ use_clauses places n u.entry kind
  clauses_same places n o u Reach same count = refl
  clauses_same places n o u Wall same count =
      ap₂ (λ z names. wall_clauses z names u.entry.clauses places) same.free (named_same n.sides o.sides u.entry.uses same.sides count)

  pub uses_same : (places : List (List ℕ)) (n o : Numbering) (us : List Numbered) → AreSame n o → AllCount us → uses_clauses places o (map numbered_as us) ≡ uses_clauses places n us
  uses_same places n o [] same count = refl
  uses_same places n o (u ∷ us) same count =
      ap₂ (λ first others. first ++ others) (clauses_same places n o u u.entry.kind same count.0.1)
      (uses_same places (after_use places n u u.entry.kind) (after_use places o (numbered_as u) u.entry.kind) us (after_same places n o u u.entry.kind same count.0.0) count.1)

  all_after_same : (places : List (List ℕ)) (n o : Numbering) (us : List Numbered) → AreSame n o → AllCount us → AreSame (after_uses places n us) (after_uses places o (map numbered_as us))
  all_after_same places n o [] same count = same
  all_after_same places n o (u ∷ us) same count =
      all_after_same places (after_use places n u u.entry.kind) (after_use places o (numbered_as u) u.entry.kind) us (after_same places n o u u.entry.kind same count.0.0) count.1

  from_start : (k : ℕ) → AreSame (free_from k) (free_from k)
  from_start k = record { free = refl; sides = λ m c. refl }

  pub obligation_same : (c : Circuit) (us : List Numbered) (own : List Use) (set : List (List Lit)) (i : ℕ) → AllCount us → UsesCount own
      → obligation_clauses c (map numbered_as us) (map use_as own) set i ≡ obligation_clauses c us own set i
  obligation_same c us own set i all count =
      let start = from_start (block_size c + 1) in
      let clauses : uses_clauses (block_places c 0) (free_from (block_size c + 1)) (map numbered_as us) ≡ uses_clauses (block_places c 0) (free_from (block_size c + 1)) us =
      uses_same (block_places c 0) (free_from (block_size c + 1)) (free_from (block_size c + 1)) us start all in
      let sides = all_after_same (block_places c 0) (free_from (block_size c + 1)) (free_from (block_size c + 1)) us start all in
      let named : named_sides (after_step c (map numbered_as us)).sides (map use_as own) ≡ named_sides (after_step c us).sides own =
      named_same (after_step c us).sides (after_step c (map numbered_as us)).sides own sides.sides count in
      ap₂ (λ front names. ((step_clauses c ++ front) ++ units names ++ set_at_place (state_place c 0) set) ++ units (broken_literals c (slice_index_or set i []))) clauses named

  pub skeleton_same : (c : Circuit) (j : ℕ) (us : List Numbered) → AllCount us → skeleton_clauses c j (map numbered_as us) ≡ skeleton_clauses c j us
  skeleton_same c j us all =
      let n : ℕ = block_count (fair_literals c j) in
      let from : ℕ = after_blocks c 0 n + 1 in
      ap (λ front. (blocks_clauses c 0 n ++ literals_clauses c 0 (fair_literals c j)) ++ front) (uses_same (blocks_places c 0 n) (free_from from) (free_from from) us (from_start from) all)
