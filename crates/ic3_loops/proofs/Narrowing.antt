-- Frames that allow less: clauses that hold a literal of a cube, and goals that the last frame misses.
use Rattle.std.proofs.Common.{◌≡◌, ℕ, ◌-◌, ◌<◌, Bool, true, false, List, [], ◌∷◌, length, refl, sym, ◌∙◌, inl, inr, arith}
use Rattle.std.specs.List.{All}
use Rattle.std.proofs.lemmas.Bool.{false≢true, and_parts, and_from, or_cases}
use Rattle.std.proofs.lemmas.List.Elements.{All-head, All-tail}
use Rattle.proof_semantics.specs.declared.literals.Lit.{Lit}
use Rattle.proof_semantics.specs.Clauses.{literal_value, clause_value, clauses_value, cube_value, has_literal}
use Rattle.proof_semantics.proofs.LiteralLaws.{clause_value-has}
use Rattle.ic3_frames.specs.Frames.{frame_at}
use Rattle.ic3_frames.specs.Room.{allowed_by}
use Rattle.ic3_semantics.specs.declared.questions.Goal.{Goal}
use Rattle.ic3_semantics.specs.declared.questions.Goal.TheVariants as goals
use Rattle.ic3_semantics.specs.Searching.{Question, Misses}
use Rattle.ic3_loops.specs.Sound.{has_one_of, MissesLast}
use Rattle.ic3_loops.specs.Propagating.{Narrows}
use Rattle.ic3_loops.proofs.Sounds.{Levels, grow_on}

-- Clauses that each hold a literal of a cube are true where the cube is.
one_true : (v : ℕ → Bool) (clause cube : List Lit) → has_one_of cube clause ≡ true → cube_value v cube ≡ true → clause_value v clause ≡ true
one_true v clause [] some h = absurd (false≢true some)
one_true v clause (a ∷ cube) some h =
    let parts = and_parts (literal_value v a) (cube_value v cube) h in
    elim (or_cases (has_literal clause a) (has_one_of cube clause) some) [
      | inl here ↦ clause_value-has v clause a parts.0 here
      | inr later ↦ one_true v clause cube later parts.1
    ]

pub all_true : (v : ℕ → Bool) (clauses : List (List Lit)) (cube : List Lit) → All (λ clause. has_one_of cube clause ≡ true) clauses
    → cube_value v cube ≡ true → clauses_value v clauses ≡ true
all_true v [] cube each h = refl
all_true v (clause ∷ clauses) cube each h =
    let P : List Lit → Type 0 = λ c. has_one_of cube c ≡ true in
    and_from (clause_value v clause) (clauses_value v clauses) (one_true v clause cube (All-head P clause clauses each) h)
    (all_true v clauses cube (All-tail P clause clauses each) h)

-- A set within one that misses the goal misses it.
pub misses_within : (q : Question) (goal : Goal) (f g : List Bool → Bool) → ((s : List Bool) → f s ≡ false → g s ≡ false)
    → Misses q goal f → Misses q goal g
misses_within q (goals.State to) f g within h = within to.now h
misses_within q (goals.Literal literal avoid) f g within h = λ p meets. within p.latches (h p meets)

not_inside : (a b : Bool) → (b ≡ true → a ≡ true) → a ≡ false → b ≡ false
not_inside a true on e = absurd (false≢true (sym e ∙ on refl))
not_inside a false on e = refl

-- Where the last frame missed the goal, each frame of narrower ones does.
pub narrower_misses : (q : Question) (goal : Goal) (old new : Levels) (k : ℕ) → length new ≡ length old → k < length new
    → Narrows old new → MissesLast q goal old → Misses q goal (allowed_by (frame_at new k))
narrower_misses q goal old new k size below narrow misses =
    misses_within q goal (allowed_by (frame_at old (length old - 1))) (allowed_by (frame_at new k))
    (λ s. not_inside (allowed_by (frame_at old (length old - 1)) s) (allowed_by (frame_at new k) s)
    (λ h. narrow (length old - 1) s (grow_on new (length old - 1) k s (omega arith) h)))
    misses
