-- The lowest frame: the starts lie in it and in those above, so there are few frames where those above it differ.
use Rattle.std.proofs.Common.{◌≡◌, ℕ, zero, suc, ◌+◌, ◌^◌, ◌<◌, ◌≤◌, Bool, true, false, List, [], ◌∷◌, ◌++◌, length, refl, sym, ap, subst, arith, ◌∙◌}
use Rattle.std.specs.List.{AllZip}
use Rattle.std.proofs.lemmas.Bool.{false≢true}
use Rattle.std.proofs.lemmas.List.{length-append}
use Rattle.aig_semantics.specs.declared.parts.Latch.{Latch}
use Rattle.aig_semantics.specs.declared.parts.Reset.{Reset}
use Rattle.aig_semantics.specs.declared.parts.Reset.TheVariants.{Zero, One, Free}
use Rattle.aig_semantics.specs.Circuits.{Circuit}
use Rattle.aig_semantics.specs.Runs.{AgreesWith}
use Rattle.proof_semantics.specs.declared.literals.Lit.{Lit}
use Rattle.proof_semantics.specs.Clauses.{values_of}
use Rattle.ic3_frames.specs.Frames.{frame_at}
use Rattle.ic3_frames.specs.Room.{allowed_by, AllowTheSame, NeighboursDiffer}
use Rattle.ic3_frames.proofs.Meaning.{opened-stay}
use Rattle.ic3_frames.proofs.Rooms.{differing-few}
use Rattle.ic3_semantics.specs.declared.questions.Start.{Start}
use Rattle.ic3_semantics.specs.declared.questions.Start.TheVariants.{Initial, State}
use Rattle.ic3_semantics.specs.Searching.{Question}
use Rattle.ic3_semantics.specs.Arenas.{MayStart}
use Rattle.ic3_loops.specs.Sound.{IsStartCube, IsSound}
use Rattle.ic3_loops.specs.Propagating.{Narrows}
use Rattle.ic3_loops.proofs.Sounds.{Levels, grow_on}
use Rattle.ic3_loops.proofs.Narrowing.{all_true}

-- ---- the lowest frame has a start

-- a value with which a latch may begin, and so a state in which all do
abbrev first_value : Reset → Bool
first_value Zero = false
first_value One = true
first_value Free = false

abbrev first_values : List Latch → List Bool
first_values [] = []
first_values (latch ∷ latches) = first_value latch.reset ∷ first_values latches

value-agrees : (reset : Reset) → AgreesWith reset (first_value reset)
value-agrees Zero = refl
value-agrees One = refl
value-agrees Free = tt

values-agree : (latches : List Latch) → AllZip (λ latch value. AgreesWith latch.reset value) latches (first_values latches)
values-agree [] = tt
values-agree (latch ∷ latches) = (value-agrees latch.reset, values-agree latches)

abbrev some_start : Circuit → Start → List Bool
some_start c Initial = first_values c.latches
some_start c (State from) = from

some-start : (c : Circuit) (start : Start) → MayStart c start (some_start c start)
some-start c Initial = values-agree c.latches
some-start c (State from) = refl

starts_allowed : (q : Question) (cube : List Lit) (levels : Levels) → IsStartCube q cube → IsSound q cube levels
    → (s : List Bool) → MayStart q.circuit q.start s → allowed_by (frame_at levels 0) s ≡ true
starts_allowed q cube levels exact sound s may = all_true (values_of s) (frame_at levels 0) cube sound.based ((exact.exactly s).0 may).1

-- ---- how many frames there are

-- one lemma, which no state meets
abbrev nothing : List (List Lit)
nothing = [] ∷ []

-- the frames above the lowest are what they are, whatever lemmas that one has
same_above : (own those : List (List Lit)) (levels : Levels) (k : ℕ) (s : List Bool) → 1 ≤ k
    → allowed_by (frame_at (own ∷ levels) k) s ≡ allowed_by (frame_at (those ∷ levels) k) s
same_above own those levels zero s some = absurd (omega (arith, some))
same_above own those levels (suc k) s some = refl

-- Where neighbouring frames above the lowest differ, there are few: with the empty set as the lowest frame all neighbours
-- differ, since the starts lie in the next one.
pub few_differ : (q : Question) (cube : List Lit) (levels : Levels) → IsStartCube q cube → IsSound q cube levels
    → ((k : ℕ) → 1 ≤ k → k + 1 < length levels
    → AllowTheSame (length q.circuit.latches) (frame_at levels k) (frame_at levels (k + 1)) → ⊥)
    → length levels ≤ 2 ^ length q.circuit.latches + 1
few_differ q cube [] exact sound differ = omega arith
few_differ q cube (own ∷ levels) exact sound differ = differing-few (length q.circuit.latches) (nothing ∷ levels) all
  where
    all : NeighboursDiffer (length q.circuit.latches) (nothing ∷ levels)
    all zero below same =
        let s : List Bool = some_start q.circuit q.start in
        let may : MayStart q.circuit q.start s = some-start q.circuit q.start in
        let size : length s ≡ length q.circuit.latches = ((exact.exactly s).0 may).0 in
        let inside : allowed_by (frame_at (own ∷ levels) 1) s ≡ true =
        grow_on (own ∷ levels) 1 0 s (omega arith) (starts_allowed q cube (own ∷ levels) exact sound s may)
        in
        let gone : false ≡ allowed_by (frame_at (nothing ∷ levels) 1) s = same s size in
        false≢true (gone ∙ same_above nothing own levels 1 s (omega arith) ∙ inside)
    all (suc k) below same =
        differ (suc k) (omega arith) below
        (λ s size. same_above own nothing levels (suc k) s (omega arith) ∙ same s size ∙ same_above nothing own levels (suc k + 1) s (omega arith))

-- ---- frames that are opened allow the states that they allowed

pub opened_narrows : (levels new : Levels) → new ≡ levels ++ [] ∷ [] → Narrows levels new
opened_narrows levels new is k s h =
    sym (ap (λ clauses. allowed_by clauses s) (opened-stay levels k)) ∙ subst (λ those. allowed_by (frame_at those k) s ≡ true) is h

pub opened_number : (levels mid new : Levels) → length mid ≡ length levels → new ≡ mid ++ [] ∷ [] → length new ≡ length levels + 1
opened_number levels mid new same is = ap length is ∙ length-append mid ([] ∷ []) ∙ ap (λ n. n + 1) same
