-- Steps that are kept to show lemmas stuck (scaffolding).
use Rattle.std.specs.Prelude.{◌≡◌, ℕ, true, false, List, IfSome}
use Rattle.indexmap.specs.IndexMap.{IndexMap, get}
use Rattle.aig_semantics.specs.declared.traces.Position.{Position}
use Rattle.aig_semantics.specs.Runs.{successor}
use Rattle.proof_semantics.specs.declared.literals.Lit.{Lit}
use Rattle.proof_semantics.specs.Clauses.{clause_value, values_of}
use Rattle.ic3_frames.specs.Frames.{same_clause, frame_at}
use Rattle.ic3_frames.specs.Room.{allowed_by}
use Rattle.ic3_semantics.specs.Searching.{Question}
use Rattle.ic3_semantics.specs.Stepping.{IsArenaStep}
use Rattle.ic3_frames.specs.declared.witnesses.Witnesses.{Witnesses}

-- One of the levels' lemmas is stuck: an arena step leads from its frame to a state that breaks it.
pub record IsStuck (q : Question) (levels : List (List (List Lit))) (k : ℕ) (lemma : List Lit) : Type 0 where
  pub step : Position
  pub arena : IsArenaStep q step
  pub from : allowed_by (frame_at levels k) step.latches ≡ true
  pub breaks : clause_value (values_of (successor q.circuit step)) lemma ≡ false

-- A step of the arena, whatever frames allow, to a state that breaks the lemma.
pub record Breaks (q : Question) (lemma : List Lit) (step : Position) : Type 0 where
  pub arena : IsArenaStep q step
  pub next : clause_value (values_of (successor q.circuit step)) lemma ≡ false

-- each lemma is broken by the step that is kept for it
abbrev pub EachBreaks : {S : Type 0} → Question → IndexMap (List Lit) Position S → Type 0
EachBreaks q steps = (lemma : List Lit) → IfSome (get same_clause steps lemma) (Breaks q lemma)

abbrev pub AreWitnesses : Question → Witnesses → Type 0
AreWitnesses q known = EachBreaks q known.recent × EachBreaks q known.earlier
