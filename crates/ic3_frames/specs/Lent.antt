-- A frame that is lent, as the list of its lemmas (Bradley, 2011).
use Rattle.std.specs.Prelude.{List}
use Rattle.proof_semantics.specs.declared.literals.Lit.{Lit}
use Rattle.ic3_frames.specs.declared.frames.FrameAt.{FrameAt}
use Rattle.ic3_frames.specs.Frames.{frame_at}

-- the lemmas of its level and of all above it
abbrev pub clauses_of : FrameAt → List (List Lit)
clauses_of f = frame_at f.frames.now f.level
