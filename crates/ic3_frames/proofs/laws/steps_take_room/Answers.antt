use Rattle.ic3_frames.proofs.Rooms.{lemmas-take, lemmas-make-none, frames-take, differing-few, first-room}
use Rattle.ic3_frames.proofs.laws.steps_take_room.Goals as goal

pub returns-clause-lemmas : goal.returns-clause-lemmas
returns-clause-lemmas c = lemmas-take

pub returns-clause-pushes : goal.returns-clause-pushes
returns-clause-pushes c = lemmas-make-none

pub returns-clause-frames : goal.returns-clause-frames
returns-clause-frames c = frames-take

pub returns-clause-few : goal.returns-clause-few
returns-clause-few c = differing-few

pub returns-clause-first : goal.returns-clause-first
returns-clause-first c = first-room
