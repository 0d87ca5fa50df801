use Rattle.ic3_frames.proofs.Meaning.{frames-grow, lemmas-restrict, above-stay, number-stays, opened-stay}
use Rattle.ic3_frames.proofs.laws.frames_grow.Goals as goal

pub returns-clause-grow : goal.returns-clause-grow
returns-clause-grow c = frames-grow

pub returns-clause-restrict : goal.returns-clause-restrict
returns-clause-restrict c = lemmas-restrict

pub returns-clause-above : goal.returns-clause-above
returns-clause-above c = above-stay

pub returns-clause-number : goal.returns-clause-number
returns-clause-number c = number-stays

pub returns-clause-opened : goal.returns-clause-opened
returns-clause-opened c = opened-stay
