use Rattle.ic3_frames.proofs.Witnessing.{breaks_more}
use Rattle.ic3_frames.proofs.witnesses.keep_witness.Goals as goal

pub returns : goal.returns
returns c = λ q known breaks. (
  breaks_more q c.args.known.now.recent c.insert.new.self c.args.lemma c.args.step c.in_ok-insert.ensures.updates.0 known.0 breaks,
  known.1,
)
