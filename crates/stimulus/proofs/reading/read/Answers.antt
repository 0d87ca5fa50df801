use Rattle.stimulus.proofs.TextLemmas.{reads_every, reads_shape, reads_no_other}
use Rattle.stimulus.proofs.reading.read.Goals as goal

pub returns-clause-every : goal.returns-clause-every
returns-clause-every c = reads_every c.read_text.result c.args.bytes.now c.read_text.ensures.found c.read_text.ensures.fault

pub returns-clause-shape : goal.returns-clause-shape
returns-clause-shape c = reads_shape c.read_text.result c.args.bytes.now c.read_text.ensures.found c.read_text.ensures.fault

pub returns-clause-no_other : goal.returns-clause-no_other
returns-clause-no_other c = reads_no_other c.read_text.result c.args.bytes.now c.read_text.ensures.fault
