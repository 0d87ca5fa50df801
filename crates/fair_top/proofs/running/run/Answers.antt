use Rattle.fair_top.proofs.running.run.Goals as goal

pub returns-clause-found : goal.returns-clause-found
returns-clause-found g c = c.run_by.ensures.found

pub returns-clause-exactly : goal.returns-clause-exactly
returns-clause-exactly g c = c.run_by.ensures.exactly

pub returns-clause-shown : goal.returns-clause-shown
returns-clause-shown g c = c.run_by.ensures.shown

pub returns-clause-words : goal.returns-clause-words
returns-clause-words g c = c.run_by.ensures.words

pub returns-clause-printed : goal.returns-clause-printed
returns-clause-printed g c = c.run_by.ensures.printed

pub returns-clause-solved : goal.returns-clause-solved
returns-clause-solved g c = c.run_by.ensures.solved

pub returns-clause-summed : goal.returns-clause-summed
returns-clause-summed g c = c.run_by.ensures.summed

pub returns-clause-text : goal.returns-clause-text
returns-clause-text g c = c.run_by.ensures.text

pub returns-clause-silent : goal.returns-clause-silent
returns-clause-silent g c = c.run_by.ensures.silent

pub returns-clause-read : goal.returns-clause-read
returns-clause-read g c = c.run_by.ensures.read

pub returns-clause-reads : goal.returns-clause-reads
returns-clause-reads g c = c.run_by.ensures.reads

pub returns-clause-written : goal.returns-clause-written
returns-clause-written g c = c.run_by.ensures.written

pub returns-clause-write : goal.returns-clause-write
returns-clause-write g c = c.run_by.ensures.write

pub returns-clause-kept : goal.returns-clause-kept
returns-clause-kept g c = c.run_by.ensures.kept

pub returns-clause-counts : goal.returns-clause-counts
returns-clause-counts g c = c.run_by.ensures.counts

pub returns-clause-unread : goal.returns-clause-unread
returns-clause-unread g c = c.run_by.ensures.unread

pub returns-clause-writes : goal.returns-clause-writes
returns-clause-writes g c = c.run_by.ensures.writes
