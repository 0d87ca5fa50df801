use Rattle.simulation.proofs.judging.judged_runs.Goals as goal

pub loop-stimulus-preserved : goal.loop-stimulus-preserved
loop-stimulus-preserved c = c.in_ok-put_run_of.ensures
