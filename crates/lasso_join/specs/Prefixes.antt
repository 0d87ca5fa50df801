-- The stimulus of a lasso, after the witnesses of AIGER 1.9 (Biere, Heljanko, Wieringa, 2011).
use Rattle.aig_semantics.specs.declared.traces.Stimulus.{Stimulus}
use Rattle.aig_semantics.specs.declared.traces.Lasso.{Lasso}

-- the start and the input lists of a lasso
abbrev pub stimulus_of : Lasso → Stimulus
stimulus_of lasso = record { latches = lasso.start; inputs = lasso.inputs }
