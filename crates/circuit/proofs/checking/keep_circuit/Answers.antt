use Rattle.circuit.specs.declared.checking.Kept.{Kept}
use Rattle.circuit.specs.Ordering.{gates_in}
use Rattle.circuit.proofs.Verdicts.{IsChecked-from, kept-twice, kept-undefined, kept-cycle}
use Rattle.circuit.proofs.Told.{told-faulty, told-twice, told-undefined, told-cycle, told-other}
use Rattle.circuit.proofs.checking.keep_circuit.Goals as goal

pub keep-requires-clause-checked : goal.keep-requires-clause-checked
keep-requires-clause-checked c = IsChecked-from c.args.parts (gates_in c.args.parts.gates c.in-Ok.order) c.requires c.in-Ok.ensures.0 c.in-Ok.ensures.1

pub returns-in-Ok-clause-twice : goal.returns-in-Ok-clause-twice
returns-in-Ok-clause-twice c = kept-twice _ _ c.args.parts c.in-Ok.ensures.0

pub returns-in-Ok-clause-undefined : goal.returns-in-Ok-clause-undefined
returns-in-Ok-clause-undefined c = kept-undefined _ _ c.args.parts c.in-Ok.ensures.0

pub returns-in-Ok-clause-cycle : goal.returns-in-Ok-clause-cycle
returns-in-Ok-clause-cycle c = kept-cycle _ _ c.args.parts (gates_in c.args.parts.gates c.in-Ok.order) c.in-Ok.ensures.0 c.in-Ok.ensures.1

pub returns-in-Err-clause-faulty : goal.returns-in-Err-clause-faulty
returns-in-Err-clause-faulty c = told-faulty _ c.args.parts c.in-Err.end c.in-Err.ensures

pub returns-in-Err-clause-twice : goal.returns-in-Err-clause-twice
returns-in-Err-clause-twice c = told-twice _ c.args.parts c.in-Err.end c.in-Err.ensures

pub returns-in-Err-clause-undefined : goal.returns-in-Err-clause-undefined
returns-in-Err-clause-undefined c = told-undefined _ c.args.parts c.in-Err.end c.in-Err.ensures

pub returns-in-Err-clause-cycle : goal.returns-in-Err-clause-cycle
returns-in-Err-clause-cycle c = told-cycle _ c.args.parts c.in-Err.end c.in-Err.ensures

pub returns-in-Err-clause-no_other : goal.returns-in-Err-clause-no_other
returns-in-Err-clause-no_other c = told-other Kept c.args.parts c.in-Err.end c.in-Err.ensures
