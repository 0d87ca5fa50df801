use Rattle.circuit.specs.declared.faults.ModelEnd.TheVariants.{Fault}
use Rattle.circuit.specs.declared.faults.ModelFault.TheVariants.{Cycle, Twice, Undefined}
use Rattle.circuit.specs.Sections.{circuit_of, used_by}
use Rattle.circuit.specs.Faults.{IsOnlyOnCycle, IsFirstTwice, IsFirstUndefined}
use Rattle.aig_semantics.specs.Circuits.{AreDefined, IsChecked}
use Rattle.circuit.proofs.Copied.{err-of, exactly-of, one-of, defined-of, ok-of}
use Rattle.circuit.proofs.checking.check_circuit.Goals as goal

pub returns-clause-defined : goal.returns-clause-defined
returns-clause-defined c =
    defined-of c.keep_circuit.result c.circuit_in.result (AreDefined (circuit_of c.args.parts.now) (used_by c.args.parts.now)) c.circuit_in.ensures
    (rw c.in_ok-copy.ensures at c.keep_circuit.ensures.defined)

pub returns-clause-faulty : goal.returns-clause-faulty
returns-clause-faulty c =
    λ fault e. (rw c.in_ok-copy.ensures at c.keep_circuit.ensures.faulty) fault
    (err-of c.keep_circuit.result c.circuit_in.result (Fault fault) c.circuit_in.ensures e)

pub returns-clause-cycle : goal.returns-clause-cycle
returns-clause-cycle c =
    one-of c.keep_circuit.result c.circuit_in.result (λ v. Fault (Cycle v)) (IsOnlyOnCycle c.args.parts.now) c.circuit_in.ensures
    (rw c.in_ok-copy.ensures at c.keep_circuit.ensures.cycle)

pub returns-clause-ok : goal.returns-clause-ok
returns-clause-ok c =
    ok-of c.keep_circuit.result c.circuit_in.result c.args.parts.now c.circuit_in.ensures (rw c.in_ok-copy.ensures at c.keep_circuit.ensures.ok)

pub returns-clause-checked : goal.returns-clause-checked
returns-clause-checked c =
    defined-of c.keep_circuit.result c.circuit_in.result (IsChecked (circuit_of c.args.parts.now)) c.circuit_in.ensures
    (rw c.in_ok-copy.ensures at c.keep_circuit.ensures.checked)

pub returns-clause-twice : goal.returns-clause-twice
returns-clause-twice c =
    λ v. exactly-of c.keep_circuit.result c.circuit_in.result (Fault (Twice v)) (IsFirstTwice c.args.parts.now v) c.circuit_in.ensures
    ((rw c.in_ok-copy.ensures at c.keep_circuit.ensures.twice) v)

pub returns-clause-undefined : goal.returns-clause-undefined
returns-clause-undefined c =
    λ v. exactly-of c.keep_circuit.result c.circuit_in.result (Fault (Undefined v)) (IsFirstUndefined c.args.parts.now v) c.circuit_in.ensures
    ((rw c.in_ok-copy.ensures at c.keep_circuit.ensures.undefined) v)
