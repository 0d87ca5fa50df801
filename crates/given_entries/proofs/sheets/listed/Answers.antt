use Rattle.std.proofs.Common.{sym, subst}
use Rattle.std.specs.Prelude.{IfOk}
use Rattle.given_entries.specs.Given.{AreEntriesOf}
use Rattle.given_entries.proofs.Listed.{behind_two, not_none, same, all_proved}
use Rattle.given_entries.proofs.sheets.listed.Goals as goal

pub taken-requires : goal.taken-requires
taken-requires c =
    all_proved c.args.circuit.now c.requires.0 c.args.count c.args.lines.now _ (behind_two c.args.lines.now) c.requires.1 c.in-Ok.written c.in-Ok._rest.now c.in-Ok.ensures

pub returns-in-Ok-clause-lists : goal.returns-in-Ok-clause-lists
returns-in-Ok-clause-lists c = λ sheet is.
    let one = same c.args.circuit.now sheet c.args.count c.args.lines.now _ (behind_two c.args.lines.now) is c.in-Ok.written c.in-Ok._rest.now c.in-Ok.ensures in
    subst (λ ws. IfOk c.taken.result (AreEntriesOf c.args.circuit.now ws)) (sym one) c.taken.ensures.are

pub unreachable-requires : goal.unreachable-requires
unreachable-requires c =
    let facts = rw c.in-Err-Form.field-0-is at c.in-Err-Form.ensures in
    not_none c.args.circuit.now c.requires.0 c.args.count c.args.lines.now _ (behind_two c.args.lines.now) c.requires.1 facts
