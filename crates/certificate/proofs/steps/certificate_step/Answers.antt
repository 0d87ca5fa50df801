use Rattle.std.proofs.Common.{sym, subst}
use Rattle.certificate.specs.declared.state.Wanted.{Wanted}
use Rattle.certificate.specs.Reading.{certificate_step}
use Rattle.certificate.specs.Seen.{seen_body, seen_wanted}
use Rattle.certificate.specs.Steps.{Tells}
use Rattle.certificate.proofs.steps.certificate_step.Goals as goal

pub returns-in-Start : goal.returns-in-Start
returns-in-Start c =
    subst (λ (w : Wanted). Tells c.args.circuit.now (certificate_step c.args.circuit.now (seen_body c.args.body) (seen_wanted c.args.body w) c.args.number c.args.line.now) c.certified.result)
    (sym c.in-Start.is) (c.certified.ensures c.args.circuit.now _ c.start_step-next.ensures)

pub returns-in-EntryUses : goal.returns-in-EntryUses
returns-in-EntryUses c =
    subst (λ (w : Wanted). Tells c.args.circuit.now (certificate_step c.args.circuit.now (seen_body c.args.body) (seen_wanted c.args.body w) c.args.number c.args.line.now) c.certified-in-EntryUses.result)
    (sym c.in-EntryUses.is) (c.certified-in-EntryUses.ensures c.args.circuit.now _ c.entry_uses_step-next.ensures)

pub returns-in-EntryClause : goal.returns-in-EntryClause
returns-in-EntryClause c =
    subst (λ (w : Wanted). Tells c.args.circuit.now (certificate_step c.args.circuit.now (seen_body c.args.body) (seen_wanted c.args.body w) c.args.number c.args.line.now) c.certified-in-EntryClause.result)
    (sym c.in-EntryClause.is) (c.certified-in-EntryClause.ensures c.args.circuit.now _ c.clause_step-next.ensures)

pub returns-in-EntryProof : goal.returns-in-EntryProof
returns-in-EntryProof c =
    subst (λ (w : Wanted). Tells c.args.circuit.now (certificate_step c.args.circuit.now (seen_body c.args.body) (seen_wanted c.args.body w) c.args.number c.args.line.now) c.certified-in-EntryProof.result)
    (sym c.in-EntryProof.is) (c.certified-in-EntryProof.ensures c.args.circuit.now _ c.proof_step-next.ensures)

pub returns-in-EntryLine : goal.returns-in-EntryLine
returns-in-EntryLine c =
    subst (λ (w : Wanted). Tells c.args.circuit.now (certificate_step c.args.circuit.now (seen_body c.args.body) (seen_wanted c.args.body w) c.args.number c.args.line.now) c.certified-in-EntryLine.result)
    (sym c.in-EntryLine.is) (c.certified-in-EntryLine.ensures c.args.circuit.now _ c.line_step-next.ensures)

pub returns-in-RefutationUses : goal.returns-in-RefutationUses
returns-in-RefutationUses c =
    subst (λ (w : Wanted). Tells c.args.circuit.now (certificate_step c.args.circuit.now (seen_body c.args.body) (seen_wanted c.args.body w) c.args.number c.args.line.now) c.certified-in-RefutationUses.result)
    (sym c.in-RefutationUses.is) (c.certified-in-RefutationUses.ensures c.args.circuit.now _ c.refutation_uses_step-next.ensures)

pub returns-in-RefutationLine : goal.returns-in-RefutationLine
returns-in-RefutationLine c =
    subst (λ (w : Wanted). Tells c.args.circuit.now (certificate_step c.args.circuit.now (seen_body c.args.body) (seen_wanted c.args.body w) c.args.number c.args.line.now) c.certified-in-RefutationLine.result)
    (sym c.in-RefutationLine.is) (c.certified-in-RefutationLine.ensures c.args.circuit.now _ c.refuting_step-next.ensures)

pub returns-in-StateLine : goal.returns-in-StateLine
returns-in-StateLine c =
    subst (λ (w : Wanted). Tells c.args.circuit.now (certificate_step c.args.circuit.now (seen_body c.args.body) (seen_wanted c.args.body w) c.args.number c.args.line.now) c.certified-in-StateLine.result)
    (sym c.in-StateLine.is) (c.certified-in-StateLine.ensures c.args.circuit.now _ c.state_step-next.ensures)
