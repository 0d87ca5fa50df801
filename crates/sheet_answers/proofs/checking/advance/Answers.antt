use Rattle.std.proofs.Common.{rules, ◌≡◌, [], ◌∷◌, Result, Err, sym, subst}
use Rattle.std.specs.Prelude.{IfErr}
use Rattle.certificate.specs.Lines.{kept_from}
use Rattle.sheet_answers.specs.declared.ends.JudgeEnd.{JudgeEnd}
use Rattle.sheet_answers.specs.declared.state.State.{State as StateInCode}
use Rattle.sheet_answers.specs.Reading.{read_lines}
use Rattle.sheet_answers.specs.Seen.{seen, OfEnd}
use Rattle.sheet_answers.proofs.checking.advance.Goals as goal

pub returns-in_err-next-clause-fault : goal.returns-in_err-next-clause-fault
returns-in_err-next-clause-fault c replays are =
    let e : c.from_residual.result ≡ Err c.in_err-next.field-0.0 = search rules in
    subst (λ (r : Result (Unit {0}) JudgeEnd). IfErr r (OfEnd (λ fault. read_lines c.args.circuit.now replays (seen c.args.state.now) (kept_from c.args.number (c.args.line.now ∷ [])) ≡ Err fault))) (sym e)
    (subst (λ (s : StateInCode). OfEnd (λ fault. read_lines c.args.circuit.now replays (seen s) (kept_from c.args.number (c.args.line.now ∷ [])) ≡ Err fault) c.in_err-next.field-0.0) c.replace-from.ensures.value
    (c.in_err-next.ensures.fault replays are))
