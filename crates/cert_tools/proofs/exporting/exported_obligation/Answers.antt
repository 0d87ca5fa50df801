use Rattle.std.proofs.Common.{sym}
use Rattle.cert_tools.proofs.ItemLaws.{has_clause, no_clause, has_obligation, obligation_is}
use Rattle.cert_tools.proofs.exporting.exported_obligation.Goals as goal

pub spelled_obligation-requires : goal.spelled_obligation-requires
spelled_obligation-requires c =
    let all = c.requires.proved.0 in
    let proved = c.requires.proved.1 in (
      all,
      proved,
      has_obligation c.args.circuit.now c.args.certificate.now.entries all c.args.asked.entry c.args.asked.clause c.args.e.now c.in-Some.proof.now proved c.requires.there (sym c.in-Some.ensures),
    )

pub returns-in_ok-spelled_obligation-in-Some : goal.returns-in_ok-spelled_obligation-in-Some
returns-in_ok-spelled_obligation-in-Some c =
    let all = c.requires.proved.0 in
    let proved = c.requires.proved.1 in (
      obligation_is c.args.circuit.now c.args.certificate.now all c.args.asked.entry c.args.asked.clause c.args.e.now c.in-Some.proof.now c.args.asked.lrat c.in_ok-spelled_obligation-in-Some.field-0.items
          proved c.requires.there (sym c.in-Some.ensures) (c.in_ok-spelled_obligation-in-Some.ensures all proved),
      has_clause c.args.circuit.now c.args.certificate.now.entries all c.args.asked.entry c.args.asked.clause c.args.e.now c.in-Some.proof.now proved c.requires.there (sym c.in-Some.ensures),
    )

pub returns-in-None : goal.returns-in-None
returns-in-None c =
    no_clause c.args.circuit.now c.args.certificate.now.entries c.requires.proved.0 c.args.asked.entry c.args.asked.clause c.args.e.now c.requires.proved.1 c.requires.there (sym c.in-None.ensures)
