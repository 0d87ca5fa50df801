use Rattle.std.proofs.Common.{arith}
use Rattle.given_entries.proofs.Listed.{other_found, other_exactly, other_proved, other_few, other_unread}
use Rattle.given_entries.proofs.loading.other_entries.Goals as goal

pub returns-clause-found : goal.returns-clause-found
returns-clause-found c =
    other_found c.args.circuit.now c.args.text.items (omega (arith, c.args.text.ok, c.args.text.small)) c.requires
    c.answer_entries-end.result c.as_listed.result c.as_listed.ensures c.answer_entries-end.ensures

pub returns-clause-exactly : goal.returns-clause-exactly
returns-clause-exactly c =
    other_exactly c.args.circuit.now c.args.text.items (omega (arith, c.args.text.ok, c.args.text.small)) c.requires
    c.answer_entries-end.result c.as_listed.result c.as_listed.ensures c.trimmed_answers_are_good.ensures.held c.answers_have_one_end.ensures.apart
    c.answers_have_one_end.ensures.refused c.answer_entries-end.ensures

pub returns-clause-proved : goal.returns-clause-proved
returns-clause-proved c = other_proved c.args.circuit.now c.args.text.items c.answer_entries-end.result c.as_listed.result c.as_listed.ensures c.answer_entries-end.ensures

pub returns-clause-few : goal.returns-clause-few
returns-clause-few c = other_few c.args.circuit.now c.args.text.items c.answer_entries-end.result c.as_listed.result c.as_listed.ensures c.answer_entries-end.ensures

pub returns-clause-unread : goal.returns-clause-unread
returns-clause-unread c = other_unread c.args.circuit.now c.args.text.items c.answer_entries-end.result c.as_listed.result c.as_listed.ensures c.answer_entries-end.ensures
