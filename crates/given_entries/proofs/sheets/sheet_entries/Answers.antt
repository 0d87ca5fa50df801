use Rattle.std.proofs.Common.{arith}
use Rattle.given_entries.proofs.Listed.{sheet_there, listed_found, listed_exactly, listed_proved, listed_few, refused_found, refused_exactly, memory_unread}
use Rattle.given_entries.proofs.sheets.sheet_entries.Goals as goal

pub listed-requires : goal.listed-requires
listed-requires c =
    sheet_there c.args.circuit.now c.args.text.items c.in-Ok.sheet c.from.result c.as_slice.result.now c.from.ensures c.as_slice.ensures c.in-Ok.ensures.found

pub returns-in-Ok-clause-found : goal.returns-in-Ok-clause-found
returns-in-Ok-clause-found c =
    listed_found c.args.circuit.now c.args.text.items (omega (arith, c.args.text.ok, c.args.text.small)) c.requires
    c.in-Ok.sheet c.from.result c.as_slice.result.now c.from.ensures c.as_slice.ensures c.in-Ok.ensures.found c.listed.result c.listed.ensures.lists c.listed.ensures.ended

pub returns-in-Ok-clause-exactly : goal.returns-in-Ok-clause-exactly
returns-in-Ok-clause-exactly c =
    listed_exactly c.args.circuit.now c.args.text.items (omega (arith, c.args.text.ok, c.args.text.small)) c.requires
    c.in-Ok.sheet c.from.result c.as_slice.result.now c.from.ensures c.as_slice.ensures c.in-Ok.ensures.exactly c.listed.result c.listed.ensures.lists c.listed.ensures.ended

pub returns-in-Ok-clause-proved : goal.returns-in-Ok-clause-proved
returns-in-Ok-clause-proved c =
    listed_proved c.args.circuit.now c.from.result c.as_slice.result.now c.listed.result
    (sheet_there c.args.circuit.now c.args.text.items c.in-Ok.sheet c.from.result c.as_slice.result.now c.from.ensures c.as_slice.ensures c.in-Ok.ensures.found) c.listed.ensures.lists

pub returns-in-Ok-clause-few : goal.returns-in-Ok-clause-few
returns-in-Ok-clause-few c =
    listed_few c.args.circuit.now c.from.result c.as_slice.result.now c.listed.result
    (sheet_there c.args.circuit.now c.args.text.items c.in-Ok.sheet c.from.result c.as_slice.result.now c.from.ensures c.as_slice.ensures c.in-Ok.ensures.found) c.listed.ensures.lists

pub returns-in-Ok-clause-unread : goal.returns-in-Ok-clause-unread
returns-in-Ok-clause-unread c = memory_unread c.listed.result c.listed.ensures.ended

pub returns-in-Err-clause-found : goal.returns-in-Err-clause-found
returns-in-Err-clause-found c =
    refused_found c.args.circuit.now c.args.text.items (omega (arith, c.args.text.ok, c.args.text.small)) c.requires c.in-Err.end c.in-Err.ensures.found

pub returns-in-Err-clause-exactly : goal.returns-in-Err-clause-exactly
returns-in-Err-clause-exactly c =
    refused_exactly c.args.circuit.now c.args.text.items (omega (arith, c.args.text.ok, c.args.text.small)) c.requires c.in-Err.end c.in-Err.ensures.exactly

pub returns-in-Err-clause-unread : goal.returns-in-Err-clause-unread
returns-in-Err-clause-unread c = c.in-Err.ensures.unread
