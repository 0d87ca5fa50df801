use Rattle.std.proofs.Common.{false}
use Rattle.sheet_answers.specs.Ends.{end_unread}
use Rattle.plain_commands.specs.Statuses.{status_in, is_read_fault}
use Rattle.fair_top.proofs.BlockWaves.{lasso_waved, refused_waved, lasso_exactly, refused_exactly, refused_hidden, lasso_hidden, lasso_good, reads_so, lasso_aloud, lasso_read, never_failed, refused_aloud, refused_read, refused_failed}
use Rattle.fair_top.proofs.commands.waving.wave_block.Goals as goal

pub printed-requires : goal.printed-requires
printed-requires g c =
    lasso_good c.circuit.result.now c.args.model.now _ c.args.property c.in-Ok.field-0 c.circuit.ensures.circuit c.in-Ok.ensures.found

pub returns-in-Ok-clause-waved : goal.returns-in-Ok-clause-waved
returns-in-Ok-clause-waved g c =
    lasso_waved c.circuit.result.now c.args.model.now (g.H.Shelf.held c.args.shelf.now c.args.answer.now) c.args.property c.in-Ok.field-0 c.printed.result c.circuit.ensures.circuit
    c.in-Ok.ensures.found c.printed.ensures

pub returns-in-Ok-clause-exactly : goal.returns-in-Ok-clause-exactly
returns-in-Ok-clause-exactly g c =
    lasso_exactly c.circuit.result.now c.args.model.now _ c.args.property c.in-Ok.field-0 c.printed.result c.circuit.ensures.circuit c.in-Ok.ensures.exactly c.printed.ensures

pub returns-in-Ok-clause-hidden : goal.returns-in-Ok-clause-hidden
returns-in-Ok-clause-hidden g c = lasso_hidden c.printed.result _ c.printed.ensures

pub returns-in-Err-clause-waved : goal.returns-in-Err-clause-waved
returns-in-Err-clause-waved g c =
    refused_waved c.circuit.result.now c.args.model.now (g.H.Shelf.held c.args.shelf.now c.args.answer.now) c.args.property c.in-Err.end c.status_of_end.result c.with_text.result
    c.circuit.ensures.circuit c.in-Err.ensures.found c.status_of_end.ensures c.with_text.ensures.text c.with_text.ensures.silent c.with_text.ensures.aloud

pub returns-in-Err-clause-exactly : goal.returns-in-Err-clause-exactly
returns-in-Err-clause-exactly g c =
    refused_exactly c.circuit.result.now c.args.model.now _ c.args.property c.in-Err.end c.status_of_end.result (status_in c.with_text.result) c.circuit.ensures.circuit c.in-Err.ensures.exactly
    c.status_of_end.ensures c.with_text.ensures.status

pub returns-in-Err-clause-hidden : goal.returns-in-Err-clause-hidden
returns-in-Err-clause-hidden g c = refused_hidden c.in-Err.end c.status_of_end.result (status_in c.with_text.result) c.status_of_end.ensures c.with_text.ensures.status

pub returns-in-Ok-clause-aloud : goal.returns-in-Ok-clause-aloud
returns-in-Ok-clause-aloud g c = lasso_aloud c.printed.result _ c.printed.ensures

pub returns-in-Ok-clause-read : goal.returns-in-Ok-clause-read
returns-in-Ok-clause-read g c = λ e. absurd (never_failed (status_in c.printed.result) (lasso_read c.printed.result _ c.printed.ensures) e)

pub returns-in-Ok-clause-reads : goal.returns-in-Ok-clause-reads
returns-in-Ok-clause-reads g c =
    reads_so g.H.Shelf.reads c.args.answer.now false (is_read_fault (status_in c.printed.result)) c.args.shelf.now c.block_lasso.new.shelf
    (lasso_read c.printed.result _ c.printed.ensures) c.in-Ok.ensures.reads

pub returns-in-Err-clause-aloud : goal.returns-in-Err-clause-aloud
returns-in-Err-clause-aloud g c =
    refused_aloud c.in-Err.end c.status_of_end.result c.with_text.result c.status_of_end.ensures c.with_text.ensures.text c.with_text.ensures.aloud

pub returns-in-Err-clause-read : goal.returns-in-Err-clause-read
returns-in-Err-clause-read g c = λ e.
    c.in-Err.ensures.read (refused_failed c.in-Err.end c.status_of_end.result (status_in c.with_text.result) c.status_of_end.ensures c.with_text.ensures.status e)

pub returns-in-Err-clause-reads : goal.returns-in-Err-clause-reads
returns-in-Err-clause-reads g c =
    reads_so g.H.Shelf.reads c.args.answer.now (end_unread c.in-Err.end) (is_read_fault (status_in c.with_text.result)) c.args.shelf.now c.block_lasso.new.shelf
    (refused_read c.in-Err.end c.status_of_end.result (status_in c.with_text.result) c.status_of_end.ensures c.with_text.ensures.fault) c.in-Err.ensures.reads
