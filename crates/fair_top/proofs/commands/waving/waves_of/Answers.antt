use Rattle.std.proofs.Common.{rules, Bool, sym, subst}
use Rattle.std.specs.Prelude.{IfOk}
use Rattle.aig_semantics.specs.Circuits.{Circuit}
use Rattle.edge.specs.Reads.{Reads}
use Rattle.certificate.specs.Ends.{CheckSays, DecidesEnd}
use Rattle.certificate.specs.Lassos.{KeepsLasso}
use Rattle.plain_commands.specs.Statuses.{status_in, is_read_fault}
use Rattle.fair_top.proofs.Dumped.{carries, waved_found, waved_exactly, waved_hidden, waved_silent, waved_aloud, waved_unread, read_failed, block_found, block_exactly, block_silent}
use Rattle.fair_top.proofs.BlockWaves.{on_unknown, exactly_unknown, then_read, then_rose}
use Rattle.fair_top.proofs.commands.waving.waves_of.Goals as goal

pub waved-requires : goal.waved-requires
waved-requires g c =
    carries c.circuit.result.now c.args.model.now (g.H.Shelf.held c.args.shelf.now c.args.answer.now) c.check_with_lasso-end.result c.check_with_lasso-end.new.kept
    c.circuit.ensures.circuit c.check_with_lasso-end.ensures.lasso

pub returns-then-is_unknown-clause-found : goal.returns-then-is_unknown-clause-found
returns-then-is_unknown-clause-found g c =
    block_found c.args.model.now (g.H.Shelf.held c.check_with_lasso-end.new.shelf c.args.answer.now) (g.H.Shelf.held c.args.shelf.now c.args.answer.now) c.args.property c.wave_block.result
    (c.check_with_lasso-end.ensures.kept c.args.answer.now)
    (on_unknown c.circuit.result.now c.args.model.now _ c.check_with_lasso-end.result c.circuit.ensures.circuit (c.is_unknown.ensures.yes (search rules)) c.check_with_lasso-end.ensures.found)
    c.wave_block.ensures.waved

pub returns-then-is_unknown-clause-exactly : goal.returns-then-is_unknown-clause-exactly
returns-then-is_unknown-clause-exactly g c =
    block_exactly c.args.model.now (g.H.Shelf.held c.check_with_lasso-end.new.shelf c.args.answer.now) (g.H.Shelf.held c.args.shelf.now c.args.answer.now) c.args.property c.wave_block.result
    (c.check_with_lasso-end.ensures.kept c.args.answer.now) c.wave_block.ensures.exactly
    (exactly_unknown c.circuit.result.now c.args.model.now _ c.check_with_lasso-end.result c.circuit.ensures.circuit (c.is_unknown.ensures.yes (search rules)) c.check_with_lasso-end.ensures.exactly)

pub returns-then-is_unknown-clause-silent : goal.returns-then-is_unknown-clause-silent
returns-then-is_unknown-clause-silent g c = block_silent c.args.model.now _ c.args.property c.wave_block.result c.wave_block.ensures.waved

pub returns-then-is_unknown-clause-read : goal.returns-then-is_unknown-clause-read
returns-then-is_unknown-clause-read g c = λ e. then_rose _ _ _ (c.check_with_lasso-end.ensures.counts c.args.answer.now) (c.wave_block.ensures.read e)

pub returns-then-is_unknown-clause-reads : goal.returns-then-is_unknown-clause-reads
returns-then-is_unknown-clause-reads g c =
    then_read g.H.Shelf.reads c.args.answer.now c.check_with_lasso-end.result (is_read_fault (status_in c.wave_block.result)) c.args.shelf.now c.check_with_lasso-end.new.shelf c.wave_block.new.shelf
    (c.is_unknown.ensures.yes (search rules)) c.check_with_lasso-end.ensures.reads c.wave_block.ensures.reads

pub returns-clause-found : goal.returns-clause-found
returns-clause-found g c =
    waved_found c.args.model.now (g.H.Shelf.held c.args.shelf.now c.args.answer.now) c.args.property c.check_with_lasso-end.result c.check_with_lasso-end.new.kept c.waved.result
    (c.is_unknown.ensures.no (search rules))
    (subst (λ (x : Circuit). CheckSays x (g.H.Shelf.held c.args.shelf.now c.args.answer.now) c.check_with_lasso-end.result) c.circuit.ensures.circuit c.check_with_lasso-end.ensures.found)
    (subst (λ (x : Circuit). IfOk c.check_with_lasso-end.result (λ accepted. KeepsLasso x (g.H.Shelf.held c.args.shelf.now c.args.answer.now) accepted c.check_with_lasso-end.new.kept)) c.circuit.ensures.circuit c.check_with_lasso-end.ensures.lasso)
    c.waved.ensures

pub returns-clause-exactly : goal.returns-clause-exactly
returns-clause-exactly g c =
    waved_exactly c.args.model.now (g.H.Shelf.held c.args.shelf.now c.args.answer.now) c.args.property c.check_with_lasso-end.result c.check_with_lasso-end.new.kept c.waved.result
    (c.is_unknown.ensures.no (search rules))
    (λ text v told d. c.check_with_lasso-end.ensures.exactly text v told (subst (λ (x : Circuit). DecidesEnd x text v) (sym c.circuit.ensures.circuit) d))
    (carries c.circuit.result.now c.args.model.now (g.H.Shelf.held c.args.shelf.now c.args.answer.now) c.check_with_lasso-end.result c.check_with_lasso-end.new.kept c.circuit.ensures.circuit c.check_with_lasso-end.ensures.lasso) c.waved.ensures

pub returns-clause-silent : goal.returns-clause-silent
returns-clause-silent g c = waved_silent c.args.model.now c.check_with_lasso-end.result c.check_with_lasso-end.new.kept c.waved.result (carries c.circuit.result.now c.args.model.now (g.H.Shelf.held c.args.shelf.now c.args.answer.now) c.check_with_lasso-end.result c.check_with_lasso-end.new.kept c.circuit.ensures.circuit c.check_with_lasso-end.ensures.lasso) c.waved.ensures

pub returns-clause-aloud : goal.returns-clause-aloud
returns-clause-aloud g c = waved_aloud c.args.model.now c.check_with_lasso-end.result c.check_with_lasso-end.new.kept c.waved.result (carries c.circuit.result.now c.args.model.now (g.H.Shelf.held c.args.shelf.now c.args.answer.now) c.check_with_lasso-end.result c.check_with_lasso-end.new.kept c.circuit.ensures.circuit c.check_with_lasso-end.ensures.lasso) c.waved.ensures

pub returns-clause-hidden : goal.returns-clause-hidden
returns-clause-hidden g c = waved_hidden c.args.model.now c.check_with_lasso-end.result c.check_with_lasso-end.new.kept c.waved.result (carries c.circuit.result.now c.args.model.now (g.H.Shelf.held c.args.shelf.now c.args.answer.now) c.check_with_lasso-end.result c.check_with_lasso-end.new.kept c.circuit.ensures.circuit c.check_with_lasso-end.ensures.lasso) c.waved.ensures

pub returns-clause-read : goal.returns-clause-read
returns-clause-read g c = λ e.
    c.check_with_lasso-end.ensures.read (read_failed c.args.model.now c.check_with_lasso-end.result c.check_with_lasso-end.new.kept c.waved.result (carries c.circuit.result.now c.args.model.now (g.H.Shelf.held c.args.shelf.now c.args.answer.now) c.check_with_lasso-end.result c.check_with_lasso-end.new.kept c.circuit.ensures.circuit c.check_with_lasso-end.ensures.lasso) c.waved.ensures e)

pub returns-clause-reads : goal.returns-clause-reads
returns-clause-reads g c =
    subst (λ (failed : Bool). Reads g.H.Shelf.reads c.args.answer.now failed c.args.shelf.now c.check_with_lasso-end.new.shelf)
    (sym (waved_unread c.args.model.now c.check_with_lasso-end.result c.check_with_lasso-end.new.kept c.waved.result (carries c.circuit.result.now c.args.model.now (g.H.Shelf.held c.args.shelf.now c.args.answer.now) c.check_with_lasso-end.result c.check_with_lasso-end.new.kept c.circuit.ensures.circuit c.check_with_lasso-end.ensures.lasso) c.waved.ensures))
    c.check_with_lasso-end.ensures.reads
