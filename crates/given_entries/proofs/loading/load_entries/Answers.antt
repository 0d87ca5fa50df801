use Rattle.std.proofs.Common.{Bool, false, List, sym, subst}
use Rattle.edge.specs.Reads.{Reads}
use Rattle.sheet_answers.proofs.HeldTexts.{says, exactly, not_unread, unended_says, unended_ends, failed_end}
use Rattle.given_entries.specs.Listing.{DecidesList}
use Rattle.given_entries.proofs.loading.load_entries.Goals as goal

pub returns-in-Ok-clause-found : goal.returns-in-Ok-clause-found
returns-in-Ok-clause-found g c =
    says (DecidesList c.args.circuit.now) (g.H.Shelf.held c.args.shelf.now c.args.name.now) c.in-Ok.text.items c.entries_of.result c.in-Ok.ensures.text c.entries_of.ensures.found

pub returns-in-Ok-clause-exactly : goal.returns-in-Ok-clause-exactly
returns-in-Ok-clause-exactly g c =
    exactly (DecidesList c.args.circuit.now) (g.H.Shelf.held c.args.shelf.now c.args.name.now) c.in-Ok.text.items c.entries_of.result c.in-Ok.ensures.text c.entries_of.ensures.exactly

pub returns-in-Ok-clause-read : goal.returns-in-Ok-clause-read
returns-in-Ok-clause-read g c = λ e. absurd (not_unread c.entries_of.result c.entries_of.ensures.unread e)

pub returns-in-Ok-clause-reads : goal.returns-in-Ok-clause-reads
returns-in-Ok-clause-reads g c =
    subst (λ (failed : Bool). Reads g.H.Shelf.reads c.args.name.now failed c.args.shelf.now c.read_whole.new.shelf) (sym c.entries_of.ensures.unread) c.in-Ok.ensures.reads

pub returns-in-Err-clause-found : goal.returns-in-Err-clause-found
returns-in-Err-clause-found g c = unended_says (DecidesList c.args.circuit.now) (g.H.Shelf.held c.args.shelf.now c.args.name.now) c.in-Err.end c.in-Err.ensures.ended

pub returns-in-Err-clause-exactly : goal.returns-in-Err-clause-exactly
returns-in-Err-clause-exactly g c = λ text verdict told d. unended_ends c.in-Err.end verdict c.in-Err.ensures.ended

pub returns-in-Err-clause-read : goal.returns-in-Err-clause-read
returns-in-Err-clause-read g c = λ e. c.in-Err.ensures.read (failed_end c.in-Err.end e)

pub returns-in-Err-clause-reads : goal.returns-in-Err-clause-reads
returns-in-Err-clause-reads g c = c.in-Err.ensures.reads
