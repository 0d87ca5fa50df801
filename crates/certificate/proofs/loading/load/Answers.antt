use Rattle.std.proofs.Common.{ℕ, Bool, List, Option, sym, subst}
use Rattle.std.specs.Prelude.{IfOk}
use Rattle.edge.specs.Reads.{Reads}
use Rattle.certificate.specs.Whole.{IsReadWhole}
use Rattle.certificate.specs.Seen.{seen}
use Rattle.certificate.proofs.Judged.{check_says, check_exactly}
use Rattle.certificate.proofs.LoadedLaws.{where_kept, says_loaded, ends_loaded, unread_loaded, held_shows}
use Rattle.certificate.proofs.loading.load.Goals as goal

pub returns-clause-found : goal.returns-clause-found
returns-clause-found g c =
    let told : Option (List ℕ) = g.H.Shelf.held c.args.shelf.now c.args.name.now in
    says_loaded c.args.circuit.now told c.read_on-end.result c.loaded-result.result c.loaded-result.ensures.ends (check_says c.args.circuit.now told c.read_on-end.result c.read_on-end.ensures.found)

pub returns-clause-exactly : goal.returns-clause-exactly
returns-clause-exactly g c text verdict is decides =
    let told : Option (List ℕ) = g.H.Shelf.held c.args.shelf.now c.args.name.now in
    ends_loaded c.read_on-end.result c.loaded-result.result verdict c.loaded-result.ensures.ends (check_exactly c.args.circuit.now told c.read_on-end.result c.read_on-end.ensures.exactly text verdict is decides)

pub returns-clause-shown : goal.returns-clause-shown
returns-clause-shown g c =
    let told : Option (List ℕ) = g.H.Shelf.held c.args.shelf.now c.args.name.now in
    held_shows c.args.circuit.now told c.loaded-result.result c.good_answers_are_true.ensures c.printed_answers_hold_the_same.ensures.good
    (c.loaded-result.ensures.held told
    (subst (λ (ls : List (List ℕ)). IfOk c.read_on-end.result (λ accepted. IsReadWhole c.args.circuit.now told accepted ls (seen c.read_on-end.new.state) c.read_on-end.new.kept)) (sym c.as_slice.ensures)
    (where_kept c.each-all.result.keeps c.read_on-end.result
    (λ accepted. IsReadWhole c.args.circuit.now told accepted c.read_on-end.new.all.lines (seen c.read_on-end.new.state) c.read_on-end.new.kept) c.each-all.ensures.keeps c.read_on-end.ensures.whole)))

pub returns-clause-reads : goal.returns-clause-reads
returns-clause-reads g c =
    subst (λ (failed : Bool). Reads g.H.Shelf.reads c.args.name.now failed c.args.shelf.now c.read_on-end.new.shelf) (sym (unread_loaded c.read_on-end.result c.loaded-result.result c.loaded-result.ensures.ends)) c.read_on-end.ensures.reads
