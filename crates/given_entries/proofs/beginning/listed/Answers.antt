use Rattle.std.proofs.Common.{rules, ◌≡◌, Bool, [], sym, subst}
use Rattle.std.specs.Arc.{arc_value}
use Rattle.aig_semantics.specs.Circuits.{Circuit}
use Rattle.edge.specs.Reads.{Reads}
use Rattle.given_entries.specs.Given.{AreProvedInTurn}
use Rattle.given_entries.proofs.Named.{list_made, gives_list, has_list, fault_told, refused_told, accepted_told, only_memory, never_failed, none_unread, few_made}
use Rattle.given_entries.proofs.beginning.listed.Goals as goal

pub list_from-requires : goal.list_from-requires
list_from-requires g c =
    let is : c.deref.result.now ≡ arc_value c.args.circuit.now = search rules in
    subst (λ (k : Circuit). AreProvedInTurn k [] c.in-Ok.entries) is c.in-Ok.ensures.proved

pub returns-in-Ok-clause-list : goal.returns-in-Ok-clause-list
returns-in-Ok-clause-list g c =
    let is : c.deref.result.now ≡ arc_value c.args.circuit.now = search rules in
    list_made c.deref.result.now (arc_value c.args.circuit.now) (g.H.Shelf.held c.args.shelf.now c.args.name.now) c.in-Ok.entries c.list_from.result is
    c.in-Ok.ensures.found c.list_from.ensures.list

pub returns-in-Ok-clause-fault : goal.returns-in-Ok-clause-fault
returns-in-Ok-clause-fault g c = only_memory c.list_from.result _ c.list_from.ensures.ended

pub returns-in-Ok-clause-refused : goal.returns-in-Ok-clause-refused
returns-in-Ok-clause-refused g c = λ text fault told none.
    let is : c.deref.result.now ≡ arc_value c.args.circuit.now = search rules in
    absurd (has_list c.deref.result.now (arc_value c.args.circuit.now) (g.H.Shelf.held c.args.shelf.now c.args.name.now) c.in-Ok.entries is
    c.in-Ok.ensures.exactly text fault told none)

pub returns-in-Ok-clause-accepted : goal.returns-in-Ok-clause-accepted
returns-in-Ok-clause-accepted g c =
    let is : c.deref.result.now ≡ arc_value c.args.circuit.now = search rules in
    gives_list c.deref.result.now (arc_value c.args.circuit.now) (g.H.Shelf.held c.args.shelf.now c.args.name.now) c.in-Ok.entries c.list_from.result is
    c.in-Ok.ensures.exactly c.list_from.ensures.list c.list_from.ensures.ended

pub returns-in-Ok-clause-few : goal.returns-in-Ok-clause-few
returns-in-Ok-clause-few g c = few_made c.in-Ok.entries c.list_from.result c.in-Ok.ensures.few c.list_from.ensures.count

pub returns-in-Ok-clause-read : goal.returns-in-Ok-clause-read
returns-in-Ok-clause-read g c = λ e. absurd (never_failed c.list_from.result c.list_from.ensures.ended e)

pub returns-in-Ok-clause-reads : goal.returns-in-Ok-clause-reads
returns-in-Ok-clause-reads g c =
    subst (λ (failed : Bool). Reads g.H.Shelf.reads c.args.name.now failed c.args.shelf.now c.load_entries.new.shelf)
    (sym (none_unread c.list_from.result c.list_from.ensures.ended)) c.in-Ok.ensures.reads

pub returns-in-Err-clause-fault : goal.returns-in-Err-clause-fault
returns-in-Err-clause-fault g c =
    let is : c.deref.result.now ≡ arc_value c.args.circuit.now = search rules in
    fault_told c.deref.result.now (arc_value c.args.circuit.now) (g.H.Shelf.held c.args.shelf.now c.args.name.now) c.in-Err.end is c.in-Err.ensures.found

pub returns-in-Err-clause-refused : goal.returns-in-Err-clause-refused
returns-in-Err-clause-refused g c =
    let is : c.deref.result.now ≡ arc_value c.args.circuit.now = search rules in
    refused_told c.deref.result.now (arc_value c.args.circuit.now) (g.H.Shelf.held c.args.shelf.now c.args.name.now) c.in-Err.end is c.in-Err.ensures.exactly

pub returns-in-Err-clause-accepted : goal.returns-in-Err-clause-accepted
returns-in-Err-clause-accepted g c =
    let is : c.deref.result.now ≡ arc_value c.args.circuit.now = search rules in
    accepted_told c.deref.result.now (arc_value c.args.circuit.now) (g.H.Shelf.held c.args.shelf.now c.args.name.now) c.in-Err.end is c.in-Err.ensures.exactly
