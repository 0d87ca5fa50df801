use Rattle.std.proofs.Common.{rules, ◌≡◌, sym, subst}
use Rattle.std.specs.Prelude.{option_map}
use Rattle.std.specs.Arc.{arc_value}
use Rattle.aig_semantics.specs.Circuits.{Circuit}
use Rattle.given_entries.specs.Beginning.{told_of}
use Rattle.fair_top.specs.Solve.{HasProperty}
use Rattle.fair_top.proofs.Begun.{begun_of, asking_asked, asking_ended, asking_refused, asking_accepted, asking_read, asking_reads, no_reads}
use Rattle.fair_top.proofs.beginnings.beginning_on.Goals as goal

pub begun-requires : goal.begun-requires
begun-requires g c =
    let is : arc_value c.in-Ok.circuit ≡ c.args.circuit = search rules in
    record { property = subst (λ (k : Circuit). HasProperty k c.args.request.now) (sym is) c.requires.property }

pub returns-in-Ok-clause-asked : goal.returns-in-Ok-clause-asked
returns-in-Ok-clause-asked g c =
    let is : arc_value c.in-Ok.circuit ≡ c.args.circuit = search rules in
    let answer = told_of (g.H.Shelf.held c.args.shelf.now) (option_map (λ name. name.now) c.args.resume) in
    asking_asked (arc_value c.in-Ok.circuit) c.args.circuit answer c.args.request.now c.begun.result c.asked_as.result is c.asked_as.ensures c.requires.property
    (begun_of (arc_value c.in-Ok.circuit) answer c.args.request.now c.begun.result c.begun.ensures.circuit c.begun.ensures.served c.begun.ensures.serves c.begun.ensures.list
    c.begun.ensures.begins)

pub returns-in-Ok-clause-ended : goal.returns-in-Ok-clause-ended
returns-in-Ok-clause-ended g c =
    let is : arc_value c.in-Ok.circuit ≡ c.args.circuit = search rules in
    asking_ended (arc_value c.in-Ok.circuit) c.args.circuit (told_of (g.H.Shelf.held c.args.shelf.now) (option_map (λ name. name.now) c.args.resume)) c.args.request.now c.begun.result c.asked_as.result
    is c.asked_as.ensures c.requires.property c.begun.ensures.fault

pub returns-in-Ok-clause-refused : goal.returns-in-Ok-clause-refused
returns-in-Ok-clause-refused g c =
    let is : arc_value c.in-Ok.circuit ≡ c.args.circuit = search rules in
    asking_refused (arc_value c.in-Ok.circuit) c.args.circuit (told_of (g.H.Shelf.held c.args.shelf.now) (option_map (λ name. name.now) c.args.resume)) c.begun.result c.asked_as.result
    is c.asked_as.ensures c.begun.ensures.refused

pub returns-in-Ok-clause-accepted : goal.returns-in-Ok-clause-accepted
returns-in-Ok-clause-accepted g c =
    let is : arc_value c.in-Ok.circuit ≡ c.args.circuit = search rules in
    asking_accepted (arc_value c.in-Ok.circuit) c.args.circuit (told_of (g.H.Shelf.held c.args.shelf.now) (option_map (λ name. name.now) c.args.resume)) c.begun.result c.asked_as.result
    is c.asked_as.ensures c.begun.ensures.accepted

pub returns-in-Ok-clause-read : goal.returns-in-Ok-clause-read
returns-in-Ok-clause-read g c = λ e. c.begun.ensures.read (asking_read c.begun.result c.asked_as.result c.asked_as.ensures e)

pub returns-in-Ok-clause-reads : goal.returns-in-Ok-clause-reads
returns-in-Ok-clause-reads g c =
    asking_reads g.H.Shelf.reads (option_map (λ name. name.now) c.args.resume) c.begun.result c.asked_as.result c.args.shelf.now c.begun.new.shelf c.asked_as.ensures c.begun.ensures.reads

pub returns-clause-reads : goal.returns-clause-reads
returns-clause-reads g c = no_reads g.H.Shelf.reads (option_map (λ name. name.now) c.args.resume) c.args.shelf.now
