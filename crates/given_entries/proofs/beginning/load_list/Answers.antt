use Rattle.std.proofs.Common.{false, map, sym, refl, subst}
use Rattle.std.specs.Prelude.{◌⊎◌, IfOk, IfErr, option_map}
use Rattle.std.specs.Arc.{arc_value}
use Rattle.sheet_answers.specs.Ends.{has_unread, IsUnended}
use Rattle.given_entries.specs.Beginning.{told_of, OfClaimed, IsClaimed, BeginsWith, HasNoList, ReadsIfNamed}
use Rattle.given_entries.proofs.Named.{refused_named, accepted_named}
use Rattle.given_entries.proofs.beginning.load_list.Goals as goal

pub returns-in-Some-clause-list : goal.returns-in-Some-clause-list
returns-in-Some-clause-list g c =
    subst (λ a. IfOk c.listed.result (λ list. OfClaimed (told_of (g.H.Shelf.held c.args.shelf.now) (option_map (λ name. name.now) a))
    (λ claimed. BeginsWith (arc_value c.args.circuit.now) claimed (map arc_value list.items)))) (sym c.in-Some.is) c.listed.ensures.list

pub returns-in-Some-clause-fault : goal.returns-in-Some-clause-fault
returns-in-Some-clause-fault g c =
    subst (λ a. IfErr c.listed.result (λ end. IsUnended end
    ⊎ OfClaimed (told_of (g.H.Shelf.held c.args.shelf.now) (option_map (λ name. name.now) a)) (λ claimed. HasNoList (arc_value c.args.circuit.now) claimed end)))
    (sym c.in-Some.is) c.listed.ensures.fault

pub returns-in-Some-clause-refused : goal.returns-in-Some-clause-refused
returns-in-Some-clause-refused g c = λ claimed fault claims none.
    refused_named (g.H.Shelf.held c.args.shelf.now c.in-Some.name.now) (arc_value c.args.circuit.now) c.listed.result c.listed.ensures.refused claimed fault
    (subst (λ a. IsClaimed (told_of (g.H.Shelf.held c.args.shelf.now) (option_map (λ name. name.now) a)) claimed) c.in-Some.is claims) none

pub returns-in-Some-clause-accepted : goal.returns-in-Some-clause-accepted
returns-in-Some-clause-accepted g c = λ claimed list claims begins.
    accepted_named (g.H.Shelf.held c.args.shelf.now c.in-Some.name.now) (arc_value c.args.circuit.now) c.listed.result c.listed.ensures.accepted claimed list
    (subst (λ a. IsClaimed (told_of (g.H.Shelf.held c.args.shelf.now) (option_map (λ name. name.now) a)) claimed) c.in-Some.is claims) begins

pub returns-in-Some-clause-reads : goal.returns-in-Some-clause-reads
returns-in-Some-clause-reads g c =
    subst (λ a. ReadsIfNamed g.H.Shelf.reads (option_map (λ name. name.now) a) (has_unread c.listed.result) c.args.shelf.now c.listed.new.shelf)
    (sym c.in-Some.is) c.listed.ensures.reads

pub returns-in-None-clause-reads : goal.returns-in-None-clause-reads
returns-in-None-clause-reads g c =
    subst (λ a. ReadsIfNamed g.H.Shelf.reads (option_map (λ name. name.now) a) false c.args.shelf.now c.args.shelf.now) (sym c.in-None.is) (refl, refl)
