use Rattle.std.proofs.Common.{rules, ◌≡◌, Bool, true, false}
use Rattle.fair_top.proofs.Begun.{each_is, each_serve, one_is, one_serve}
use Rattle.fair_top.proofs.beginnings.served.Goals as goal

pub returns-then-request-clause-asked : goal.returns-then-request-clause-asked
returns-then-request-clause-asked c =
    let all : c.args.request.now.all ≡ true = search rules in
    each_is c.args.circuit.now c.args.request.now c.each_property.result all c.each_property.ensures.each

pub returns-then-request-clause-serves : goal.returns-then-request-clause-serves
returns-then-request-clause-serves c = each_serve c.args.circuit.now c.each_property.result c.each_property.ensures.each c.each_property.ensures.few

pub returns-clause-asked : goal.returns-clause-asked
returns-clause-asked c =
    let one : c.args.request.now.all ≡ false = search rules in
    one_is c.args.circuit.now c.args.request.now c.from_slice.result one c.from_slice.ensures.items

pub returns-clause-serves : goal.returns-clause-serves
returns-clause-serves c =
    let one : c.args.request.now.all ≡ false = search rules in
    one_serve c.args.circuit.now c.args.request.now c.from_slice.result one c.requires.property c.from_slice.ensures.items
