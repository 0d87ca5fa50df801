use Rattle.std.proofs.Common.{rules, ◌≡◌, ◌+◌, ◌++◌, length, ap, ◌∙◌, append_assoc}
use Rattle.cnf_unroll.specs.Numbers.{block_size, block_places, state_place, set_at_place}
use Rattle.cnf_unroll.specs.Blocks.{step_clauses}
use Rattle.cnf_unroll.specs.Uses.{free_from, named_sides}
use Rattle.cnf_unroll.specs.Obligations.{units, step_with_uses, after_step, shared_clauses}
use Rattle.cnf_unroll.specs.Lending.{lent_all}
use Rattle.cnf_unroll.specs.Layout.{before_set}
use Rattle.cnf_unroll.proofs.LayoutLaws.{use-ends}
use Rattle.cnf_unroll.proofs.obligations.shared.Goals as goal

pub returns-clause-ends : goal.returns-clause-ends
returns-clause-ends c =
    let circuit = c.args.c.now in
    let us = lent_all c.args.uses.now in
    let names = units (named_sides (after_step circuit us).sides c.args.own.now) in
    let set = set_at_place (state_place circuit 0) c.args.set.now in
    let all : c.push_set_at.new.db.clauses ≡ shared_clauses circuit us c.args.own.now c.args.set.now = search rules in
    use-ends (step_clauses circuit) (block_places circuit 0) (free_from (block_size circuit + 1)) us c.push_set_at.new.db.clauses (names ++ set)
    c.in_ok-numbering.numbering.ends (all ∙ append_assoc (step_with_uses circuit us) names set) c.in_ok-numbering.ensures.ends

pub returns-clause-sides : goal.returns-clause-sides
returns-clause-sides c =
    let circuit = c.args.c.now in
    let us = lent_all c.args.uses.now in
    let set = set_at_place (state_place circuit 0) c.args.set.now in
    let all : c.push_set_at.new.db.clauses ≡ shared_clauses circuit us c.args.own.now c.args.set.now = search rules in
    let before : c.push_units.new.db.clauses ≡ before_set circuit us c.args.own.now = search rules in
    record { count = c.len-sides.ensures ∙ ap length before; front = (set, all) }
