use Rattle.std.proofs.Common.{rules, ◌≡◌, ◌+◌, ◌++◌, [], length, sym, ap, ◌∙◌}
use Rattle.std.proofs.lemmas.List.{append-nil}
use Rattle.aig_semantics.specs.Circuits.{fair_literals}
use Rattle.cnf_unroll.specs.Uses.{free_from, uses_clauses}
use Rattle.cnf_unroll.specs.Obligations.{block_count, blocks_clauses, blocks_places, literals_clauses, after_blocks, skeleton_clauses}
use Rattle.cnf_unroll.specs.Lending.{lent_all}
use Rattle.cnf_unroll.specs.Layout.{use_ends}
use Rattle.cnf_unroll.proofs.LayoutLaws.{use-ends}
use Rattle.cnf_unroll.proofs.skeletons.unrolled_skeleton.Goals as goal

pub returns-clause-ends : goal.returns-clause-ends
returns-clause-ends c =
    let circuit = c.args.c.now in
    let us = lent_all c.args.uses.now in
    let literals = fair_literals circuit c.args.j in
    let count = block_count literals in
    let before = blocks_clauses circuit 0 count ++ literals_clauses circuit 0 literals in
    let places = blocks_places circuit 0 count in
    let n = free_from (after_blocks circuit 0 count + 1) in
    let all : c.push_uses.new.db.clauses ≡ skeleton_clauses circuit c.args.j us = search rules in
    let db : c.push_literals.new.db.clauses ≡ before = search rules in
    let at : c.as_slice-2.result.now ≡ places = search rules in
    let base : c.in_ok-base.base ≡ after_blocks circuit 0 count = search rules in
    use-ends before places n us c.push_uses.new.db.clauses [] c.in_ok-numbering.numbering.ends
    (all ∙ sym (append-nil (before ++ uses_clauses places n us)))
    (c.in_ok-numbering.ensures.ends ∙ ap (λ xs. use_ends (length xs) c.as_slice-2.result.now (free_from (c.in_ok-base.base + 1)) us) db
    ∙ ap (λ ps. use_ends (length before) ps (free_from (c.in_ok-base.base + 1)) us) at
    ∙ ap (λ b. use_ends (length before) places (free_from (b + 1)) us) base)
