use Rattle.std.proofs.Common.{◌≡◌, List, ap, ◌∙◌, arith}
use Rattle.std.proofs.lemmas.Result.{IfOk-weaker}
use Rattle.cnf_unroll.specs.Lending.{lent_all}
use Rattle.cnf_unroll.specs.Obligations.{skeleton_clauses}
use Rattle.entry.specs.declared.list.Listed.{Listed}
use Rattle.entry.specs.Listing.{entries_of}
use Rattle.cert_tools.specs.Exported.{after_skeleton}
use Rattle.cert_tools.proofs.ItemLaws.{skeleton_above, spelled_skeleton}
use Rattle.cert_tools.proofs.spelling.skeleton_text.Goals as goal

pub overflow_sub-greatest : goal.overflow_sub-greatest
overflow_sub-greatest c =
    let us = lent_all c.in_ok-uses.uses in
    let low = skeleton_above c.args.circuit.now c.args.j us (entries_of c.args.list.now) c.args.uses.now c.max-limits.ensures.checked c.max-limits.ensures.limits c.requires.over c.in_ok-uses.ensures in
    let free : c.in_ok-free.free ≡ (after_skeleton c.args.circuit.now c.args.j us).free =
    c.in_ok-free.ensures ∙ ap (λ xs. (after_skeleton c.args.circuit.now c.args.j (lent_all xs)).free) c.as_slice.ensures in
    omega (arith, low, free)

pub returns : goal.returns
returns c =
    let list : List Listed = c.args.list.now in
    let circuit = c.args.circuit.now in
    let us = lent_all c.in_ok-uses.uses in
    let free : c.in_ok-free.free ≡ (after_skeleton circuit c.args.j us).free = c.in_ok-free.ensures ∙ ap (λ xs. (after_skeleton circuit c.args.j (lent_all xs)).free) c.as_slice.ensures in
    let clauses : c.as_slice-3.result.now ≡ skeleton_clauses circuit c.args.j us =
    c.as_slice-3.ensures ∙ c.in_ok-clauses.ensures ∙ ap (λ xs. skeleton_clauses circuit c.args.j (lent_all xs)) c.as_slice-2.ensures in
    IfOk-weaker c.dimacs_text.result _ _
    (λ text spelled. spelled_skeleton circuit c.args.j list c.args.uses.now us c.in_ok-free.free c.as_slice-3.result.now text.items c.max-limits.ensures.checked c.max-limits.ensures.limits c.requires.over
    c.in_ok-uses.ensures free clauses spelled) c.dimacs_text.ensures
