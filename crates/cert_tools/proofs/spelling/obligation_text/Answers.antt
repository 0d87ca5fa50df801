use Rattle.std.proofs.Common.{◌≡◌, ◌<◌, List, length, sym, ap, ap₂, ◌∙◌, subst, arith, All}
use Rattle.std.proofs.lemmas.Result.{IfOk-weaker}
use Rattle.fair_semantics.specs.declared.entries.Use.{Use}
use Rattle.cnf_unroll.specs.Lending.{lent_all}
use Rattle.cnf_unroll.specs.Obligations.{after_step, obligation_clauses}
use Rattle.entry.specs.declared.list.Listed.{Listed}
use Rattle.entry.specs.Listing.{entries_of}
use Rattle.cert_tools.proofs.ItemLaws.{listed_at, listed_below, listed_uses, listed_clause, step_above, spelled_obligation}
use Rattle.cert_tools.proofs.spelling.obligation_text.Goals as goal

pub bounds-list-e : goal.bounds-list-e
bounds-list-e c = listed_below c.args.list.now c.args.e c.requires.there

pub used-requires : goal.used-requires
used-requires c =
    let list : List Listed = c.args.list.now in
    let at : Listed = c.index-list-e.result in
    let is = listed_at list c.args.e at (listed_below list c.args.e c.requires.there) c.index-list-e.is in
    subst (λ (uses : List Use). All (λ u. u.entry < length list) uses) (sym c.as_slice.ensures) (listed_uses list c.args.e c.args.i at c.args.circuit.now c.requires is)

pub obligation-requires : goal.obligation-requires
obligation-requires c =
    let list : List Listed = c.args.list.now in
    let at : Listed = c.index-list-e.result in
    listed_clause list c.args.e c.args.i at c.args.circuit.now c.requires (listed_at list c.args.e at (listed_below list c.args.e c.requires.there) c.index-list-e.is)

pub overflow_sub-greatest : goal.overflow_sub-greatest
overflow_sub-greatest c =
    let list : List Listed = c.args.list.now in
    let us = lent_all c.in_ok-uses.uses in
    let low = step_above c.args.circuit.now us (entries_of list) c.as_slice.result.now c.max-limits.ensures.checked c.max-limits.ensures.limits c.requires.over c.in_ok-uses.ensures in
    let free : c.in_ok-free.free ≡ (after_step c.args.circuit.now us).free = c.in_ok-free.ensures ∙ ap (λ xs. (after_step c.args.circuit.now (lent_all xs)).free) c.as_slice-2.ensures in
    omega (arith, low, free)

pub returns : goal.returns
returns c =
    let list : List Listed = c.args.list.now in
    let at : Listed = c.index-list-e.result in
    let circuit = c.args.circuit.now in
    let is = listed_at list c.args.e at (listed_below list c.args.e c.requires.there) c.index-list-e.is in
    let us = lent_all c.in_ok-uses.uses in
    let own : List Use = c.as_slice.result.now in
    let free : c.in_ok-free.free ≡ (after_step circuit us).free = c.in_ok-free.ensures ∙ ap (λ xs. (after_step circuit (lent_all xs)).free) c.as_slice-2.ensures in
    let same_own : c.as_slice-4.result.now ≡ own = c.as_slice-4.ensures ∙ sym c.as_slice.ensures in
    let clauses : c.as_slice-5.result.now ≡ obligation_clauses circuit us own at.set c.args.i =
    c.as_slice-5.ensures ∙ c.in_ok-clauses.ensures
    ∙ ap₂ (λ xs (os : List Use). obligation_clauses circuit (lent_all xs) os at.set c.args.i) c.as_slice-3.ensures same_own in
    IfOk-weaker c.dimacs_text.result _ _
    (λ text spelled. spelled_obligation circuit list c.args.e c.args.i at us own c.in_ok-free.free c.as_slice-5.result.now text.items c.max-limits.ensures.checked c.max-limits.ensures.limits c.requires.over is
    c.as_slice.ensures c.in_ok-uses.ensures free clauses spelled) c.dimacs_text.ensures
