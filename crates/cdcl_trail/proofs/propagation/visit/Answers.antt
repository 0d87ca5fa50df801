use Rattle.std.proofs.Common.{◌≡◌, ◌+◌, true, List, Some, arith, refl, ap, sym, subst, ◌∙◌}
use Rattle.std.proofs.lemmas.Option.{slice_get_within, same_Some}
use Rattle.packed_literals.specs.Lists.{list_for}
use Rattle.cdcl_trail.specs.Guards.{IsPairOf, IsDone}
use Rattle.cdcl_trail.specs.Propagation.{is_true, is_fixed}
use Rattle.cdcl_trail.specs.declared.pairs.Pair.{Pair}
use Rattle.proof_semantics.specs.declared.literals.Lit.{Lit}
use Rattle.cdcl_trail.proofs.VisitLaws.{has_other, pair_turned, other_apart, pair_found, visited_moved, visited_kept, visited_same, visited_forced, visited_skipped, says_skipped, true_comes, done_true}
use Rattle.cdcl_trail.proofs.FixedLaws.{false_unfixed}
use Rattle.cdcl_trail.proofs.PassLaws.{unit_unvalued}
use Rattle.cdcl_trail.proofs.propagation.visit.Goals as goal

pub look-requires-clause-pair : goal.look-requires-clause-pair
look-requires-clause-pair c =
    let of = c.requires.stored.paired c.args.number c.in-Some.ensures.0 c.in-Some-clause.clause.now c.in-Some.ensures.1 (sym c.in-Some-clause.ensures) in
    pair_turned c.in-Some-clause.clause.now c.in-Some.ensures.0 c.args.falsified c.in-Some.other of c.in-Some.ensures.2

pub overflow_add-result : goal.overflow_add-result
overflow_add-result c =
    let within = slice_get_within c.args.watching.now.pairs.items c.args.number (Some c.in-Some.ensures.0) c.in-Some.ensures.1 in
    omega (arith, within, c.args.watching.now.pairs.ok.0)

pub overflow_add-number : goal.overflow_add-number
overflow_add-number c =
    let within = slice_get_within c.args.watching.now.pairs.items c.args.number (Some c.in-Some.ensures.0) c.in-Some.ensures.1 in
    omega (arith, within, c.args.watching.now.pairs.ok.0)

pub rewatch-requires-clause-pair : goal.rewatch-requires-clause-pair
rewatch-requires-clause-pair c = λ clause e.
    let same : c.in-Some-clause.clause.now ≡ clause = same_Some c.in-Some-clause.clause.now clause (c.in-Some-clause.ensures ∙ e) in
    let of = c.requires.stored.paired c.args.number c.in-Some.ensures.0 c.in-Some-clause.clause.now c.in-Some.ensures.1 (sym c.in-Some-clause.ensures) in
    subst (λ (x : List Lit). IsPairOf x (record { first = c.in-Moves.first; second = c.in-Some.other })) same
    (pair_found c.args.assignment.now.steps c.in-Some-clause.clause.now c.in-Some.other c.in-Moves.first
    (has_other c.in-Some-clause.clause.now c.in-Some.ensures.0 c.args.falsified c.in-Some.other of c.in-Some.ensures.2) c.in-Moves.ensures)

pub rewatch-requires-clause-apart_too : goal.rewatch-requires-clause-apart_too
rewatch-requires-clause-apart_too c =
    let of = c.requires.stored.paired c.args.number c.in-Some.ensures.0 c.in-Some-clause.clause.now c.in-Some.ensures.1 (sym c.in-Some-clause.ensures) in
    other_apart c.in-Some-clause.clause.now c.in-Some.ensures.0 c.args.falsified c.in-Some.other of c.in-Some.ensures.2

pub returns-in_err-rewatch-in-Moves-clause-visited : goal.returns-in_err-rewatch-in-Moves-clause-visited
returns-in_err-rewatch-in-Moves-clause-visited c =
    visited_kept c.args.watching.now c.rewatch.new.self c.args.assignment.now.steps c.args.falsified c.args.place c.rewatch.ensures.rewatched
    (c.rewatch.ensures.cover (is_fixed c.args.assignment.now.steps) (false_unfixed c.args.assignment.now.steps c.args.falsified c.requires.falsified) c.requires.covers)
    (ap (λ v. v.items) c.in_err-rewatch-in-Moves.ensures.err) c.rewatch.ensures.below

pub returns-in_ok-put-in-Forces-clause-says : goal.returns-in_ok-put-in-Forces-clause-says
returns-in_ok-put-in-Forces-clause-says c =
    let s = c.args.assignment.now.steps in
    let clause = c.in-Some-clause.clause.now in
    let of = c.requires.stored.paired c.args.number c.in-Some.ensures.0 clause c.in-Some.ensures.1 (sym c.in-Some-clause.ensures) in
    let holds : is_true c.put.new.self.steps c.in-Some.other ≡ true =
    ap (λ xs. is_true xs c.in-Some.other) c.in_ok-put-in-Forces.ensures.ok
    ∙ true_comes s c.in-Some.other (Some (c.args.number + 1)) (unit_unvalued s clause c.in-Some.other c.in-Forces.ensures) in (
      refl,
      λ pair e.
          subst (λ (x : Pair). IsDone c.put.new.self.steps c.args.falsified x) (same_Some c.in-Some.ensures.0 pair (same_Some (Some c.in-Some.ensures.0) (Some pair) (sym c.in-Some.ensures.1 ∙ e)))
          (done_true c.put.new.self.steps clause c.in-Some.ensures.0 c.args.falsified c.in-Some.other of c.in-Some.ensures.2 holds),
    )

pub returns-in_ok-rewatch-in-Moves-clause-visited : goal.returns-in_ok-rewatch-in-Moves-clause-visited
returns-in_ok-rewatch-in-Moves-clause-visited c =
    let of = c.requires.stored.paired c.args.number c.in-Some.ensures.0 c.in-Some-clause.clause.now c.in-Some.ensures.1 (sym c.in-Some-clause.ensures) in
    visited_moved c.args.watching.now c.rewatch.new.self c.args.assignment.now.steps c.args.falsified c.args.place c.args.number c.in-Some.ensures.0
    (record { first = c.in-Moves.first; second = c.in-Some.other }) c.rewatch.ensures.rewatched
    (c.rewatch.ensures.cover (is_fixed c.args.assignment.now.steps) (false_unfixed c.args.assignment.now.steps c.args.falsified c.requires.falsified) c.requires.covers) c.in_ok-rewatch-in-Moves.ensures.pairs c.rewatch.ensures.below
    c.in-Some.ensures.1 c.requires.falsified c.in-Moves.ensures.unfalsified c.in-Some.ensures.2
    (other_apart c.in-Some-clause.clause.now c.in-Some.ensures.0 c.args.falsified c.in-Some.other of c.in-Some.ensures.2)

pub returns-in_ok-rewatch-in-Moves-clause-says : goal.returns-in_ok-rewatch-in-Moves-clause-says
returns-in_ok-rewatch-in-Moves-clause-says c = c.in_ok-rewatch-in-Moves.ensures.list.shorter

pub skip-requires-clause-entry : goal.skip-requires-clause-entry
skip-requires-clause-entry c = slice_get_within (list_for c.args.watching.now.lists c.args.falsified) c.args.place c.args.number c.requires.entry

pub returns-then-is_true-clause-visited : goal.returns-then-is_true-clause-visited
returns-then-is_true-clause-visited c =
    visited_skipped c.args.watching.now c.skip.new.watching c.args.assignment.now.steps c.args.falsified c.in-Some.other c.args.place c.args.number c.in-Some.ensures.0 c.skip.result
    c.requires.stored c.requires.covers c.requires.entry c.in-Some.ensures.1 c.in-Some.ensures.2 c.requires.falsified (sym c.is_true.ensures ∙ c.if-is_true.true) c.skip.ensures

pub returns-then-is_true-clause-says : goal.returns-then-is_true-clause-says
returns-then-is_true-clause-says c =
    says_skipped c.args.watching.now c.skip.new.watching c.args.assignment.now.steps c.args.falsified c.in-Some.other c.args.place c.args.number c.in-Some.ensures.0 c.skip.result
    c.in-Some.ensures.1 c.in-Some.ensures.2 c.requires.falsified (sym c.is_true.ensures ∙ c.if-is_true.true) c.skip.ensures

pub returns-in_err-put-in-Forces-clause-visited : goal.returns-in_err-put-in-Forces-clause-visited
returns-in_err-put-in-Forces-clause-visited c =
    visited_same c.args.watching.now c.args.assignment.now.steps c.put.new.self.steps c.args.falsified c.args.place c.requires.stored
    (ap (λ s. s.steps) c.in_err-put-in-Forces.ensures.err) c.requires.covers

pub returns-in_ok-put-in-Forces-clause-visited : goal.returns-in_ok-put-in-Forces-clause-visited
returns-in_ok-put-in-Forces-clause-visited c =
    visited_forced c.args.watching.now c.args.assignment.now.steps c.put.new.self.steps c.args.falsified c.in-Some.other c.args.place c.args.number c.in-Some-clause.clause.now
    c.requires.stored (sym c.in-Some-clause.ensures) c.in-Forces.ensures c.in_ok-put-in-Forces.ensures.ok c.requires.covers
