use Rattle.std.proofs.Common.{◌≡◌, List, true, false, sym, subst, get_or}
use Rattle.std.specs.Prelude.{IfSome, IfNone}
use Rattle.std.proofs.lemmas.Bool.{false≢true}
use Rattle.proof_semantics.specs.Clauses.{has_literal, is_part}
use Rattle.proof_semantics.specs.declared.literals.Lit.{Lit}
use Rattle.ic3_generalise.specs.Generalising.{all_but}
use Rattle.ic3_generalise.proofs.Parts.{IsDecided, part_same, part_on, decided_none, decided_some, next_needed, all_needed}
use Rattle.ic3_generalise.proofs.generalising.generalise.Goals.{in-Some, in_default}
use Rattle.ic3_generalise.proofs.generalising.generalise.Goals as goal
use Rattle.edge.proofs.Ends.{counts_none, counts_on}

abbrev no_literal : Lit
no_literal = record { var = 0; positive = false }

pub loop-literal-init : goal.loop-literal-init
loop-literal-init g c =
    record {
      part = part_same c.args.cube;
      passing = c.requires;
      needed = λ a none _. absurd (false≢true none);
      kept = λ c'. (λ p. p, λ p. p);
      left = g.met.A.Asker.leaves_itself c.args.asker.now;
      counted = counts_none c.args.meter.now;
    }

pub loop-literal-preserved : goal.loop-literal-preserved
loop-literal-preserved g c =
    let before = c.loop-literal.invariant in
    let passes : List Lit → Type 0 = g.A.Asker.passes c.args.asker.now in
    let now : List Lit → Type 0 = g.A.Asker.passes c.loop-literal.asker in
    let old : List Lit = c.loop-literal.answer in
    let new : List Lit = c.match-branch-2.answer in
    let a : Lit = get_or c.args.order.now c.loop-literal.literal-index no_literal in
    let decided : IsDecided passes old new a =
    elim c.match-branch-2.branch [
      | in-Some w ↦
          subst (λ x. IsDecided passes old x a) (sym w.answer-is)
          (decided_some passes old w.in-Some.part a
          (subst (λ o. IfSome o (λ part. is_part part (all_but a old) ≡ true)) w.in-Some.is c.in_ok-part.ensures.part))
      | in_default w ↦
          subst (λ x. IsDecided passes old x a) (sym w.answer-is)
          (decided_none passes now old a (before.kept (all_but a old)).1
          (subst (λ o. IfNone o (has_literal old a ≡ true → now (all_but a old) → ⊥)) w.in_default.is c.in_ok-part.ensures.needed))
    ] in
    let passed : passes new =
    elim c.match-branch-2.branch [
      | in-Some w ↦
          subst passes (sym w.answer-is)
          ((before.kept w.in-Some.part).0 (subst (λ o. IfSome o now) w.in-Some.is c.in_ok-part.ensures.passing))
      | in_default w ↦ subst passes (sym w.answer-is) before.passing
    ] in
    record {
      part = part_on new old c.args.cube decided.part before.part;
      passing = passed;
      needed =
          next_needed passes c.args.cube c.args.order.now old new c.loop-literal.literal-index no_literal c.loop-literal-test.true
          before.part before.passing decided before.needed;
      kept = λ c'. (λ p. (before.kept c').0 ((c.without.ensures.kept c').0 p), λ p. (c.without.ensures.kept c').1 ((before.kept c').1 p));
      left = g.met.A.Asker.leaves_on c.args.asker.now c.loop-literal.asker c.without.new.asker before.left c.without.ensures.left;
      counted = counts_on c.args.meter.now c.loop-literal.meter c.without.new.meter before.counted c.without.ensures.counted;
    }

pub returns-clause-needed : goal.returns-clause-needed
returns-clause-needed g c =
    all_needed (g.A.Asker.passes c.args.asker.now) c.args.cube c.args.order.now c.loop-literal.answer c.loop-literal.literal-index
    c.loop-literal-test.false c.loop-literal.invariant.needed
