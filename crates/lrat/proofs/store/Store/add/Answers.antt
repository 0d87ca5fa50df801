use Rattle.std.proofs.Common.{ap, ◌∙◌, ◌+◌, ◌++◌, ◌∷◌, [], length, refl, arith}
use Rattle.proof_semantics.specs.Proofs.{ProofState, with_addition}
use Rattle.lrat.specs.declared.arena.Place.{Place}
use Rattle.lrat.specs.declared.store.Store.TheInside.{Inside}
use Rattle.lrat.proofs.StoreLaws.{state_push, IsOrderly-push}
use Rattle.lrat.proofs.store.Store.add.Goals as goal

pub invariant_of-self-2 : goal.invariant_of-self-2
invariant_of-self-2 c =
    let s = c.self.inside in
    let p : Place = record {
      id = c.args.id;
      start = length c.reserve.new.arena.literals.items;
      end = length c.reserve.new.arena.literals.items + length c.args.clause.now;
      deleted = 0;
    } in
    let t : Inside = record { arena = c.put.new.arena; given = s.given; filled = s.filled; round = s.round; finished = c.is_finished_by-self-inside.result } in
    IsOrderly-push s t p c.args.clause.now c.self.invariant
    (omega (arith, c.requires, ap (λ (x : ProofState). x.last) c.self.view_is))
    (c.put.ensures.literals ∙ ap (λ xs. xs ++ c.args.clause.now) c.reserve.ensures.literals)
    (c.put.ensures.places ∙ ap (λ xs. xs ++ p ∷ []) c.reserve.ensures.places)
    (ap length c.reserve.ensures.literals) (ap (λ n. n + length c.args.clause.now) (ap length c.reserve.ensures.literals)) refl refl refl refl

pub returns-clause-ok : goal.returns-clause-ok
returns-clause-ok c =
    let s = c.self.inside in
    let p : Place = record {
      id = c.args.id;
      start = length c.reserve.new.arena.literals.items;
      end = length c.reserve.new.arena.literals.items + length c.args.clause.now;
      deleted = 0;
    } in
    let t : Inside = record { arena = c.put.new.arena; given = s.given; filled = s.filled; round = s.round; finished = c.is_finished_by-self-inside.result } in
    state_push s t p c.args.clause.now c.self.invariant
    (c.put.ensures.literals ∙ ap (λ xs. xs ++ c.args.clause.now) c.reserve.ensures.literals)
    (c.put.ensures.places ∙ ap (λ xs. xs ++ p ∷ []) c.reserve.ensures.places)
    (ap length c.reserve.ensures.literals) (ap (λ n. n + length c.args.clause.now) (ap length c.reserve.ensures.literals))
    (λ none. absurd (omega (arith, none, c.self.invariant.begun))) refl refl c.is_finished_by-self-inside.ensures
    ∙ ap (λ (x : ProofState). with_addition x c.args.id c.args.clause.now) c.self.view_is
