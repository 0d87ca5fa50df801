use Rattle.std.proofs.Common.{◌≡◌, length, ap, subst, ◌∙◌, ◌∷◌, [], refl, arith}
use Rattle.std.specs.Vec.{with_item}
use Rattle.proof_semantics.specs.Proofs.{ProofState, with_deletion}
use Rattle.lrat.specs.declared.arena.Place.{Place}
use Rattle.lrat.specs.declared.store.Store.TheInside.{Inside}
use Rattle.lrat.proofs.StoreLaws.{state_unset, state_same, IsOrderly-unset}
use Rattle.lrat.proofs.store.Store.delete_one.Goals as goal

pub invariant_of-self : goal.invariant_of-self
invariant_of-self c =
    let s = c.self.inside in
    let p = c.index_mut.result.now in
    let q : Place = record p { deleted = s.round } in
    let t : Inside = record s { arena = record { literals = s.arena.literals; places = with_item s.arena.places c.in-Some.number q } } in
    IsOrderly-unset s t c.in-Some.number q p c.self.invariant (omega (arith, ap length c.as_slice.ensures.value, c.in-Some.ensures.found))
    c.index_mut.ensures.value refl refl refl refl refl refl refl refl refl

pub returns-in-Some : goal.returns-in-Some
returns-in-Some c =
    let s = c.self.inside in
    let p = c.index_mut.result.now in
    let q : Place = record p { deleted = s.round } in
    let t : Inside = record s { arena = record { literals = s.arena.literals; places = with_item s.arena.places c.in-Some.number q } } in
    state_unset s t c.as_slice.result.now c.in-Some.number c.args.id q p c.self.invariant c.as_slice.ensures.value c.in-Some.ensures.found c.in-Some.ensures.there
    c.index_mut.ensures.value refl refl refl refl refl refl refl refl refl
    ∙ ap (λ (x : ProofState). with_deletion x (c.args.id ∷ [])) c.self.view_is

pub returns-in_default : goal.returns-in_default
returns-in_default c =
    subst (λ (x : ProofState). x ≡ with_deletion x (c.args.id ∷ [])) c.self.view_is
    (state_same c.self.inside c.as_slice.result.now c.args.id c.as_slice.ensures.value c.in_default.ensures.none)
