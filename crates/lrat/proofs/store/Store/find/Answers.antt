use Rattle.std.proofs.Common.{Some, true, false, ap, sym, ◌∙◌}
use Rattle.std.proofs.lemmas.Bool.{eq-eqb, ne_eqb}
use Rattle.std.specs.Prelude.{option_copied}
use Rattle.proof_semantics.specs.Proofs.{ProofState, clause_at}
use Rattle.lrat.specs.ArenaOf.{clause_in}
use Rattle.lrat.proofs.StoreLaws.{find_none, find_at}
use Rattle.lrat.proofs.store.Store.find.Goals as goal

pub returns-in_err-number : goal.returns-in_err-number
returns-in_err-number c =
    ap option_copied c.from_residual.ensures
    ∙ sym (ap (λ (x : ProofState). clause_at x.held c.args.id) (sym c.self.view_is)
    ∙ find_none c.self.inside c.as_slice.result.now c.args.id c.as_slice.ensures.value c.in_err-number.ensures.none)

pub returns-then-place-self : goal.returns-then-place-self
returns-then-place-self c =
    let p = c.index-place.result.now in
    sym (ap (λ (x : ProofState). clause_at x.held c.args.id) (sym c.self.view_is)
    ∙ find_at c.self.inside c.as_slice.result.now c.in_ok-number.number c.args.id p true c.self.invariant c.as_slice.ensures.value
    c.in_ok-number.ensures.found c.in_ok-number.ensures.there c.index-place.ensures (eq-eqb p.deleted c.self.inside.round c.if-place-self.true))

pub returns : goal.returns
returns c =
    let p = c.index-place.result.now in
    ap (λ ls. Some (clause_in ls p)) c.deref.ensures.value
    ∙ sym (ap (λ (x : ProofState). clause_at x.held c.args.id) (sym c.self.view_is)
    ∙ find_at c.self.inside c.as_slice.result.now c.in_ok-number.number c.args.id p false c.self.invariant c.as_slice.ensures.value
    c.in_ok-number.ensures.found c.in_ok-number.ensures.there c.index-place.ensures (ne_eqb p.deleted c.self.inside.round c.if-place-self.false))
