use Rattle.std.proofs.Common.{◌≡◌, None, [], ◌∷◌, ◌++◌, ap, sym, subst, ◌∙◌}
use Rattle.proof_semantics.specs.declared.literals.Lit.{Lit}
use Rattle.cdcl_trail.specs.Trails.{assumed, value_of}
use Rattle.cdcl_trail.specs.Renaming.{named_state, named_steps}
use Rattle.cdcl_trail.specs.TrailOf.{Named}
use Rattle.cdcl_trail.specs.Watched.{TrailState, KeepWatch}
use Rattle.cdcl_trail.proofs.BorderLaws.{free_number}
use Rattle.cdcl_trail.proofs.TrailLaws.{level_assumed}
use Rattle.cdcl_trail.proofs.NamedLaws.{on_err, named_met, named_same, same_met, keeps_equal, keeps_met, meets_name, named_assumed, assumed_steps}
use Rattle.cdcl_trail.proofs.trail.Trail.assume.Goals as goal

pub invariant_of-self : goal.invariant_of-self
invariant_of-self c =
    let t = c.self.inside in
    named_same t.names t.tracks t.shown.items c.reserve.new.self.items c.self.invariant c.reserve.ensures.items

pub invariant_of-self-in_err-number : goal.invariant_of-self-in_err-number
invariant_of-self-in_err-number c =
    let t = c.self.inside in
    subst (λ names. Named names t.tracks c.reserve.new.self.items) (sym c.in_err-number.ensures.err)
    (named_same t.names t.tracks t.shown.items c.reserve.new.self.items c.self.invariant c.reserve.ensures.items)

pub assume-requires : goal.assume-requires
assume-requires c =
    let t = c.self.inside in
    ap (value_of t.tracks.steps) (ap (λ (l : Lit). l.var) c.of.ensures)
    ∙ free_number t.names c.meet.new.self t.tracks.steps c.args.literal.var c.in_ok-number.number c.self.invariant.apart
    (meets_name t.names c.meet.new.self c.args.literal.var c.in_ok-number.ensures.ok) c.self.invariant.steps c.in_ok-number.ensures.number
    (subst (λ (s : TrailState). value_of s.steps c.args.literal.var ≡ None) (sym c.self.view_is) c.requires)

pub invariant_of-self-in_err-assume : goal.invariant_of-self-in_err-assume
invariant_of-self-in_err-assume c =
    let t = c.self.inside in
    subst (λ (u : TrailState). Named c.meet.new.self u c.reserve.new.self.items) (sym c.in_err-assume.ensures.err)
    (named_met t.names c.meet.new.self t.tracks t.shown.items c.reserve.new.self.items c.self.invariant
    (meets_name t.names c.meet.new.self c.args.literal.var c.in_ok-number.ensures.ok) c.reserve.ensures.items)

pub invariant_of-self-2 : goal.invariant_of-self-2
invariant_of-self-2 c =
    let t = c.self.inside in
    named_assumed t.names c.meet.new.self t.tracks c.assume.new.self t.shown.items c.push_reserved.new.self.items c.args.literal c.of.result c.in_ok-number.number c.self.invariant
    (meets_name t.names c.meet.new.self c.args.literal.var c.in_ok-number.ensures.ok) c.in_ok-number.ensures.number c.of.ensures c.in_ok-assume.ensures.ok c.assume.ensures.watch
    (c.push_reserved.ensures.items ∙ ap (λ xs. xs ++ c.args.literal ∷ []) c.reserve.ensures.items)

pub returns-in_err-number-clause-err : goal.returns-in_err-number-clause-err
returns-in_err-number-clause-err c =
    on_err c.from_residual-in_err-number.result (ap (λ names. named_state names c.self.inside.tracks) c.in_err-number.ensures.err ∙ c.self.view_is)

pub returns-in_err-number-clause-watch : goal.returns-in_err-number-clause-watch
returns-in_err-number-clause-watch c =
    keeps_equal c.args.self.now (named_state c.meet.new.self c.self.inside.tracks)
    (ap (λ names. named_state names c.self.inside.tracks) c.in_err-number.ensures.err ∙ c.self.view_is)

pub returns-in_err-assume-clause-err : goal.returns-in_err-assume-clause-err
returns-in_err-assume-clause-err c =
    let t = c.self.inside in
    on_err c.from_residual-in_err-assume.result
    (ap (named_state c.meet.new.self) c.in_err-assume.ensures.err
    ∙ same_met t.names c.meet.new.self t.tracks t.shown.items c.self.invariant c.laws.ensures.paired
    (meets_name t.names c.meet.new.self c.args.literal.var c.in_ok-number.ensures.ok)
    ∙ c.self.view_is)

pub returns-in_err-assume-clause-watch : goal.returns-in_err-assume-clause-watch
returns-in_err-assume-clause-watch c =
    let t = c.self.inside in
    subst (λ (s : TrailState). KeepWatch s (named_state c.meet.new.self c.assume.new.self)) c.self.view_is
    (keeps_met t.names c.meet.new.self t.tracks c.assume.new.self t.shown.items c.self.invariant c.laws.ensures.paired
    (meets_name t.names c.meet.new.self c.args.literal.var c.in_ok-number.ensures.ok) c.assume.ensures.watch)

pub returns-clause-ok : goal.returns-clause-ok
returns-clause-ok c =
    let t = c.self.inside in
    assumed_steps t.names c.meet.new.self t.tracks c.assume.new.self t.shown.items c.args.literal c.of.result c.in_ok-number.number c.self.invariant
    (meets_name t.names c.meet.new.self c.args.literal.var c.in_ok-number.ensures.ok) c.in_ok-number.ensures.number c.of.ensures c.in_ok-assume.ensures.ok
    ∙ ap (λ (s : TrailState). s.steps ++ assumed c.args.literal ∷ []) c.self.view_is

pub returns-clause-level : goal.returns-clause-level
returns-clause-level c =
    let t = c.self.inside in
    level_assumed c.args.self.now.steps (named_steps c.meet.new.self c.assume.new.self.steps) c.args.literal
    (assumed_steps t.names c.meet.new.self t.tracks c.assume.new.self t.shown.items c.args.literal c.of.result c.in_ok-number.number c.self.invariant
    (meets_name t.names c.meet.new.self c.args.literal.var c.in_ok-number.ensures.ok) c.in_ok-number.ensures.number c.of.ensures c.in_ok-assume.ensures.ok
    ∙ ap (λ (s : TrailState). s.steps ++ assumed c.args.literal ∷ []) c.self.view_is)

pub returns-clause-watch : goal.returns-clause-watch
returns-clause-watch c =
    let t = c.self.inside in
    subst (λ (s : TrailState). KeepWatch s (named_state c.meet.new.self c.assume.new.self)) c.self.view_is
    (keeps_met t.names c.meet.new.self t.tracks c.assume.new.self t.shown.items c.self.invariant c.laws.ensures.paired
    (meets_name t.names c.meet.new.self c.args.literal.var c.in_ok-number.ensures.ok) c.assume.ensures.watch)
