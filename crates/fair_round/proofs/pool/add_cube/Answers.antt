use Rattle.std.proofs.Common.{sym, subst}
use Rattle.std.proofs.lemmas.List.Elements.{All-push}
use Rattle.skeleton.specs.Finding.{BeginsNone}
use Rattle.fair_round.specs.declared.scope.Scope.{Scope}
use Rattle.fair_round.specs.Scopes.{AreAvoided, entries_of}
use Rattle.fair_round.proofs.pool.add_cube.Goals as goal

pub returns-in_err-push : goal.returns-in_err-push
returns-in_err-push c = subst (AreAvoided c.args._scope.now) (sym c.in_err-push.ensures.err) c.requires.avoid

pub returns : goal.returns
returns c =
    let s : Scope = c.args._scope.now in
    subst (AreAvoided s) (sym c.in_ok-push.ensures.ok)
    (All-push (BeginsNone s.circuit.now s.property (entries_of s)) c.args.avoid.now c.args.cube c.requires.avoid c.requires.cube)
