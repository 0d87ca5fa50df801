use Rattle.std.proofs.lemmas.Result.{IfOk-weaker, on_err_weaker}
use Rattle.std.specs.Arc.{arc_value}
use Rattle.wall_ledger.specs.Turns as passing
use Rattle.shared_lists.specs.Knowing.{HasPosted, IsLastOf}
use Rattle.shared_lists.specs.Holding.{known_by, StaysHeld}
use Rattle.shared_lists.proofs.HeldPasses.{if-either, may-pass, posted-known, posted-last, refused-known, posted-held, refused-held}
use Rattle.shared_lists.proofs.held.HeldSharedList.post.Goals as goal

pub post-requires-clause-may : goal.post-requires-clause-may
post-requires-clause-may g c =
    let s = c.args.self.now in
    may-pass s.ledger.now s.pass (arc_value c.args.entry.now) c.older_views.ensures.uses c.requires.may

pub returns-clause-ok : goal.returns-clause-ok
returns-clause-ok g c =
    let s = c.args.self.now in
    let l = s.ledger.now in
    let e = arc_value c.args.entry.now in
    let q = c.post.new.pass in
    IfOk-weaker c.post.result (λ r. passing.HasPosted l s.pass e r q) (λ r. HasPosted (known_by l s.pass) r (known_by l q))
    (λ r h. posted-known l s.pass q e r c.requires.kept h c.requires.may) c.post.ensures.ok

pub returns-clause-last : goal.returns-clause-last
returns-clause-last g c =
    let s = c.args.self.now in
    let l = s.ledger.now in
    let e = arc_value c.args.entry.now in
    let q = c.post.new.pass in
    IfOk-weaker c.post.result (λ r. passing.HasPosted l s.pass e r q) (IsLastOf e (known_by l q)) (λ r h. posted-last l s.pass q e r h) c.post.ensures.ok

pub returns-clause-err : goal.returns-clause-err
returns-clause-err g c =
    let s = c.args.self.now in
    on_err_weaker c.post.result (refused-known s.ledger.now s.pass c.post.new.pass) c.post.ensures.err

pub returns-clause-on : goal.returns-clause-on
returns-clause-on g c =
    let s = c.args.self.now in
    let l = s.ledger.now in
    let e = arc_value c.args.entry.now in
    let q = c.post.new.pass in
    if-either (λ r. passing.HasPosted l s.pass e r q) (passing.IsRefused s.pass q) (StaysHeld l s.pass l q) c.post.result c.post.ensures.ok c.post.ensures.err
    (λ r h. posted-held l s.pass q e r c.requires.kept h) (refused-held l s.pass q c.requires.kept)
