use Rattle.std.proofs.Common.{◌+◌, length, sym, ap, ◌∙◌, subst}
use Rattle.std.specs.Arc.{arc_value}
use Rattle.std.proofs.lemmas.List.{length-map}
use Rattle.shared_lists.specs.Knowing.{MayPostFrom, IsLastOf}
use Rattle.shared_lists.specs.Lending.{known_of, known_at}
use Rattle.shared_lists.proofs.LentBoards.{may-post-on, post-known, post-last, post-lent}
use Rattle.shared_lists.proofs.lending.LentBoardSharedList.post.Goals as goal

pub post-posted-requires-clause-may : goal.post-posted-requires-clause-may
post-posted-requires-clause-may c =
    let s = c.args.self.now in
    let e = arc_value c.in_ok-own.own in
    may-post-on s.number s.turns s.board e e.origin (c.seen_uses_stand.ensures s.number)
    (subst (MayPostFrom (known_of s)) (sym c.in_ok-own.ensures) c.requires.may)

pub returns-clause-ok : goal.returns-clause-ok
returns-clause-ok c =
    let s = c.args.self.now in
    let e = arc_value c.in_ok-own.own in
    post-known s.number s.turns s.board c.post-posted.new.self e c.post-posted.result e.origin c.requires.kept.board c.requires.kept.number
    (subst (MayPostFrom (known_of s)) (sym c.in_ok-own.ensures) c.requires.may) c.post-posted.ensures.answer c.post-posted.ensures.after

pub returns-clause-last : goal.returns-clause-last
returns-clause-last c =
    let s = c.args.self.now in
    let e = arc_value c.in_ok-own.own in
    subst (λ x. IsLastOf x (known_at c.post-posted.new.self s.number (s.turns + 1)) c.post-posted.result) c.in_ok-own.ensures
    (post-last s.number s.turns s.board c.post-posted.new.self e c.post-posted.result e.origin c.requires.kept.board c.requires.kept.number
    c.post-posted.ensures.answer c.post-posted.ensures.after)

pub returns-clause-on : goal.returns-clause-on
returns-clause-on c =
    let s = c.args.self.now in
    let e = arc_value c.in_ok-own.own in
    let size = sym (length-map c.entries.result.now (λ x. arc_value x)) ∙ ap length c.entries.ensures.checked in
    post-lent s c.post-posted.new.self e c.post-posted.result (length c.entries.result.now) c.requires.kept
    c.holds.ensures (subst (MayPostFrom (known_of s)) (sym c.in_ok-own.ensures) c.requires.may) c.post-posted.ensures size
