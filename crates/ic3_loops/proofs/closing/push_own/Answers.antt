use Rattle.std.proofs.Common.{sym, ◌∙◌}
use Rattle.std.proofs.lemmas.Bool.{false≢true}
use Rattle.ic3_frames.specs.Frames.{own_lemmas}
use Rattle.ic3_loops.proofs.Closes.{next_own, whole_own}
use Rattle.ic3_loops.proofs.closing.push_own.Goals as goal

pub places-preserved : goal.places-preserved
places-preserved c =
    next_own c.args.clauses.now c.places.clauses c.push.new.self (own_lemmas c.args.frames.now c.args.level) c.places.place c.in_ok-place.place
    c.in_ok-lemma.lemma (c.has_lemma.ensures.0 c.places-test.true) c.in_ok-place.ensures c.in_ok-lemma.ensures c.places.invariant
    c.in_ok-push.ensures.ok

pub returns : goal.returns
returns c =
    whole_own c.args.clauses.now c.places.clauses (own_lemmas c.args.frames.now c.args.level) c.places.place
    (λ below. false≢true (sym c.places-test.false ∙ c.has_lemma.ensures.1 below)) c.places.invariant
