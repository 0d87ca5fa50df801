use Rattle.std.proofs.Common.{◌≡◌, ℕ, ◌<◌, ◌^◌, length, ap, subst, ◌∙◌}
use Rattle.ic3_frames.proofs.Meaning.{number-stays}
use Rattle.ic3_loops.proofs.Ended.{one_step}
use Rattle.ic3_loops.proofs.Excluding.{stronger-is}
use Rattle.ic3_loops.proofs.Excluded.{put-excludes, put-narrows}
use Rattle.ic3_loops.proofs.generalizing.put_counted.Goals as goal

small : (a n : ℕ) → n ≡ a → n < 2 ^ 64 → a < 2 ^ 64
small a n is below = subst (λ m. m < 2 ^ 64) is below

pub returns-in_err-put_lemma-clause-counted : goal.returns-in_err-put_lemma-clause-counted
returns-in_err-put_lemma-clause-counted g c =
    one_step c.args.meter.now c.lemma.new.self (small c.args.meter.now.steps c.steps_of-small.result c.steps_of-small.ensures.value c.steps_of-small.ensures.small)
    c.in_ok-lemma.ensures.counted

pub returns-clause-counted : goal.returns-clause-counted
returns-clause-counted g c =
    one_step c.args.meter.now c.lemma.new.self (small c.args.meter.now.steps c.steps_of-small.result c.steps_of-small.ensures.value c.steps_of-small.ensures.small)
    c.in_ok-lemma.ensures.counted

pub returns-clause-number : goal.returns-clause-number
returns-clause-number g c = ap length c.in_ok-put_lemma.ensures.frames ∙ number-stays c.args.frames.now c.args.lemma.level c.args.lemma.clause

pub returns-clause-excluded : goal.returns-clause-excluded
returns-clause-excluded g c =
    put-excludes c.args.frames.now c.put_lemma.new.frames c.args.lemma.level c.args.lemma.clause c.args.state.now c.requires.level
    c.in_ok-put_lemma.ensures.frames c.requires.excluded

pub returns-clause-narrows : goal.returns-clause-narrows
returns-clause-narrows g c =
    put-narrows c.args.frames.now c.put_lemma.new.frames c.args.lemma.level c.args.lemma.clause c.requires.level
    c.in_ok-put_lemma.ensures.frames

pub returns-clause-stronger : goal.returns-clause-stronger
returns-clause-stronger g c =
    rw c.in_ok-put_lemma.ensures.frames
    (stronger-is (length (g.S.StepSolver.seen c.args.steps.now).question.circuit.latches) c.args.frames.now c.args.lemma.level c.args.lemma.clause c.args.state.now
    c.requires.level c.requires.size c.requires.frame c.requires.excluded)
