use Rattle.std.proofs.Common.{◌≡◌, ℕ, ◌+◌, ◌<◌, ◌≤◌, Bool, false, true, List, length, take, get_or, sym, ap, subst, ◌∙◌, arith}
use Rattle.std.specs.Bool.{OnTrue}
use Rattle.std.proofs.lemmas.Bool.{false≢true}
use Rattle.std.proofs.lemmas.List.{length-take-le}
use Rattle.aig_semantics.specs.declared.traces.Stimulus.{Stimulus}
use Rattle.aig_semantics.specs.Circuits.{Circuit}
use Rattle.aig_semantics.specs.Stimuli.{StandsFor}
use Rattle.stimulus.proofs.TrackLemmas.{IsReplayed-none, IsReplayed-more, first_forbidden, no_lasso, StandsFor-first, length-state_after}
use Rattle.stimulus.proofs.replaying.walk_on.Goals as goal

on_true : (b : Bool) (P : Type 0) → b ≡ true → OnTrue b P → P
on_true true P e h = h
on_true false P e h = absurd (false≢true e)

-- the inputs of a position, as a slice
at_place : (xs ys : List (List Bool)) (k : ℕ) (now item : List Bool) → ys ≡ xs → now ≡ item → item ≡ get_or ys k item → now ≡ get_or xs k now
at_place xs ys k now item same e at = cc

inside_place : (xs ys : List (List Bool)) (k : ℕ) → ys ≡ xs → k < length ys → k < length xs
inside_place xs ys k same inside = omega (arith, ap length same)

past_place : (xs ys : List (List Bool)) (k : ℕ) → ys ≡ xs → length ys ≤ k → length xs ≤ k
past_place xs ys k same past = omega (arith, ap length same)

next_place : (k : ℕ) (xs : List (List Bool)) → k < length xs → k + 1 ≤ length xs
next_place k xs inside = omega arith

stands_same : (c : Circuit) (j : ℕ) (s : Stimulus) (k n from place : ℕ) → n ≡ k → place ≡ from → StandsFor c j s k from → StandsFor c j s n place
stands_same c j s k n from place e f h = subst (λ place. StandsFor c j s n place) (sym f) (subst (λ n. StandsFor c j s n from) (sym e) h)

pub loop-k-init : goal.loop-k-init
loop-k-init c = (
  IsReplayed-none c.args.c.now c.args.j c.args.s.now c.args.walk.now c.requires.places c.requires.next c.requires.key c.requires.watched,
  c.requires.room,
)

pub visit-requires-clause-latches : goal.visit-requires-clause-latches
visit-requires-clause-latches c =
    let can = c.requires.can in
    let h = c.loop-k.invariant.0.tracks in
    ap length h.next ∙ length-state_after c.args.c.now c.args.s.now.latches (take c.loop-k.k c.args.s.now.inputs) can.fits.latches

pub returns-then-not-allowed-clause-fault : goal.returns-then-not-allowed-clause-fault
returns-then-not-allowed-clause-fault c =
    let can = c.requires.can in
    let xs = c.args.s.now.inputs in
    let ys = c.as_slice-inputs-items.result.now in
    let same = c.as_slice-inputs-items.ensures in
    let now = c.as_slice.result.now in
    let inside = inside_place xs ys c.loop-k.k same c.loop-k-test.true in
    let at = at_place xs ys c.loop-k.k now c.inputs-item.result same c.as_slice.ensures c.inputs-item.is in (
      can,
      first_forbidden c.args.c.now c.args.j c.args.s.now c.loop-k.k now c.loop-k.walk c.visit.new.walk can inside at c.loop-k.invariant.0
          (λ meets. false≢true (sym c.if-not-allowed.true ∙ c.in_ok-allowed.ensures.allowed.1 meets)),
    )

pub returns-in-Some-clause-found : goal.returns-in-Some-clause-found
returns-in-Some-clause-found c =
    let can = c.requires.can in
    let xs = c.args.s.now.inputs in
    let ys = c.as_slice-inputs-items.result.now in
    let same = c.as_slice-inputs-items.ensures in
    let now = c.as_slice.result.now in
    let inside = inside_place xs ys c.loop-k.k same c.loop-k-test.true in
    let at = at_place xs ys c.loop-k.k now c.inputs-item.result same c.as_slice.ensures c.inputs-item.is in
    let meets = c.in_ok-allowed.ensures.allowed.0 c.if-not-allowed.false in
    let goes = on_true _ _ c.if-not-allowed.false c.in_ok-allowed.ensures.goes in
    let from = c.in-Some.from in
    let stands = StandsFor-first c.args.c.now c.args.j c.args.s.now c.loop-k.k now c.loop-k.walk c.visit.new.walk can inside at c.loop-k.invariant.0 meets goes from c.in-Some.ensures.found in
    let made = c.in_ok-lasso_of.ensures in
    stands_same c.args.c.now c.args.j c.args.s.now (c.loop-k.k + 1) (length c.in_ok-lasso_of.field-0.inputs) from c.in_ok-lasso_of.field-0.from
    (ap length made.inputs ∙ length-take-le (c.loop-k.k + 1) c.args.s.now.inputs (next_place c.loop-k.k c.args.s.now.inputs inside)) made.from stands

pub loop-k-preserved : goal.loop-k-preserved
loop-k-preserved c =
    let can = c.requires.can in
    let xs = c.args.s.now.inputs in
    let ys = c.as_slice-inputs-items.result.now in
    let same = c.as_slice-inputs-items.ensures in
    let now = c.as_slice.result.now in
    let inside = inside_place xs ys c.loop-k.k same c.loop-k-test.true in
    let at = at_place xs ys c.loop-k.k now c.inputs-item.result same c.as_slice.ensures c.inputs-item.is in
    let meets = c.in_ok-allowed.ensures.allowed.0 c.if-not-allowed.false in
    let goes = on_true _ _ c.if-not-allowed.false c.in_ok-allowed.ensures.goes in (
      IsReplayed-more c.args.c.now c.args.j c.args.s.now c.loop-k.k now c.loop-k.walk c.visit.new.walk can inside at c.loop-k.invariant.0 meets goes c.in_default.ensures.none,
      c.visit.auto.values ∙ c.loop-k.invariant.1,
    )

pub returns-clause-fault : goal.returns-clause-fault
returns-clause-fault c = (
  c.requires.can,
  no_lasso c.args.c.now c.args.j c.args.s.now c.loop-k.k c.loop-k.walk
      (past_place c.args.s.now.inputs c.as_slice-inputs-items.result.now c.loop-k.k c.as_slice-inputs-items.ensures c.loop-k-test.false)
      c.loop-k.invariant.0,
)
