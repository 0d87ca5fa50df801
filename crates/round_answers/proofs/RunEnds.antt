-- A run that is whole ends in one way.
use Rattle.std.proofs.Common.{◌≡◌, ℕ, ◌<◌, ◌≤◌, Bool, true, false, List, [], refl, sym, ap, subst, arith, Result, Ok, Err}
use Rattle.std.specs.Prelude.{IfOk}
use Rattle.aig_semantics.specs.declared.traces.Position.{Position}
use Rattle.aig_semantics.specs.declared.traces.Stimulus.{Stimulus}
use Rattle.aig_semantics.specs.Circuits.{Circuit}
use Rattle.aig_semantics.specs.Runs.{IsInitial}
use Rattle.aig_semantics.specs.Stimuli.{simulated, FitsCircuit}
use Rattle.circuit.specs.Rounds.{IsMostRounds}
use Rattle.fair_semantics.specs.Rounds.{HasRounds}
use Rattle.stimulus.specs.declared.ends.ReplayFault.TheVariants as replays
use Rattle.stimulus.specs.Faults.{IsFirstMisfit, IsFirstWrong, AreAllowed}
use Rattle.stimulus.proofs.FaultLemmas.{no_misfit, no_wrong, one_misfit, one_wrong}
use Rattle.certificate.specs.declared.ends.AnswerFault.{AnswerFault}
use Rattle.certificate.specs.declared.ends.AnswerFault.TheVariants as faults
use Rattle.certificate.specs.declared.ends.AnswerEnd.TheVariants as ends
use Rattle.certificate.specs.Reading.{Body, Dotted, Ended}
use Rattle.circuit.proofs.RoundsAlong.{rounds-fewer}
use Rattle.round_answers.specs.declared.ends.Judged.{Judged}
use Rattle.round_answers.specs.declared.ends.Judged.TheVariants.{Answer as Answered, Rounds}
use Rattle.round_answers.specs.declared.ends.JudgeEnd.{JudgeEnd}
use Rattle.round_answers.specs.declared.ends.JudgeEnd.TheVariants.{Answer, TooLarge as LargerThan}
use Rattle.round_answers.specs.Answers.{IsReached}
use Rattle.round_answers.specs.Reading.{Running, Listing}
use Rattle.round_answers.specs.Ends.{IsRunFault, IsFirstForbidden, IsGoodAtEnd}
use Rattle.round_answers.specs.Telling.{TellsRun, TellsEnd, KnowsMonitor}
use Rattle.round_answers.specs.Running.{IsLaidOut}
use Rattle.round_answers.proofs.LaidOut.{allowed_run, run_allowed, none_forbidden, one_forbidden}

module _ (c : Circuit) (k n : ℕ) (s : Stimulus) where
  -- a fault of a run is one of four
  data Kind : AnswerFault → Type 0 where
    OfWidth : (item : ℕ) → IsFirstMisfit c s item → Kind (faults.Replay (replays.Width item))
    OfLatch : (latch : ℕ) → FitsCircuit c s → IsFirstWrong c s.latches latch → Kind (faults.Replay (replays.NotInitial latch))
    OfPosition : (position : ℕ) → FitsCircuit c s → IsInitial c s.latches → IsFirstForbidden c s position → Kind (faults.Replay (replays.Constraint position))
    OfCount : (m : ℕ) → FitsCircuit c s → IsInitial c s.latches → AreAllowed c (simulated c s.latches s.inputs) → IsMostRounds c n (simulated c s.latches s.inputs) m → m < k
        → Kind (faults.FewRounds m)

  kind_of : (f : AnswerFault) → IsRunFault c k n s f → Kind f
  kind_of (faults.Replay (replays.Width item)) h = OfWidth item h
  kind_of (faults.Replay (replays.NotInitial latch)) h = OfLatch latch h.0 h.1
  kind_of (faults.Replay (replays.Constraint position)) h = OfPosition position h.0 h.1 h.2
  kind_of (faults.FewRounds m) h = OfCount m h.0 h.1 h.2 h.3 h.4
  kind_of (faults.Replay (replays.Shape line)) h = absurd h
  kind_of (faults.Replay replays.NoFairLoop) h = absurd h
  kind_of (faults.Replay replays.NoProperty) h = absurd h
  kind_of (faults.Shape line) h = absurd h
  kind_of (faults.NoProperty m) h = absurd h
  kind_of (faults.Entry e f) h = absurd h
  kind_of (faults.RefuteUse m) h = absurd h
  kind_of (faults.Refutation line f) h = absurd h
  kind_of faults.TooLong h = absurd h
  kind_of (faults.Trailing line) h = absurd h
  kind_of faults.UnknownStatus h = absurd h

  -- a run that has the rounds has none
  faultless : (f : AnswerFault) → IsReached c k n s → Kind f → ⊥
  faultless _ reached (OfWidth item h) = no_misfit c s item reached.fits h
  faultless _ reached (OfLatch latch fits h) = no_wrong c s.latches latch reached.initial h
  faultless _ reached (OfPosition position fits initial h) = none_forbidden c s position (run_allowed c s reached.run) h
  faultless _ reached (OfCount m fits initial allowed most few) = let least = most.most k reached.rounds in omega (arith, least, few)

  same_fault : (f g : AnswerFault) → Kind f → Kind g → f ≡ g
  same_fault _ _ (OfWidth item a) (OfWidth other b) = ap (λ x. faults.Replay (replays.Width x)) (one_misfit c s item other a b)
  same_fault _ _ (OfWidth item a) (OfLatch latch fits b) = absurd (no_misfit c s item fits a)
  same_fault _ _ (OfWidth item a) (OfPosition position fits initial b) = absurd (no_misfit c s item fits a)
  same_fault _ _ (OfWidth item a) (OfCount m fits initial allowed most few) = absurd (no_misfit c s item fits a)
  same_fault _ _ (OfLatch latch fits a) (OfWidth item b) = absurd (no_misfit c s item fits b)
  same_fault _ _ (OfLatch latch fits a) (OfLatch other _ b) = ap (λ x. faults.Replay (replays.NotInitial x)) (one_wrong c s.latches latch other a b)
  same_fault _ _ (OfLatch latch fits a) (OfPosition position _ initial b) = absurd (no_wrong c s.latches latch initial a)
  same_fault _ _ (OfLatch latch fits a) (OfCount m _ initial allowed most few) = absurd (no_wrong c s.latches latch initial a)
  same_fault _ _ (OfPosition position fits initial a) (OfWidth item b) = absurd (no_misfit c s item fits b)
  same_fault _ _ (OfPosition position fits initial a) (OfLatch latch _ b) = absurd (no_wrong c s.latches latch initial b)
  same_fault _ _ (OfPosition position fits initial a) (OfPosition other _ _ b) = ap (λ x. faults.Replay (replays.Constraint x)) (one_forbidden c s position other a b)
  same_fault _ _ (OfPosition position fits initial a) (OfCount m _ _ allowed most few) = absurd (none_forbidden c s position allowed a)
  same_fault _ _ (OfCount m fits initial allowed most few) (OfWidth item b) = absurd (no_misfit c s item fits b)
  same_fault _ _ (OfCount m fits initial allowed most few) (OfLatch latch _ b) = absurd (no_wrong c s.latches latch initial b)
  same_fault _ _ (OfCount m fits initial allowed most few) (OfPosition position _ _ b) = absurd (none_forbidden c s position allowed b)
  same_fault _ _ (OfCount m fits initial allowed most few) (OfCount o _ _ _ other _) =
      let up = other.most m most.has in
      let down = most.most o other.has in
      let same : m ≡ o = omega (arith, up, down) in
      ap faults.FewRounds same

  -- what else it shows
  one_good : (m : ℕ) (other : Judged) → IsGoodAtEnd c (Running k n (Dotted m s)) other → Rounds n k true ≡ other
  one_good m (Rounds property count true) good = sym (λ j. Rounds (good.0 j) (good.1 j) true)
  one_good m (Rounds property count false) good = absurd good
  one_good m (Answered a) good = absurd good

  is_reached : (m : ℕ) (judged : Judged) → IsGoodAtEnd c (Running k n (Dotted m s)) judged → IsReached c k n s
  is_reached m (Rounds property count true) good = good.2
  is_reached m (Rounds property count false) good = absurd good
  is_reached m (Answered a) good = absurd good

  good_end : (judged : Judged) (m number : ℕ) → judged ≡ Rounds n k true → IsReached c k n s → TellsEnd c (Running k n (Dotted m s)) number (Ok judged)
  good_end judged m number is reached =
      subst (λ (j : Judged). TellsEnd c (Running k n (Dotted m s)) number (Ok j)) (sym is)
      ((refl, refl, reached), one_good m, λ f has. faultless f reached (kind_of f has))

  -- a run that is judged ends so
  pub run_tells : (r : Result Judged JudgeEnd) → TellsRun c k n s r → (m number : ℕ) → TellsEnd c (Running k n (Dotted m s)) number r
  run_tells (Ok judged) tells m number = good_end judged m number tells.0 tells.1
  run_tells (Err (Answer (ends.Refused f))) tells m number =
      (tells, λ g has. same_fault f g (kind_of f tells) (kind_of g has), λ judged good. faultless f (is_reached m judged good) (kind_of f tells))
  run_tells (Err (Answer ends.ReadFault)) tells m number = tells
  run_tells (Err (Answer ends.Memory)) tells m number = tt
  run_tells (Err (LargerThan v)) tells m number = tells

  pub run_knows : (r : Result Judged JudgeEnd) → TellsRun c k n s r → IfOk r (KnowsMonitor c)
  run_knows (Ok judged) tells = subst (KnowsMonitor c) (sym tells.0) tt
  run_knows (Err end) tells = tt

  -- the whole run is allowed, and has as many rounds as are asked for
  pub reached_by : (latches : List Bool) (run laid : List Position) (whole : Bool) (count : ℕ) → FitsCircuit c s → latches ≡ s.latches → IsInitial c latches
      → IsLaidOut c s run whole → whole ≡ true → laid ≡ run → IsMostRounds c n laid count → k ≤ count → IsReached c k n s
  reached_by latches run laid whole count fits at initial out all same most enough =
      let start : IsInitial c s.latches = subst (IsInitial c) at initial in
      let laid_out : (run ≡ simulated c s.latches s.inputs) × AreAllowed c run = subst (λ (w : Bool). IsLaidOut c s run w) all out in
      let has : HasRounds c n count run = subst (HasRounds c n count) same most.has in
      record {
        fits = fits;
        initial = start;
        run = allowed_run c s start (subst (AreAllowed c) laid_out.0 laid_out.1);
        rounds = subst (HasRounds c n k) laid_out.0 (rounds-fewer c n k count run enough has);
      }

-- a certificate that was read to its end
pub listed_tells : (c : Circuit) (k n number : ℕ) (b : Body) → TellsEnd c (Listing k n (Ended b)) number (Ok (Rounds n k false))
listed_tells c k n number b = ((refl, refl), one, λ f has. has)
  where
    one : (other : Judged) → IsGoodAtEnd c (Listing k n (Ended b)) other → Rounds n k false ≡ other
    one (Rounds property count false) good = sym (λ j. Rounds (good.0 j) (good.1 j) false)
    one (Rounds property count true) good = absurd good
    one (Answered a) good = absurd good
