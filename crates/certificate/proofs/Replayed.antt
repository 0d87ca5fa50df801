-- How a stimulus replayed, as the end of its answer.
use Rattle.std.proofs.Common.{◌≡◌, ℕ, ◌≤◌, refl, sym, ap, subst, inl, inr, arith, Ok, Err}
use Rattle.std.specs.Prelude.{Result, IsOk}
use Rattle.std.proofs.lemmas.Bool.{false≢true}
use Rattle.aig_semantics.specs.Circuits.{Circuit}
use Rattle.aig_semantics.specs.declared.traces.Stimulus.{Stimulus}
use Rattle.aig_semantics.specs.declared.traces.Lasso.{Lasso as LassoOf}
use Rattle.aig_semantics.specs.Stimuli.{HasLasso, StandsFor}
use Rattle.stimulus.specs.declared.ends.ReplayFault.{ReplayFault}
use Rattle.stimulus.specs.declared.ends.ReplayEnd.{ReplayEnd}
use Rattle.stimulus.specs.declared.ends.ReplayEnd.TheVariants as replays
use Rattle.stimulus.specs.Faults.{HasReplayFault}
use Rattle.unless_memory.specs.Answers.{Gives, GivesSome}
use Rattle.certificate.specs.declared.ends.Accepted.{Accepted}
use Rattle.certificate.specs.declared.ends.Accepted.TheVariants.{Lasso, Holds}
use Rattle.certificate.specs.declared.ends.AnswerFault.{AnswerFault}
use Rattle.certificate.specs.declared.ends.AnswerFault.TheVariants.{Shape, NoProperty, Replay, Entry, RefuteUse, Refutation, TooLong, Trailing, UnknownStatus, FewRounds}
use Rattle.certificate.specs.declared.ends.AnswerEnd.TheVariants.{Refused}
use Rattle.certificate.specs.Reading.{Dotted}
use Rattle.certificate.specs.Ends.{IsReplayFault, IsGoodAtEnd}
use Rattle.certificate.specs.Steps.{TellsEnd}

-- a stimulus stands for one lasso
pub one_lasso : (c : Circuit) (j : ℕ) (s : Stimulus) (k from n place : ℕ) → StandsFor c j s k from → StandsFor c j s n place → (k ≡ n) × (from ≡ place)
one_lasso c j s k from n place a b =
    let le : k ≤ n = a.shortest n place b.has in
    let ge : n ≤ k = b.shortest k from a.has in
    let same : k ≡ n = omega arith in
    let early : from ≤ place = a.earliest place (subst (λ (m : ℕ). HasLasso c j s m place) (sym same) b.has) in
    let late : place ≤ from = b.earliest from (subst (λ (m : ℕ). HasLasso c j s m from) same a.has) in
    (same, omega arith)

same_lasso : (i j k n p q : ℕ) → i ≡ j → k ≡ n → p ≡ q → ◌≡◌ {A = Accepted} (Lasso i k p) (Lasso j n q)
same_lasso i j k n p q a b d = cc

-- the replay gives this fault, want of memory aside
abbrev Fails : Result LassoOf ReplayEnd → ReplayFault → Type 0
Fails r fault = Gives {T = Result LassoOf ReplayEnd} (Err replays.Memory) (Err (replays.Fault fault)) r

-- where a fault is given no lasso is
none_given : (fault : ReplayFault) → GivesSome {T = Result LassoOf ReplayEnd} (Err replays.Memory) IsOk (Err (replays.Fault fault)) → ⊥
none_given fault h = elim h [ inl given ↦ false≢true given | inr e ↦ cc ]

not_given : (lasso : LassoOf) (fault : ReplayFault) → Fails (Ok lasso) fault → ⊥
not_given lasso fault h = elim h [ inl e ↦ cc | inr e ↦ cc ]

same_fault : (f g : ReplayFault) → Fails (Err (replays.Fault f)) g → f ≡ g
same_fault f g h = elim h [ inl e ↦ cc | inr e ↦ (let wrong = e in absurd (cc)) ]

-- only a replay's fault is one of a stimulus
of_replay : (c : Circuit) (j : ℕ) (s : Stimulus) (P : AnswerFault → Type 0) → ((fault : ReplayFault) → HasReplayFault c j s fault → P (Replay fault))
    → (fault : AnswerFault) → IsReplayFault c j s fault → P fault
of_replay c j s P each (Replay fault) d = each fault d
of_replay c j s P each (Shape n) d = absurd d
of_replay c j s P each (NoProperty n) d = absurd d
of_replay c j s P each (Entry n f) d = absurd d
of_replay c j s P each (RefuteUse n) d = absurd d
of_replay c j s P each (Refutation n f) d = absurd d
of_replay c j s P each TooLong d = absurd d
of_replay c j s P each (Trailing n) d = absurd d
of_replay c j s P each UnknownStatus d = absurd d
of_replay c j s P each (FewRounds n) d = absurd d

-- and only a lasso is what it may stand for
of_lasso : (c : Circuit) (j : ℕ) (s : Stimulus) (P : Accepted → Type 0)
    → ((i n place : ℕ) → i ≡ j → StandsFor c j s n place → P (Lasso i n place))
    → (accepted : Accepted) → IsGoodAtEnd c (Dotted j s) accepted → P accepted
of_lasso c j s P each (Lasso i n place) d = each i n place d.0 d.1
of_lasso c j s P each (Holds i n) d = absurd d

pub lasso_tells : (c : Circuit) (j : ℕ) (s : Stimulus) (lasso : LassoOf) (k from number : ℕ) → StandsFor c j s k from
    → ((fault : ReplayFault) → HasReplayFault c j s fault → Fails (Ok lasso) fault)
    → TellsEnd c (Dotted j s) number (Ok (Lasso j k from))
lasso_tells c j s lasso k from number h every = (
  (refl, h),
  of_lasso c j s (λ other. Lasso j k from ≡ other)
      (λ i n place same stands. (let both = one_lasso c j s k from n place h stands in same_lasso j i k n from place (sym same) both.0 both.1)),
  of_replay c j s (λ _. ⊥) (λ fault d. not_given lasso fault (every fault d)),
)

pub fault_tells : (c : Circuit) (j : ℕ) (s : Stimulus) (fault : ReplayFault) (number : ℕ) → HasReplayFault c j s fault
    → ((other : ReplayFault) → HasReplayFault c j s other → Fails (Err (replays.Fault fault)) other)
    → ((k from : ℕ) → HasLasso c j s k from → GivesSome {T = Result LassoOf ReplayEnd} (Err replays.Memory) IsOk (Err (replays.Fault fault)))
    → TellsEnd c (Dotted j s) number (Err (Refused (Replay fault)))
fault_tells c j s fault number h every none = (
  h,
  of_replay c j s (λ other. Replay fault ≡ other) (λ other d. ap (λ (f : ReplayFault). Replay f) (same_fault fault other (every other d))),
  of_lasso c j s (λ _. ⊥) (λ i n place same stands. none_given fault (none n place stands.has)),
)
