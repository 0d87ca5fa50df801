-- The check of a text has one end.
use Rattle.std.proofs.Common.{◌≡◌, ℕ, List, refl, sym, ap, subst, ◌∙◌, arith, Ok, Err, inl, inr}
use Rattle.aig_semantics.specs.declared.traces.Stimulus.{Stimulus}
use Rattle.aig_semantics.specs.Circuits.{Circuit}
use Rattle.stimulus.specs.declared.ends.ReplayFault.{ReplayFault}
use Rattle.stimulus.specs.Faults.{HasReplayFault}
use Rattle.stimulus.proofs.FaultLemmas.{one_fault, fault-no_lasso}
use Rattle.certificate.specs.declared.ends.Accepted.{Accepted}
use Rattle.certificate.specs.declared.ends.Accepted.TheVariants.{Lasso, Holds}
use Rattle.certificate.specs.declared.ends.AnswerFault.{AnswerFault}
use Rattle.certificate.specs.declared.ends.AnswerFault.TheVariants as faults
use Rattle.certificate.specs.Lines.{end_of, kept_readable}
use Rattle.certificate.specs.Reading.{State, Status, Property, Latches, Rows, Dotted, Versioned, Certified, Ended, Stepped, read_lines}
use Rattle.certificate.specs.Ends.{IsReplayFault, IsGoodAtEnd, IsFaultAtEnd, IsFirstFault, IsRefused, ReadsWell}
use Rattle.certificate.specs.Laws.{OneIsGood, GoodHasNoFault, OneFault}
use Rattle.certificate.proofs.GoodRead.{reads_from_good}
use Rattle.certificate.proofs.Replayed.{one_lasso}

-- ---- what is accepted

one_at_end : (c : Circuit) (s : State) (a b : Accepted) → IsGoodAtEnd c s a → IsGoodAtEnd c s b → a ≡ b
one_at_end c (Dotted n s) (Lasso i k from) (Lasso j m place) g h =
    let both = one_lasso c n s k from m place g.1 h.1 in
    let same : i ≡ j = g.0 ∙ sym h.0 in
    λ t. Lasso (same t) (both.0 t) (both.1 t)
one_at_end c (Dotted n s) (Lasso i k from) (Holds j m) g h = absurd h
one_at_end c (Dotted n s) (Holds i k) b g h = absurd g
one_at_end c (Ended body) (Holds i k) (Holds j m) g h =
    let same : i ≡ j = g.0 ∙ sym h.0 in
    let count : k ≡ m = g.1 ∙ sym h.1 in
    λ t. Holds (same t) (count t)
one_at_end c (Ended body) (Holds i k) (Lasso j m place) g h = absurd h
one_at_end c (Ended body) (Lasso i k from) b g h = absurd g
one_at_end c Status a b g h = absurd g
one_at_end c (Property claim) a b g h = absurd g
one_at_end c (Latches n) a b g h = absurd g
one_at_end c (Rows n s) a b g h = absurd g
one_at_end c (Versioned n) a b g h = absurd g
one_at_end c (Certified body wanted) a b g h = absurd g

same_state : (s t : State) → ◌≡◌ {A = Stepped} (Ok s) (Ok t) → s ≡ t
same_state s t e = cc

pub one_read : (c : Circuit) (text : List ℕ) (a b : Accepted) → ReadsWell c text a → ReadsWell c text b → a ≡ b
one_read c text a b (_, s, read, good) (_, t, again, other) =
    one_at_end c s a b good (subst (λ u. IsGoodAtEnd c u b) (same_state t s (sym again ∙ read)) other)

pub one_is_good : (c : Circuit) → OneIsGood c
one_is_good c text a b good other = one_read c text a b (reads_from_good c text a good) (reads_from_good c text b other)

-- ---- what is refused

-- the fault of a replay is a stimulus'
abbrev Replayed : Circuit → ℕ → Stimulus → AnswerFault → Type 0
Replayed c n s fault = (replay : ReplayFault) × (fault ≡ faults.Replay replay) × HasReplayFault c n s replay

replayed : (c : Circuit) (n : ℕ) (s : Stimulus) (fault : AnswerFault) → IsReplayFault c n s fault → Replayed c n s fault
replayed c n s (faults.Replay replay) h = (replay, refl, h)
replayed c n s (faults.Shape line) h = absurd h
replayed c n s (faults.NoProperty line) h = absurd h
replayed c n s (faults.Entry k fault) h = absurd h
replayed c n s (faults.RefuteUse k) h = absurd h
replayed c n s (faults.Refutation k fault) h = absurd h
replayed c n s faults.TooLong h = absurd h
replayed c n s (faults.Trailing line) h = absurd h
replayed c n s faults.UnknownStatus h = absurd h
replayed c n s (faults.FewRounds rounds) h = absurd h

one_replay : (c : Circuit) (n : ℕ) (s : Stimulus) (f g : AnswerFault) → IsReplayFault c n s f → IsReplayFault c n s g → f ≡ g
one_replay c n s f g h k =
    let (a, is_a, has_a) = replayed c n s f h in
    let (b, is_b, has_b) = replayed c n s g k in
    is_a ∙ ap (λ r. faults.Replay r) (one_fault c n s a b has_a has_b) ∙ sym is_b

one_fault_at_end : (c : Circuit) (s : State) (number : ℕ) (f g : AnswerFault) → IsFaultAtEnd c s number f → IsFaultAtEnd c s number g → f ≡ g
one_fault_at_end c (Dotted n s) number f g h k = one_replay c n s f g h k
one_fault_at_end c (Ended body) number f g h k = absurd h
one_fault_at_end c Status number f g h k = h ∙ sym k
one_fault_at_end c (Property claim) number f g h k = h ∙ sym k
one_fault_at_end c (Latches n) number f g h k = h ∙ sym k
one_fault_at_end c (Rows n s) number f g h k = h ∙ sym k
one_fault_at_end c (Versioned n) number f g h k = h ∙ sym k
one_fault_at_end c (Certified body wanted) number f g h k = h ∙ sym k

one_first : (c : Circuit) (text : List ℕ) (r : Stepped) (f g : AnswerFault) → IsFirstFault c text r f → IsFirstFault c text r g → f ≡ g
one_first c text (Err first) f g h k = h ∙ sym k
one_first c text (Ok s) f g (inl h) (inl k) = h.1 ∙ sym k.1
one_first c text (Ok s) f g (inl h) (inr k) = absurd (omega (arith, h.0, k.0))
one_first c text (Ok s) f g (inr h) (inl k) = absurd (omega (arith, h.0, k.0))
one_first c text (Ok s) f g (inr h) (inr k) = one_fault_at_end c s (end_of text) f g h.1 k.1

pub one_refusal : (c : Circuit) → OneFault c
one_refusal c text f g h k = one_first c text (read_lines c Status (kept_readable text)) f g h k

-- ---- never both

not_both : (c : Circuit) (s : State) (number : ℕ) (a : Accepted) (fault : AnswerFault) → IsGoodAtEnd c s a → IsFaultAtEnd c s number fault → ⊥
not_both c (Dotted n s) number (Lasso i k from) fault good h =
    let (replay, _, has) = replayed c n s fault h in fault-no_lasso c n s replay k from has good.1.has
not_both c (Dotted n s) number (Holds i k) fault good h = good
not_both c (Ended body) number a fault good h = h
not_both c Status number a fault good h = good
not_both c (Property claim) number a fault good h = good
not_both c (Latches n) number a fault good h = good
not_both c (Rows n s) number a fault good h = good
not_both c (Versioned n) number a fault good h = good
not_both c (Certified body wanted) number a fault good h = good

no_first : (c : Circuit) (text : List ℕ) (s : State) (a : Accepted) (fault : AnswerFault) → ReadsWell c text a → IsGoodAtEnd c s a
    → IsFirstFault c text (Ok s) fault → ⊥
no_first c text s a fault well good (inl h) = absurd (let short = well.0 in omega (arith, h.0, short))
no_first c text s a fault well good (inr h) = not_both c s (end_of text) a fault good h.1

pub read_no_fault : (c : Circuit) (text : List ℕ) (a : Accepted) (fault : AnswerFault) → ReadsWell c text a → IsRefused c text fault → ⊥
read_no_fault c text a fault well refused =
    no_first c text well.1 a fault well well.3 (subst (λ r. IsFirstFault c text r fault) well.2 refused)

pub good_has_no_fault : (c : Circuit) → GoodHasNoFault c
good_has_no_fault c text a fault good refused = read_no_fault c text a fault (reads_from_good c text a good) refused
